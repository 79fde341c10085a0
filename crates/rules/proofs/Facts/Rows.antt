-- Laws of rows one behind the other, of their tables, and of what is put into a list.
use Rattle.std.specs.Prelude.{ℕ, zero, suc, ◌+◌, ◌-◌, ◌≤◌, ◌<◌, List, [], ◌∷◌, ◌++◌, map, ◌≡◌, refl, take, drop, replicate}
use Rattle.std.proofs.Common.{append-nil, append_assoc, sym, ap, ◌∙◌, add-one, arith, length-append, length-drop, take-append-drop, get_or-append-add, get_or-drop, take_at, drop-drop, take-add, length-take-le, ext_get_or}
use Rattle.std.proofs.Math.Decide.{dec_lt}
use Rattle.std.proofs.Math.ListN.{length, get_or, get_or-append}
use Rattle.std.proofs.lemmas.List.{length-map, length-replicate, get_or-replicate}
use Rattle.std.proofs.Math.Seq.{take-length, take-append_seam, drop-append_seam, drop-append-add}
use Rattle.rules.specs.Lists.{◌∈◌, sum, seg, concat, range, row_lengths, row_entries}
use Rattle.rules.specs.Drawing.{part}
use Rattle.rules.specs.Inner.Rows.{row_of, Sections, Tabled, Starts, put_at}
use Rattle.rules.proofs.Facts.Converse.{map-append}
use Rattle.rules.proofs.Facts.Placing.{sum-take_le, sum-all, sum-take}
use Rattle.rules.proofs.Facts.Member.{range_length, map_range}
use Rattle.rules.specs.Inner.Words.{counts, count, back}
use Rattle.rules.specs.Inner.Loops.{Counted}
use Rattle.rules.specs.Inner.Words.{filled}
use Rattle.rules.proofs.Facts.Segments.{filled_long, filled_front, filled_rest}
use Rattle.rules.proofs.Facts.Counts.{count_above}
use Rattle.std.proofs.Common.{take_at}

pub concat-append : (g : ℕ → List ℕ) (l r : List ℕ) → concat (map g (l ++ r)) ≡ concat (map g l) ++ concat (map g r)
concat-append g [] r = refl
concat-append g (a ∷ l) r = rw (concat-append g l r) (sym (append_assoc (g a) (concat (map g l)) (concat (map g r))))

pub map_same : (f g : ℕ → ℕ) (l : List ℕ) → ((v : ℕ) → f v ≡ g v) → map f l ≡ map g l
map_same f g [] h = refl
map_same f g (a ∷ l) h = rw (h a, map_same f g l h)

-- one row more
module _ (rows : ℕ → List ℕ) where
  pub entries_suc : (k : ℕ) → row_entries rows (suc k) ≡ row_entries rows k ++ rows k
  entries_suc k = concat-append rows (range k) (k ∷ []) ∙ rw (append-nil (rows k))

  pub lengths-suc : (k : ℕ) → row_lengths rows (suc k) ≡ row_lengths rows k ++ (length (rows k) ∷ [])
  lengths-suc k = map-append (λ i. length (rows i)) (range k) (k ∷ [])

  entries_split : (i k : ℕ) → i ≤ k → (rest : List ℕ) × (row_entries rows k ≡ row_entries rows i ++ rest)
  entries_split i zero h = let e : i ≡ 0 = omega arith in rw e ([], refl)
  entries_split i (suc k) h = go (dec_lt i (suc k)) (entries_split i k)
    where
      go : Dec (i < suc k) → (i ≤ k → (rest : List ℕ) × (row_entries rows k ≡ row_entries rows i ++ rest)) → (rest : List ℕ) × (row_entries rows (suc k) ≡ row_entries rows i ++ rest)
      go (yes l) ih =
          let (rest, q) = ih (omega arith) in
          (rest ++ rows k, entries_suc k ∙ rw q (append_assoc (row_entries rows i) rest (rows k)))
      go (no l) ih = let e : i ≡ suc k = omega arith in rw e ([], sym (append-nil (row_entries rows (suc k))))

  pub entries_le : (i k : ℕ) → i ≤ k → length (row_entries rows i) ≤ length (row_entries rows k)
  entries_le i k h = let (rest, q) = entries_split i k h in rw q (simp length-append (omega arith))

  pub entries_next : (k : ℕ) → length (row_entries rows (k + 1)) ≡ length (row_entries rows k) + length (rows k)
  entries_next k = rw (add-one k, entries_suc k) (length-append (row_entries rows k) (rows k))

  -- a row stands behind those before it
  pub row_in : (i k : ℕ) → i < k → seg (length (row_entries rows i)) (length (rows i)) (row_entries rows k) ≡ rows i
  row_in i k h =
      let (rest, q) = entries_split (suc i) k (omega arith) in
      rw (q, entries_suc i, append_assoc (row_entries rows i) (rows i) rest, drop-append_seam (row_entries rows i) (rows i ++ rest)) (take-append_seam (rows i) rest)

-- rows that agree below k
module _ (f g : ℕ → List ℕ) where
  pub entries_same : (k : ℕ) → ((i : ℕ) → i < k → f i ≡ g i) → row_entries f k ≡ row_entries g k
  entries_same zero h = refl
  entries_same (suc k) h = entries_suc f k ∙ rw (entries_same k (λ i b. h i (omega arith)), h k (omega arith)) (sym (entries_suc g k))

  pub lengths_same : (k : ℕ) → ((i : ℕ) → i < k → f i ≡ g i) → row_lengths f k ≡ row_lengths g k
  lengths_same zero h = refl
  lengths_same (suc k) h = lengths-suc f k ∙ rw (lengths_same k (λ i b. h i (omega arith)), h k (omega arith)) (sym (lengths-suc g k))

-- a table has its rows
module _ {rows : ℕ → List ℕ} {k : ℕ} {off vals : List ℕ} (t : Tabled rows k off vals) where
  pub tabled_row : (i : ℕ) → i < k → row_of off vals i ≡ rows i
  unfolding row_of
  tabled_row i h =
      let e : get_or off (i + 1) 0 - get_or off i 0 ≡ length (rows i) = omega (arith, t.starts i (omega arith), t.starts (i + 1) (omega arith), entries_next rows i) in
      rw (e, t.starts i (omega arith), t.entries) (row_in rows i k h)

  pub tabled_sections : Sections off vals
  tabled_sections =
      record {
        rises = λ i h. omega (arith, t.long, t.starts i (omega (arith, t.long)), t.starts (i + 1) (omega (arith, t.long)), entries_next rows i);
        within = λ i h. rw t.entries (omega (arith, t.starts i (omega (arith, t.long)), entries_le rows i k (omega (arith, t.long))));
      }

-- the operations' parts of a values list are a table
pub parts_take : (lens vals : List ℕ) (e : ℕ) → row_entries (part lens vals) e ≡ take (sum (take e lens)) vals
unfolding part
parts_take lens vals zero = refl
parts_take lens vals (suc e) =
    entries_suc (part lens vals) e
    ∙ rw (parts_take lens vals e, ← add-one e, sum-take lens e, take-add (sum (take e lens)) (get_or lens e 0) vals)

pub parts_all : (lens vals : List ℕ) → sum lens ≡ length vals → row_entries (part lens vals) (length lens) ≡ vals
parts_all lens vals h = parts_take lens vals (length lens) ∙ rw (sum-all lens, h) (take-length vals)

pub parts_tabled : (lens vals off : List ℕ) → sum lens ≡ length vals → Starts lens off → Tabled (part lens vals) (length lens) off vals
parts_tabled lens vals off h s =
    record {
      long = s.long;
      starts =
          λ e b.
          let l : sum (take e lens) ≤ length vals = omega (arith, sum-take_le lens e (length lens) b, sum-all lens) in
          s.sums e b ∙ rw (parts_take lens vals e) (sym (length-take-le (sum (take e lens)) vals l));
      entries = sym (parts_all lens vals h);
    }

-- what is put into a list
pub put_none : (from : ℕ) (l : List ℕ) → put_at from [] l ≡ l
put_none from l = let e : from + 0 ≡ from = omega arith in rw e (take-append-drop from l)

pub put_front : (new l : List ℕ) → put_at 0 new l ≡ new ++ drop (length new) l
put_front new l = let e : 0 + length new ≡ length new = omega arith in rw e

module _ (from : ℕ) (a l : List ℕ) (fits : from + length a ≤ length l) where
  before : length (take from l ++ a) ≡ from + length a
  before = length-append (take from l) a ∙ omega (arith, length-take-le from l (omega arith))

  pub put_length : length (put_at from a l) ≡ length l
  put_length = simp (length-append, length-drop) (omega (arith, length-take-le from l (omega arith)))

  -- and more behind it
  pub put_put : (b : List ℕ) → put_at (from + length a) b (put_at from a l) ≡ put_at from (a ++ b) l
  put_put b =
      let h : List ℕ = take from l ++ a in
      let s : put_at from a l ≡ h ++ drop (from + length a) l = sym (append_assoc (take from l) a (drop (from + length a) l)) in
      let t : take (from + length a) (h ++ drop (from + length a) l) ≡ h = take_at h (drop (from + length a) l) (from + length a) before in
      let d : drop (from + length a + length b) (h ++ drop (from + length a) l) ≡ drop (from + length a + length b) l = gone in
      let e : from + length (a ++ b) ≡ from + length a + length b = simp length-append (omega arith) in
      ap (put_at (from + length a) b) s ∙ rw (t, d, e) (simp append_assoc)
    where
      gone : drop (from + length a + length b) ((take from l ++ a) ++ drop (from + length a) l) ≡ drop (from + length a + length b) l
      gone =
          ap (λ (k : ℕ). drop (k + length b) ((take from l ++ a) ++ drop (from + length a) l)) (sym before)
          ∙ drop-append-add (take from l ++ a) (drop (from + length a) l) (length b) ∙ drop-drop (length b) (from + length a) l

-- as many counts as numbers are counted
pub counts-long : (n : ℕ) (l : List ℕ) → length (counts n l) ≡ n
counts-long n l = length-map (range n) (λ v. count v l) ∙ range_length n

-- a part that was lent
pub back_put : (a k : ℕ) (ys ws : List ℕ) → length ys ≡ k → back a k ys ws ≡ put_at a ys ws
back_put a k ys ws h = rw (drop-drop k a ws, h)

-- an output of which each place is known
pub put_each : (f : ℕ → ℕ) (k : ℕ) (out out' : List ℕ) → k ≤ length out → length out' ≡ length out → ((i : ℕ) → i < k → get_or out' i 0 ≡ f i) → ((i : ℕ) → k ≤ i → get_or out' i 0 ≡ get_or out i 0)
    → out' ≡ put_at 0 (map f (range k)) out
put_each f k out out' h long front rest =
    ext_get_or 0 out' (put_at 0 (map f (range k)) out) (long ∙ sym (put_length 0 (map f (range k)) out (omega (arith, new_long)))) (λ i b. go i b (dec_lt i k))
  where
    new_long : length (map f (range k)) ≡ k
    new_long = length-map (range k) f ∙ range_length k

    go : (i : ℕ) → i < length out' → Dec (i < k) → get_or out' i 0 ≡ get_or (put_at 0 (map f (range k)) out) i 0
    go i b (yes l) =
        front i l ∙ sym (rw (put_front (map f (range k)) out) (get_or-append (map f (range k)) (drop (length (map f (range k))) out) 0 i (omega (arith, new_long)) ∙ map_range f k i l))
    go i b (no l) =
        let q : i ≡ length (map f (range k)) + (i - k) = omega (arith, new_long) in
        let p : length (map f (range k)) + (i - k) ≡ i = omega (arith, new_long) in
        rest i (omega arith)
        ∙ sym (rw (put_front (map f (range k)) out) (ap (λ (j : ℕ). get_or (map f (range k) ++ drop (length (map f (range k))) out) j 0) q ∙ get_or-append-add (map f (range k)) (drop (length (map f (range k))) out) (i - k) 0 ∙ get_or-drop (length (map f (range k))) out (i - k) 0 ∙ rw p))

-- the counts of a list, in a list that was cleared and counted on
pub counts_new : (l t z t' : List ℕ) → ((u : ℕ) → u ∈ l → u < length t) → z ≡ replicate (length t) 0 → Counted l z t' → t' ≡ counts (length t) l
counts_new l t z t' low clear c =
    ext_get_or 0 t' (counts (length t) l) (c.long ∙ ap length clear ∙ length-replicate {A = ℕ} (length t) 0 ∙ sym (counts-long (length t) l))
    (λ v b. omega (arith, c.each v, ap (λ (y : List ℕ). get_or y v 0) clear, get_or-replicate {A = ℕ} (length t) v 0 0 (at v b), map_range (λ u. count u l) (length t) v (at v b)))
  where
    at : (v : ℕ) → v < length t' → v < length t
    at v b = omega (arith, c.long, ap length clear, length-replicate {A = ℕ} (length t) 0)

-- the counts of a list, put into an output that was cleared in front and counted on
pub counts_put : (n : ℕ) (l t z t' : List ℕ) → n ≤ length t → ((u : ℕ) → u ∈ l → u < n) → z ≡ filled n 0 t → Counted l z t' → t' ≡ put_at 0 (counts n l) t
counts_put n l t z t' h low clear c =
    put_each (λ v. count v l) n t t' h (c.long ∙ ap length clear ∙ filled_long n 0 t h)
    (λ v b. omega (arith, c.each v, ap (λ (y : List ℕ). get_or y v 0) clear ∙ filled_front n 0 t v b))
    (λ v b. omega (arith, c.each v, ap (λ (y : List ℕ). get_or y v 0) clear ∙ filled_rest n 0 t v b, count_above l n v low b))

-- and they stand in front
pub counts_front : (n : ℕ) (l t t' : List ℕ) → t' ≡ put_at 0 (counts n l) t → take n t' ≡ counts n l
counts_front n l t t' e = rw (e, put_front (counts n l) t) (take_at (counts n l) (drop (length (counts n l)) t) n (length-map (range n) (λ v. count v l) ∙ range_length n))
