-- The table without the selected operations: rows of the full one are put one behind the other without the items that are flagged.
use Rattle.std.specs.Prelude.{ℕ, zero, suc, ◌+◌, ◌-◌, ◌<◌, ◌≤◌, Bool, true, false, cond, not, ◌≡◌, refl, List, [], ◌∷◌, ◌++◌, length, get_or, take, drop, set, eqb}
use Rattle.std.proofs.Common.{sym, ap, ◌∙◌, append_assoc, append-nil, arith, add-one, length-append, take-suc, take-suc-set, drop-drop, get_or-take, get_or-set_same, get_or-set_other, length-take-le, eq-eqb, ne_eqb}
use mathlib.Core.List.Memᴰ
use Rattle.std.proofs.Math.Decide.{ℕ_discrete}
use Rattle.std.proofs.Math.ListN.{get_or-append}
use Rattle.std.proofs.Math.Seq.{take-nil}
use Rattle.std.proofs.lemmas.List.{drop-append-le}
use Rattle.rules.specs.Lists.{◌∈◌, seg, those, row_entries, has}
use Rattle.rules.specs.Drawing.{Drawing, Accepted, node_count, sources_of}
use Rattle.rules.specs.Inner.Incidence.{items, incidence}
use Rattle.rules.specs.Inner.IncidenceTable.{Incident}
use Rattle.rules.specs.Inner.Selected.{clear, Flags, unselected}
use Rattle.rules.specs.Inner.Table.{successors, Table}
use Rattle.rules.specs.Inner.Words.{count}
use Rattle.rules.proofs.Facts.Counts.{∈-count, count-∈}
use Rattle.rules.proofs.Facts.IncidenceTheorem.{from_node}
use Rattle.rules.proofs.Facts.Member.{has_yes, has_no, dec∈}
use Rattle.rules.proofs.Facts.Rows.{entries_le, entries_next, row_in, entries_suc}
use Rattle.rules.proofs.Facts.Segments.{seg_in_take, seg-set_low}
use Rattle.rules.proofs.Facts.Tables.{row, row_end, row_length}
use Rattle.convexity.specs.Tables.{Kept, Rowed, Filtered, TwoTables, unflagged}
use Rattle.std.proofs.Common.{take-take}
use Rattle.rules.specs.Inner.Search.{Row}
use Rattle.std.proofs.lemmas.List.{take-append-le}
use Rattle.rules.specs.Inner.IncidenceTable.{table_length}
use Rattle.rules.specs.Refusals.{workspace_need}
use Rattle.convexity.specs.Tables.{other_length}

-- tests of a list's entries
those-append : (p : ℕ → Bool) (l r : List ℕ) → those p (l ++ r) ≡ those p l ++ those p r
unfolding those
those-append p [] r = refl
those-append p (a ∷ l) r = go (p a) (those-append p l r)
  where
    go : (b : Bool) → those p (l ++ r) ≡ those p l ++ those p r → cond b (a ∷ those p (l ++ r)) (those p (l ++ r)) ≡ cond b (a ∷ those p l) (those p l) ++ those p r
    go true e = ap (λ (t : List ℕ). a ∷ t) e
    go false e = e

pub those_le : (p : ℕ → Bool) (l : List ℕ) → length (those p l) ≤ length l
unfolding those
those_le p [] = omega arith
those_le p (a ∷ l) = go (p a) (those_le p l)
  where
    go : (b : Bool) → length (those p l) ≤ length l → length (cond b (a ∷ those p l) (those p l)) ≤ length (a ∷ l)
    go true h = omega arith
    go false h = omega arith

pub those_same : (p q : ℕ → Bool) (l : List ℕ) → ((j : ℕ) → j ∈ l → p j ≡ q j) → those p l ≡ those q l
unfolding those
those_same p q [] h = refl
those_same p q (a ∷ l) h = rw (h a (Memᴰ.head refl), those_same p q l (λ j m. h j (Memᴰ.tail m)))

those-none : (p : ℕ → Bool) → those p [] ≡ []
unfolding those
those-none p = refl

those-one : (p : ℕ → Bool) (a : ℕ) → those p (a ∷ []) ≡ cond (p a) (a ∷ []) []
unfolding those
those-one p a = refl

-- one item is kept, or not
module _ (F : List ℕ) (q item : ℕ) (t : List ℕ) where
  pub kept-one : q < length t → get_or F item 0 ≡ 0 → Kept F q (item ∷ []) t (q + 1) (set t q item)
  kept-one low z =
      let e : those (clear F) (item ∷ []) ≡ item ∷ [] = those-one (clear F) item ∙ rw z in
      record { size = rw e (omega arith); front = rw (e, add-one q) (take-suc-set t q item low) }

  pub passed_one : ¬ (get_or F item 0 ≡ 0) → Kept F q (item ∷ []) t q t
  passed_one n =
      let e : those (clear F) (item ∷ []) ≡ [] = those-one (clear F) item ∙ rw (ne_eqb (get_or F item 0) 0 n) in
      record { size = rw e (omega arith); front = rw e (sym (append-nil (take q t))) }

-- a row item by item
pub kept-none : (F : List ℕ) (q : ℕ) (row t : List ℕ) → Kept F q (take 0 row) t q t
kept-none F q row t = let e = those-none (clear F) in record { size = rw e (omega arith); front = rw e (sym (append-nil (take q t))) }

pub kept_more : {F : List ℕ} {q : ℕ} (row : List ℕ) {t : List ℕ} (i : ℕ) {q' : ℕ} {t' : List ℕ} {q'' : ℕ} {t'' : List ℕ} → i < length row → Kept F q (take i row) t q' t'
    → Kept F q' (get_or row i 0 ∷ []) t' q'' t'' → Kept F q (take (i + 1) row) t q'' t''
kept_more {F} {q} row {t} i {q'} {t'} {q''} {t''} b f g =
    record {
      size = rw both (simp length-append (omega (arith, f.size, g.size)));
      front = rw both (g.front ∙ ap (λ (l : List ℕ). l ++ those p (get_or row i 0 ∷ [])) f.front ∙ append_assoc (take q t) (those p (take i row)) (those p (get_or row i 0 ∷ [])));
    }
  where
    p : ℕ → Bool
    p = clear F

    both : those p (take (i + 1) row) ≡ those p (take i row) ++ those p (get_or row i 0 ∷ [])
    both = rw (add-one i, take-suc row i 0 b) (those-append p (take i row) (get_or row i 0 ∷ []))

module _ {F : List ℕ} {q : ℕ} {row t : List ℕ} {q' : ℕ} {t' : List ℕ} (f : Kept F q row t q' t') where
  pub kept_up : q ≤ q'
  kept_up = omega (arith, f.size)

  pub kept_few : q' ≤ q + length row
  kept_few = omega (arith, f.size, those_le (clear F) row)

  -- what stands before q stays
  pub kept-before : q ≤ length t → (p : ℕ) → p < q → get_or t' p 0 ≡ get_or t p 0
  kept-before fits p h =
      sym (get_or-take q' t' p 0 (omega (arith, kept_up)))
      ∙ rw f.front (get_or-append (take q t) (those (clear F) row) 0 p (omega (arith, length-take-le q t fits)) ∙ get_or-take q t p 0 h)

  pub kept_front : q ≤ length t → take q t' ≡ take q t
  kept_front fits =
      sym (take-take q q' t' kept_up) ∙ rw f.front (take-append-le q (take q t) (those (clear F) row) (omega (arith, length-take-le q t fits)) ∙ take-take q q t (omega arith))

-- parts of parts
drop-take : (a q : ℕ) (l : List ℕ) → drop a (take q l) ≡ seg a (q - a) l
drop-take zero q l = let e : q - 0 ≡ q = omega arith in rw e
drop-take (suc a) zero l = let e : 0 - suc a ≡ 0 = omega arith in rw e
drop-take (suc a) (suc q) [] = sym (take-nil (suc q - suc a))
drop-take (suc a) (suc q) (x ∷ l) = let e : suc q - suc a ≡ q - a = omega arith in rw e (drop-take a q l)

pub seg-seg : (b m a len : ℕ) (ws : List ℕ) → a + len ≤ m → seg a len (seg b m ws) ≡ seg (b + a) len ws
seg-seg b m a len ws h = seg_in_take a len m (drop b ws) h ∙ ap (take len) (drop-drop a b ws)

-- the table row by row: its first offset
pub rowed_first : {rows : ℕ → List ℕ} {n : ℕ} (t : List ℕ) → 0 < length t → Rowed rows n 0 (n + 1) (set t 0 0)
rowed_first {n = n} t h =
    let none : n + 1 - (n + 1) ≡ 0 = omega arith in
    record {
      offsets = λ u l. let e : u ≡ 0 = omega arith in rw e (get_or-set_same t 0 0 0 h);
      size = omega arith;
      items = drop-take (n + 1) (n + 1) (set t 0 0) ∙ rw none;
    }

-- one row more, of which the items were kept behind q words, and then its end
pub rowed_more : {rows : ℕ → List ℕ} {n v q : ℕ} {F t : List ℕ} {q' : ℕ} {t' : List ℕ} (row : List ℕ) → Rowed rows n v q t → v < n → q ≤ length t → length t' ≡ length t
    → Kept F q row t q' t' → those (clear F) row ≡ rows v → Rowed rows n (v + 1) q' (set t' (v + 1) (q' - (n + 1)))
rowed_more {rows} {n} {v} {q} {F} {t} {q'} {t'} row r low fits long f is =
    record {
      offsets = λ u l. offset u l (ℕ_discrete u (v + 1));
      size = size';
      items =
          drop-take (n + 1) q' (set t' (v + 1) (q' - (n + 1)))
          ∙ seg-set_low (n + 1) (q' - (n + 1)) t' (v + 1) (q' - (n + 1)) (omega arith)
          ∙ sym (drop-take (n + 1) q' t')
          ∙ rw (f.front, is) (drop-append-le (n + 1) (take q t) (rows v) (omega (arith, length-take-le q t fits, r.size)))
          ∙ ap (λ (l : List ℕ). l ++ rows v) r.items
          ∙ sym (rw (add-one v) (entries_suc rows v));
    }
  where
    size' : q' ≡ n + 1 + length (row_entries rows (v + 1))
    size' = omega (arith, rw is at f.size, r.size, entries_next rows v)

    offset : (u : ℕ) → u ≤ v + 1 → Dec (u ≡ v + 1) → get_or (set t' (v + 1) (q' - (n + 1))) u 0 ≡ length (row_entries rows u)
    offset u l (yes e) = rw e (get_or-set_same t' (v + 1) (q' - (n + 1)) 0 (omega (arith, long, r.size)) ∙ omega (arith, size'))
    offset u l (no n') = get_or-set_other t' (v + 1) u (q' - (n + 1)) 0 n' ∙ kept-before f fits u (omega (arith, r.size)) ∙ r.offsets u (omega arith)

-- all rows are there
module _ {rows : ℕ → List ℕ} {n q : ℕ} {t : List ℕ} (r : Rowed rows n n q t) (fits : q ≤ length t) where
  end_in : (v : ℕ) → v < n → length (row_entries rows (v + 1)) ≤ length (row_entries rows n)
  end_in v h = entries_le rows (v + 1) n (omega arith)

  pub filtered : Filtered rows n t
  filtered =
      record {
        inside = λ v h. record {
          low = h;
          rises = omega (arith, r.offsets v (omega arith), r.offsets (v + 1) (omega arith), entries_next rows v);
          fits = omega (arith, r.offsets (v + 1) (omega arith), end_in v h, r.size);
        };
        rows = there;
      }
    where
      there : (v : ℕ) → v < n → successors n t v ≡ rows v
      there v h =
          let a : ℕ = length (row_entries rows v) in
          let l : get_or t (v + 1) 0 - get_or t v 0 ≡ length (rows v) = omega (arith, r.offsets v (omega arith), r.offsets (v + 1) (omega arith), entries_next rows v) in
          row n t v h
          ∙ rw (l, r.offsets v (omega arith), ← seg-seg (n + 1) (q - (n + 1)) a (length (rows v)) t (omega (arith, end_in v h, entries_next rows v, r.size)), ← drop-take (n + 1) q t, r.items)
          (row_in rows v n h)

  pub rowed_inside : (v : ℕ) → v < n → Row n t v
  rowed_inside = filtered.inside

  pub rowed_rows : (v : ℕ) → v < n → successors n t v ≡ rows v
  rowed_rows = filtered.rows

-- the items up to a row of the full table, and room for that row
pub items_most : {k : ℕ} {t : List ℕ} → Table k t → (v : ℕ) → v ≤ k → get_or t v 0 ≤ length t - (k + 1)
items_most {k} {t} T v h = omega (arith, row_end k t T v h)

pub row_room : {k : ℕ} {t : List ℕ} → Table k t → (v : ℕ) → v < k → (n q : ℕ) → q ≤ n + 1 + get_or t v 0 → q + length (successors k t v) ≤ n + 1 + get_or t (v + 1) 0
row_room {k} {t} T v h n q most = omega (arith, row_length k t T v h, T.rises v h)

-- an operation's flag is 0 exactly if it is not selected
pub flag_tells : (x : List ℕ) (e f : ℕ) → f ≡ count e x → eqb f 0 ≡ not (has x e)
flag_tells x e f q = go (dec∈ e x)
  where
    go : Dec (e ∈ x) → eqb f 0 ≡ not (has x e)
    go (yes m) = rw (has_yes m) (ne_eqb f 0 (λ z. omega (arith, ∈-count m)))
    go (no n) = rw (has_no x e n) (eq-eqb f 0 (q ∙ none (ℕ_discrete (count e x) 0)))
      where
        none : Dec (count e x ≡ 0) → count e x ≡ 0
        none (yes z) = z
        none (no s) = absurd (n (count-∈ e x (omega arith)))

-- a row without the flagged items is one without the selected operations
pub two_tables : {d : Drawing} {x t F u : List ℕ} → Accepted d → Incident d t → Flags (node_count d) x F → Filtered (unflagged F (items d) t) (node_count d) u → TwoTables d x t u
unfolding unselected
two_tables {d} {x} {t} {F} {u} a i g r = record { full = i; inside = r.inside; rows = λ v h. r.rows v h ∙ left v h }
  where
    n : ℕ
    n = node_count d

    test : (v j : ℕ) → (e : ℕ) × (v ∈ sources_of d e) × (j ≡ n + e) → clear F j ≡ not (has x (j - n))
    test v j (e, s, q) = let z : n + e - n ≡ e = omega arith in rw (q, z) (flag_tells x e (get_or F (n + e) 0) (g.each e))

    left : (v : ℕ) → v < n → unflagged F (items d) t v ≡ unselected d x v
    left v h = rw (i.rows v (omega arith)) (those_same (clear F) (λ j. not (has x (j - n))) (incidence d v) (λ j m. test v j (from_node d a v j h m)))

-- few enough nodes and operations: the workspace has room for both tables, marks and a queue, and one list more
pub need_fits : (d : Drawing) → table_length d + other_length d + items d + items d + items d ≤ workspace_need d
need_fits d = omega arith
