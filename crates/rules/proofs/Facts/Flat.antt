-- Two tables joined: each entry of the first gives way to its row of the second. The adjacencies are such.
use Rattle.std.specs.Prelude.{ℕ, ◌+◌, ◌-◌, ◌≤◌, ◌<◌, ◌^◌, List, [], ◌∷◌, ◌++◌, map, ◌≡◌, refl, get_or, take, drop}
use mathlib.Core.List.Memᴰ
use Rattle.std.proofs.Common.{append-nil, sym, ◌∙◌, subst, add-one, arith, length-append, take-append-drop, length-drop, take-suc}
use Rattle.std.proofs.Math.Path.{ap}
use Rattle.std.proofs.Math.ListN.{length}
use Rattle.std.proofs.lemmas.List.{take-append-le}
use Rattle.rules.specs.Inner.Words.{back}
use Rattle.rules.proofs.Facts.Segments.{back-seg-before, back-seg, back-length}
use Rattle.rules.specs.Lists.{◌∈◌, seg, concat, range, row_entries}
use Rattle.rules.specs.Analysis.{leaving, node_next, op_next}
use Rattle.rules.specs.Inner.Rows.{Tabled, PutRows, Put, row_of, flat_row, Joinable, Sections, Tables, put_at, ConverseTable, Starts}
use Rattle.rules.specs.Drawing.{Drawing, Accepted, node_count, targets_of, op_count}
use Rattle.rules.proofs.Facts.Rows.{entries_same, concat-append, put_none, put_length, tabled_sections, put_put, lengths_same, tabled_row, parts_tabled, back_put}
use Rattle.rules.proofs.Facts.Member.{concat_e, ∈-range, ∈-part, part_inside}
use Rattle.rules.proofs.Facts.Segments.{seg-length}
use Rattle.rules.proofs.Facts.Sizes.{op_size, op_size_fits, node_size, node_size_fits}
use Rattle.rules.proofs.Facts.Adjacent.{converse_e}
use Rattle.rules.proofs.Facts.ConverseTable.{entries_read}

-- a row by its offsets
pub row_long : {off vals : List ℕ} → Sections off vals → (j : ℕ) → j + 1 < length off → length (row_of off vals j) ≡ get_or off (j + 1) 0 - get_or off j 0
unfolding row_of
row_long {off} {vals} s j h = seg-length (get_or off j 0) (get_or off (j + 1) 0 - get_or off j 0) vals (omega (arith, s.rises j h, s.within (j + 1) h))

pub row_is : (off vals : List ℕ) (j : ℕ) → seg (get_or off j 0) (get_or off (j + 1) 0 - get_or off j 0) vals ≡ row_of off vals j
unfolding row_of
row_is off vals j = refl

-- a row that was copied into a lent part
pub row_put : {off rows : List ℕ} → Sections off rows → (j at : ℕ) (y vals : List ℕ) → j + 1 < length off → y ≡ seg (get_or off j 0) (get_or off (j + 1) 0 - get_or off j 0) rows
    → Put at (row_of off rows j) vals (back at (at + (get_or off (j + 1) 0 - get_or off j 0) - at) y vals) (at + (get_or off (j + 1) 0 - get_or off j 0))
row_put {off} {rows} s j at y vals h e =
    let l : length y ≡ at + (get_or off (j + 1) 0 - get_or off j 0) - at = ap length (e ∙ row_is off rows j) ∙ omega (arith, row_long s j h) in
    record {
      list = back_put at (at + (get_or off (j + 1) 0 - get_or off j 0) - at) y vals l ∙ ap (λ (r : List ℕ). put_at at r vals) (e ∙ row_is off rows j);
      behind = omega (arith, row_long s j h);
    }

-- the rows that a list names, one more each time
module _ (g : ℕ → List ℕ) (l : List ℕ) where
  pub rows_more : (p : ℕ) → p < length l → concat (map g (take (p + 1) l)) ≡ concat (map g (take p l)) ++ g (get_or l p 0)
  rows_more p h = rw (add-one p, take-suc l p 0 h, concat-append g (take p l) (get_or l p 0 ∷ [])) (ap (λ (r : List ℕ). concat (map g (take p l)) ++ r) (append-nil (g (get_or l p 0))))

  pub rows_within : (p : ℕ) → length (concat (map g (take p l))) ≤ length (concat (map g l))
  rows_within p = omega (arith, ap (λ (k : List ℕ). length (concat (map g k))) (take-append-drop p l), ap length (concat-append g (take p l) (drop p l)), length-append (concat (map g (take p l))) (concat (map g (drop p l))))

-- and more is put behind
pub put_more : {from to to' : ℕ} {a b l l₁ l₂ : List ℕ} → from + length a ≤ length l → Put from a l l₁ to → Put to b l₁ l₂ to' → Put from (a ++ b) l l₂ to'
put_more {from} {to} {to'} {a} {b} {l} {l₁} {l₂} h p q =
    record {
      list = q.list ∙ rw (p.behind, p.list) (put_put from a l h b);
      behind = simp length-append (omega (arith, p.behind, q.behind));
    }

pub put_long : {from to : ℕ} {a l l' : List ℕ} → from + length a ≤ length l → Put from a l l' to → length l' ≡ length l
put_long {from} {to} {a} {l} {l'} h p = ap length p.list ∙ put_length from a l h

pub put_nothing : (from : ℕ) (l : List ℕ) → Put from [] l l from
put_nothing from l = record { list = sym (put_none from l); behind = omega arith }

concat_same : (f g : ℕ → List ℕ) (l : List ℕ) → ((u : ℕ) → u ∈ l → f u ≡ g u) → concat (map f l) ≡ concat (map g l)
concat_same f g [] h = refl
concat_same f g (a ∷ l) h = rw (h a (Memᴰ.head refl), concat_same f g l (λ u m. h u (Memᴰ.tail m)))

-- a joined row, read by offsets
pub flat_is : (aoff avals boff bvals : List ℕ) (i : ℕ) → concat (map (row_of boff bvals) (seg (get_or aoff i 0) (get_or aoff (i + 1) 0 - get_or aoff i 0) avals)) ≡ flat_row aoff avals boff bvals i
unfolding flat_row row_of
flat_is aoff avals boff bvals i = refl

-- the tables of rows a and of rows b
pub record Joined (a b : ℕ → List ℕ) (k n : ℕ) (aoff avals boff bvals : List ℕ) : Type 0 where
  pub outer : Tabled a k aoff avals
  pub inner : Tabled b n boff bvals
  pub named : (i u : ℕ) → i < k → u ∈ a i → u < n
  pub few : length (row_entries (λ i. concat (map b (a i))) k) < 2 ^ 32

module _ {a b : ℕ → List ℕ} {k n : ℕ} {aoff avals boff bvals : List ℕ} (j : Joined a b k n aoff avals boff bvals) where
  abbrev rows : ℕ → List ℕ
  rows i = concat (map b (a i))

  abbrev flat : ℕ → List ℕ
  flat = flat_row aoff avals boff bvals

  flat-row : (i : ℕ) → i < k → flat i ≡ rows i
  unfolding flat_row
  flat-row i h = rw (tabled_row j.outer i h) (concat_same (row_of boff bvals) b (a i) (λ u m. tabled_row j.inner u (j.named i u h m)))

  pub flat_entries : row_entries flat k ≡ row_entries rows k
  flat_entries = entries_same flat rows k flat-row

  pub joinable : Joinable k aoff avals boff bvals
  joinable =
      record {
        count = j.outer.long;
        outer = tabled_sections j.outer;
        inner = tabled_sections j.inner;
        named =
            λ u m.
            let (i, l, p) = concat_e a (range k) (rw j.outer.entries at m) in
            omega (arith, j.named i u (∈-range k i l) p, j.inner.long);
        few = rw flat_entries j.few;
      }

  pub joined_rows : {lens lens' vals vals' : List ℕ} → PutRows flat k lens lens' vals vals' → PutRows rows k lens lens' vals vals'
  joined_rows {lens} {lens'} {vals} {vals'} p = record { lengths = p.lengths ∙ rw (lengths_same flat rows k flat-row); entries = p.entries ∙ rw flat_entries }

-- the tables of a drawing, read in parts of p and q words
module _ (d : Drawing) (a : Accepted d) (p q : ℕ) (ws : List ℕ) (p_is : p ≡ length d.source_values) (q_is : q ≡ length d.target_lengths + 1)
    (t : Tables (node_count d) d.source_lengths d.source_values d.target_lengths ws) where
  abbrev heads : List ℕ
  heads = take (node_count d + 1) ws

  abbrev listers : List ℕ
  listers = seg (node_count d + 1) p ws

  abbrev begins : List ℕ
  begins = seg (node_count d + 1 + length d.source_values) q ws

  sources_tabled : Tabled (leaving d) (node_count d) heads listers
  sources_tabled = rw p_is t.sources

  targets_tabled : Tabled (targets_of d) (op_count d) begins d.target_values
  targets_tabled = subst (λ (m : ℕ). Tabled (targets_of d) m begins d.target_values) a.targets.count (parts_tabled d.target_lengths d.target_values begins a.targets.total (rw q_is t.targets))

  node_joined : Joined (leaving d) (targets_of d) (node_count d) (op_count d) heads listers begins d.target_values
  unfolding node_next
  node_joined =
      record {
        outer = sources_tabled;
        inner = targets_tabled;
        named = λ i u h m. omega (arith, part_inside d.source_lengths d.source_values u (converse_e d.source_lengths d.source_values i u m), a.sources.count);
        few = omega (arith, node_size d a, node_size_fits d a);
      }

  op_joined : Joined (targets_of d) (leaving d) (op_count d) (node_count d) begins d.target_values heads listers
  unfolding op_next
  op_joined =
      record {
        outer = targets_tabled;
        inner = sources_tabled;
        named = λ i u h m. a.targets.below u (∈-part d.target_lengths d.target_values i m);
        few = omega (arith, op_size d a, op_size_fits d a);
      }

  -- what `flatmap` asks for and gives, for nodes and for operations
  pub node_joinable : Joinable (node_count d) heads listers begins d.target_values
  node_joinable = joinable node_joined

  pub node_room : length (row_entries (flat_row heads listers begins d.target_values) (node_count d)) ≡ length (row_entries (node_next d) (node_count d))
  unfolding node_next
  node_room = ap length (flat_entries node_joined)

  pub node_rows : {lens lens' vals vals' : List ℕ} → PutRows (flat_row heads listers begins d.target_values) (node_count d) lens lens' vals vals' → PutRows (node_next d) (node_count d) lens lens' vals vals'
  unfolding node_next
  node_rows r = joined_rows node_joined r

  pub op_joinable : Joinable (op_count d) begins d.target_values heads listers
  op_joinable = joinable op_joined

  pub op_room : length (row_entries (flat_row begins d.target_values heads listers) (op_count d)) ≡ length (row_entries (op_next d) (op_count d))
  unfolding op_next
  op_room = ap length (flat_entries op_joined)

  pub op_rows : {lens lens' vals vals' : List ℕ} → PutRows (flat_row begins d.target_values heads listers) (op_count d) lens lens' vals vals' → PutRows (op_next d) (op_count d) lens lens' vals vals'
  unfolding op_next
  op_rows r = joined_rows op_joined r

-- how they come about: a converse's table t in front of the workspace, and behind it the starts y, in a part of p words
pub record Laying (n p : ℕ) (sl sv tl ws t y : List ℕ) : Type 0 where
  pub room : n + 1 + length sv + (length tl + 1) ≤ length ws
  pub front : length t ≡ n + 1 + length sv
  pub p_is : p ≡ length tl + 1
  pub converse_is : ConverseTable n sl sv t
  pub starts_are : Starts tl y

module _ {n p : ℕ} {sl sv tl ws t y : List ℕ} (f : Laying n p sl sv tl ws t y) where
  abbrev k : ℕ
  k = n + 1 + length sv

  abbrev ws₁ : List ℕ
  ws₁ = t ++ drop k ws

  abbrev ws₂ : List ℕ
  ws₂ = back k p y ws₁

  ws₁-long : length ws₁ ≡ length ws
  ws₁-long = simp (length-append, length-drop) (omega (arith, f.front, f.room))

  y_long : length y ≡ p
  y_long = f.starts_are.long ∙ sym f.p_is

  fits₁ : k + p ≤ length ws₁
  fits₁ = omega (arith, ws₁-long, f.room, f.p_is)

  heads_are : take (n + 1) ws₂ ≡ take (n + 1) t
  heads_are = back-seg-before k p y ws₁ fits₁ y_long 0 (n + 1) (omega arith) ∙ take-append-le (n + 1) t (drop k ws) (omega (arith, f.front))

  listers_are : seg (n + 1) (length sv) ws₂ ≡ drop (n + 1) t
  listers_are =
      let e : length sv ≡ k - (n + 1) = omega arith in
      back-seg-before k p y ws₁ fits₁ y_long (n + 1) (length sv) (omega arith)
      ∙ ap (λ (m : ℕ). seg (n + 1) m ws₁) e ∙ entries_read (n + 1) k t (drop k ws) f.front (omega arith)

  begins_are : seg k (length tl + 1) ws₂ ≡ y
  begins_are = ap (λ (m : ℕ). seg k m ws₂) (sym f.p_is) ∙ back-seg k p y ws₁ fits₁ y_long

  pub tables_laid : Tables n sl sv tl ws₂
  tables_laid =
      record {
        fits = omega (arith, back-length k p y ws₁ fits₁ y_long, ws₁-long, f.room);
        sources = rw (heads_are, listers_are) f.converse_is;
        targets = rw begins_are f.starts_are;
      }
