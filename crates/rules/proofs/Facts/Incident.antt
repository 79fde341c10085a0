-- How the table of a drawing's incidence graph comes about.
use Prim.Native.Nat.{ℕ, zero, suc, ◌+◌, ◌-◌, ◌≤◌, ◌<◌}
use mathlib.Core.List.Memᴰ
use Rattle.std.specs.Prelude.{List, [], ◌∷◌, ◌++◌, ◌≡◌, refl, length, take, replicate}
use Rattle.std.proofs.Common.{sym, ap, ◌∙◌, add-one, length-take-le, length-append, get_or-take, get_or-append-add, get_or-drop}
use Rattle.std.proofs.lemmas.List.{length-replicate, get_or-replicate}
use native.Mathlib.Omega.{arith}
use Rattle.std.proofs.Math.Decide.{dec_lt}
use Rattle.std.proofs.Math.ListN.{get_or, drop, length-drop, get_or-append}
use Rattle.std.proofs.Math.Seq.{drop_at, drop-drop}
use borrow.Author.Tests.{lt-ltb, le-ltb}
use Rattle.rules.specs.Drawing.{Drawing, Accepted, part, targets_of, node_count, op_count, most_items, Fits}
use Rattle.rules.specs.Lists.{◌∈◌, sum, seg}
use Rattle.rules.specs.Inner.Incidence.{items, incidence}
use Rattle.rules.specs.Inner.IncidenceTable.{Offsets, Incident, table_length}
use Rattle.rules.specs.Inner.Loops.{Counted, Running, Placing, Cursors, Listed}
use Rattle.rules.specs.Inner.Table.{successors}
use Rattle.rules.specs.Inner.Words.{count, below, owners}
use Rattle.rules.proofs.Facts.Converse.{listing-converse}
use Rattle.rules.proofs.Facts.IncidenceTheorem.{from_node, target_low, from_op}
use Rattle.rules.proofs.Facts.Member.{part_inside}
use Rattle.rules.proofs.Facts.Placing.{sum-take, sum-all, below_le, below_next, below_zero, owners-length, all-starts, all_lists, sum-counts}
use Rattle.rules.proofs.Facts.Segments.{seg_left}
use Rattle.rules.proofs.Facts.Tables.{row, tails}

-- a valid drawing's lists are few enough to count
pub fits_listed : {n m : ℕ} {lens vals : List ℕ} (first : ℕ) → Fits n m lens vals → m ≤ most_items → first ≤ most_items → Listed n first lens vals
fits_listed first a h g = record { total = a.total; below = a.below; few_lists = omega (arith, a.count); few_values = omega (arith, a.room) }

pub sources_listed : (d : Drawing) (first : ℕ) → Accepted d → first ≤ most_items → Listed (node_count d) first d.source_lengths d.source_values
sources_listed d first a h = fits_listed first a.sources a.few_ops h

-- where all are below n, all are counted there
pub below_all : (n : ℕ) (l : List ℕ) → ((u : ℕ) → u ∈ l → u < n) → below n l ≡ length l
unfolding below
below_all n [] low = refl
below_all n (a ∷ l) low = rw (lt-ltb a n (low a (Memᴰ.head refl))) (omega (arith, below_all n l (λ u m. low u (Memᴰ.tail m))))

-- `offsets` has cleared the words of the nodes, counted the listings there, and copied the operations' lengths behind them
pub record Lengths (n : ℕ) (sv tl z c l : List ℕ) : Type 0 where
  pub low : (u : ℕ) → u ∈ sv → u < n
  pub cleared : z ≡ replicate (n + 1) 0
  pub counted : Counted sv z c
  pub copied : l ≡ tl

-- then all is summed up
module _ {n : ℕ} {sv tl z c l : List ℕ} (f : Lengths n sv tl z c l) where
  c_long : length c ≡ n + 1
  c_long = f.counted.long ∙ ap length f.cleared ∙ length-replicate {A = ℕ} (n + 1) 0

  pub lengths-long : length (c ++ l) ≡ n + 1 + length tl
  lengths-long = length-append c l ∙ omega (arith, c_long, ap length f.copied)

  c_nodes : (v : ℕ) → v < n + 1 → get_or (c ++ l) v 0 ≡ count v sv
  c_nodes v h =
      get_or-append c l 0 v (omega (arith, c_long))
      ∙ omega (arith, f.counted.each v, ap (λ (y : List ℕ). get_or y v 0) f.cleared, get_or-replicate {A = ℕ} (n + 1) v 0 0 h)

  c_ops : (e : ℕ) → get_or (c ++ l) (n + 1 + e) 0 ≡ get_or tl e 0
  c_ops e = ap (λ (k : ℕ). get_or (c ++ l) (k + e) 0) (sym c_long) ∙ get_or-append-add c l e 0 ∙ rw f.copied

  sum_nodes : (v : ℕ) → v ≤ n + 1 → sum (take v (c ++ l)) ≡ below v sv
  sum_nodes v h = sum-counts sv (c ++ l) (n + 1) c_nodes v h

  pub sum_ops : (e : ℕ) → sum (take (n + 1 + e) (c ++ l)) ≡ length sv + sum (take e tl)
  sum_ops zero =
      let e : n + 1 + 0 ≡ n + 1 = omega arith in
      rw e (omega (arith, sum_nodes (n + 1) (omega arith), below_all (n + 1) sv (λ u m. omega (arith, f.low u m))))
  sum_ops (suc e) =
      let q : n + 1 + suc e ≡ n + 1 + e + 1 = omega arith in
      rw (q, ← add-one e) (omega (arith, sum-take (c ++ l) (n + 1 + e), sum-take tl e, c_ops e, sum_ops e))

  pub sum_lengths : sum (c ++ l) ≡ length sv + sum tl
  sum_lengths =
      sym (sum-all (c ++ l)) ∙ ap (λ (k : ℕ). sum (take k (c ++ l))) lengths-long ∙ sum_ops (length tl) ∙ ap (λ (k : ℕ). length sv + k) (sum-all tl)

  pub offsets_set : (t : List ℕ) → Running (c ++ l) t → Offsets n sv tl t
  offsets_set t hr =
      record {
        nodes = λ v h. hr.sums v (omega (arith, lengths-long)) ∙ sum_nodes (v + 1) (omega arith);
        ops = λ e h. let q : n + e + 1 ≡ n + 1 + e = omega arith in hr.sums (n + e) (omega (arith, lengths-long)) ∙ rw q (sum_ops e);
      }

-- an item of a row is an item
pub incident_low : (d : Drawing) → Accepted d → (i j : ℕ) → j ∈ incidence d i → j < items d
incident_low d a i j m = go (dec_lt i (node_count d))
  where
    go : Dec (i < node_count d) → j < items d
    go (yes h) =
        let (e, src, q) = from_node d a i j h m in
        omega (arith, part_inside d.source_lengths d.source_values e src, a.sources.count)
    go (no h) =
        let q : i ≡ node_count d + (i - node_count d) = omega arith in
        omega (arith, target_low d a j (i - node_count d) (from_op d a i (i - node_count d) j q m))

-- `incidence` has placed the owners in the rows r behind the offsets, of which the n cursors c came back, and copied the targets behind them
pub record Rows (d : Drawing) (off c r l : List ℕ) : Type 0 where
  pub accepted : Accepted d
  pub long : length off ≡ items d + 1
  pub same : length c ≡ node_count d
  pub room : length r ≡ length d.source_values
  pub offsets : Offsets (node_count d) d.source_values d.target_lengths off
  pub placing : Placing (owners (node_count d) d.source_lengths) d.source_values (take (node_count d) off) c r 0
  pub copied : l ≡ d.target_values

module _ {d : Drawing} {off c r l : List ℕ} (f : Rows d off c r l) where
  abbrev n : ℕ
  n = node_count d

  abbrev k : ℕ
  k = items d

  abbrev S : ℕ
  S = length d.source_values

  first_long : length (take n off) ≡ n
  first_long = length-take-le n off (omega (arith, f.long))

  cursors : Cursors d.source_values (take n off)
  cursors v h = get_or-take n off v 0 (omega (arith, first_long)) ∙ f.offsets.nodes v (omega (arith, first_long))

  abbrev off' : List ℕ
  off' = c ++ drop n off

  abbrev t₆ : List ℕ
  t₆ = off' ++ (r ++ l)

  off'-long : length off' ≡ k + 1
  off'-long = simp (length-append, length-drop) (omega (arith, f.same, f.long))

  t₆-long : length t₆ ≡ table_length d
  t₆-long = simp (length-append off' (r ++ l), length-append r l) (omega (arith, off'-long, f.room, ap length f.copied))

  owners_long : length (owners n d.source_lengths) ≡ S
  owners_long = owners-length n d.source_lengths ∙ f.accepted.sources.total

  front : (p : ℕ) → p < k + 1 → get_or t₆ p 0 ≡ get_or off' p 0
  front p h = get_or-append off' (r ++ l) 0 p (omega (arith, off'-long))

  behind : drop (k + 1) t₆ ≡ r ++ l
  behind = drop_at off' (r ++ l) (k + 1) off'-long

  off_op : (e : ℕ) → e ≤ op_count d → get_or t₆ (n + e) 0 ≡ S + sum (take e d.target_lengths)
  off_op e h =
      front (n + e) (omega arith)
      ∙ ap (λ (m : ℕ). get_or off' (m + e) 0) (sym f.same) ∙ get_or-append-add c (drop n off) e 0 ∙ get_or-drop n off e 0
      ∙ f.offsets.ops e (omega (arith, f.accepted.targets.count))

  off_node : (i : ℕ) → i ≤ n → get_or t₆ i 0 ≡ below i d.source_values
  off_node i h = go (dec_lt i n)
    where
      go : Dec (i < n) → get_or t₆ i 0 ≡ below i d.source_values
      go (yes b) =
          front i (omega arith) ∙ get_or-append c (drop n off) 0 i (omega (arith, f.same))
          ∙ all-starts (owners n d.source_lengths) d.source_values (take n off) c r owners_long cursors (omega (arith, f.room)) f.placing i (omega (arith, first_long))
      go (no b) =
          let e : i ≡ n = omega arith in
          let z : n + 0 ≡ n = omega arith in
          rw e (omega (arith, rw z at (off_op 0 (omega arith)), below_all n d.source_values f.accepted.sources.below))

  row_node : (i : ℕ) → i < n → successors k t₆ i ≡ incidence d i
  unfolding incidence
  row_node i h =
      let e : get_or t₆ (i + 1) 0 - get_or t₆ i 0 ≡ count i d.source_values = omega (arith, off_node i (omega arith), off_node (i + 1) (omega arith), below_next i d.source_values) in
      rw (row k t₆ i (omega arith), e, off_node i (omega arith), lt-ltb i n h)
      (kept ∙ all_lists (owners n d.source_lengths) d.source_values (take n off) c r owners_long cursors (omega (arith, f.room)) f.placing i (omega (arith, first_long)) ∙ listing-converse n d.source_lengths d.source_values i (omega (arith, f.accepted.sources.total)))
    where
      in_S : below i d.source_values + count i d.source_values ≤ S
      in_S = omega (arith, below_next i d.source_values, below_le (i + 1) d.source_values)

      kept : seg (k + 1 + below i d.source_values) (count i d.source_values) t₆ ≡ seg (below i d.source_values) (count i d.source_values) r
      kept =
          ap (take (count i d.source_values)) (sym (drop-drop (below i d.source_values) (k + 1) t₆) ∙ ap (drop (below i d.source_values)) behind)
          ∙ seg_left (below i d.source_values) (count i d.source_values) r l (omega (arith, in_S, f.room))

  row_op : (e : ℕ) → e < op_count d → successors k t₆ (n + e) ≡ targets_of d e
  unfolding part
  row_op e h =
      let s : ℕ = sum (take e d.target_lengths) in
      let z : n + e + 1 ≡ n + (e + 1) = omega arith in
      let l : get_or t₆ (n + e + 1) 0 - get_or t₆ (n + e) 0 ≡ get_or d.target_lengths e 0 = rw z (omega (arith, off_op e (omega arith), off_op (e + 1) (omega arith), sum-take d.target_lengths e)) in
      let b : k + 1 + (S + s) ≡ k + 1 + S + s = omega arith in
      rw (row k t₆ (n + e) (omega arith), l, off_op e (omega arith), b, ← drop-drop s (k + 1 + S) t₆, tail)
    where
      tail : drop (k + 1 + S) t₆ ≡ d.target_values
      tail = sym (drop-drop S (k + 1) t₆) ∙ ap (drop S) behind ∙ drop_at r l S f.room ∙ f.copied

  rows : (i : ℕ) → i < k → successors k t₆ i ≡ incidence d i
  unfolding incidence
  rows i h = go (dec_lt i n)
    where
      go : Dec (i < n) → successors k t₆ i ≡ incidence d i
      go (yes l) = row_node i l
      go (no l) =
          let e : n + (i - n) ≡ i = omega arith in
          rw (le-ltb i n (omega arith)) (rw e at (row_op (i - n) (omega arith)))

  rises : (i : ℕ) → i < k → get_or t₆ i 0 ≤ get_or t₆ (i + 1) 0
  rises i h = go (dec_lt i n)
    where
      go : Dec (i < n) → get_or t₆ i 0 ≤ get_or t₆ (i + 1) 0
      go (yes l) = omega (arith, off_node i (omega arith), off_node (i + 1) (omega arith), below_next i d.source_values)
      go (no l) =
          let e : n + (i - n) ≡ i = omega arith in
          let f : n + (i - n + 1) ≡ i + 1 = omega arith in
          omega (arith, rw e at (off_op (i - n) (omega arith)), rw f at (off_op (i - n + 1) (omega arith)), sum-take d.target_lengths (i - n))

  first : get_or t₆ 0 0 ≡ 0
  first = off_node 0 (omega arith) ∙ below_zero d.source_values

  last : get_or t₆ k 0 ≡ S + length d.target_values
  last = omega (arith, off_op (op_count d) (omega arith), ap (λ (m : ℕ). sum (take m d.target_lengths)) (sym f.accepted.targets.count), sum-all d.target_lengths, f.accepted.targets.total)

  pub incident : Incident d t₆
  incident = record { table = record { first = first; rises = rises; last = omega (arith, last, t₆-long); items = λ i j m. incident_low d f.accepted i j (rw (rows i (tails k t₆ i j m)) at m) }; rows = rows }
