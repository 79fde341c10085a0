use Rattle.std.proofs.Common.{ℕ, ◌+◌, ◌-◌, ◌≤◌, ◌<◌, ◌^◌, ◌≡◌, sym, ap, ◌∙◌, List, map, ◌++◌, arith, add-one, length, get_or, set, drop}
use Rattle.rules.specs.Lists.{◌∈◌, row_entries, concat}
use Rattle.rules.specs.Inner.Rows.{flat_row, row_of}
use Rattle.rules.proofs.Facts.Flat.{put_more}
use Rattle.rules.proofs.Facts.Member.{∈-drop, ∈-take}
use Rattle.rules.proofs.Facts.Rows.{put_each, entries_le, entries_suc, entries_next}
use Rattle.rules.proofs.Facts.Stores.{at_set}
use Rattle.indexed_coproduct.proofs.flatmap.flatmap.Goals.{After-row, Start}
use Rattle.indexed_coproduct.proofs.flatmap.flatmap.Goals as goal

module _ (c : After-row) where
  abbrev rows : ℕ → List ℕ
  rows = flat_row c.args.first.now.offsets.now c.args.first.now.entries.now c.args.second.now.offsets.now c.args.second.now.entries.now

  abbrev i : ℕ
  i = c.loop-i.i

  -- what is put for this turn's row
  abbrev new : List ℕ
  new = concat (map (row_of c.args.second.now.offsets.now c.args.second.now.entries.now) c.row.result.now)

  new_is : new ≡ rows i
  unfolding flat_row
  new_is = ap (λ (r : List ℕ). concat (map (row_of c.args.second.now.offsets.now c.args.second.now.entries.now) r)) c.row.ensures

  named : (u : ℕ) → u ∈ c.row.result.now → u + 1 < length c.args.second.now.offsets.now
  unfolding row_of
  named u m =
      let start = get_or c.args.first.now.offsets.now i 0 in
      let end = get_or c.args.first.now.offsets.now (i + 1) 0 in
      c.requires.joinable.named u (∈-drop start c.args.first.now.entries.now (∈-take (end - start) (drop start c.args.first.now.entries.now) (rw c.row.ensures at m)))

  next : length (row_entries rows (i + 1)) ≡ length (row_entries rows i) + length new
  next = entries_next rows i ∙ omega (arith, ap length new_is)

  most : length (row_entries rows (i + 1)) ≤ length (row_entries rows c.args.k)
  most = entries_le rows (i + 1) c.args.k (omega arith)

  before : 0 + length (row_entries rows i) ≤ length c.args.vals.now
  before = omega (arith, next, most, c.requires.k_in_bounds.1)

  fits : c.loop-i.at + length new ≤ length c.loop-i.vals
  fits = omega (arith, next, most, c.requires.k_in_bounds.1, c.loop-i.invariant.entries.behind, c.loop-i.auto.vals)

  small : length new < 2 ^ 32
  small = omega (arith, next, most, c.requires.joinable.few)

  passed : (len : ℕ) → len ≡ length new → (j : ℕ) → j < i + 1 → get_or (set c.loop-i.lens i len) j 0 ≡ length (rows j)
  passed len e j h = at_set (λ y. y ≡ length (rows j)) c.loop-i.lens i j len (omega (arith, c.requires.k_in_bounds.0)) (λ q. rw q (e ∙ ap length new_is)) (λ q. c.loop-i.invariant.lengths j (omega arith))

  rest : (len j : ℕ) → i + 1 ≤ j → get_or (set c.loop-i.lens i len) j 0 ≡ get_or c.args.lens.now j 0
  rest len j h = at_set (λ y. y ≡ get_or c.args.lens.now j 0) c.loop-i.lens i j len (omega (arith, c.requires.k_in_bounds.0)) (λ q. omega arith) (λ q. c.loop-i.invariant.rest j (omega arith))

  all : row_entries rows (i + 1) ≡ row_entries rows i ++ new
  all = ap (row_entries rows) (add-one i) ∙ entries_suc rows i ∙ ap (λ (r : List ℕ). row_entries rows i ++ r) (sym new_is)

pub copy_rows-to-requires-clause-sections : goal.copy_rows-to-requires-clause-sections
copy_rows-to-requires-clause-sections c = (c.requires.joinable.inner, named (goal.at.copy_rows-to-requires-clause-sections c).After-row)

pub copy_rows-to-requires-clause-list_in_bounds : goal.copy_rows-to-requires-clause-list_in_bounds
copy_rows-to-requires-clause-list_in_bounds c = fits (goal.at.copy_rows-to-requires-clause-list_in_bounds c).After-row

pub overflow_cast-lens : goal.overflow_cast-lens
overflow_cast-lens c = omega (arith, c.copy_rows-to.ensures.behind, small (goal.at.overflow_cast-lens c).After-row)

pub loop-i-preserved : goal.loop-i-preserved
loop-i-preserved c =
    let at = (goal.at.loop-i-preserved c).After-row in
    record {
      lengths = passed at (c.copy_rows-to.result - c.loop-i.at) (omega (arith, c.copy_rows-to.ensures.behind));
      rest = rest at (c.copy_rows-to.result - c.loop-i.at);
      entries = rw (all at) (put_more (before at) c.loop-i.invariant.entries c.copy_rows-to.ensures);
    }

pub returns : goal.returns
returns c =
    let rows = flat_row c.args.first.now.offsets.now c.args.first.now.entries.now c.args.second.now.offsets.now c.args.second.now.entries.now in
    let q : c.loop-i.i ≡ c.args.k = omega arith in
    record {
      lengths = put_each (λ j. length (rows j)) c.args.k c.args.lens.now c.loop-i.lens c.requires.k_in_bounds.0 c.loop-i.auto.lens (λ j h. c.loop-i.invariant.lengths j (omega arith)) (λ j h. c.loop-i.invariant.rest j (omega arith));
      entries = rw q at c.loop-i.invariant.entries.list;
    }
