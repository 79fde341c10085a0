-- An operation's part of a values list, by where it begins and ends.
use Rattle.std.specs.Prelude.{ℕ, ◌+◌, ◌-◌, ◌≤◌, ◌<◌, List, ◌≡◌, length, take, drop}
use native.Mathlib.Omega.{arith}
use Rattle.std.proofs.Math.ListN.{get_or}
use Rattle.rules.specs.Lists.{sum}
use Rattle.rules.proofs.Facts.Placing.{sum-take_le, sum-take, sum-all}
use Rattle.rules.specs.Drawing.{part}

-- where the next one begins
pub part_next : (lens : List ℕ) (e from : ℕ) → from ≡ sum (take e lens) → from + get_or lens e 0 ≡ sum (take (e + 1) lens)
part_next lens e from begins = omega (arith, sum-take lens e)

module _ (lens vals : List ℕ) (e from : ℕ) (begins : from ≡ sum (take e lens)) where
  pub part_is : take (from + get_or lens e 0 - from) (drop from vals) ≡ part lens vals e
  unfolding part
  part_is = let q : from + get_or lens e 0 - from ≡ get_or lens e 0 = omega arith in rw (q, begins)

  pub part-ends : sum lens ≡ length vals → e < length lens → from + get_or lens e 0 ≤ length vals
  part-ends t h = omega (arith, part_next lens e from begins, sum-take_le lens (e + 1) (length lens) (omega arith), sum-all lens)
