use Rattle.std.proofs.Common.{ℕ, ◌<◌, ◌≡◌, ◌∙◌, sym, List, arith, rules, length, get_or}
use Rattle.std.proofs.Math.Decide.{dec_lt}
use lib.ListN.{get_or-eq_default}
use Rattle.rules.specs.Lists.{◌∈◌}
use Rattle.rules.specs.Inner.Words.{count}
use Rattle.rules.proofs.Facts.Counts.{count_above}
use Rattle.rules.proofs.Facts.Injective.{few_injective, many_not}
use Rattle.array.proofs.Listed.{counts_at}
use Rattle.finite_function.proofs.is_injective.Goals.{After-bincount}
use Rattle.finite_function.proofs.is_injective.Goals as goal

-- the entries are counted
module _ (c : After-bincount) where
  abbrev entries : List ℕ
  entries = c.args.entries.now

  abbrev seen : List ℕ
  seen = c.bincount.new.t

  long : length seen ≡ length c.args.seen.now
  long = c.bincount.auto.t

  below : (u : ℕ) → u ∈ entries → u < length seen
  below u m = omega (arith, c.requires.by_index u m, long)

  counted : (v : ℕ) → get_or seen v 0 ≡ count v entries
  counted v = go (dec_lt v (length seen))
    where
      go : Dec (v < length seen) → get_or seen v 0 ≡ count v entries
      go (yes h) = counts_at (length c.args.seen.now) entries seen c.bincount.ensures v (omega (arith, long))
      go (no h) = get_or-eq_default seen 0 {n = v} (omega arith) ∙ sym (count_above entries (length seen) v below (omega arith))

pub returns : goal.returns
returns c =
    let at = (goal.at.returns c).After-bincount in
    record {
      yes = λ t. few_injective (entries at) (seen at) (below at) (counted at) (sym c.all_below-once.ensures ∙ t);
      no = λ t. many_not (entries at) (seen at) (below at) (counted at) (sym c.all_below-once.ensures ∙ t);
      clear = rw (← long at) (search rules);
    }
