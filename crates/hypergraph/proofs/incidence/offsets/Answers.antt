use Rattle.std.proofs.Common.{ℕ, ◌+◌, ◌≡◌, ◌∙◌, arith, length, replicate, ap}
use Rattle.rules.proofs.Facts.Incident.{Lengths, sum_lengths, offsets_set}
use Rattle.hypergraph.proofs.incidence.offsets.Goals.{After-copy}
use Rattle.hypergraph.proofs.incidence.offsets.Goals as goal

-- the listings are counted, and the lengths copied behind them
module _ (c : After-copy) where
  long : length c.split_at_mut-nodes.result.0.now ≡ c.args.n + 1
  long = omega (arith, c.split_at_mut-nodes.ensures.front_len)

  lengths : Lengths c.args.n c.args.sv.now c.args.tl.now c.fill.new.self c.count_values.new.t c.copy.new.t
  lengths =
      record {
        low = c.requires.by_index;
        cleared = c.fill.ensures.after (λ y e. e) ∙ ap (λ (k : ℕ). replicate k 0) long;
        counted = c.count_values.ensures;
        copied = c.copy.ensures;
      }

pub running-requires : goal.running-requires
running-requires c = record { t_bound = omega (arith, sum_lengths (lengths (goal.at.running-requires c).After-copy), c.requires.few.sums) }

pub returns : goal.returns
returns c = offsets_set (lengths (goal.at.returns c).After-copy) c.running.new.t c.running.ensures
