use Rattle.std.proofs.Common.{◌≡◌, arith, length-take-le}
use Rattle.rules.specs.Drawing.{Maps, AcceptedMaps}
use Rattle.rules.specs.Lent.{maps_of}
use Rattle.rules.specs.Calls.{maps_refusal}
use Rattle.rules.proofs.Facts.Accepts.{maps_iff}
use Rattle.rules.proofs.Facts.Refusing.{fine_none}
use Rattle.rules.proofs.Facts.Monomorphism.{mono_handed, mono_short, mono_decided}
use Rattle.arrow.proofs.monomorphism.is_monomorphism.Goals.{After-max-words}
use Rattle.arrow.proofs.monomorphism.is_monomorphism.Goals as goal

-- the maps are fine
module _ (c : After-max-words) where
  abbrev f : Maps
  f = maps_of c.args.f.now

  fine : maps_refusal f ≡ 0
  fine = fine_none c.check_maps.result c.check_maps.ensures.refusal c.in_ok-check_maps.was

  accepted : AcceptedMaps f
  accepted = (maps_iff f).0 fine

pub returns-in_err-check_maps : goal.returns-in_err-check_maps
returns-in_err-check_maps c = mono_handed _ _ c.check_maps.ensures.refusal c.in_err-check_maps.was c.from_residual.ensures.1

pub returns-then-ws-words : goal.returns-then-ws-words
returns-then-ws-words c = mono_short _ _ _ c.max-words.ensures (fine (goal.at.returns-then-ws-words c).After-max-words) c.if-ws-words.true

pub both_injective-requires-clause-by_index : goal.both_injective-requires-clause-by_index
both_injective-requires-clause-by_index c =
    let a = accepted (goal.at.both_injective-requires-clause-by_index c).After-max-words in
    let k = length-take-le c.max-words.result c.args.ws.now c.if-ws-words.false in
    (λ u m. omega (arith, a.node_map.below u m, c.max-words.ensures, k), λ u m. omega (arith, a.op_map.below u m, c.max-words.ensures, k))

pub both_injective-requires-clause-len_bound : goal.both_injective-requires-clause-len_bound
both_injective-requires-clause-len_bound c =
    let a = accepted (goal.at.both_injective-requires-clause-len_bound c).After-max-words in
    (omega (arith, a.node_map.few_entries), omega (arith, a.op_map.few_entries))

pub returns : goal.returns
returns c = mono_decided _ _ _ c.max-words.ensures (fine (goal.at.returns c).After-max-words) _ _ c.if-ws-words.false c.both_injective.ensures
