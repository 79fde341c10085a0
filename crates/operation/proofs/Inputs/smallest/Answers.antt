use Rattle.std.proofs.Common.{length, sym, ap, ◌∙◌, rules, arith}
use Rattle.std.specs.Option.{unwrap_or}
use Rattle.std.proofs.lemmas.Iterator.{YieldsList-from_map, YieldsList-from_range}
use Rattle.std.proofs.lemmas.Iterator.Consumers.{min_from_yields_List}
use Rattle.std.proofs.lemmas.Iterator.Adapters.{option_map_id}
use Rattle.rules.specs.Lists.{at}
use Rattle.operation.proofs.Reduced.{least_by_place}
use Rattle.operation.proofs.Inputs.smallest.Goals as goal

pub returns : goal.returns
returns c =
    let l = c.args.self.now in
    c.unwrap_or.ensures
    ∙ ap (λ o. unwrap_or o 0) (sym (option_map_id c.min.result) ∙ min_from_yields_List c.map.result c.min.result c.min.ensures.ran (YieldsList-from_map _ (at l) (YieldsList-from_range 0 c.len.result (length l) c.map.ensures.source (omega arith)) c.map.ensures.closure (λ x r q k. search rules)))
    ∙ least_by_place l
