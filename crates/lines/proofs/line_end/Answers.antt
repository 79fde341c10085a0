use Rattle.std.proofs.Common.{rules, tests, arith, sym, ◌∙◌, drop}
use Rattle.std.proofs.lemmas.Iterator.{YieldsList-from_slice}
use Rattle.std.proofs.lemmas.Iterator.Search.{position_from_yields_List}
use Rattle.lines.proofs.Facts.{is_lf, line_stops, line_whole, from_min}
use Rattle.lines.proofs.line_end.Goals as goal

pub returns-in-Some : goal.returns-in-Some
returns-in-Some c =
    let rest = from_min c.args.input.now c.args.at c.min.result c.min.ensures in
    let found = position_from_yields_List is_lf _ _ _ c.position.ensures.ran (YieldsList-from_slice _ c.iter.ensures.rest) (λ x b q k. search (rules, tests)) in
    omega (arith, line_stops (drop c.args.at c.args.input.now) c.in-Some.n (rw rest at (sym found ∙ c.in-Some.is)))

pub returns-in-None : goal.returns-in-None
returns-in-None c =
    let rest = from_min c.args.input.now c.args.at c.min.result c.min.ensures in
    let found = position_from_yields_List is_lf _ _ _ c.position.ensures.ran (YieldsList-from_slice _ c.iter.ensures.rest) (λ x b q k. search (rules, tests)) in
    rw rest (omega (arith, line_whole (drop c.args.at c.args.input.now) (rw rest at (sym found ∙ c.in-None.is))))
