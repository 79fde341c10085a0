use Rattle.std.proofs.Common.{arith, length-take}
use Rattle.answer.proofs.Facts.{answer-within}
use Rattle.run_texts.proofs.run.Goals as goal

pub slice_bounds-out-end : goal.slice_bounds-out-end
slice_bounds-out-end g c = omega (arith, answer-within c.answer-written.ensures)

pub slice_bounds-write_all-end : goal.slice_bounds-write_all-end
slice_bounds-write_all-end g c = simp length-take (omega (arith, answer-within c.answer-written.ensures))
