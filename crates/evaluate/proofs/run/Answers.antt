use Rattle.std.proofs.Common.{arith, length-take}
use Rattle.answer.proofs.Facts.{answer-within}
use Rattle.evaluate.proofs.Whole.{front, written}
use Rattle.evaluate.proofs.run.Goals as goal

pub slice_bounds-out-end : goal.slice_bounds-out-end
slice_bounds-out-end g c = omega (arith, answer-within c.answer-written.ensures)

pub slice_bounds-write_all-end : goal.slice_bounds-write_all-end
slice_bounds-write_all-end g c = simp length-take (omega (arith, answer-within c.answer-written.ensures))

pub returns : goal.returns
returns g c = written _ _ _ _ c.read_full.new.room _ c.in_ok-n.n _ (omega arith) (omega (arith, c.in_ok-n.ensures.within)) c.in_ok-n.ensures.bytes c.in_ok-n.ensures.end (front c.answer-written.ensures (omega arith)) c.write_all.ensures.bytes
