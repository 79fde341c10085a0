use Rattle.std.proofs.Common.{arith}
use Rattle.lines.proofs.Facts.{line-within}
use Rattle.run_texts.proofs.run_first.Goals as goal

pub split_at-requires : goal.split_at-requires
split_at-requires g c = omega (arith, line-within _ 0 _ c.requires c.line_end-start.ensures)

pub returns-then-line-lt6 : goal.returns-then-line-lt6
returns-then-line-lt6 g c = omega (arith, line-within _ 0 _ c.requires c.line_end-start.ensures, c.split_at.ensures.back_len)
