use Rattle.std.proofs.Common.{◌%◌, ◌≡◌, arith}
use Rattle.rules.proofs.Facts.Writing.{decimal_small, decimal_more, shorter}
use Rattle.text.proofs.Facts.Puts.{wrote_then}
use Rattle.text.proofs.writer.Writer.+put_number.Goals.{then-n-ge10, else-n-ge10}
use Rattle.text.proofs.writer.Writer.+put_number.Goals as goal

pub put_number-requires : goal.put_number-requires
put_number-requires t c =
    let s = shorter c.args.n (omega arith) c.if-n-ge10.true in
    (omega (arith, s), omega (arith, s))

pub put_byte-requires : goal.put_byte-requires
put_byte-requires t c =
    elim c.if-n-ge10.branch [
      | then-n-ge10 w ↦ rw w.self-is (omega (arith, shorter c.args.n (omega arith) w.if-n-ge10.true, w.put_number.ensures.puts.next, w.put_number.ensures.long))
      | else-n-ge10 w ↦ rw w.self-is (rw (decimal_small c.args.n w.if-n-ge10.false) at c.requires)
    ]

pub returns : goal.returns
returns t c =
    elim c.if-n-ge10.branch [
      | then-n-ge10 w ↦ rw (decimal_more c.args.n (omega (arith, c.ranges.n)) w.if-n-ge10.true) (wrote_then w.put_number.ensures (rw w.self-is at c.put_byte.ensures))
      | else-n-ge10 w ↦ let small : c.args.n % 10 ≡ c.args.n = omega (arith, w.if-n-ge10.false) in rw (decimal_small c.args.n w.if-n-ge10.false) (rw (w.self-is, small) at c.put_byte.ensures)
    ]
