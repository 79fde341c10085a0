use Rattle.std.proofs.Common.{refl}
use Rattle.std.proofs.Math.Seq.{length-sets}
use Rattle.text.proofs.Facts.Puts.{put_part}
use Rattle.text.proofs.writer.Writer.put_bytes.Goals as goal

pub returns : goal.returns
returns c =
    let bs = c.args.bs.now in
    let w = c.args.self.now in
    let stored = put_part bs w.at w.out.now c.requires in
    rw c.copy_from_slice.ensures.after record { puts = record { holds = stored; next = refl }; long = rw stored (length-sets w.out.now w.at bs); same_buffer = refl }
