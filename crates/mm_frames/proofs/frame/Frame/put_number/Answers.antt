use Rattle.std.proofs.Common.{arith}
use Rattle.mm_frames.specs.Bytes.{bytes_in}
use Rattle.mm_frames.specs.Frames.{bytes_of}
use Rattle.mm_frames.proofs.Others.{others_number}
use Rattle.mm_frames.proofs.frame.Frame.put_number.Goals as goal

pub mend-requires-clause-others : goal.mend-requires-clause-others
mend-requires-clause-others c =
    others_number c.args.self.now.row (bytes_of c.args.self.now) (bytes_in c.put_number-done.new.self) c.args.offset
    c.args.width c.args.value c.from.result c.args.self.now.decoded
    c.if-done.ensures.bytes
    (omega arith)
