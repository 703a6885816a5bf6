use Rattle.std.proofs.Common.{◌≡◌, ap, ◌∙◌, arith}
use Rattle.mm_frames.specs.Numbers.{with_number}
use Rattle.mm_frames.specs.Bytes.{bytes_in}
use Rattle.mm_frames.specs.Frames.{bytes_of}
use Rattle.mm_frames.proofs.Others.{others_number}
use Rattle.mm_frames.proofs.frame.Frame.write_number.Goals as goal

pub mend-requires-clause-others : goal.mend-requires-clause-others
mend-requires-clause-others c =
    let stored : bytes_in c.put_number.new.self
    ≡ with_number (bytes_in c.own.new.self) c.args.offset c.args.width c.args.value = grind arith in
    others_number c.args.self.now.row (bytes_of c.args.self.now) (bytes_in c.put_number.new.self) c.args.offset
    c.args.width c.args.value c.from.result c.args.self.now.decoded
    (stored ∙ ap (λ bytes. with_number bytes c.args.offset c.args.width c.args.value) c.own.ensures.bytes)
    (omega arith)
