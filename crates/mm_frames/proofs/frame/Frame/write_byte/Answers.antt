use Rattle.std.proofs.Common.{ap, ◌∙◌}
use Rattle.std.specs.Prelude.{slice_set}
use Rattle.mm_frames.specs.Bytes.{bytes_in}
use Rattle.mm_frames.specs.Frames.{bytes_of}
use Rattle.mm_frames.proofs.Others.{others_set}
use Rattle.mm_frames.proofs.frame.Frame.write_byte.Goals as goal

pub mend-requires-clause-others : goal.mend-requires-clause-others
mend-requires-clause-others c =
    others_set c.args.self.now.row (bytes_of c.args.self.now) (bytes_in c.put_byte.new.self) c.args.offset
    c.args.value c.args.self.now.decoded
    (c.put_byte.ensures.bytes ∙ ap (λ bytes. slice_set bytes c.args.offset c.args.value) c.own.ensures.bytes)
