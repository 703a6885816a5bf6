use Rattle.std.proofs.Common.{◌+◌, ◌/◌, arith}
use Rattle.mm_frames.proofs.Mended.{mended_all}
use Rattle.mm_frames.proofs.row.Row.mend.Goals as goal

pub returns : goal.returns
returns c = mended_all c.loop-word.self.words.items c.args.bytes.now c.loop-word.word
    ((c.args.offset + c.args.count + 3) / 4) (omega arith) c.loop-word.invariant
