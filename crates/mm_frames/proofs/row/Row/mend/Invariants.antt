use Rattle.std.specs.Prelude.{◌+◌, ◌/◌}
use Rattle.mm_frames.proofs.Mended.{Mended}
use Rattle.mm_frames.proofs.row.Row.mend.Given as goal

abbrev pub invariant-loop-word : goal.invariant-loop-word
invariant-loop-word l = Mended l.self.words.items l.bytes l.word ((l.offset + l.count + 3) / 4)
