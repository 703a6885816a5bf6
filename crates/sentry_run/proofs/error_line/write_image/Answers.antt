-- The front of the line, and then the number.
use Rattle.std.proofs.Common.{refl}
use Rattle.sentry_run.proofs.ErrorLines.{written_more}
use Rattle.sentry_run.proofs.error_line.write_image.Goals as goal

pub returns : goal.returns
returns g c =
    written_more c.writeln.result (g.W.Write.contents c.args.out.now) (g.W.Write.contents c.write.new.self)
    (g.W.Write.contents c.writeln.new.self) _ _ _ c.in_ok-write.ensures.bytes c.writeln.ensures.bytes
    refl
