-- What is written is the line of the cause.
use Rattle.std.proofs.Common.{ap, refl}
use Rattle.sentry_run.specs.declared.outcome.Fault.TheVariants.{Mounts, Image, SourceFault, Grant}
use Rattle.sentry_run.specs.ErrorLine.{image_line}
use Rattle.sentry_run.proofs.ErrorLines.{line_written}
use Rattle.sentry_run.proofs.error_line.write_line.Goals as goal

pub returns-in-Mounts : goal.returns-in-Mounts
returns-in-Mounts g c =
    let word = c.word_of.ensures in
    line_written c.writeln-in-Mounts.result (g.W.Write.contents c.args.out.now)
    (g.W.Write.contents c.writeln-in-Mounts.new.self) c.args.fault (Mounts c.in-Mounts.reason) _ c.in-Mounts.is (cc)
    c.writeln-in-Mounts.ensures.bytes

pub returns-in-Image : goal.returns-in-Image
returns-in-Image g c =
    line_written c.write_image.result (g.W.Write.contents c.args.out.now)
    (g.W.Write.contents c.write_image.new.out) c.args.fault (Image c.in-Image.task c.in-Image.errno) _ c.in-Image.is
    (ap (image_line c.in-Image.task) c.number.ensures) c.write_image.ensures

pub returns-in-SourceFault : goal.returns-in-SourceFault
returns-in-SourceFault g c =
    line_written c.writeln-in-SourceFault.result (g.W.Write.contents c.args.out.now)
    (g.W.Write.contents c.writeln-in-SourceFault.new.self) c.args.fault SourceFault _ c.in-SourceFault.is refl
    c.writeln-in-SourceFault.ensures.bytes

pub returns-in-Grant : goal.returns-in-Grant
returns-in-Grant g c =
    line_written c.writeln-in-Grant.result (g.W.Write.contents c.args.out.now)
    (g.W.Write.contents c.writeln-in-Grant.new.self) c.args.fault (Grant c.in-Grant.mount) _ c.in-Grant.is (cc)
    c.writeln-in-Grant.ensures.bytes
