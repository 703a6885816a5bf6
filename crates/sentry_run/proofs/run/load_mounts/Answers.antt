-- What was read is what the file's bytes say.
use Rattle.std.proofs.Common.{ℕ, List, subst}
use Rattle.mount_file.specs.MountFile.{IsMountFile}
use Rattle.sentry_run.specs.Command.{command_of}
use Rattle.sentry_run.proofs.ReadAs.{reads_as}
use Rattle.sentry_run.proofs.run.load_mounts.Goals as goal

pub returns-in-Ok-read_mounts-clause-ok : goal.returns-in-Ok-read_mounts-clause-ok
returns-in-Ok-read_mounts-clause-ok g c =
    reads_as (command_of c.args.command.now) (g.S.Source.told c.args.files.now) c.in-Ok.bytes c.in-Ok-read_mounts.mounts
    c.in-Ok.ensures.there c.in-Ok.ensures.content
    (subst (λ (b : List ℕ). IsMountFile b c.in-Ok-read_mounts.mounts) c.as_slice.ensures c.in-Ok-read_mounts.ensures.ok)
