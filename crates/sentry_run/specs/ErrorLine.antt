-- The line on standard error of a run that came to nothing.
use Rattle.std.specs.Prelude.{List, ℕ, [], ◌++◌, codes}
use Rattle.std.specs.Fmt.{decimal}
use Rattle.sn_errno.specs.Errors.{number_of}
use Rattle.mount_file.specs.declared.mounts.MountFault.{MountFault}
use Rattle.mount_file.specs.declared.mounts.MountFault.TheVariants as mounts
use Rattle.sentry_run.specs.declared.outcome.Fault.{Fault}
use Rattle.sentry_run.specs.declared.outcome.Fault.TheVariants as faults

-- the word of a fault of the mount file
-- profile
abbrev pub word_of : MountFault → List ℕ
word_of mounts.Long = codes "Long"
word_of mounts.Utf8 = codes "Utf8"
word_of mounts.Toml = codes "Toml"
word_of mounts.Field = codes "Field"
word_of mounts.Range = codes "Range"
word_of mounts.NoRoot = codes "NoRoot"
word_of mounts.Twice = codes "Twice"
word_of mounts.TooMany = codes "TooMany"
word_of mounts.Memory = codes "Memory"

-- the line of a task whose opening execve answers the error of that number
-- profile
abbrev pub image_line : ℕ → ℕ → List ℕ
image_line task errno = (codes "sentry: image " ++ decimal task) ++ (codes " " ++ decimal errno ++ codes "\n")

-- the line of a cause, or nothing of a run that has its text
-- profile
abbrev pub line_of : Fault → List ℕ
line_of faults.Done = []
line_of faults.Usage = codes "sentry: usage\n"
line_of (faults.Mounts fault) = codes "sentry: mounts " ++ word_of fault ++ codes "\n"
line_of (faults.Image task errno) = image_line task (number_of errno)
line_of faults.SourceFault = codes "sentry: source\n"
line_of faults.SinkFault = codes "sentry: sink\n"
line_of faults.Stuck = []
line_of faults.Full = []
line_of faults.Memory = codes "sentry: memory\n"
line_of faults.HostFault = codes "sentry: host\n"
line_of (faults.Grant mount) = codes "sentry: grant " ++ decimal mount ++ codes "\n"
