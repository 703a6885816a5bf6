-- Words of the command line that the system doesn't tell.
use Rattle.std.specs.Prelude.{◌≡◌, ◌⊎◌, ◌↔◌}
use Rattle.std.specs.IoError.{error_kind}
use Rattle.std.specs.declared.io.Error.{Error}
use Rattle.std.specs.declared.io.ErrorKind.TheVariants.{OutOfMemory}
use Rattle.sentry_run.specs.declared.outcome.Fault.{Fault}
use Rattle.sentry_run.specs.declared.outcome.Fault.TheVariants.{Usage, Memory}

-- the answers of a program that isn't told its words
-- profile
abbrev pub IsUntold : Fault → Type 0
IsUntold fault = (fault ≡ Memory) ⊎ (fault ≡ Usage)

-- the answer is want of memory exactly where the system's error is that
-- malloc(3), ENOMEM
abbrev pub IsMemoryWhere : Error → Fault → Type 0
IsMemoryWhere error fault = (fault ≡ Memory) ↔ (error_kind error ≡ OutOfMemory)
