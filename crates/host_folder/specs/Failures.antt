-- What an error of the system is for us.
use Rattle.std.specs.Prelude.{◌≡◌, ◌⊎◌, ◌↔◌}
use Rattle.std.specs.IoError.{error_kind}
use Rattle.std.specs.declared.io.Error.{Error}
use Rattle.std.specs.declared.io.ErrorKind.{ErrorKind}
use Rattle.std.specs.declared.io.ErrorKind.TheVariants.{NotFound, NotADirectory, OutOfMemory}
use Rattle.host_node.specs.declared.error.HostErr.{HostErr}
use Rattle.host_node.specs.declared.error.HostErr.TheVariants.{Memory}

-- an error of the system that says that nothing stands at a path
-- path_resolution(7), ENOENT and ENOTDIR
abbrev pub IsAbsence : ErrorKind → Type 0
IsAbsence kind = (kind ≡ NotFound) ⊎ (kind ≡ NotADirectory)

-- what an error of the system is here: want of memory where it is that, else a failure
-- malloc(3), ENOMEM; the two cases: profile
abbrev pub IsRefusalOf : Error → HostErr → Type 0
IsRefusalOf error refusal = (refusal ≡ Memory) ↔ (error_kind error ≡ OutOfMemory)
