-- Why questions have no answers, and walks are refused.
use Rattle.std.specs.Prelude.{◌≡◌, ◌<◌, Bool, true, false, Result, Ok, Err, ⊤}
use Rattle.path_walk.specs.declared.error.DirErr.{DirErr}
use Rattle.path_walk.specs.declared.error.DirErr.TheVariants.{Host, Numbers, Memory}
use Rattle.path_walk.specs.declared.error.WalkErr.{WalkErr}
use Rattle.path_walk.specs.declared.error.WalkErr.TheVariants.{Host as HostFails, Numbers as NumbersEnd}
use Rattle.path_walk.specs.declared.error.WalkErr.TheVariants.{Memory as MemoryLacks}

-- a walk is refused for what a question met
-- profile
abbrev pub passed_on : DirErr → WalkErr
passed_on Host = HostFails
passed_on (Numbers ino) = NumbersEnd ino
passed_on Memory = MemoryLacks

-- the host failed at a question
-- profile
abbrev pub host_failed : {A : Type 0} → Result A DirErr → Bool
host_failed (Ok a) = false
host_failed (Err Host) = true
host_failed (Err (Numbers ino)) = false
host_failed (Err Memory) = false

-- a number that is told as drawn is above the last that a node may have
-- profile
abbrev pub HasDrawn : DirErr → Type 0
HasDrawn Host = ⊤
HasDrawn (Numbers ino) = 65536 < ino
HasDrawn Memory = ⊤

-- a question had no answer for want of memory
-- malloc(3), ENOMEM
abbrev pub LacksMemory : {A : Type 0} → Result A DirErr → Type 0
LacksMemory result = result ≡ Err Memory
