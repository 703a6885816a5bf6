-- What of a host's answers counts as a failure.
use Rattle.std.specs.Prelude.{Bool, true, false, Result, Ok, Err}
use Rattle.host_node.specs.declared.error.HostErr.{HostErr}
use Rattle.host_node.specs.declared.error.HostErr.TheVariants.{Failed, Memory}

-- a call answered that the host failed
-- errno(3): any error but want of memory on this side
abbrev pub host_failed : {A : Type 0} → Result A HostErr → Bool
host_failed (Ok _) = false
host_failed (Err Failed) = true
host_failed (Err Memory) = false
