-- The errors of a source and a sink, as facts of a result.
use Rattle.std.specs.Prelude.{Bool, true, false, Result, Ok, Err}
use Rattle.sn_edge.specs.declared.error.EdgeErr.{EdgeErr}
use Rattle.sn_edge.specs.declared.error.EdgeErr.TheVariants.{Failed, Memory}

-- The error is a failure of the outside, and not want of memory.
-- errno(3): ENOMEM, or any other
abbrev pub is_failure : EdgeErr → Bool
is_failure Failed = true
is_failure Memory = false

-- The call answered that the outside failed.
-- errno(3)
abbrev pub has_failed : {T : Type 0} → Result T EdgeErr → Bool
has_failed (Ok x) = false
has_failed (Err e) = is_failure e
