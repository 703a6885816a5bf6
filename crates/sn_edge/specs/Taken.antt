-- The bytes that a sink took, where they are told.
use Rattle.std.specs.Prelude.{ℕ, List, ◌++◌, Option, Some, None}

-- What is told once more bytes were taken. What isn't told stays so.
-- write(2), DESCRIPTION, at the end of a stream
abbrev pub with_taken : Option (List ℕ) → List ℕ → Option (List ℕ)
with_taken None bytes = None
with_taken (Some taken) bytes = Some (taken ++ bytes)
