-- What a client reads of an answer: a value, the server's errno, or that the bytes are no answer.
use Rattle.std.specs.Prelude.{◌≡◌, ◌↔◌, ⊤, ℕ, Bool, true, false, List, [], ◌∷◌, Result, Ok, Err}
use Rattle.lisafs_wire.specs.Fields.{Num}
use Rattle.lisafs_wire.specs.Messages.{plain}
use Rattle.lisafs_wire.specs.Spelling.{Message}
use Rattle.lisafs_session.specs.declared.refusal.Refusal.{Refusal}
use Rattle.lisafs_session.specs.declared.refusal.Refusal.TheVariants as refusals
use Rattle.lisafs_session.specs.declared.refusal.ListError.{ListError}
use Rattle.lisafs_session.specs.declared.refusal.ListError.TheVariants as errors
use Rattle.lisafs_session.specs.Operations.{IsReplyTo, Operation}
use Rattle.lisafs_session.specs.Spelled.{Spells}

-- the bytes are no answer of that operation
-- profile
abbrev pub HasNoReply : Operation → List ℕ → Type 0
HasNoReply operation bytes = (answer : Message) → IsReplyTo operation answer → Spells bytes answer → ⊥

-- an errno that is told is that of the error which the bytes spell
-- errno(3)
abbrev pub IsErrnoOf : List ℕ → Refusal → Type 0
IsErrnoOf bytes (refusals.Errno errno) = Spells bytes (plain 32768 (Num errno ∷ []))
IsErrnoOf bytes refusals.Mismatch = ⊤

abbrev pub TellsErrno : {A : Type 0} → List ℕ → Result A Refusal → Type 0
TellsErrno bytes (Ok x) = ⊤
TellsErrno bytes (Err refusal) = IsErrnoOf bytes refusal

-- a mismatch is told, and nothing else
-- profile
abbrev pub is_no_answer : Refusal → Bool
is_no_answer (refusals.Errno errno) = false
is_no_answer refusals.Mismatch = true

abbrev pub is_mismatch : {A : Type 0} → Result A Refusal → Bool
is_mismatch (Ok x) = false
is_mismatch (Err refusal) = is_no_answer refusal

-- the same of an answer that is a list, where want of memory tells nothing of the bytes
-- malloc(3), ENOMEM
abbrev pub IsListErrnoOf : List ℕ → ListError → Type 0
IsListErrnoOf bytes (errors.Refused refusal) = IsErrnoOf bytes refusal
IsListErrnoOf bytes errors.Memory = ⊤

abbrev pub TellsListErrno : {A : Type 0} → List ℕ → Result A ListError → Type 0
TellsListErrno bytes (Ok x) = ⊤
TellsListErrno bytes (Err e) = IsListErrnoOf bytes e

-- a mismatch is told exactly where the bytes are no answer of the operation, unless memory ran out
-- malloc(3), ENOMEM
abbrev pub IsMismatchOf : Operation → List ℕ → ListError → Type 0
IsMismatchOf operation bytes (errors.Refused refusal) = (is_no_answer refusal ≡ true) ↔ HasNoReply operation bytes
IsMismatchOf operation bytes errors.Memory = ⊤

abbrev pub TellsMismatch : {A : Type 0} → Operation → List ℕ → Result A ListError → Type 0
TellsMismatch operation bytes (Ok x) = (false ≡ true) ↔ HasNoReply operation bytes
TellsMismatch operation bytes (Err e) = IsMismatchOf operation bytes e
