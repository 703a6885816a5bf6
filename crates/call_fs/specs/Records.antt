-- The buffers of a call whose records lie in memory.
use Rattle.std.specs.Prelude.{◌≡◌, ℕ, ◌≤◌, ◌^◌, ◌-◌, List, [], ◌∷◌, ◌++◌, take, Bool, true, false, Option, Some, None}
use Rattle.pipe_core.specs.Pipes.{PipeState, after_write}
use Rattle.stat_layout.specs.IoVecs.{total_of}
use Rattle.stat_layout.specs.declared.iovec.IoVec.{IoVec}
use Rattle.kernel_model.specs.declared.kernel.Kernel.{Kernel}
use Rattle.kernel_model.specs.calls.Answers.{Answer, refuses}
use Rattle.kernel_model.specs.entries.Parts.{Prog, outcome_in, parts}
use Rattle.call_fs.specs.declared.vectors.Buffers.{Buffers}
use Rattle.call_fs.specs.declared.vectors.Buffers.TheVariants.{One, Several}
use Rattle.call_fs.specs.declared.vectors.Vectors.{Vectors}
use Rattle.call_fs.specs.declared.vectors.Vectors.TheVariants.{Refused, Found}

-- a row with buffers that are looked for is refused with an error, or goes on with those that were found
-- readv(2), ERRORS: EINVAL, EFAULT
abbrev pub GoesOnWith : (whole : Prog Answer) → (List IoVec → Prog Answer) → Vectors → Kernel → Type 0
GoesOnWith whole row (Refused errno) k = outcome_in (parts k) whole ≡ refuses errno
GoesOnWith whole row (Found buffers) k = outcome_in (parts k) whole ≡ outcome_in (parts k) (row buffers)

-- the buffers have no more bytes than a call can answer
-- readv(2), ERRORS, EINVAL: the sum of the iov_len values overflows an ssize_t
abbrev pub IsCountable : Vectors → Type 0
IsCountable (Refused errno) = Unit
IsCountable (Found buffers) = total_of buffers ≤ 2 ^ 63 - 1

-- the buffers of a call
-- write(2), writev(2)
abbrev pub buffers_in : Buffers → List IoVec
buffers_in (One buffer) = buffer ∷ []
buffers_in (Several buffers) = buffers

-- ---- bytes that come from them

-- so many of the first of their bytes were put behind those of a pipe, or one of them may not be read
-- writev(2), EFAULT
abbrev pub SentEach : Option (List ℕ) → Bool → (taken : ℕ) → (old new : PipeState) → Type 0
SentEach None sent taken old new = sent ≡ false
SentEach (Some bytes) sent taken old new = (sent ≡ true) × (new ≡ after_write old (take taken bytes))

-- their bytes were put behind others, or one of them may not be read
-- writev(2), EFAULT
abbrev pub AppendedEach : Option (List ℕ) → Bool → (old new : List ℕ) → Type 0
AppendedEach None appended old new = appended ≡ false
AppendedEach (Some bytes) appended old new = (appended ≡ true) × (new ≡ old ++ bytes)
