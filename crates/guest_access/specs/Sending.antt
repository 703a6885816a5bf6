-- Bytes of a buffer that go into a pipe.
use Rattle.std.specs.Prelude.{◌≡◌, ℕ, Bool, true, false, List, take, Option, Some, None}
use Rattle.pipe_core.specs.Pipes.{PipeState, after_write}

-- the first bytes of a buffer were put behind those of a pipe, or the buffer could not be read and nothing was
-- write(2), EFAULT
abbrev pub Sent : Option (List ℕ) → Bool → (taken : ℕ) → (old new : PipeState) → Type 0
Sent None sent taken old new = (sent ≡ false) × (new ≡ old)
Sent (Some bytes) sent taken old new = (sent ≡ true) × (new ≡ after_write old (take taken bytes))
