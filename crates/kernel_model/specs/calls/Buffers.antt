-- Bytes that a call puts into its caller's buffer.
use Rattle.std.specs.Prelude.{ℕ, List, Option, Some, None, pos}
use Rattle.sn_errno.specs.declared.errno.Errno.TheVariants.{EFAULT}
use Rattle.sn_base.specs.declared.made.Made.{Made}
use Rattle.mm_space.specs.Spaces.{Reach}
use Rattle.kernel_model.specs.declared.caller.Caller.{Caller}
use Rattle.kernel_model.specs.calls.Answers.{Answer, replies, refuses}
use Rattle.kernel_model.specs.entries.Areas.{bytes_written, reach_changes}
use Rattle.kernel_model.specs.entries.Parts.{Prog, done, ◌>>=◌}

-- what is reached once the bytes were put, with the reply of the call, or a buffer of which a byte may not be written
-- read(2), EFAULT
abbrev pub filled : (memory : Made) → (reply : ℕ) → Option Reach → Answer
filled memory reply None = refuses EFAULT
filled memory reply (Some reach) = replies (pos reply) (reach_changes memory reach)

-- bytes are put from an address on, and the call replies a number; where one of them may not be written nothing is put
-- read(2), EFAULT
abbrev pub fills : Caller → (at : ℕ) → List ℕ → (reply : ℕ) → Prog Answer
fills c at bytes reply = bytes_written c.task c.space at bytes >>= λ reach. done (filled c.memory reply reach)
