-- The clock, and the processor given up: clock_gettime and sched_yield.
use Rattle.std.specs.Prelude.{ℕ, ◌*◌, ◌/◌, ◌%◌, nat_lt, List, [], ◌++◌, pos, if◌then◌else◌}
use Rattle.std.specs.Int.{to_le_bytes, w64}
use Rattle.sn_errno.specs.declared.errno.Errno.TheVariants.{EINVAL}
use Rattle.kernel_model.specs.declared.caller.Caller.{Caller}
use Rattle.kernel_model.specs.calls.Answers.{Answer, replies, refuses}
use Rattle.kernel_model.specs.calls.Buffers.{fills}
use Rattle.kernel_model.specs.calls.Callers.{Context}
use Rattle.kernel_model.specs.entries.Parts.{Prog, done}

-- the time of an entry, in nanoseconds: 1,000 for each place
-- profile
abbrev pub time_at : (place : ℕ) → ℕ
time_at place = 1000 * place

-- nanoseconds as whole seconds and the nanoseconds beside them, each in 8 bytes, the lowest first
-- clock_gettime(2), struct timespec
abbrev pub timespec : (nanoseconds : ℕ) → List ℕ
timespec nanoseconds =
    to_le_bytes w64 (nanoseconds / 1000000000) ++ to_le_bytes w64 (nanoseconds % 1000000000)

-- clock_gettime(id, buffer): the time of its entry, by CLOCK_REALTIME 0 and CLOCK_MONOTONIC 1 alike
-- clock_gettime(2), ERRORS: EINVAL, EFAULT; their order, and that the whole register is looked at: profile
abbrev pub clock_gettime_row : Context → (id buffer : ℕ) → Caller → Prog Answer
clock_gettime_row context id buffer c =
    if nat_lt 1 id then done (refuses EINVAL) else fills c buffer (timespec (time_at context.place)) 0

-- sched_yield(): which task goes on is no matter of the call
-- sched_yield(2); profile
abbrev pub sched_yield_row : Prog Answer
sched_yield_row = done (replies (pos 0) [])
