-- futex: a task sleeps on a word, or wakes those that do.
use Rattle.std.specs.Prelude.{ℕ, ◌%◌, ◌^◌, ◌==◌, ◌&&◌, ◌||◌, not, min, List, [], ◌∷◌, length, Bool, Option, Some, None}
use Rattle.std.specs.Prelude.{pos, if◌then◌else◌}
use Rattle.std.specs.Int.{from_le_bytes, w32}
use Rattle.futex_core.specs.declared.keys.FutexKey.{FutexKey}
use Rattle.futex_core.specs.Waiters.{after_sleep, after_wake, waiters_on}
use Rattle.sn_errno.specs.declared.errno.Errno.TheVariants.{EAGAIN, EFAULT, EINVAL, ENOSYS}
use Rattle.kernel_model.specs.declared.caller.Caller.{Caller}
use Rattle.kernel_model.specs.declared.kernel.Part.TheVariants.{OfSleepers}
use Rattle.kernel_model.specs.machine.FutexWords.{key_at}
use Rattle.kernel_model.specs.calls.Answers.{Answer, replies, refuses, sleeps}
use Rattle.kernel_model.specs.entries.Areas.{bytes_read}
use Rattle.kernel_model.specs.entries.Parts.{Prog, done, look, ◌>>=◌}

-- FUTEX_WAIT 0 and FUTEX_WAKE 1, each also with FUTEX_PRIVATE_FLAG 128, which is not looked at
-- futex(2), DESCRIPTION; the flag: profile
abbrev pub is_wait : (operation : ℕ) → Bool
is_wait operation = (operation == 0) || (operation == 128)

abbrev pub is_wake : (operation : ℕ) → Bool
is_wake operation = (operation == 1) || (operation == 129)

-- FUTEX_WAIT: where the word is the value that the task expects the task sleeps on it, behind all who do
-- futex(2), FUTEX_WAIT, EAGAIN
abbrev pub sleeps_on : (task : ℕ) → FutexKey → (word value : ℕ) → Prog Answer
sleeps_on task key word value =
    if word == value
    then look OfSleepers (λ list. done (sleeps ((OfSleepers, after_sleep list task key) ∷ [])))
    else done (refuses EAGAIN)

-- FUTEX_WAKE: the first who sleep on the word are woken, and how many they are is replied
-- futex(2), FUTEX_WAKE
abbrev pub wakes_on : FutexKey → (most : ℕ) → Prog Answer
wakes_on key most =
    look OfSleepers (λ list. done (replies (pos (min most (length (waiters_on list.sleepers key))))
    ((OfSleepers, after_wake list key most) ∷ [])))

-- what is done by a word that may be read, or not
-- futex(2), EFAULT
abbrev pub by_word : Caller → (address operation value : ℕ) → Option (List ℕ) → Prog Answer
by_word c address operation value None = done (refuses EFAULT)
by_word c address operation value (Some bytes) =
    if is_wait operation
    then sleeps_on c.task (key_at c.memory c.space address) (from_le_bytes w32 bytes) value
    else wakes_on (key_at c.memory c.space address) value

-- futex(address, operation, value, timeout): operation and value are the low 32 bits; no timeout is taken
-- futex(2), ERRORS: ENOSYS, EINVAL, EFAULT, EAGAIN; their order, and ENOSYS for a timeout: profile
abbrev pub futex_of : (address operation value timeout : ℕ) → Caller → Prog Answer
futex_of address operation value timeout c =
    if not (is_wait operation || is_wake operation) then done (refuses ENOSYS)
    else if not (address % 4 == 0) then done (refuses EINVAL)
    else if is_wait operation && not (timeout == 0) then done (refuses ENOSYS)
    else bytes_read c.space address 4 >>= by_word c address operation value

abbrev pub futex_row : (address operation value timeout : ℕ) → Caller → Prog Answer
futex_row address operation value timeout c = futex_of address (operation % 2 ^ 32) (value % 2 ^ 32) timeout c
