-- getrandom.
use Rattle.std.specs.Prelude.{ℕ, ◌%◌, ◌^◌, nat_lt, min, if◌then◌else◌}
use Rattle.sn_errno.specs.declared.errno.Errno.TheVariants.{EINVAL}
use Rattle.kernel_model.specs.declared.caller.Caller.{Caller}
use Rattle.kernel_model.specs.declared.limits.TheConstants.{MOST_RANDOM}
use Rattle.kernel_model.specs.machine.Random.{random_at}
use Rattle.kernel_model.specs.calls.Answers.{Answer, refuses}
use Rattle.kernel_model.specs.calls.Buffers.{fills}
use Rattle.kernel_model.specs.calls.Callers.{Context}
use Rattle.kernel_model.specs.entries.Parts.{Prog, done}

-- getrandom(buffer, count, flags): the first of the random bytes of its entry's place, at most as many as one call
-- gives; flags are the low 32 bits
-- getrandom(2), NOTES; ERRORS: EINVAL, EFAULT; their order and the number: profile
abbrev pub getrandom_row : Context → (buffer count flags : ℕ) → Caller → Prog Answer
getrandom_row context buffer count flags c =
    if nat_lt 7 (flags % 2 ^ 32)
    then done (refuses EINVAL)
    else fills c buffer (random_at context.seed context.place (min count MOST_RANDOM)) (min count MOST_RANDOM)
