-- What a task has ahead of it.
use Rattle.std.specs.Prelude.{ℕ, pos, Option, Some, None}
use Rattle.kernel_model.specs.declared.caller.Caller.{Caller}
use Rattle.kernel_model.specs.declared.kernel.Part.TheVariants.{OfSleepers}
use Rattle.kernel_model.specs.declared.traps.Next.{Next}
use Rattle.kernel_model.specs.declared.traps.Next.TheVariants.{Goes, Calls, Traps, Touches}
use Rattle.kernel_model.specs.calls.Answers.{Answer, RowReply, Replies, Sleeps, NotReady}
use Rattle.kernel_model.specs.calls.Callers.{Context, caller_of}
use Rattle.kernel_model.specs.calls.Table.{call_row}
use Rattle.kernel_model.specs.entries.Areas.{Stands, next_row}
use Rattle.kernel_model.specs.entries.Parts.{Prog, done, look, ◌>>=◌}
use Rattle.kernel_model.specs.entries.Waiting.{Wait, Awake, Asleep, Woken, wait_of}
use Rattle.kernel_model.specs.machine.Registers.{args_of, call_of}
use Rattle.kernel_calls.specs.declared.prepared.Called.{Called as ACalled}
use Rattle.kernel_calls.specs.declared.prepared.Called.TheVariants as called
use Rattle.call_fs.specs.declared.call_end.CallEnd.{CallEnd}
use Rattle.call_fs.specs.declared.call_end.CallEnd.TheVariants.{Of, Moves, MakesPipe}
use Rattle.plain_steps.specs.declared.ahead.Ahead.{Ahead}
use Rattle.plain_steps.specs.declared.ahead.Ahead.TheVariants as ahead

-- what a call of a row comes to: its reply, or that it puts its task to sleep, or that it waits
-- syscall(2); futex(2), FUTEX_WAIT; wait4(2)
abbrev pub replied_so : RowReply → Ahead
replied_so (Replies value) = ahead.Replies value
replied_so Sleeps = ahead.Sleeps
replied_so NotReady = ahead.Waits

-- what a task has ahead of it that is not on the futex list: it runs, or its call comes to what the row of that call
-- says, or a signal ends its group
-- RISC-V Unprivileged ISA 20191213, 2.8; syscall(2), riscv; signal(7), Term
abbrev pub ahead_at : Context → Caller → Next → Prog Ahead
ahead_at context c Goes = done ahead.Runs
ahead_at context c Calls =
    call_row context c (call_of c.registers) (args_of c.registers)
    >>= λ (answer : Answer). done (replied_so answer.reply)
ahead_at context c (Traps signal) = done (ahead.Ends signal)
ahead_at context c (Touches area) = done ahead.Nothing

abbrev pub ahead_in_row : Context → Caller → Prog Ahead
ahead_in_row context c = next_row c >>= λ (s : Stands). ahead_at context c s.next

-- a task that sleeps has nothing ahead of it, and one that was woken the reply 0 of the call that it slept in
-- futex(2), RETURN VALUE, FUTEX_WAIT
abbrev pub ahead_of : Context → Caller → Wait → Prog Ahead
ahead_of context c Awake = ahead_in_row context c
ahead_of context c Asleep = done ahead.Nothing
ahead_of context c Woken = done (ahead.Replies (pos 0))

-- a task that does not live has nothing ahead of it
-- profile
abbrev pub ahead_if_live : Context → Option Caller → Prog Ahead
ahead_if_live context None = done ahead.Nothing
ahead_if_live context (Some c) = look OfSleepers (λ list. ahead_of context c (wait_of list c.task))

abbrev pub ahead_row : Context → (task : ℕ) → Prog Ahead
ahead_row context task = caller_of task >>= ahead_if_live context

-- what a call has come to, where that is the number of the next task
-- syscall(2); clone(2), RETURN VALUE
abbrev pub told_of : ACalled → (next : ℕ) → Ahead
told_of (called.Replies p) next = ahead.Replies p.reply
told_of (called.Makes child) next = ahead.Replies (pos next)
told_of (called.Sleeps key) next = ahead.Sleeps
told_of (called.Waits awaited) next = ahead.Waits

abbrev pub told_by : CallEnd → (next : ℕ) → Ahead
told_by (Of d) next = told_of d next
told_by (Moves reply transfer) next = ahead.Replies reply
told_by (MakesPipe new) next = ahead.Replies (pos 0)
