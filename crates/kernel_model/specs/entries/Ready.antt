-- When a task's next step is ready.
use Rattle.std.specs.Prelude.{◌≡◌, ℕ, Bool, true, false, List, filter, Option, Some, None, is_some}
use Rattle.task_table.specs.Table.{live_numbers}
use Rattle.kernel_model.specs.declared.caller.Caller.{Caller}
use Rattle.kernel_model.specs.declared.entry.Entry.{Entry}
use Rattle.kernel_model.specs.declared.entry.Entry.TheVariants.{Run, Call, Sleep, End}
use Rattle.kernel_model.specs.declared.kernel.Kernel.{Kernel}
use Rattle.kernel_model.specs.declared.kernel.Part.TheVariants.{OfSleepers}
use Rattle.kernel_model.specs.declared.traps.Next.{Next}
use Rattle.kernel_model.specs.declared.traps.Next.TheVariants.{Goes, Calls, Traps, Touches}
use Rattle.kernel_model.specs.machine.Registers.{args_of, call_of}
use Rattle.kernel_model.specs.calls.Answers.{makes_entry}
use Rattle.kernel_model.specs.calls.Callers.{Context, context_of, caller_of}
use Rattle.kernel_model.specs.calls.Table.{call_row}
use Rattle.kernel_model.specs.entries.Areas.{Stands, next_row}
use Rattle.kernel_model.specs.entries.Given.{has_any}
use Rattle.kernel_model.specs.entries.Parts.{parts, Prog, done, look, outcome_in, ◌>>=◌}
use Rattle.kernel_model.specs.entries.Steps.{step, task_of}
use Rattle.kernel_model.specs.entries.Waiting.{Wait, Awake, Asleep, Woken, wait_of}

-- a live task's next step is ready: it is no call, or a call whose row replies or puts the task to sleep
-- profile
abbrev pub ready_by : Context → Caller → Next → Prog Bool
ready_by context c Goes = done true
ready_by context c (Traps signal) = done true
ready_by context c (Touches area) = done true
ready_by context c Calls =
    call_row context c (call_of c.registers) (args_of c.registers) >>= λ answer. done (makes_entry answer.reply)

-- one that sleeps has no step, and one that was woken has its call's
-- futex(2), FUTEX_WAIT
abbrev pub ready_as : Context → Caller → Wait → Prog Bool
ready_as context c Awake = next_row c >>= λ (s : Stands). ready_by context c s.next
ready_as context c Asleep = done false
ready_as context c Woken = done true

abbrev pub ready_if_live : Context → Option Caller → Prog Bool
ready_if_live context None = done false
ready_if_live context (Some c) = look OfSleepers (λ list. ready_as context c (wait_of list c.task))

abbrev pub ready_row : Context → (task : ℕ) → Prog Bool
ready_row context task = caller_of task >>= ready_if_live context

-- whether a task's next step is ready in a state
-- profile
abbrev pub is_ready : Kernel → (task : ℕ) → Bool
is_ready k task = outcome_in (parts k) (ready_row (context_of k) task)

-- the live tasks whose next step is ready, ascending
-- profile
abbrev pub ready_numbers : Kernel → List ℕ
ready_numbers k = filter (is_ready k) (live_numbers k.tasks.tasks)

-- ---- entries that fit

-- an entry has a rise: its call met a fault of a host
-- profile
abbrev pub has_rises : Entry → Bool
has_rises (Run task n) = false
has_rises (Call task call args given reply) = has_any given.rises
has_rises (Sleep task) = false
has_rises (End task signal) = false

-- a task has an entry without a rise that fits
-- profile
abbrev pub HasStep : Kernel → (task : ℕ) → Type 0
HasStep k task = (e : Entry) × (task_of e ≡ task) × (has_rises e ≡ false) × (is_some (step k e) ≡ true)
