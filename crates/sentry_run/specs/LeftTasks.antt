-- Whose calls may have met a fault, or drawn a number, that no entry of the trace has.
use Rattle.std.specs.Prelude.{◌≡◌, ◌≢◌, ◌⊎◌, ℕ, List, ◌∷◌, ◌++◌, length, Bool, true, false, Option, Some, None}
use Rattle.kernel_model.specs.declared.entry.Entry.{Entry}
use Rattle.task_table.specs.Table.{is_live}
use Rattle.kernel_model.specs.declared.caller.Caller.{Caller}
use Rattle.kernel_model.specs.declared.kernel.Kernel.{Kernel}
use Rattle.kernel_model.specs.declared.traps.Next.{Next}
use Rattle.kernel_model.specs.declared.traps.Next.TheVariants.{Goes, Calls, Traps, Touches}
use Rattle.kernel_model.specs.calls.Callers.{caller_of}
use Rattle.kernel_model.specs.entries.History.{replay}
use Rattle.kernel_model.specs.entries.Areas.{Stands, next_row}
use Rattle.kernel_model.specs.entries.Parts.{parts, Prog, done, outcome_in, ◌>>=◌}
use Rattle.kernel_model.specs.entries.Steps.{step, task_of}

-- the next instruction is a system call
-- RISC-V Unprivileged ISA 20191213, 2.8, ECALL
abbrev pub is_call : Next → Bool
is_call Calls = true
is_call Goes = false
is_call (Traps signal) = false
is_call (Touches area) = false

abbrev pub calls_next : Option Caller → Prog Bool
calls_next None = done false
calls_next (Some c) = next_row c >>= λ (s : Stands). done (is_call s.next)

-- a task lives and stands at a system call
-- RISC-V Unprivileged ISA 20191213, 2.8, ECALL
abbrev pub stands_at_call : Kernel → ℕ → Bool
stands_at_call k task = outcome_in (parts k) (caller_of task >>= calls_next)

-- an entry of another task ended a task that stood at a system call, or took it from that call
-- exit_group(2); profile
pub record IsTaken (start : Kernel) (trace : List Entry) (task : ℕ) : Type 0 where
  pub front : List Entry
  pub entry : Entry
  pub rest : List Entry
  pub trace_is : trace ≡ front ++ entry ∷ rest
  pub before : Kernel
  pub before_is : replay start front ≡ Some before
  pub stood : stands_at_call before task ≡ true
  pub by_another : task_of entry ≢ task
  pub after : Kernel
  pub after_is : step before entry ≡ Some after
  pub taken : stands_at_call after task ≡ false

-- a task whose rises no entry may have: one that another's entry took from its call, or, where the trace is full, one
-- that lives in the state that it leaves
-- profile
abbrev pub MayBeLeft : (entries : ℕ) → (start : Kernel) → List Entry → (state : Kernel) → ℕ → Type 0
MayBeLeft entries start trace state task =
    IsTaken start trace task ⊎ ((length trace ≡ entries) × (is_live state.tasks.tasks task ≡ true))
