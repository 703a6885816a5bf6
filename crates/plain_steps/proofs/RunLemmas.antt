-- Runs, single instructions and ends, piece by piece.
use Rattle.std.proofs.Common.{◌≡◌, ◌≢◌, ℕ, ◌<◌, ◌≤◌, Bool, false, cond, Some, None, ap, sym, ◌∙◌, subst, eq-eqb, arith}
use Rattle.std.specs.Prelude.{Result, List, Option}
use Rattle.std.specs.FinMap as map
use Rattle.std.specs.Ordering.{nat_cmp}
use Rattle.std.proofs.lemmas.Bool.{ne_eqb}
use Rattle.sn_base.specs.declared.memory.Memory.{Memory}
use Rattle.rv_table.specs.declared.registers.Regs.{Regs}
use Rattle.task_table.specs.declared.task.Status.TheVariants.{Killed}
use Rattle.mm_space.specs.Handed.{AreaState}
use Rattle.mm_space.specs.Spaces.{AddressSpace}
use Rattle.guest_access.proofs.Runs.{step_none}
use Rattle.guest_access.specs.Memories.{with_memory}
use Rattle.guest_access.specs.Stepping.{Steps}
use Rattle.kernel_model.specs.Names.{NamedMap}
use Rattle.kernel_model.specs.declared.caller.Caller.{Caller}
use Rattle.kernel_model.specs.declared.kernel.Kernel.{Kernel}
use Rattle.kernel_model.specs.declared.traps.Next.{Next}
use Rattle.kernel_model.specs.declared.traps.Next.TheVariants.{Traps}
use Rattle.kernel_model.specs.calls.Ending.{group_end}
use Rattle.kernel_model.specs.entries.Areas.{Stands, next_row}
use Rattle.kernel_model.specs.entries.Parts.{Change, parts, done, outcome_in, changed}
use Rattle.kernel_model.specs.entries.Steps.{end_at, end_row, killed, run_alone, step_row}
use Rattle.kernel_model.specs.laws.InPlace.{changed_by}
use Rattle.kernel_model.specs.machine.Instructions.{goes_on}
use Rattle.kernel_model.specs.machine.Spaces.{going_in}
use Rattle.kernel_model.proofs.Trees.{outcome-bind}
use Rattle.plain_steps.specs.Doing.{Does}

-- of one instruction that did not run, none ran
pub none_ran : (count n : ℕ) → count ≤ n → count ≢ n → n ≡ 1 → count < 1
none_ran count n within apart one = omega (arith, within, apart, one)

-- a task that has the registers and the address space that it had is as it was
pub same_task : (c : Caller) (r : Regs) (space : AddressSpace) → r ≡ c.registers → space ≡ c.space
    → record c { registers = r; space = space } ≡ c
same_task c r space registers own =
    ap (λ (x : Regs). record c { registers = x; space = space }) registers ∙ ap (λ s. record c { space = s }) own

pub same_caller : (c : Caller) (r : Regs) (space : AddressSpace)
    → going_in c.task space r ≡ going_in c.task c.space c.registers → record c { registers = r; space = space } ≡ c
same_caller c r space same = ap (λ g. record c { registers = g.registers; space = g.acting.reach.space }) same

module _ (c : Caller) (k : Kernel) (next : Next) (is : (outcome_in (parts k) (next_row c)).next ≡ next) where
  -- an instruction that does not go on is no step
  pub no_step : goes_on next ≡ false → run_alone 1 c ≡ None → outcome_in (parts k) (step_row c) ≡ None
  no_step stopped alone = step_none c (parts k) (ap goes_on is ∙ stopped) alone

  -- an end is by what the next instruction does
  pub end_is : (signal : ℕ)
      → outcome_in (parts k) (end_row signal c) ≡ outcome_in (parts k) (end_at signal c next)
  end_is signal =
      outcome-bind (parts k) (next_row c) (λ (x : Stands). end_at signal c x.next)
      ∙ ap (λ n. outcome_in (parts k) (end_at signal c n)) is

-- a task whose next instruction traps ends by that signal,
pub ends : (k left : Kernel) (c after : Caller) (trap signal : ℕ) (r : Result Bool Memory)
    → (outcome_in (parts k) (next_row c)).next ≡ Traps trap → trap ≡ signal → after ≡ c
    → Does (outcome_in (parts k) (killed signal after)) k left r
    → Does (outcome_in (parts k) (end_row signal c)) k left r
ends k left c after trap signal r is same task does =
    subst (λ o. Does o k left r)
    (sym (end_is c k (Traps trap) is signal
    ∙ ap (λ b. outcome_in (parts k) (cond b (killed signal c) (done None))) (eq-eqb trap signal same)))
    (subst (λ (x : Caller). Does (outcome_in (parts k) (killed signal x)) k left r) task does)

-- and by no other
pub ends_not : (c : Caller) (k : Kernel) (trap signal : ℕ)
    → (outcome_in (parts k) (next_row c)).next ≡ Traps trap → trap ≢ signal
    → outcome_in (parts k) (end_row signal c) ≡ None
ends_not c k trap signal is apart =
    end_is c k (Traps trap) is signal
    ∙ ap (λ b. outcome_in (parts k) (cond b (killed signal c) (done None))) (ne_eqb trap signal apart)

-- its end is that of its group
pub group_gone : (k left : Kernel) (c : Caller) (signal : ℕ)
    → changed (outcome_in (parts k) (group_end c (Killed signal))) k ≡ left
    → changed_by (outcome_in (parts k) (killed signal c)) k ≡ Some left
group_gone k left c signal is =
    ap (λ o. changed_by o k) (outcome-bind (parts k) (group_end c (Killed signal)) (λ cs. done (Some cs)))
    ∙ ap (λ m. Some m) is

-- a step leaves its task's registers and memory, and the shared areas
pub step_done : (c : Caller) (k left : Kernel) (r : Regs) (space : AddressSpace) (areas : NamedMap AreaState)
    (registers : map.FinMap nat_cmp Regs) → registers ≡ map.insert k.registers c.task r
    → left ≡ with_memory c space areas (record k { registers = registers }) → Steps c k r space areas
    → changed_by (outcome_in (parts k) (step_row c)) k ≡ Some left
step_done c k left r space areas registers set is steps =
    ap (λ o. changed_by o k) steps.row_is
    ∙ ap (λ m. Some m) (steps.done_is
    ∙ ap (λ m. record (with_memory c space areas k) { registers = m }) (sym set) ∙ sym is)

-- what is done over a kernel that was left as it was, is done over that
pub does_over : (k kept left : Kernel) (row : Kernel → Option (List Change)) (r : Result Bool Memory) → kept ≡ k
    → Does (row kept) kept left r → Does (row k) k left r
does_over k kept left row r same does = subst (λ (m : Kernel). Does (row m) m left r) same does
