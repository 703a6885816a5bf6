-- What an entry does, by who is found and how it stands to the futex list.
use Rattle.std.proofs.Common.{◌≡◌, ℕ, Bool, true, false, cond, List, Option, Some, ap}
use Rattle.std.proofs.Common.{sym, ◌∙◌, subst}
use Rattle.std.specs.Prelude.{Result}
use Rattle.sn_base.specs.declared.memory.Memory.{Memory}
use Rattle.futex_core.specs.Waiters.{FutexList, is_asleep, is_woken}
use Rattle.kernel_model.specs.declared.caller.Caller.{Caller}
use Rattle.kernel_model.specs.declared.entry.Entry.{Entry}
use Rattle.kernel_model.specs.declared.kernel.Kernel.{Kernel}
use Rattle.kernel_model.specs.calls.Callers.{context_of, caller_of}
use Rattle.kernel_model.specs.entries.Parts.{parts, outcome_in, Change}
use Rattle.kernel_model.specs.entries.Steps.{row_of, task_of, if_live, entry_row}
use Rattle.kernel_model.specs.entries.Waiting.{Wait, Awake, Asleep, Woken, wait_of}
use Rattle.kernel_model.proofs.Trees.{outcome-bind}
use Rattle.plain_steps.specs.Doing.{Does}

-- ---- the row of an entry

-- what is done over the kernel that is found as it was, of the row of who is found, the entry does
module _ (k kept : Kernel) (e : Entry) (number : ℕ) (found : Option Caller) (same : kept ≡ k) (of : number ≡ task_of e)
    (is : outcome_in (parts k) (caller_of number) ≡ found) where
  row_found : outcome_in (parts k) (entry_row (context_of k) e) ≡ outcome_in (parts k) (if_live (context_of k) e found)
  row_found =
      outcome-bind (parts k) (caller_of (task_of e)) (if_live (context_of k) e)
      ∙ ap (λ n. outcome_in (parts k) (if_live (context_of k) e (outcome_in (parts k) (caller_of n)))) (sym of)
      ∙ ap (λ o. outcome_in (parts k) (if_live (context_of k) e o)) is

  pub entry_does : (left : Kernel) (r : Result Bool Memory)
      → Does (outcome_in (parts kept) (if_live (context_of kept) e found)) kept left r
      → Does (outcome_in (parts k) (entry_row (context_of k) e)) k left r
  entry_does left r does =
      subst (λ (o : Option (List Change)). Does o k left r) (sym row_found)
      (subst (λ (x : Kernel). Does (outcome_in (parts x) (if_live (context_of x) e found)) x left r) same does)

-- ---- how a task stands to the futex list

module _ (list : FutexList) (task : ℕ) (not_asleep : is_asleep list task ≡ false) where
  waits_by : (b : Bool) → is_woken list task ≡ b → wait_of list task ≡ cond b Woken Awake
  waits_by b is =
      ap (λ a. cond a Asleep (cond (is_woken list task) Woken Awake)) not_asleep ∙ ap (λ w. cond w Woken Awake) is

  pub woken_so : is_woken list task ≡ true → wait_of list task ≡ Woken
  woken_so is = waits_by true is

  pub awake_so : is_woken list task ≡ false → wait_of list task ≡ Awake
  awake_so is = waits_by false is

-- what an entry of a live task does, the entry does
pub entry_found : (k kept left : Kernel) (e : Entry) (number : ℕ) (c : Caller) (r : Result Bool Memory) → kept ≡ k
    → number ≡ task_of e → outcome_in (parts k) (caller_of number) ≡ Some c
    → Does (outcome_in (parts kept) (row_of (context_of kept) e c (wait_of kept.sleepers c.task))) kept left r
    → Does (outcome_in (parts k) (entry_row (context_of k) e)) k left r
entry_found k kept left e number c r same of some does =
    entry_does k kept e number (Some c) same of some left r does

-- and what it does by how its task stands to the futex list
pub row_waiting : (k left : Kernel) (e : Entry) (c : Caller) (wait : Wait) (r : Result Bool Memory)
    → wait_of k.sleepers c.task ≡ wait → Does (outcome_in (parts k) (row_of (context_of k) e c wait)) k left r
    → Does (outcome_in (parts k) (row_of (context_of k) e c (wait_of k.sleepers c.task))) k left r
row_waiting k left e c wait r is does =
    subst (λ w. Does (outcome_in (parts k) (row_of (context_of k) e c w)) k left r) (sym is) does
