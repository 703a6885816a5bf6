-- A task that may not have a turn has no step that is ready.
use Rattle.std.proofs.Common.{◌≡◌, ℕ, Bool, true, false, cond, refl, ap, sym, ◌∙◌}
use Rattle.std.specs.Prelude.{Option, Some, None, is_some, ◌&&◌, ◌||◌, not}
use Rattle.std.specs.FinMap as map
use Rattle.futex_core.specs.Waiters.{FutexList, is_asleep, is_woken}
use Rattle.task_table.specs.Table.{group_of, is_live}
use Rattle.kernel_model.specs.declared.caller.Caller.{Caller}
use Rattle.kernel_model.specs.declared.kernel.Kernel.{Kernel}
use Rattle.kernel_model.specs.calls.Callers.{caller_of, context_of, in_group}
use Rattle.kernel_model.specs.entries.Parts.{parts, done, outcome_in}
use Rattle.kernel_model.specs.entries.Ready.{ready_if_live}
use Rattle.kernel_model.specs.entries.Waiting.{Wait, Awake, Asleep, Woken, wait_of}
use Rattle.kernel_model.proofs.Trees.{outcome-bind}
use Rattle.proc_cells.specs.declared.cells.Cells.{Cells}
use Rattle.proc_cells.specs.Beside.{found_in}
use Rattle.proc_cells.specs.Cells.{caller_in, kernel_of}
use Rattle.parked_tasks.specs.Parking.{parked_at}
use Rattle.parked_tasks.specs.declared.used.Spot.{Spot}
use Rattle.parked_tasks.specs.declared.parking.Parking.{Parking}
use Rattle.call_table.specs.Entries.{ReadyIs}
use Rattle.call_table.specs.Schedules.{AreParked, MayNotTurn, is_off}
use Rattle.call_table.proofs.Parks.{parks_wait, ready_by_wait}

-- ---- one that doesn't live, and one that sleeps

module _ (p : Cells) (task : ℕ) where
  dead_waits : is_live p.tasks.tasks task ≡ false → ReadyIs p task false
  dead_waits dead = λ beside n.
      let k : Kernel = kernel_of p beside n in
      outcome-bind (parts k) (caller_of task) (ready_if_live (context_of k))
      ∙ ap (λ o. outcome_in (parts k) (ready_if_live (context_of k) o))
      (ap (λ b. outcome_in (parts k) (cond b (in_group task (group_of p.tasks.tasks task)
      (map.get p.tasks.groups (group_of p.tasks.tasks task))) (done None))) dead)

  asleep_waits : (c : Caller) → caller_in p task ≡ Some c → wait_of p.sleepers task ≡ Asleep → ReadyIs p task false
  asleep_waits c found asleep = λ beside n. ready_by_wait p task c Asleep found asleep beside n

-- ---- off the futex list

pub off_awake : (list : FutexList) (task : ℕ) → is_off list task ≡ true → wait_of list task ≡ Awake
off_awake list task e = by (is_asleep list task) (is_woken list task) refl refl e
  where
    by : (b d : Bool) → is_asleep list task ≡ b → is_woken list task ≡ d → (not b && not d) ≡ true
        → cond b Asleep (cond d Woken Awake) ≡ Awake
    by true d asleep woken f = absurd (cc f)
    by false true asleep woken f = absurd (cc f)
    by false false asleep woken f = refl

pub awake_off : (list : FutexList) (task : ℕ) → wait_of list task ≡ Awake → is_off list task ≡ true
awake_off list task e = by (is_asleep list task) (is_woken list task) refl refl e
  where
    by : (b d : Bool) → is_asleep list task ≡ b → is_woken list task ≡ d
        → cond b Asleep (cond d Woken Awake) ≡ Awake → (not b && not d) ≡ true
    by true d asleep woken f = absurd (cc f)
    by false true asleep woken f = absurd (cc f)
    by false false asleep woken f = refl

-- ---- a task that may not have a turn has no step that is ready

module _ (p : Cells) (parking : Parking) (parked : AreParked p parking) (task : ℕ)
    (may_not : MayNotTurn p parking task) where
  covered : (b : Bool) (o : Option Spot) → map.contains_key parking.awake task ≡ b → parked_at parking task ≡ o
      → (b || is_some o) ≡ true → ReadyIs p task false
  covered true o looked_at kept e = absurd (cc (looked_at, may_not.awake))
  covered false None looked_at kept e = absurd (cc e)
  covered false (Some spot) looked_at kept e = parks_wait p task spot (parked.parked task spot kept)

  by_wait : (wait : Wait) → wait_of p.sleepers task ≡ wait → is_live p.tasks.tasks task ≡ true → ReadyIs p task false
  by_wait Awake is live =
      covered (map.contains_key parking.awake task) (parked_at parking task) refl refl (parked.covers task live is)
  by_wait Asleep is live = by (found_in p.tasks p.registers p.spaces task) refl (p.at_home task live)
    where
      by : (o : Option Caller) → caller_in p task ≡ o → is_some o ≡ true → ReadyIs p task false
      by None found there = absurd (cc there)
      by (Some c) found there = asleep_waits p task c found is
  by_wait Woken is live = absurd (none (is_asleep p.sleepers task) is)
    where
      none : (b : Bool) → cond b Asleep (cond (is_woken p.sleepers task) Woken Awake) ≡ Woken → ⊥
      none true e = cc e
      none false e =
          let f : cond false Woken Awake ≡ Woken = sym (ap (λ d. cond d Woken Awake) may_not.woken) ∙ e in cc f

  pub not_ready : ReadyIs p task false
  not_ready = by_life (is_live p.tasks.tasks task) refl
    where
      by_life : (b : Bool) → is_live p.tasks.tasks task ≡ b → ReadyIs p task false
      by_life true live = by_wait (wait_of p.sleepers task) refl live
      by_life false dead = dead_waits p task dead
