-- The least of those that are looked at and of those that were woken.
use Rattle.std.proofs.Common.{◌≡◌, ℕ, true, false, cond, ap, subst, ◌∙◌, arith}
use Rattle.std.specs.Prelude.{None, is_some}
use Rattle.std.specs.FinMap as map
use Rattle.sn_base.specs.MapKeys as keys
use Rattle.futex_core.specs.Waiters.{EachOnce, FutexList, is_woken}
use Rattle.futex_core.specs.Least as least
use Rattle.futex_core.proofs.OnList.{woken_once}
use Rattle.kernel_model.specs.entries.Waiting.{Asleep, Awake, Woken, wait_of}
use Rattle.proc_cells.specs.declared.cells.Cells.{Cells}
use Rattle.parked_tasks.specs.declared.parking.Parking.{Parking}
use Rattle.call_table.specs.Schedules.{MayNotTurn}
use Rattle.call_table.proofs.schedule.Schedule.next_above.Goals as goal

woken_is : (list : FutexList) (task : ℕ) → EachOnce list → is_woken list task ≡ true → wait_of list task ≡ Woken
woken_is list task once woken =
    ap (λ b. cond b Asleep (cond (is_woken list task) Woken Awake)) (woken_once list task once woken)
    ∙ ap (λ b. cond b Woken Awake) woken

module _ (cells : Cells) (parking : Parking) (after : ℕ) where
  neither : (task : ℕ) → map.get parking.awake task ≡ None → is_woken cells.sleepers task ≡ false
      → MayNotTurn cells parking task
  neither task awake woken = record { awake = ap is_some awake; woken = woken }

pub returns-in-None-Some : goal.returns-in-None-Some
returns-in-None-Some c =
    let cells = c.args.self.now.cells in
    let none = subst (keys.IsLeastAbove c.args.self.now.parking.awake c.args.after) c.in-None-Some.is-0
    c.first_above-awake.ensures in
    let woken = subst (least.IsNextAmong cells.sleepers.woken c.args.after) c.in-None-Some.is-1
    c.woken_above-woken.ensures.least in (
      woken.0,
      woken_is cells.sleepers c.in-None-Some.task c.woken_above-woken.ensures.once woken.1,
      λ task high low.
          neither cells c.args.self.now.parking c.args.after task (none task high) (woken.2 task high low),
    )

pub returns-in-Some-Some : goal.returns-in-Some-Some
returns-in-Some-Some c =
    let cells = c.args.self.now.cells in
    let awake = subst (keys.IsLeastAbove c.args.self.now.parking.awake c.args.after) c.in-Some-Some.is-0
    c.first_above-awake.ensures in
    let woken = subst (least.IsNextAmong cells.sleepers.woken c.args.after) c.in-Some-Some.is-1
    c.woken_above-woken.ensures.least in (
      woken.0,
      woken_is cells.sleepers c.in-Some-Some.task c.woken_above-woken.ensures.once woken.1,
      λ task high low.
          neither cells c.args.self.now.parking c.args.after task
          (awake.2 task high (omega (arith, low, c.if-task-awake.true))) (woken.2 task high low),
    )
