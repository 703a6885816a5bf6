-- Each opening task begins over the kernel that the one before it left, and the first that fails is told.
use Rattle.std.proofs.Common.{◌+◌, drop, refl, ap, sym, subst, ◌∙◌, arith}
use Rattle.std.proofs.lemmas.Result.{err_from_is_err_and}
use Rattle.task_table.specs.Table.{TaskTable}
use Rattle.kernel_model.specs.opening.Opening.{execve_of, made_by, root_of, tasks_begun}
use Rattle.kernel_model.specs.entries.Parts.{outcome_in, parts}
use Rattle.kernel_model.proofs.OpenedTasks.{AreOpened, opened_none, opened_more, may_open}
use Rattle.plain_kernel.proofs.BeginLemmas.{begun_at, no_record, next_may, next_misfits, refused_same}
use Rattle.plain_kernel.proofs.opening_tasks.begin_tasks.Goals as goal

pub loop-index-init : goal.loop-index-init
loop-index-init c =
    record { begun = refl; tasks = subst (λ (list : TaskTable). AreOpened 0 list) (sym c.requires.none) opened_none }

pub begin_task-requires-clause-room : goal.begin_task-requires-clause-room
begin_task-requires-clause-room c =
    may_open c.loop-index.index c.loop-index.kernel.tasks (omega arith) c.loop-index.invariant.tasks

pub returns-in_default-clause-refused : goal.returns-in_default-clause-refused
returns-in_default-clause-refused c =
    sym c.loop-index.invariant.begun
    ∙ no_record (c.loop-index.index + 1) c.args.programs.now c.args.opened.now c.loop-index.kernel
    c.loop-index.index c.loop-index-test.true c.in_default.ensures.lookup.3

pub returns-then-not-may_meet-clause-refused : goal.returns-then-not-may_meet-clause-refused
returns-then-not-may_meet-clause-refused c =
    sym c.loop-index.invariant.begun
    ∙ next_misfits (c.loop-index.index + 1) c.args.programs.now c.args.opened.now c.loop-index.kernel
    c.loop-index.index c.index-programs-index.result c.in-Some.one.now c.loop-index-test.true
    c.index-programs-index.is c.in-Some.ensures.lookup.3.0 c.in-Some.ensures.lookup.1
    (sym c.may_meet.ensures ∙ c.if-not-may_meet.true)

pub returns-in_err-begin_task-clause-refused : goal.returns-in_err-begin_task-clause-refused
returns-in_err-begin_task-clause-refused c =
    let p = err_from_is_err_and c.from_residual.result c.from_residual.ensures.1 in
    rw (p.1, p.2) (refused_same _ _ c.in_err-begin_task.field-0.0 (sym c.loop-index.invariant.begun
    ∙ next_may (c.loop-index.index + 1) c.args.programs.now c.args.opened.now c.loop-index.kernel
    c.loop-index.index c.index-programs-index.result c.in-Some.one.now c.loop-index-test.true
    c.index-programs-index.is c.in-Some.ensures.lookup.3.0 c.in-Some.ensures.lookup.1
    (sym c.may_meet.ensures ∙ c.if-not-may_meet.false)
    ∙ sym (begun_at (c.loop-index.kernel.tasks.last + 1) (c.loop-index.index + 1) c.index-programs-index.result
    c.loop-index.kernel (outcome_in (parts c.loop-index.kernel)
    (execve_of (root_of c.loop-index.kernel.mounts) c.index-programs-index.result c.in-Some.one.now.given))
    (tasks_begun (c.loop-index.index + 1 + 1) (drop (c.loop-index.index + 1) c.args.programs.now)
    (drop (c.loop-index.index + 1) c.args.opened.now)) (ap (λ n. n + 1) c.loop-index.invariant.tasks.last)))
    (c.in_err-begin_task.ensures.refused (tasks_begun (c.loop-index.index + 1 + 1)
    (drop (c.loop-index.index + 1) c.args.programs.now) (drop (c.loop-index.index + 1) c.args.opened.now))))

pub loop-index-preserved : goal.loop-index-preserved
loop-index-preserved c = record {
  begun =
      sym
      (c.in_ok-begin_task.ensures.ok (tasks_begun (c.loop-index.index + 1 + 1)
      (drop (c.loop-index.index + 1) c.args.programs.now) (drop (c.loop-index.index + 1) c.args.opened.now)))
      ∙ begun_at (c.loop-index.kernel.tasks.last + 1) (c.loop-index.index + 1) c.index-programs-index.result
      c.loop-index.kernel (outcome_in (parts c.loop-index.kernel)
      (execve_of (root_of c.loop-index.kernel.mounts) c.index-programs-index.result c.in-Some.one.now.given))
      (tasks_begun (c.loop-index.index + 1 + 1) (drop (c.loop-index.index + 1) c.args.programs.now)
      (drop (c.loop-index.index + 1) c.args.opened.now)) (ap (λ n. n + 1) c.loop-index.invariant.tasks.last)
      ∙ sym (next_may (c.loop-index.index + 1) c.args.programs.now c.args.opened.now
      c.loop-index.kernel c.loop-index.index c.index-programs-index.result c.in-Some.one.now c.loop-index-test.true
      c.index-programs-index.is c.in-Some.ensures.lookup.3.0 c.in-Some.ensures.lookup.1
      (sym c.may_meet.ensures ∙ c.if-not-may_meet.false))
      ∙ c.loop-index.invariant.begun;
  tasks =
      subst (λ (list : TaskTable). AreOpened (c.loop-index.index + 1) list) (sym c.in_ok-begin_task.ensures.tasks)
      (opened_more c.loop-index.index c.loop-index.kernel.tasks (made_by (c.loop-index.kernel.tasks.last + 1))
      (made_by (c.loop-index.kernel.tasks.last + 1)) (root_of c.begin_task.new.kernel.mounts) (omega arith)
      c.loop-index.invariant.tasks);
}
