-- Before the first task nothing has begun, and each task finds the folder as a grant.
use Rattle.std.proofs.Common.{◌≡◌, ◌+◌, [], ap, sym, ◌∙◌, subst, length, refl}
use Rattle.std.specs.Prelude.{Some}
use Rattle.host_node.specs.Tree.{Shape}
use Rattle.task_table.specs.Table.{TaskTable}
use Rattle.kernel_model.proofs.OpenedTasks.{AreOpened, opened_none}
use Rattle.kernel_model.specs.opening.Opening.{bare}
use Rattle.image_walk.specs.declared.granted.Numbering.{Numbering}
use Rattle.image_walk.specs.Granted.{told_of}
use Rattle.image_walk.specs.Standing.{IsNumbering, StandsLent}
use Rattle.image_walk.specs.Walking.{TellNothing}
use Rattle.run_opening.specs.Openings.{beside_of}
use Rattle.run_opening.specs.Trees.{trees_with}
use Rattle.run_opening.proofs.Beginning.{are_numbering}
use Rattle.run_opening.proofs.InOrder.{begun_none, goes_on, still_grant, stops_then}
use Rattle.run_opening.proofs.Recording.{record_none}
use Rattle.run_opening.proofs.opening.open_tasks.Goals as goal

pub loop-index-init : goal.loop-index-init
loop-index-init g c =
    let told = g.N.HostNode.told in
    let stands = λ (t : Shape) (e : told c.args.granted.now.root ≡ Some t).
    subst (λ (num : Numbering). StandsLent num t [] [] (told c.args.granted.now.root)
    (told_of told c.args.granted.now.lent.items)) c.requires.numbers (c.requires.stands t e) in
    record {
      same = refl;
      opened = subst (λ (list : TaskTable). AreOpened 0 list) (sym c.new-processes.ensures.none) opened_none;
      record_so_far =
          record_none c.args.mounts.now c.args.tasks.now.items (length c.args.granted.now.lent.items) c.requires.none
          (ap length c.requires.lent);
      silent = λ e. (e, subst (λ ls. TellNothing (told_of told ls)) (sym c.requires.lent) tt);
      stands = λ t e. record { names = []; stands = stands t e };
      begun = λ others t are e.
          begun_none c.args.mounts.now others t c.new-processes.result (told c.args.granted.now.root)
          (told_of told c.args.granted.now.lent.items) c.args.tasks.now.items are (stands t e)
          (λ nodes. c.new-processes.ensures.begun (beside_of c.args.mounts.now nodes) 0);
    }

pub open_task-requires-clause-grant : goal.open_task-requires-clause-grant
open_task-requires-clause-grant g c κs within =
    let told = g.N.HostNode.told in
    still_grant c.loop-index.granted.numbers (told c.args.granted.now.root) (told c.loop-index.granted.root)
    (told_of told c.loop-index.granted.lent.items) c.requires.root c.loop-index.invariant.silent
    (λ t e. let h = c.loop-index.invariant.stands t e in (
      h.names,
      subst (λ (num : Numbering). StandsLent num t h.names [] (told c.loop-index.granted.root)
          (told_of told c.loop-index.granted.lent.items))
          (sym (c.loop-index.invariant.same ∙ c.requires.numbers)) h.stands,
    ))

pub open_task-requires-clause-numbers : goal.open_task-requires-clause-numbers
open_task-requires-clause-numbers g c κs within = c.loop-index.invariant.same ∙ c.requires.numbers

pub open_task-requires-clause-known : goal.open_task-requires-clause-known
open_task-requires-clause-known g c κs within =
    subst IsNumbering (sym (c.loop-index.invariant.same ∙ c.requires.numbers))
    (are_numbering c.args.mounts.now c.requires.form)

pub loop-index-preserved : goal.loop-index-preserved
loop-index-preserved g c =
    let told = g.N.HostNode.told in
    let e = c.in_ok-more.ensures in
    let before = c.loop-index.invariant in
    record {
      same = e.same ∙ before.same;
      opened = e.opened;
      record_so_far = e.record;
      silent = λ n. e.silent (before.silent n);
      stands = λ t tells. e.stands t (before.stands t tells);
      begun = λ others t are tells.
          goes_on c.args.mounts.now c.loop-index.index (c.loop-index.index + 1) c.args.tasks.now.items
          c.loop-index.tasks.items c.open_task.new.tasks.items (bare c.args.mounts.now (trees_with others t)) _ _
          (before.begun others t are tells)
          (e.begun others are);
    }

pub returns-in_err-more-clause-stopped : goal.returns-in_err-more-clause-stopped
returns-in_err-more-clause-stopped g c =
    let told = g.N.HostNode.told in
    stops_then c.args.mounts.now c.loop-index.index c.args.tasks.now.items c.loop-index.tasks.items
    c.open_task.new.tasks.items
    c.loop-index.processes (told c.args.granted.now.root) (told c.loop-index.granted.root)
    (told c.open_task.new.granted.root) (told_of told c.loop-index.granted.lent.items)
    (told_of told c.open_task.new.granted.lent.items) c.from_residual.result c.in_err-more.field-0.0
    c.from_residual.ensures.1 c.loop-index.invariant.begun c.in_err-more.ensures.stopped
