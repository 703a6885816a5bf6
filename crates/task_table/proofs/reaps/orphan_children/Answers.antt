use Rattle.std.proofs.Common.{◌∙◌, arith}
use Rattle.task_table.proofs.Waiting.{Orphaned-lost, Orphaned-stays, groups_orphaned, children_orphaned}
use Rattle.task_table.proofs.reaps.orphan_children.Goals as goal
use Rattle.task_table.proofs.reaps.orphan_children.Goals.{then-orphan_of, else-orphan_of}

pub loop-place-preserved : goal.loop-place-preserved
loop-place-preserved c =
    let walked = c.loop-place.invariant in
    let number = c.index-number.result.now in
    elim c.if-orphan_of.branch [
      | then-orphan_of w ↦
          rw (w.children-is, w.kept-is)
          (Orphaned-stays walked (omega arith) number c.index-number.ensures _ c.orphan_of.ensures.groups _
          c.orphan_of.ensures.stays w.if-orphan_of.true)
      | else-orphan_of w ↦
          rw (w.children-is, w.kept-is)
          (Orphaned-lost walked (omega arith) number c.index-number.ensures _ c.orphan_of.ensures.groups _
          c.orphan_of.ensures.stays w.if-orphan_of.false)
    ]

pub returns-clause-groups : goal.returns-clause-groups
returns-clause-groups c = groups_orphaned c.loop-place.invariant (omega arith) c.requires

pub returns-clause-children : goal.returns-clause-children
returns-clause-children c = c.truncate.ensures.items ∙ children_orphaned c.loop-place.invariant (omega arith) c.requires
