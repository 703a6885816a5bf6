use Rattle.std.proofs.Common.{ℕ, ap, sym, subst, ◌∙◌, ◌≡◌, ◌+◌, ◌==◌, not, filter, arith}
use Rattle.std.specs.FinMap.{remove}
use Rattle.std.specs.List.Sorted.{IsStrictlyIncreasing}
use Rattle.task_table.specs.Clones.{MadeFrom, WasMade}
use Rattle.task_table.specs.Table.{TaskTable, has_parent}
use Rattle.task_table.proofs.Ascending.{where_ascends}
use Rattle.task_table.proofs.Keeping.{sound_of_parts}
use Rattle.task_table.proofs.Unmaking.{IsTakenBack, same_table, taken_back}
use Rattle.task_table.proofs.table.Tasks.unmake.Goals as goal

pub take_out-requires : goal.take_out-requires
take_out-requires c =
    subst IsStrictlyIncreasing (sym c.self.invariant.live_is) (where_ascends (λ x. x.live) c.self.inside.tasks)

pub take_out-requires-2 : goal.take_out-requires-2
take_out-requires-2 c =
    subst IsStrictlyIncreasing (sym c.self.invariant.children_are) (where_ascends has_parent c.self.inside.groups)

pub invariant_of-self : goal.invariant_of-self
invariant_of-self c =
    let old : TaskTable =
    record { tasks = c.self.inside.tasks; groups = c.self.inside.groups; last = c.self.inside.last } in
    let made : WasMade old = subst WasMade (sym c.self.view_is) c.requires in
    let back : IsTakenBack made.before old = taken_back made.before old made.kept made.made in
    let last : c.self.inside.last ≡ made.before.last + 1 = back.last in
    let others = λ (n : ℕ). not (n == c.self.inside.last) in
    sound_of_parts made.before _ _ _ _ _
    (c.remove.ensures.after ∙ ap (remove c.self.inside.tasks) c.from.ensures ∙ back.tasks)
    (c.remove-2.ensures.after ∙ ap (remove c.self.inside.groups) c.from-2.ensures ∙ back.groups)
    (omega arith)
    (c.take_out.ensures ∙ ap (filter others) c.self.invariant.live_is ∙ back.live)
    (c.take_out-2.ensures ∙ ap (filter others) c.self.invariant.children_are ∙ back.children)
    made.kept

pub returns : goal.returns
returns c before kept made =
    let old : TaskTable =
    record { tasks = c.self.inside.tasks; groups = c.self.inside.groups; last = c.self.inside.last } in
    let from : MadeFrom before old = subst (MadeFrom before) (sym c.self.view_is) made in
    let back : IsTakenBack before old = taken_back before old kept from in
    let last : c.self.inside.last ≡ before.last + 1 = back.last in
    same_table before _ _ _
    (c.remove.ensures.after ∙ ap (remove c.self.inside.tasks) c.from.ensures ∙ back.tasks)
    (c.remove-2.ensures.after ∙ ap (remove c.self.inside.groups) c.from-2.ensures ∙ back.groups)
    (omega arith)
