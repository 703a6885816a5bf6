use Rattle.std.proofs.Common.{refl, ap, sym, subst, ◌∙◌, ◌<◌, ◌+◌, ◌++◌, ◌∷◌, [], cond, length, inl, arith}
use Rattle.task_table.specs.declared.table.TheConstants.{LAST_TASK}
use Rattle.task_table.specs.Clones.{with_group}
use Rattle.task_table.specs.Table.{has_parent}
use Rattle.task_table.specs.Table.{TaskTable}
use Rattle.task_table.proofs.Keeping.{sound_same, sound_with_group}
use Rattle.task_table.proofs.Unmaking.{made_from, same_table}
use Rattle.task_table.proofs.table.Tasks.add_group.Goals as goal

pub invariant_of-self-2 : goal.invariant_of-self-2
invariant_of-self-2 c =
    let old : TaskTable =
    record { tasks = c.self.inside.tasks; groups = c.self.inside.groups; last = c.self.inside.last } in
    let next = c.self.inside.last + 1 in
    let few : length c.self.inside.live.items < 256 = omega arith in
    sound_same (with_group old c.args.group c.args.clear) _ _ _ _ _ _ _
    c.in_ok-put_both.ensures.tasks c.in_ok-put_both.ensures.groups refl
    (c.push_reserved.ensures.items ∙ ap (λ xs. xs ++ next ∷ []) c.in_ok-reserve.ensures.items)
    (c.note_child.ensures
    ∙ ap (λ xs. cond (has_parent c.args.group) (xs ++ next ∷ []) xs) c.in_ok-reserve-2.ensures.items)
    (sound_with_group old c.self.inside.live.items c.self.inside.children.items c.args.group
    c.args.clear c.self.invariant
    (subst (λ (t : TaskTable). t.last < LAST_TASK) (sym c.self.view_is) c.requires.next) c.requires.lives few)

pub returns-clause-made : goal.returns-clause-made
returns-clause-made c =
    let old : TaskTable =
    record { tasks = c.self.inside.tasks; groups = c.self.inside.groups; last = c.self.inside.last } in
    made_from old _ _ c.self.view_is (inl (
      c.args.group,
      c.args.clear,
      c.requires.lives,
      same_table (with_group old c.args.group c.args.clear) _ _ _
          c.in_ok-put_both.ensures.tasks c.in_ok-put_both.ensures.groups refl,
    ))
