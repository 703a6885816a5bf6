use Rattle.std.proofs.Common.{refl, ap, sym, subst, ◌∙◌, ◌≡◌, ◌<◌, ◌+◌}
use Rattle.std.proofs.Common.{◌++◌, ◌∷◌, [], true, length, inr, arith}
use Rattle.std.specs.FinMap.{insert}
use Rattle.task_table.specs.declared.table.TheConstants.{LAST_TASK}
use Rattle.task_table.specs.Clones.{threaded}
use Rattle.task_table.specs.Table.{is_live}
use Rattle.task_table.specs.Table.{TaskTable}
use Rattle.task_table.proofs.Keeping.{sound_same, sound_threaded}
use Rattle.task_table.proofs.Unmaking.{made_from, same_table}
use Rattle.task_table.proofs.table.Tasks.thread.Goals as goal

pub invariant_of-self-2 : goal.invariant_of-self-2
invariant_of-self-2 c =
    let old : TaskTable =
    record { tasks = c.self.inside.tasks; groups = c.self.inside.groups; last = c.self.inside.last } in
    let next = c.self.inside.last + 1 in
    let few : length c.self.inside.live.items < 256 = omega arith in
    sound_same (threaded old c.args.task c.args.clear) _ _ _ _ _ _ _
    (c.in_ok-insert.ensures.ok
    ∙ ap (λ n. insert c.self.inside.tasks n (record { group = c.group_of.result; clear = c.args.clear; live = true }))
    c.from.ensures
    ∙ ap (λ g. insert c.self.inside.tasks next (record { group = g; clear = c.args.clear; live = true }))
    c.group_of.ensures)
    refl refl
    (c.push_reserved.ensures.items ∙ ap (λ xs. xs ++ next ∷ []) c.in_ok-reserve.ensures.items)
    refl
    (sound_threaded old c.self.inside.live.items c.self.inside.children.items c.args.task c.args.clear c.self.invariant
    (subst (λ (t : TaskTable). is_live t.tasks c.args.task ≡ true) (sym c.self.view_is) c.requires.lives)
    (subst (λ (t : TaskTable). t.last < LAST_TASK) (sym c.self.view_is) c.requires.next) few)

pub returns-clause-made : goal.returns-clause-made
returns-clause-made c =
    let old : TaskTable =
    record { tasks = c.self.inside.tasks; groups = c.self.inside.groups; last = c.self.inside.last } in
    let next = c.self.inside.last + 1 in
    let lives = subst (λ (t : TaskTable). is_live t.tasks c.args.task ≡ true) (sym c.self.view_is) c.requires.lives in
    let tasks = c.in_ok-insert.ensures.ok
    ∙ ap (λ n. insert c.self.inside.tasks n (record { group = c.group_of.result; clear = c.args.clear; live = true }))
    c.from.ensures
    ∙ ap (λ g. insert c.self.inside.tasks next (record { group = g; clear = c.args.clear; live = true }))
    c.group_of.ensures in
    let is = same_table (threaded old c.args.task c.args.clear) _ _ _ tasks refl refl in
    made_from old _ _ c.self.view_is (inr (c.args.task, c.args.clear, lives, is))
