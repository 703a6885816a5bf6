use Rattle.std.proofs.Common.{◌∙◌, Some, ap, refl, sym}
use Rattle.task_table.specs.declared.task.Group.{Group}
use Rattle.task_table.specs.Entries.{numbers_where}
use Rattle.task_table.specs.Table.{has_parent}
use Rattle.task_table.proofs.Keeping.{children_after_change}
use Rattle.task_table.proofs.ends.close_group.Goals as goal

pub returns-clause-children : goal.returns-clause-children
returns-clause-children c =
    c.orphan_children.ensures.children
    ∙ sym (ap (numbers_where has_parent) c.note_end.ensures
    ∙ children_after_change (λ (g : Group). record g { ended = Some c.args.status }) c.orphan_children.new.groups
    c.args.group (λ _. refl))
