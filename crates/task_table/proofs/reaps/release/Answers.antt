use Rattle.std.proofs.Common.{ap, sym, subst, ◌∙◌, not, ◌==◌, filter}
use Rattle.std.specs.List.Sorted.{IsStrictlyIncreasing}
use Rattle.task_table.specs.Entries.{numbers_where}
use Rattle.task_table.specs.Table.{has_parent}
use Rattle.task_table.proofs.Ascending.{where_ascends}
use Rattle.task_table.proofs.Waiting.{children_after_release}
use Rattle.task_table.proofs.reaps.release.Goals as goal

pub take_out-requires : goal.take_out-requires
take_out-requires c = subst IsStrictlyIncreasing (sym c.requires) (where_ascends has_parent c.args.groups.now)

pub returns-clause-children : goal.returns-clause-children
returns-clause-children c =
    c.take_out.ensures
    ∙ ap (filter (λ n. not (n == c.args.number))) c.requires
    ∙ children_after_release c.args.groups.now c.args.number
    ∙ sym (ap (numbers_where has_parent) c.orphan.ensures)
