use Rattle.std.proofs.Common.{sym}
use Rattle.host_node.proofs.EntryLemmas.{find_nowhere, replace_here, replace_nowhere, names_here}
use Rattle.host_node.proofs.tree.entries.give_in.Goals as goal

pub returns-in-Some-clause-after : goal.returns-in-Some-clause-after
returns-in-Some-clause-after c =
    replace_here c.args.name.now c.args.tree c.args.entries.now c.in-Some.index
    c.index-entries-index.result (sym c.in-Some.ensures)

pub returns-in-Some-clause-names : goal.returns-in-Some-clause-names
returns-in-Some-clause-names c =
    names_here c.args.name.now c.args.entries.now c.in-Some.index c.index-entries-index.result
    c.args.tree (sym c.in-Some.ensures)

pub returns-in_default-clause-after : goal.returns-in_default-clause-after
returns-in_default-clause-after c =
    sym (replace_nowhere c.args.name.now c.args.tree _
    (find_nowhere c.args.name.now c.args.entries.now (sym c.in_default.ensures)))
