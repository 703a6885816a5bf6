use Rattle.std.proofs.Common.{sym, ap, ◌∙◌, Some}
use Rattle.host_node.proofs.EntryLemmas.{find_here, find_nowhere, lend_here, lend_nowhere, names_here}
use Rattle.host_node.proofs.tree.entries.take_in.Goals as goal

pub returns-in_err-index-clause-tree : goal.returns-in_err-index-clause-tree
returns-in_err-index-clause-tree c =
    c.from_residual.ensures ∙ sym (find_nowhere c.args.name.now c.args.entries.now (sym c.in_err-index.ensures))

pub returns-in_err-index-clause-after : goal.returns-in_err-index-clause-after
returns-in_err-index-clause-after c =
    sym (lend_nowhere c.args.name.now _ (find_nowhere c.args.name.now c.args.entries.now (sym c.in_err-index.ensures)))

pub returns-clause-tree : goal.returns-clause-tree
returns-clause-tree c =
    ap Some c.replace.ensures.value
    ∙ sym (find_here c.args.name.now c.args.entries.now c.in_ok-index.index c.index-entries-index.result
    (sym c.in_ok-index.ensures))

pub returns-clause-after : goal.returns-clause-after
returns-clause-after c =
    let here = lend_here c.args.name.now c.args.entries.now c.in_ok-index.index c.index-entries-index.result
    (sym c.in_ok-index.ensures) in
    rw (c.replace.ensures.after, c.lent-away.ensures, c.kind.ensures) here

pub returns-clause-names : goal.returns-clause-names
returns-clause-names c =
    names_here c.args.name.now c.args.entries.now c.in_ok-index.index c.index-entries-index.result _
    (sym c.in_ok-index.ensures)
