use Rattle.std.proofs.Common.{sym, ap, ◌∙◌}
use Rattle.std.specs.Option.{option_copied}
use Rattle.host_node.proofs.EntryLemmas.{find_here, find_nowhere}
use Rattle.host_node.proofs.tree.entries.find_in.Goals as goal

pub returns-in_err-index : goal.returns-in_err-index
returns-in_err-index c =
    ap option_copied c.from_residual.ensures
    ∙ sym (find_nowhere c.args.name.now c.args.entries.now (sym c.in_err-index.ensures))

pub returns : goal.returns
returns c = sym (find_here c.args.name.now c.args.entries.now c.in_ok-index.index c.index-entries-index.result
    (sym c.in_ok-index.ensures))
