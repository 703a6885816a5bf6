use Rattle.host_node.proofs.EntryLemmas.{insert_here}
use Rattle.host_node.proofs.OrderLemmas.{ascending_insert}
use Rattle.host_node.proofs.tree.entries.insert_in.Goals as goal

pub returns-clause-ok : goal.returns-clause-ok
returns-clause-ok c =
    rw (c.in_ok-insert.ensures.items, c.place_of-index.ensures.place, c.deref.ensures.value)
    (insert_here c.args.name c.args.tree c.args.entries.now.items)

pub returns-clause-ascending : goal.returns-clause-ascending
returns-clause-ascending c =
    rw (c.in_ok-insert.ensures.items, c.place_of-index.ensures.place, c.deref.ensures.value)
    (ascending_insert c.args.name c.args.tree c.args.entries.now.items c.requires.ascending c.requires.free)
