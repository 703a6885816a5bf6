-- A child that waits for its number gets it, and with it a node of its own.
use Rattle.std.proofs.Common.{ap, ◌∙◌}
use Rattle.std.specs.FinMap as map
use Rattle.node_numbers.proofs.OptionLemmas.{found_mut, not_found_mut}
use Rattle.node_numbers.proofs.Numberings.{stand_in_lost, has_the_child, child_placed, stand_in_back, still_there}
use Rattle.node_numbers.proofs.numbering.place_child.Goals as goal

pub unreachable-requires : goal.unreachable-requires
unreachable-requires c =
    stand_in_lost c.args.fresh.now c.args.kernel.now c.requires.waits c.child_node-stand_in.result c.insert.new.self
    c.in_ok-insert.ensures.ok (not_found_mut c.get_mut.result _ c.get_mut.ensures.value c.in_default.is)

pub number_child-requires : goal.number_child-requires
number_child-requires c =
    has_the_child c.args.fresh.now c.args.kernel.now c.requires.waits c.child_node-stand_in.result c.insert.new.self
    c.in-Some.dir.now c.in_ok-insert.ensures.ok
    (found_mut c.get_mut.result _ c.in-Some.dir c.get_mut.ensures.value c.in-Some.is)

pub replace-requires : goal.replace-requires
replace-requires c =
    ap (λ m. map.contains_key (map.insert m c.args.fresh.now.dir c.number_child.new.node) c.args.fresh.now.ino)
    c.in_ok-insert.ensures.ok
    ∙ still_there c.args.kernel.now.nodes c.args.fresh.now.ino c.args.fresh.now.dir c.child_node-stand_in.result
    c.number_child.new.node

pub returns-in-Ok-clause-ok : goal.returns-in-Ok-clause-ok
returns-in-Ok-clause-ok c =
    child_placed c.args.fresh.now c.args.kernel.now c.requires.waits c.child_node-stand_in.result c.insert.new.self
    c.in-Some.dir.now c.in_ok-insert.ensures.ok
    (found_mut c.get_mut.result _ c.in-Some.dir c.get_mut.ensures.value c.in-Some.is)
    c.requires.small c.number_child.new.node c.in-Ok.tree c.in-Ok.ensures.after c.in-Ok.ensures.tree c.replace.new.self
    (c.replace.ensures
    ∙ ap (λ n. map.insert (map.insert c.insert.new.self c.args.fresh.now.dir c.number_child.new.node)
    c.args.fresh.now.ino n) c.child_node-child.ensures)

pub returns-in-Err-clause-err : goal.returns-in-Err-clause-err
returns-in-Err-clause-err c =
    stand_in_back c.args.fresh.now c.args.kernel.now c.requires.waits c.child_node-stand_in.result c.insert.new.self
    c.in-Some.dir.now c.in_ok-insert.ensures.ok
    (found_mut c.get_mut.result _ c.in-Some.dir c.get_mut.ensures.value c.in-Some.is)
    c.number_child.new.node c.in-Err.ensures.err c.remove.new.self c.remove.ensures.after
