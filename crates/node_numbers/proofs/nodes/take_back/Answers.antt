-- A directory without its last number is as it was before that.
use Rattle.node_numbers.proofs.NodeLemmas.{taken_back}
use Rattle.node_numbers.proofs.nodes.take_back.Goals as goal

pub returns : goal.returns
returns c = λ dir ino was there.
    taken_back dir c.args.name.now ino c.args.tree c.args.node.now c.pop-number.new.self c.pop-number.result
    c.give.new.self there was c.pop-number.ensures.items c.pop-number.ensures.variant c.give.ensures
