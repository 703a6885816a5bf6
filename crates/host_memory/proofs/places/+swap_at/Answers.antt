-- A tree that changes its place below a child stands where the names lead, once the child is given back.
use Rattle.host_memory.proofs.PlaceLemmas.{child_of-taken, put_subtree-step}
use Rattle.host_memory.proofs.places.+swap_at.Goals as goal

pub give-requires : goal.give-requires
give-requires t c =
    rw c.take.ensures.after
    (child_of-taken c.in-Some.name.now c.args.tree.now c.in-Some-take.child c.in-Some-take.ensures.tree)

pub returns-in-Some-take-clause-new : goal.returns-in-Some-take-clause-new
returns-in-Some-take-clause-new t c =
    let step =
    put_subtree-step c.in-Some.name.now c.in-Some.rest.now c.args.new c.args.tree.now c.in-Some-take.child
    c.in-Some-take.ensures.tree in
    rw (c.give.ensures, c.swap_at-old.ensures.new, c.take.ensures.after, c.in-Some.ensures.cases.0) step
