-- What a whole node lent is whole.
use Rattle.host_cases.specs.Whole.{IsWhole}
use Rattle.host_cases.proofs.Wholes.{whole_lent}
use Rattle.host_cases.proofs.visits.+visit.Goals as goal

pub visit-done-requires-clause-whole : goal.visit-done-requires-clause-whole
visit-done-requires-clause-whole g t c κs within =
    let child = c.in-Ok-Some.child in
    let told = rw c.in-Ok-Some.field-0-is at c.in-Ok-Some.ensures.node in
    let whole : IsWhole (g.N.HostNode.told c.args.node.now) = c.requires.1.1.1.1 in
    whole_lent c.in-Some.name.now (g.N.HostNode.told c.args.node.now) (g.N.HostNode.told child)
    (g.N.HostNode.count child) (g.N.HostNode.what child) whole told
