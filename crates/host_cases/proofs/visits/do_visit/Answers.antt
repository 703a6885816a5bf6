-- A folder that a whole host granted is whole.
use Rattle.host_cases.proofs.Wholes.{whole_granted}
use Rattle.host_cases.proofs.visits.do_visit.Goals as goal

pub visit-done-requires-clause-whole : goal.visit-done-requires-clause-whole
visit-done-requires-clause-whole g c κs within =
    let root = c.in-Ok-Some.root in
    let told = rw c.in-Ok-Some.field-0-is at c.in-Ok-Some.ensures.node in
    whole_granted c.args.place.now.folder.names (g.H.HostWorld.told c.args.host.now) (g.H.Node.HostNode.told root)
    (g.H.Node.HostNode.count root) (g.H.Node.HostNode.what root) c.requires told
