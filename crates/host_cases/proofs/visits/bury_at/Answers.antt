-- A folder that a whole host granted is whole.
use Rattle.host_cases.proofs.Wholes.{whole_granted}
use Rattle.host_cases.proofs.visits.bury_at.Goals as goal

pub do_calls-done-requires-after_bounds : goal.do_calls-done-requires-after_bounds
do_calls-done-requires-after_bounds g c κs within =
    let root = c.in-Ok-Some.root in
    let told = rw c.in-Ok-Some.field-0-is at c.in-Ok-Some.ensures.node in
    whole_granted c.args.folder.now.names (g.H.HostWorld.told c.args.host.now) (g.H.Node.HostNode.told root)
    (g.H.Node.HostNode.count root) (g.H.Node.HostNode.what root) c.requires told
