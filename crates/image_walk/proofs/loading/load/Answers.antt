-- A node that is no executable file refuses, and is as it was.
use Rattle.std.proofs.Common.{refl, subst, ◌<◌, ℕ, ◌^◌}
use Rattle.image_walk.proofs.Nodes.{load_refused}
use Rattle.image_walk.proofs.loading.load.Goals as goal

pub returns-in-Some-clause-loads : goal.returns-in-Some-clause-loads
returns-in-Some-clause-loads g c =
    let laws = g.met.N.HostNode g.world.𝓛 g.world.𝓜 g.world.𝓡 ((λ s x. x), (λ x. x), (λ x. x), λ x. x) in
    load_refused _ _ (g.N.HostNode.count c.args.node.now) (g.N.HostNode.count c.stat.new.self)
    (g.N.HostNode.what c.args.node.now) c.in-Ok.attr c.in-Some.errno _ _
    c.requires (laws.tells_itself c.args.node.now)
    (subst (λ (n : ℕ). n < 2 ^ 64) c.faults-before.ensures c.faults-before.type_inv) c.in-Ok.ensures.attr
    c.stat.ensures.tells (c.in-Ok.ensures.faults.still refl) c.in-Some.ensures c.answered-in-Some.ensures.risen
    c.answered-in-Some.ensures.answer
