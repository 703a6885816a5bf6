-- A directory that is lent stood here.
use Rattle.std.proofs.Common.{◌≡◌, ap}
use Rattle.host_memory.specs.InMemory.{HostInMemory}
use Rattle.host_memory.proofs.PlaceLemmas.{directory_stands, is_here, stands_there}
use Rattle.host_memory.proofs.world.World.lend_at.Goals as goal

pub swap_at-tree-requires : goal.swap_at-tree-requires
swap_at-tree-requires c =
    let same : c.self.inside.tree ≡ c.args.self.now.tree = ap (λ (w : HostInMemory). w.tree) c.self.view_is in
    rw (c.names.ensures.value, same) (stands_there c.args.place c.args.self.now.tree c.requires.there)

pub new-requires : goal.new-requires
new-requires c =
    let same : c.self.inside.tree ≡ c.args.self.now.tree = ap (λ (w : HostInMemory). w.tree) c.self.view_is in
    is_here c.args.place c.args.self.now.tree c.swap_at-tree.result c.requires.free
    (rw (c.names.ensures.value, same) at c.swap_at-tree.ensures.old)

pub returns-clause-directory : goal.returns-clause-directory
returns-clause-directory c =
    let same : c.self.inside.tree ≡ c.args.self.now.tree = ap (λ (w : HostInMemory). w.tree) c.self.view_is in
    rw c.new.ensures.tree
    (directory_stands c.args.place c.args.self.now.tree c.swap_at-tree.result c.requires.there
    (rw (c.names.ensures.value, same) at c.swap_at-tree.ensures.old)).0

pub returns-clause-kind : goal.returns-clause-kind
returns-clause-kind c =
    let same : c.self.inside.tree ≡ c.args.self.now.tree = ap (λ (w : HostInMemory). w.tree) c.self.view_is in
    rw c.new.ensures.tree
    (directory_stands c.args.place c.args.self.now.tree c.swap_at-tree.result c.requires.there
    (rw (c.names.ensures.value, same) at c.swap_at-tree.ensures.old)).1
