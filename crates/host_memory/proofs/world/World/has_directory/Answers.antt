use Rattle.std.proofs.Common.{None, Some, ◌∙◌}
use Rattle.host_memory.proofs.PlaceLemmas.{looked_at}
use Rattle.host_memory.proofs.world.World.has_directory.Goals as goal

pub returns-in-Some : goal.returns-in-Some
returns-in-Some c =
    c.is_directory.ensures
    ∙ looked_at c.args.folder.now.names c.args.self.now.tree (Some c.in-Some.tree.now) c.in-Some.ensures

pub returns-in-None : goal.returns-in-None
returns-in-None c = looked_at c.args.folder.now.names c.args.self.now.tree None c.in-None.ensures
