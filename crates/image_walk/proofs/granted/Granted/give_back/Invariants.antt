-- The children that are left to give back can go to their places, and lead to what all of them do.
use Rattle.std.proofs.Common.{◌≡◌, length, drop}
use Rattle.std.specs.Prelude.{Option}
use Rattle.host_node.specs.Tree.{Shape}
use Rattle.image_walk.specs.Granted.{CanGiveBack, GivesBack, told_of}
use Rattle.image_walk.proofs.granted.Granted.give_back.Given as goal

abbrev pub invariant-loop-child : goal.invariant-loop-child
invariant-loop-child g l =
    let told = g.N.HostNode.told in
    (goal.iterator-loop-child g).can_next l.child-iterator × (goal.iterator-loop-child g).is_finite l.child-iterator
    × CanGiveBack (told l.root) (told_of told (drop (length l.yielded) l.fn.self.lent.items))
    × ((after : Option Shape)
    → GivesBack (told l.root) (told_of told (drop (length l.yielded) l.fn.self.lent.items)) after
    → GivesBack (told l.fn.self.root) (told_of told l.fn.self.lent.items) after)
    × (g.N.HostNode.count l.root ≡ g.N.HostNode.count l.fn.self.root)
