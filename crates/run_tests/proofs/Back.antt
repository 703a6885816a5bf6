-- A granted folder can be put together again, behind an execve.
use Rattle.std.proofs.Common.{◌≡◌, ℕ, List, [], refl, sym, subst}
use Rattle.std.specs.Prelude.{Option, Some, None}
use Rattle.host_node.specs.Tree.{Shape}
use Rattle.image_walk.specs.declared.granted.Numbering.{Numbering}
use Rattle.image_walk.specs.Granted.{LentChild, CanGiveBack}
use Rattle.image_walk.specs.Standing.{StandsLent}
use Rattle.image_walk.specs.Walking.{IsGrant, IsSilent}

-- whether the root tells its tree or nothing, behind an execve
pub can_then : (num : Numbering) (root root' : Option Shape) (children children' : List LentChild)
    → IsGrant num root children
    → (IsSilent root children → IsSilent root' children')
    → ((t : Shape) (names : List (List ℕ)) → StandsLent num t names [] root children → CanGiveBack root' children')
    → CanGiveBack root' children'
can_then num None root' children children' g silent stands =
    subst (λ (o : Option Shape). CanGiveBack o children') (sym (silent (refl, g)).0) tt
can_then num (Some r) root' children children' g silent stands = stands g.0 g.1 g.3
