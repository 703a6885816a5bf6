-- A root as it is granted is a grant of which nothing is lent.
use Rattle.std.proofs.Common.{◌≡◌, ℕ, ◌<◌, ◌^◌, [], refl, sym, subst}
use Rattle.std.specs.Prelude.{Option, Some, None}
use Rattle.std.proofs.lemmas.Option.{same_Some}
use Rattle.host_node.specs.declared.kind.Kind.{Kind}
use Rattle.host_node.specs.Told.{TellsItself}
use Rattle.host_node.specs.Tree.{Shape}
use Rattle.image_walk.specs.declared.granted.Numbering.{Numbering}
use Rattle.image_walk.specs.Standing.{StandsLent}
use Rattle.image_walk.specs.Walking.{IsGrant, IsRoot}
use Rattle.image_walk.proofs.Firsts.{first_stands}

pub root_stands : (num : Numbering) (told : Option Shape) (count : ℕ) (what : Kind) → IsRoot told
    → TellsItself told count what
    → count < 2 ^ 64 → (t : Shape) → told ≡ Some t → StandsLent num t [] [] told []
root_stands num None count what root itself small t e = absurd (cc e)
root_stands num (Some r) count what root itself small t e =
    let same : r ≡ t = same_Some r t e in
    subst (λ (x : Shape). StandsLent num x [] [] (Some r) []) same
    (first_stands num r (subst (λ (n : ℕ). n < 2 ^ 64) (sym itself.0) small) root.1)

pub root_grants : (num : Numbering) (told : Option Shape) (count : ℕ) (what : Kind) → IsRoot told
    → TellsItself told count what
    → count < 2 ^ 64 → IsGrant num told []
root_grants num None count what root itself small = tt
root_grants num (Some r) count what root itself small =
    (r, [], root.0, root_stands num (Some r) count what root itself small r refl)
