-- The children that were lent of a granted folder are out, and can go back to their places.
use Rattle.std.proofs.Common.{◌≡◌, ℕ, ◌+◌, ◌<◌, ◌^◌, false, true, List, [], ◌∷◌, refl, sym, subst}
use Rattle.std.specs.Prelude.{Option, Some, None, IsSome, IsSomeAnd, option_map}
use Rattle.host_node.specs.Tree.{Shape, faults_of, with_faults, child_of, is_lent}
use Rattle.kernel_model.specs.declared.opening.Rise.{Rise}
use Rattle.kernel_model.specs.files.Settled.{rise_in}
use Rattle.image_walk.specs.declared.granted.Numbering.{Numbering}
use Rattle.image_walk.specs.Granted.{LentChild, IsNew, AreOut, CanGiveBack}
use Rattle.image_walk.specs.Loading.{faulted_by}
use Rattle.image_walk.specs.Standing.{lend_all, IsNoneOf, StandUnlent, lent_from, StandsLent}
use Rattle.image_walk.proofs.Trees.{child_of-faults}
use Rattle.image_walk.proofs.Lending.{AreLent, all_lent}

new_from : (name : List ℕ) (n : ℕ) (t : Shape) (names : List (List ℕ)) (rises : List Rise) → IsNoneOf name names
    → IsNew name (lent_from n t names rises)
new_from name n t [] rises h = tt
new_from name n t (other ∷ names) rises h = (h.0, new_from name (n + 1) t names rises h.1)

tells : (d : ℕ) (o : Option Shape) → IsSomeAnd o (λ s. (is_lent s ≡ false) × (faults_of s < 2 ^ 64))
    → IsSome (option_map (faulted_by d) o)
tells d None h = absurd h
tells d (Some s) h = refl

out_from : (tree t : Shape) (n : ℕ) (names : List (List ℕ)) (rises : List Rise) → AreLent tree names
    → StandUnlent t names
    → AreOut tree (lent_from n t names rises)
out_from tree t n [] rises l h = tt
out_from tree t n (name ∷ names) rises l h = (
  l.0,
  tells (rise_in n rises) (child_of name t) h.0,
  new_from name (n + 1) t names rises h.1,
  out_from tree t (n + 1) names rises l.1 h.2,
)

-- a count changes nothing of that
lent_faulted : (n : ℕ) (t : Shape) (names : List (List ℕ)) → AreLent t names → AreLent (with_faults n t) names
lent_faulted n t [] l = tt
lent_faulted n t (name ∷ names) l = (
  subst (λ (o : Option Shape). IsSomeAnd o (λ s. is_lent s ≡ true)) (sym (child_of-faults name n t)) l.0,
  lent_faulted n t names l.1,
)

pub can_give_back : (num : Numbering) (t : Shape) (names : List (List ℕ)) (rises : List Rise) (root : Option Shape)
    (children : List LentChild) → StandsLent num t names rises root children → CanGiveBack root children
can_give_back num t names rises root children s =
    subst (λ (cs : List LentChild). CanGiveBack root cs) (sym s.children_tell)
    (subst (λ (o : Option Shape). CanGiveBack o (lent_from num.first t names rises)) (sym s.root_tells)
    (out_from (faulted_by (rise_in num.root rises) (lend_all names t)) t num.first names rises
    (lent_faulted _ (lend_all names t) names (all_lent names t s.there)) s.there))
