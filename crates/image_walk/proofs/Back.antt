-- A granted folder none of whose counts rose is as it was, once all children are back.
use Rattle.std.proofs.Common.{◌≡◌, ℕ, ◌+◌, List, [], ◌∷◌, refl, ap, sym, ◌∙◌, subst}
use Rattle.std.specs.Prelude.{Option, Some, None, option_map}
use Rattle.host_node.specs.Tree.{Shape, child_of, with_child}
use Rattle.host_node.proofs.TreeLemmas.{with_child_found}
use Rattle.kernel_model.specs.files.FileTree.{with_plain}
use Rattle.image_walk.specs.declared.granted.Numbering.{Numbering}
use Rattle.image_walk.specs.Granted.{LentChild, GivesBack, put_all}
use Rattle.image_walk.specs.Loading.{faulted_by}
use Rattle.image_walk.specs.Standing.{StandUnlent, StandsLent, lend_all, lent_from}
use Rattle.image_walk.proofs.Commuting.{put_all_lent}
use Rattle.image_walk.proofs.Places.{IsThere, root_is}
use Rattle.image_walk.proofs.Trees.{faulted_by_none}

put_found : (name : List ℕ) (t : Shape) (o : Option Shape) → child_of name t ≡ o → IsThere o
    → with_plain name (option_map (faulted_by 0) o) t ≡ t
put_found name t None e h = absurd h
put_found name t (Some s) e h =
    ap (λ (x : Shape). with_child name x t) (faulted_by_none s h.1) ∙ with_child_found name s t e

put_all_found : (n : ℕ) (t : Shape) (names : List (List ℕ)) → StandUnlent t names
    → put_all (lent_from n t names []) t ≡ t
put_all_found n t [] h = refl
put_all_found n t (name ∷ names) h =
    ap (put_all (lent_from (n + 1) t names [])) (put_found name t (child_of name t) refl h.0)
    ∙ put_all_found (n + 1) t names h.2

-- the root tells the granted tree then
pub back_same : (num : Numbering) (t : Shape) (names : List (List ℕ)) (root : Option Shape) (children : List LentChild)
    → StandsLent num t names [] root children → GivesBack root children (Some t)
back_same num t names root children s =
    subst (λ (o : Option Shape). GivesBack o children (Some t)) (sym (root_is num t names root children s))
    (subst (λ (cs : List LentChild). Some t ≡ Some (put_all cs (lend_all names t))) (sym s.children_tell)
    (ap Some (sym (put_all_lent num.first t [] names t s.there s.there ∙ put_all_found num.first t names s.there))))
