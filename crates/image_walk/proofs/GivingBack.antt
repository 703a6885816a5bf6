-- Children that go back to their places, one after another.
use Rattle.std.proofs.Common.{◌≡◌, ℕ, ◌+◌, ◌<◌, true, List, [], ◌∷◌, length, drop, get_or, refl, ap, sym, ◌∙◌, subst}
use Rattle.std.proofs.Common.{arith}
use Rattle.std.specs.Prelude.{Option, Some, None, IsSome, IsSomeAnd}
use Rattle.std.proofs.lemmas.List.{at_drop_more, at_drop_all}
use Rattle.host_node.specs.Tree.{Shape, with_child, is_lent}
use Rattle.host_node.specs.Told.{CanTakeBack, TakesBack}
use Rattle.host_node.proofs.TreeLemmas.{child_of-with_other}
use Rattle.image_walk.specs.declared.granted.Lent.{Lent}
use Rattle.image_walk.specs.Granted.{LentChild, IsNew, AreOut, CanGiveBack, GivesBack, put_all, told_of}
use Rattle.kernel_model.specs.files.FileTree.{with_plain}

-- the others stay out
still_out : (name : List ℕ) (s t : Shape) (children : List LentChild) → IsNew name children → AreOut t children
    → AreOut (with_child name s t) children
still_out name s t [] new out = tt
still_out name s t (c ∷ children) new out = (
  subst (λ (o : Option Shape). IsSomeAnd o (λ x. is_lent x ≡ true)) (sym (child_of-with_other c.0 name s t new.0))
      out.0,
  out.1,
  out.2,
  still_out name s t children new.1 out.3,
)

pub can_take : (root : Option Shape) (c : LentChild) (children : List LentChild) → CanGiveBack root (c ∷ children)
    → CanTakeBack c.0 root
can_take None c children can = tt
can_take (Some t) c children can = can.0

-- what is left after one child went back
pub record Rest (root root' : Option Shape) (c : LentChild) (children : List LentChild) : Type 0 where
  pub can : CanGiveBack root' children
  pub leads : (after : Option Shape) → GivesBack root' children after → GivesBack root (c ∷ children) after

pub one_back : (root root' : Option Shape) (c : LentChild) (children : List LentChild) → CanGiveBack root (c ∷ children)
    → TakesBack c.0 root c.1 root' → Rest root root' c children
one_back None root' c children can back = record {
  can = subst (λ (o : Option Shape). CanGiveBack o children) (sym back) tt;
  leads = λ after gives. subst (λ (o : Option Shape). GivesBack o children after) back gives;
}
one_back (Some t) root' c children can back = by c.1 refl can.1
  where
    by : (o : Option Shape) → c.1 ≡ o → IsSome o → Rest (Some t) root' c children
    by None e is = absurd (cc is)
    by (Some s) e is =
        let root : root' ≡ Some (with_child c.0 s t) =
        subst (λ (o : Option Shape). TakesBack c.0 (Some t) o root') e back in
        record {
          can =
              subst (λ (o : Option Shape). CanGiveBack o children) (sym root)
              (still_out c.0 s t children can.2 can.3);
          leads = λ after gives.
              subst (λ (o : Option Shape). GivesBack o children after) root gives
              ∙ ap (λ o. Some (put_all children (with_plain c.0 o t))) (sym e);
        }

-- the child that is next
pub next_child : {N : Type 0} (told : N → Option Shape) (lent : List (Lent N)) (n : ℕ) (child : Lent N)
    → (n < length lent) × (child ≡ get_or lent n child)
    → told_of told (drop n lent) ≡ (child.name, told child.node) ∷ told_of told (drop (n + 1) lent)
next_child told lent n child h =
    at_drop_more (told_of told) lent n child h.0
    ∙ ap (λ (l : Lent _). (l.name, told l.node) ∷ told_of told (drop (n + 1) lent)) (sym h.1)

pub no_child : {N : Type 0} (told : N → Option Shape) (lent : List (Lent N)) (n : ℕ) → n ≡ length lent
    → told_of told (drop n lent) ≡ []
no_child told lent n e = at_drop_all (told_of told) lent n (let f = e in omega arith)
