-- What stands where names lead in a host's tree after something was put there.
use Rattle.std.proofs.Common.{◌≡◌, ℕ, Bool, true, false, cond, ◌&&◌, not, List, [], ◌∷◌, Option, Some, None, refl, sym}
use Rattle.std.proofs.Common.{ap, ◌∙◌, option_and_then}
use Rattle.std.specs.Option.{option_map_or}
use Rattle.host_node.specs.declared.kind.Kind.TheVariants.{Dir}
use Rattle.host_node.specs.Tree.{Shape, lent, is_lent, is_directory, child_of, with_child, none_lent}
use Rattle.host_node.specs.Routes.{subtree, put_subtree, only_directory, directory_at, is_way_free}
use Rattle.host_node.proofs.TreeLemmas.{directory_from_child, child_of-with_same, with_child_twice, with_child_found}
use Rattle.host_node.proofs.TreeLemmas.{none_lent-child_of, none_lent-with_child, is_lent-none_lent, second_part}

-- a step of the way
pub put_step : (name : List ℕ) (names : List (List ℕ)) (new t c : Shape) → child_of name t ≡ Some c
    → put_subtree (name ∷ names) new t ≡ with_child name (put_subtree names new c) t
put_step name names new t c h = ap (λ o. option_map_or (λ s. with_child name (put_subtree names new s) t) o t) h

pub no_step : (name : List ℕ) (names : List (List ℕ)) (new t : Shape) → child_of name t ≡ None
    → put_subtree (name ∷ names) new t ≡ t
no_step name names new t h = ap (λ o. option_map_or (λ s. with_child name (put_subtree names new s) t) o t) h

-- one name further, names lead from the child
step_on : (name : List ℕ) (names : List (List ℕ)) (t c : Shape) → child_of name t ≡ Some c
    → subtree (name ∷ names) t ≡ subtree names c
step_on name names t c h = ap (option_and_then (subtree names)) h

-- a tree that was put where names lead stands there
pub subtree-put : (names : List (List ℕ)) (new t s : Shape) → subtree names t ≡ Some s
    → subtree names (put_subtree names new t) ≡ Some new
subtree-put [] new t s h = refl
subtree-put (name ∷ names) new t s h = by (child_of name t) refl h (λ c. subtree-put names new c s)
  where
    by : (o : Option Shape) → child_of name t ≡ o → option_and_then (subtree names) o ≡ Some s
        → ((c : Shape) → subtree names c ≡ Some s → subtree names (put_subtree names new c) ≡ Some new)
        → subtree (name ∷ names) (put_subtree (name ∷ names) new t) ≡ Some new
    by None e g more = cc
    by (Some c) e g more =
        ap (subtree (name ∷ names)) (put_step name names new t c e)
        ∙ step_on name names (with_child name (put_subtree names new c) t) (put_subtree names new c)
        (child_of-with_same name (put_subtree names new c) t (directory_from_child name t c e))
        ∙ more c g

-- the last of two trees that were put where names lead stays
pub put-put_subtree : (names : List (List ℕ)) (a b t : Shape)
    → put_subtree names a (put_subtree names b t) ≡ put_subtree names a t
put-put_subtree [] a b t = refl
put-put_subtree (name ∷ names) a b t = by (child_of name t) refl (put-put_subtree names a b)
  where
    by : (o : Option Shape) → child_of name t ≡ o
        → ((c : Shape) → put_subtree names a (put_subtree names b c) ≡ put_subtree names a c)
        → put_subtree (name ∷ names) a (put_subtree (name ∷ names) b t) ≡ put_subtree (name ∷ names) a t
    by None e more = ap (put_subtree (name ∷ names) a) (no_step name names b t e)
    by (Some c) e more =
        ap (put_subtree (name ∷ names) a) (put_step name names b t c e)
        ∙ put_step name names a (with_child name (put_subtree names b c) t) (put_subtree names b c)
        (child_of-with_same name (put_subtree names b c) t (directory_from_child name t c e))
        ∙ with_child_twice name (put_subtree names a (put_subtree names b c)) (put_subtree names b c) t
        ∙ ap (λ s. with_child name s t) (more c)
        ∙ sym (put_step name names a t c e)

same_some : (a b : Shape) → Some a ≡ Some b → a ≡ b
same_some a b h = cc

-- putting what stands where names lead there changes nothing
pub put_subtree_found : (names : List (List ℕ)) (s t : Shape) → subtree names t ≡ Some s → put_subtree names s t ≡ t
put_subtree_found [] s t h = sym (same_some t s h)
put_subtree_found (name ∷ names) s t h = by (child_of name t) refl h (put_subtree_found names s)
  where
    by : (o : Option Shape) → child_of name t ≡ o → option_and_then (subtree names) o ≡ Some s
        → ((c : Shape) → subtree names c ≡ Some s → put_subtree names s c ≡ c) → put_subtree (name ∷ names) s t ≡ t
    by None e g more = no_step name names s t e
    by (Some c) e g more =
        put_step name names s t c e ∙ ap (λ x. with_child name x t) (more c g) ∙ with_child_found name c t e

-- a granted folder that comes back as it was leaves the tree as it was
pub put_subtree-back : (names : List (List ℕ)) (s away t : Shape) → subtree names t ≡ Some s
    → put_subtree names s (put_subtree names away t) ≡ t
put_subtree-back names s away t h = put-put_subtree names s away t ∙ put_subtree_found names s t h

-- what stands where names lead in a tree with nothing lent has nothing lent
pub none_lent-subtree : (names : List (List ℕ)) (s t : Shape) → none_lent t ≡ true
    → subtree names t ≡ Some s → none_lent s ≡ true
none_lent-subtree [] s t n h = ap none_lent (sym (same_some t s h)) ∙ n
none_lent-subtree (name ∷ names) s t n h = by (child_of name t) refl h (none_lent-subtree names s)
  where
    by : (o : Option Shape) → child_of name t ≡ o → option_and_then (subtree names) o ≡ Some s
        → ((c : Shape) → none_lent c ≡ true → subtree names c ≡ Some s → none_lent s ≡ true) → none_lent s ≡ true
    by None e g more = cc
    by (Some c) e g more = more c (none_lent-child_of name c t n e) g

-- a tree with nothing lent stays so where one with nothing lent is put
pub none_lent-put_subtree : (names : List (List ℕ)) (new t : Shape) → none_lent t ≡ true → none_lent new ≡ true
    → none_lent (put_subtree names new t) ≡ true
none_lent-put_subtree [] new t n h = h
none_lent-put_subtree (name ∷ names) new t n h =
    by (child_of name t) refl (λ c k. none_lent-put_subtree names new c k h)
  where
    by : (o : Option Shape) → child_of name t ≡ o
        → ((c : Shape) → none_lent c ≡ true → none_lent (put_subtree names new c) ≡ true)
        → none_lent (put_subtree (name ∷ names) new t) ≡ true
    by None e more = ap none_lent (no_step name names new t e) ∙ n
    by (Some c) e more =
        ap none_lent (put_step name names new t c e)
        ∙ none_lent-with_child name (put_subtree names new c) t n (more c (none_lent-child_of name c t n e))

-- a tree with nothing lent can grant each of its folders
pub is_free-none_lent : (names : List (List ℕ)) (t : Shape) → none_lent t ≡ true → is_way_free names t ≡ true
is_free-none_lent [] t n = n
is_free-none_lent (name ∷ names) t n = by (child_of name t) refl (is_free-none_lent names)
  where
    by : (o : Option Shape) → child_of name t ≡ o → ((c : Shape) → none_lent c ≡ true → is_way_free names c ≡ true)
        → (not (is_lent t) && option_map_or (is_way_free names) o true) ≡ true
    by None e more = rw (is_lent-none_lent t n) refl
    by (Some c) e more = rw (is_lent-none_lent t n) (more c (none_lent-child_of name c t n e))

-- what can be granted has nothing lent
pub none_lent-is_free : (names : List (List ℕ)) (s t : Shape) → is_way_free names t ≡ true
    → subtree names t ≡ Some s → none_lent s ≡ true
none_lent-is_free [] s t n h = ap none_lent (sym (same_some t s h)) ∙ n
none_lent-is_free (name ∷ names) s t n h = by (child_of name t) refl h n (none_lent-is_free names s)
  where
    by : (o : Option Shape) → child_of name t ≡ o → option_and_then (subtree names) o ≡ Some s
        → (not (is_lent t) && option_map_or (is_way_free names) o true) ≡ true
        → ((c : Shape) → is_way_free names c ≡ true → subtree names c ≡ Some s → none_lent s ≡ true) → none_lent s
        ≡ true
    by None e g f more = cc
    by (Some c) e g f more = more c (second_part (not (is_lent t)) (is_way_free names c) f) g

-- a folder that is found is what stands where its names lead,
pub subtree-directory_at : (names : List (List ℕ)) (s t : Shape) → directory_at names t ≡ Some s
    → subtree names t ≡ Some s
subtree-directory_at names s t h = by (subtree names t) h
  where
    by : (o : Option Shape) → option_and_then only_directory o ≡ Some s → o ≡ Some s
    by None g = cc
    by (Some c) g = by_kind (is_directory c) g
      where
        by_kind : (b : Bool) → cond b (Some c) None ≡ Some s → Some c ≡ Some s
        by_kind true k = k
        by_kind false k = cc

-- and a directory
pub is_directory-directory_at : (names : List (List ℕ)) (s t : Shape)
    → directory_at names t ≡ Some s → is_directory s ≡ true
is_directory-directory_at names s t h = by (subtree names t) h
  where
    by : (o : Option Shape) → option_and_then only_directory o ≡ Some s → is_directory s ≡ true
    by None g = cc
    by (Some c) g = by_kind (is_directory c) refl g
      where
        by_kind : (b : Bool) → is_directory c ≡ b → cond b (Some c) None ≡ Some s → is_directory s ≡ true
        by_kind true e k = cc
        by_kind false e k = cc

-- after a grant the place of the folder can take it back
pub subtree-granted : (names : List (List ℕ)) (s t : Shape) → directory_at names t ≡ Some s
    → subtree names (put_subtree names (lent Dir) t) ≡ Some (lent Dir)
subtree-granted names s t h = subtree-put names (lent Dir) t s (subtree-directory_at names s t h)
