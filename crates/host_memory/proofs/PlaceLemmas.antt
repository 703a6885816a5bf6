-- What stands in a host's tree after something was put where names lead, one name further.
use Rattle.std.proofs.Common.{◌≡◌, ℕ, ◌<◌, true, false, List, [], ◌∷◌, length, Option, Some, None, Result, Ok, Err}
use Rattle.std.proofs.Common.{OnOk, OnErr, IsSome, is_some, option_and_then, refl, ap, sym, ◌∙◌, arith, rules}
use Rattle.std.specs.Option.{option_map_or}
use Rattle.host_node.specs.declared.kind.Kind.TheVariants.{Dir}
use Rattle.host_node.specs.Tree.{Shape, directory, file, link, lent, kind_of, is_lent, child_of, with_child, lend_child}
use Rattle.host_node.specs.Tree.{is_directory}
use Rattle.host_node.specs.Routes.{subtree, put_subtree, only_directory, directory_at, is_way_free}
use Rattle.host_node.proofs.TreeLemmas.{directory_from_child, child_of-with_same, with_child_twice, with_child_found}
use Rattle.host_node.proofs.TreeLemmas.{lend_child_found, is_lent-none_lent}
use Rattle.host_node.proofs.RouteLemmas.{none_lent-is_free}
use Rattle.host_memory.specs.declared.places.PutErr.{PutErr}
use Rattle.host_memory.specs.Places.{way_of, last_of, parent_directory, put_under}

-- a child that was taken left its place,
pub child_of-taken : (name : List ℕ) (t s : Shape) → Some s ≡ child_of name t
    → IsSome (child_of name (lend_child name t))
child_of-taken name t s h =
    let place : child_of name (lend_child name t) ≡ Some (lent (kind_of s)) =
    ap (child_of name) (lend_child_found name s t (sym h))
    ∙ child_of-with_same name (lent (kind_of s)) t (directory_from_child name t s (sym h)) in
    rw place refl

-- and what is given there stands in its place
pub given-taken : (name : List ℕ) (t s c : Shape) → Some s ≡ child_of name t
    → with_child name c (lend_child name t) ≡ with_child name c t
given-taken name t s c h =
    ap (with_child name c) (lend_child_found name s t (sym h)) ∙ with_child_twice name c (lent (kind_of s)) t

-- one name further, names lead from the child
pub subtree-step : (name : List ℕ) (rest : List (List ℕ)) (t s : Shape) → Some s ≡ child_of name t
    → subtree (name ∷ rest) t ≡ subtree rest s
subtree-step name rest t s h = ap (option_and_then (subtree rest)) (sym h)

pub put_step : (name : List ℕ) (rest : List (List ℕ)) (new t s : Shape) → Some s ≡ child_of name t
    → put_subtree (name ∷ rest) new t ≡ with_child name (put_subtree rest new s) t
put_step name rest new t s h = ap (λ o. option_map_or (λ c. with_child name (put_subtree rest new c) t) o t) (sym h)

-- a tree that is put below a child that was taken is put where the names lead, once the child is given back
pub put_subtree-step : (name : List ℕ) (rest : List (List ℕ)) (new t s : Shape) → Some s ≡ child_of name t
    → with_child name (put_subtree rest new s) (lend_child name t) ≡ put_subtree (name ∷ rest) new t
put_subtree-step name rest new t s h =
    given-taken name t s (put_subtree rest new s) h ∙ sym (put_step name rest new t s h)

-- what a tree is put under below a child,
pub put_under-below : (name next : List ℕ) (more : List (List ℕ)) (new t s : Shape) → Some s ≡ child_of name t
    → put_under (name ∷ next ∷ more) new t ≡ with_child name (put_under (next ∷ more) new s) t
put_under-below name next more new t s h =
    ap (λ o. option_map_or (λ p. put_subtree (name ∷ way_of (next ∷ more)) (with_child (last_of (next ∷ more)) new p) t)
    (option_and_then only_directory (option_and_then (subtree (way_of (next ∷ more))) o)) t) (sym h)
    ∙ by (parent_directory (next ∷ more) s)
  where
    by : (o : Option Shape)
        → option_map_or
        (λ p. put_subtree (name ∷ way_of (next ∷ more)) (with_child (last_of (next ∷ more)) new p) t) o t
        ≡ with_child name
        (option_map_or (λ p. put_subtree (way_of (next ∷ more)) (with_child (last_of (next ∷ more)) new p) s) o s) t
    by None = sym (with_child_found name s t (sym h))
    by (Some p) = put_step name (way_of (next ∷ more)) (with_child (last_of (next ∷ more)) new p) t s h

-- the same, as it comes once the child was taken and is given back
pub put_under-step : (name : List ℕ) (rest : List (List ℕ)) (new t s : Shape) → 0 < length rest
    → Some s ≡ child_of name t
    → with_child name (put_under rest new s) (lend_child name t) ≡ put_under (name ∷ rest) new t
put_under-step name [] new t s l h = absurd (omega arith)
put_under-step name (next ∷ more) new t s l h =
    given-taken name t s (put_under (next ∷ more) new s) h ∙ sym (put_under-below name next more new t s h)

-- what a call below a child left, where it went well,
pub put_under-ok : (r : Result (Unit {0}) PutErr) (name : List ℕ) (rest : List (List ℕ)) (new t s c : Shape)
    → 0 < length rest → Some s ≡ child_of name t
    → OnOk r (c ≡ put_under rest new s) → OnOk r (with_child name c (lend_child name t) ≡ put_under (name ∷ rest) new t)
put_under-ok (Ok u) name rest new t s c l h e =
    ap (λ x. with_child name x (lend_child name t)) e ∙ put_under-step name rest new t s l h
put_under-ok (Err x) name rest new t s c l h e = tt

-- and where it was refused
pub put_under-err : (r : Result (Unit {0}) PutErr) (name : List ℕ) (t s c : Shape) → Some s ≡ child_of name t
    → OnErr r (c ≡ s) → OnErr r (with_child name c (lend_child name t) ≡ t)
put_under-err (Ok u) name t s c h e = tt
put_under-err (Err x) name t s c h e =
    ap (λ x. with_child name x (lend_child name t)) e ∙ given-taken name t s s h ∙ with_child_found name s t (sym h)

-- what stands in a place that is free stands here
pub is_here : (names : List (List ℕ)) (t s : Shape) → is_way_free names t ≡ true → Some s ≡ subtree names t
    → is_lent s ≡ false
is_here names t s f h = is_lent-none_lent s (none_lent-is_free names s t f (sym h))

-- a look tells whether there is a directory
pub looked_at : (names : List (List ℕ)) (t : Shape) (o : Option Shape) → o ≡ subtree names t
    → option_map_or is_directory o false ≡ is_some (directory_at names t)
looked_at names t o h = by o ∙ ap (λ x. is_some (option_and_then only_directory x)) h
  where
    by : (o : Option Shape) → option_map_or is_directory o false ≡ is_some (option_and_then only_directory o)
    by None = refl
    by (Some (directory mode faults entries)) = refl
    by (Some (file bytes mode faults)) = refl
    by (Some (link text faults)) = refl
    by (Some (lent kind)) = refl

-- where there is one, something stands there,
pub stands_there : (names : List (List ℕ)) (t : Shape) → is_some (directory_at names t) ≡ true
    → IsSome (subtree names t)
stands_there names t h = by (subtree names t) h
  where
    by : (o : Option Shape) → is_some (option_and_then only_directory o) ≡ true → IsSome o
    by None h = cc
    by (Some s) h = search rules

-- and it is that directory
pub directory_stands : (names : List (List ℕ)) (t s : Shape) → is_some (directory_at names t) ≡ true
    → Some s ≡ subtree names t → (directory_at names t ≡ Some s) × (kind_of s ≡ Dir)
directory_stands names t s d h =
    let found = by s (ap (λ x. is_some (option_and_then only_directory x)) h ∙ d) in
    (ap (option_and_then only_directory) (sym h) ∙ found.0, found.1)
  where
    by : (s : Shape) → is_some (only_directory s) ≡ true → (only_directory s ≡ Some s) × (kind_of s ≡ Dir)
    by (directory mode faults entries) d = (refl, refl)
    by (file bytes mode faults) d = cc
    by (link text faults) d = cc
    by (lent kind) d = cc
