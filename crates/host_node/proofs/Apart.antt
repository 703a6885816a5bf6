-- What is put under one name, or where one route leads, leaves what stands under another, or where another leads.
use Rattle.std.proofs.Common.{◌≡◌, ℕ, Bool, true, false, ◌&&◌, ◌||◌, not, List, [], ◌∷◌, Option, Some, None}
use Rattle.std.proofs.Common.{is_some, refl, sym, ap, ◌∙◌, subst, option_and_then}
use Rattle.std.specs.Prelude.{if◌then◌else◌}
use Rattle.std.specs.Option.{option_map_or}
use Rattle.std.specs.Str.{bytes_eq}
use Rattle.std.proofs.lemmas.Cmp.{nat_list_eq_equiv}
use Rattle.std.proofs.lemmas.Slice.Eq.{bytes_eq-Decides}
use Rattle.host_node.specs.Tree.{Shape, Children, directory, file, link, lent, no_children, child}
use Rattle.host_node.specs.Tree.{find_child, replace_child, put_child, child_of, with_child, is_lent}
use Rattle.host_node.specs.Routes.{subtree, put_subtree, only_directory, directory_at, is_way_free}
use Rattle.host_node.proofs.TreeLemmas.{put-replaces, find-replace_other, child_of-with_same, child_of-with_other}
use Rattle.host_node.proofs.TreeLemmas.{directory_from_child, with_child_twice}
use Rattle.host_node.proofs.RouteLemmas.{put_step, no_step}

-- ---- two names

-- two names that differ, the other way round
pub apart : (m name : List ℕ) → bytes_eq m name ≡ false → bytes_eq name m ≡ false
apart m name e = nat_list_eq_equiv.symm name m ∙ e

-- two entries are replaced in either order
replace_apart : (n m : List ℕ) (x y : Shape) (cs : Children) → bytes_eq m n ≡ false
    → replace_child n x (replace_child m y cs) ≡ replace_child m y (replace_child n x cs)
replace_apart n m x y no_children d = refl
replace_apart n m x y (child other s rest) d =
    by (bytes_eq n other) (bytes_eq m other) refl refl (replace_apart n m x y rest d)
  where
    by : (b c : Bool) → bytes_eq n other ≡ b → bytes_eq m other ≡ c
        → replace_child n x (replace_child m y rest) ≡ replace_child m y (replace_child n x rest)
        → replace_child n x (if c then child other y rest else child other s (replace_child m y rest))
        ≡ replace_child m y (if b then child other x rest else child other s (replace_child n x rest))
    by true true e f more =
        let one : n ≡ other = (bytes_eq-Decides n other).0 e in
        let two : bytes_eq m n ≡ true = ap (bytes_eq m) one ∙ f in
        absurd (cc (d, two))
    by true false e f more = rw (e, f) refl
    by false true e f more = rw (e, f) refl
    by false false e f more = rw (e, f) (ap (child other s) more)

put_child_apart : (n m : List ℕ) (x y : Shape) (cs : Children) → bytes_eq m n ≡ false
    → is_some (find_child n cs) ≡ true → is_some (find_child m cs) ≡ true
    → put_child n x (put_child m y cs) ≡ put_child m y (put_child n x cs)
put_child_apart n m x y cs d hn hm =
    ap (put_child n x) (put-replaces m y cs hm)
    ∙ put-replaces n x (replace_child m y cs) (ap is_some (find-replace_other n m y cs (apart m n d)) ∙ hn)
    ∙ replace_apart n m x y cs d
    ∙ sym (put-replaces m y (replace_child n x cs) (ap is_some (find-replace_other m n x cs d) ∙ hm))
    ∙ sym (ap (put_child m y) (put-replaces n x cs hn))

-- two children that are there are put in either order
pub with_apart : (n m : List ℕ) (x y t : Shape) → bytes_eq m n ≡ false → is_some (child_of n t) ≡ true
    → is_some (child_of m t) ≡ true → with_child n x (with_child m y t) ≡ with_child m y (with_child n x t)
with_apart n m x y (directory mode faults entries) d hn hm =
    ap (directory mode faults) (put_child_apart n m x y entries d hn hm)
with_apart n m x y (file bytes mode faults) d hn hm = refl
with_apart n m x y (link text faults) d hn hm = refl
with_apart n m x y (lent kind) d hn hm = refl

-- ---- two routes

-- two routes part: neither begins with the other
abbrev pub are_apart : (names others : List (List ℕ)) → Bool
are_apart (name ∷ names) (other ∷ others) = not (bytes_eq name other) || are_apart names others
are_apart _ _ = false

-- whichever is named first
pub are_apart_sym : (names others : List (List ℕ)) → are_apart names others ≡ are_apart others names
are_apart_sym [] [] = refl
are_apart_sym [] (other ∷ others) = refl
are_apart_sym (name ∷ names) [] = refl
are_apart_sym (name ∷ names) (other ∷ others) =
    ap (λ b. not b || are_apart names others) (nat_list_eq_equiv.symm name other)
    ∙ ap (λ b. not (bytes_eq other name) || b) (are_apart_sym names others)

-- behind one name that is the same they part too
part_on : (name other : List ℕ) (names others : List (List ℕ)) → bytes_eq name other ≡ true
    → are_apart (name ∷ names) (other ∷ others) ≡ true → are_apart names others ≡ true
part_on name other names others same h = sym (ap (λ b. not b || are_apart names others) same) ∙ h

-- where one of two routes that part leads stands what stood there, when something is put where the other leads
pub subtree_apart : (names others : List (List ℕ)) (new t : Shape) → are_apart names others ≡ true
    → subtree names (put_subtree others new t) ≡ subtree names t
subtree_apart [] others new t h = cc
subtree_apart (name ∷ names) [] new t h = cc
subtree_apart (name ∷ names) (other ∷ others) new t h =
    by (child_of other t) refl (bytes_eq name other) refl (λ c same. subtree_apart names others new c
    (part_on name other names others same h))
  where
    by : (o : Option Shape) → child_of other t ≡ o → (b : Bool) → bytes_eq name other ≡ b
        → ((c : Shape) → bytes_eq name other ≡ true → subtree names (put_subtree others new c) ≡ subtree names c)
        → subtree (name ∷ names) (put_subtree (other ∷ others) new t) ≡ subtree (name ∷ names) t
    by None e b d more = ap (subtree (name ∷ names)) (no_step other others new t e)
    by (Some c) e false d more =
        ap (subtree (name ∷ names)) (put_step other others new t c e)
        ∙ ap (option_and_then (subtree names)) (child_of-with_other name other (put_subtree others new c) t d)
    by (Some c) e true d more =
        let same : name ≡ other = (bytes_eq-Decides name other).0 d in
        ap (subtree (name ∷ names)) (put_step other others new t c e)
        ∙ ap (λ n. option_and_then (subtree names) (child_of n (with_child other (put_subtree others new c) t))) same
        ∙ ap (option_and_then (subtree names))
        (child_of-with_same other (put_subtree others new c) t (directory_from_child other t c e))
        ∙ more c d
        ∙ sym (ap (λ n. option_and_then (subtree names) (child_of n t)) same ∙ ap (option_and_then (subtree names)) e)

-- so does a directory there
pub directory_at_apart : (names others : List (List ℕ)) (new t : Shape) → are_apart names others ≡ true
    → directory_at names (put_subtree others new t) ≡ directory_at names t
directory_at_apart names others new t h = ap (option_and_then only_directory) (subtree_apart names others new t h)

is_lent-with_child : (name : List ℕ) (s t : Shape) → is_lent (with_child name s t) ≡ is_lent t
is_lent-with_child name s (directory mode faults entries) = refl
is_lent-with_child name s (file bytes mode faults) = refl
is_lent-with_child name s (link text faults) = refl
is_lent-with_child name s (lent kind) = refl

-- and it can be granted as it could
pub is_free_apart : (names others : List (List ℕ)) (new t : Shape) → are_apart names others ≡ true
    → is_way_free names (put_subtree others new t) ≡ is_way_free names t
is_free_apart [] others new t h = cc
is_free_apart (name ∷ names) [] new t h = cc
is_free_apart (name ∷ names) (other ∷ others) new t h =
    by (child_of other t) refl (bytes_eq name other) refl (λ c same. is_free_apart names others new c
    (part_on name other names others same h))
  where
    here : Shape → Option Shape → Bool
    here x o = not (is_lent x) && option_map_or (is_way_free names) o true

    by : (o : Option Shape) → child_of other t ≡ o → (b : Bool) → bytes_eq name other ≡ b
        → ((c : Shape) → bytes_eq name other ≡ true → is_way_free names (put_subtree others new c)
        ≡ is_way_free names c)
        → is_way_free (name ∷ names) (put_subtree (other ∷ others) new t) ≡ is_way_free (name ∷ names) t
    by None e b d more = ap (is_way_free (name ∷ names)) (no_step other others new t e)
    by (Some c) e false d more =
        let x : Shape = put_subtree others new c in
        ap (is_way_free (name ∷ names)) (put_step other others new t c e)
        ∙ ap (λ o. not (is_lent (with_child other x t)) && option_map_or (is_way_free names) o true)
        (child_of-with_other name other x t d)
        ∙ ap (λ b. not b && option_map_or (is_way_free names) (child_of name t) true) (is_lent-with_child other x t)
    by (Some c) e true d more =
        let x : Shape = put_subtree others new c in
        let same : name ≡ other = (bytes_eq-Decides name other).0 d in
        ap (is_way_free (name ∷ names)) (put_step other others new t c e)
        ∙ ap (λ n. not (is_lent (with_child other x t)) && option_map_or (is_way_free names)
        (child_of n (with_child other x t)) true) same
        ∙ ap (λ o. not (is_lent (with_child other x t)) && option_map_or (is_way_free names) o true)
        (child_of-with_same other x t (directory_from_child other t c e))
        ∙ ap (λ b. not b && is_way_free names x) (is_lent-with_child other x t)
        ∙ ap (λ b. not (is_lent t) && b) (more c d)
        ∙ sym (ap (λ n. not (is_lent t) && option_map_or (is_way_free names) (child_of n t) true) same
        ∙ ap (λ o. not (is_lent t) && option_map_or (is_way_free names) o true) e)

-- what stands under another name where something is put
child_of-put_other : (m name : List ℕ) (names : List (List ℕ)) (new t : Shape) → bytes_eq m name ≡ false
    → child_of m (put_subtree (name ∷ names) new t) ≡ child_of m t
child_of-put_other m name names new t d = by (child_of name t) refl
  where
    by : (o : Option Shape) → child_of name t ≡ o → child_of m (put_subtree (name ∷ names) new t) ≡ child_of m t
    by None e = ap (child_of m) (no_step name names new t e)
    by (Some c) e =
        ap (child_of m) (put_step name names new t c e) ∙ child_of-with_other m name (put_subtree names new c) t d

-- under names that differ
put_differ : (n m : List ℕ) (names others : List (List ℕ)) (x y t : Shape) → bytes_eq n m ≡ false
    → put_subtree (n ∷ names) x (put_subtree (m ∷ others) y t)
    ≡ put_subtree (m ∷ others) y (put_subtree (n ∷ names) x t)
put_differ n m names others x y t d = by (child_of n t) (child_of m t) refl refl
  where
    by : (o p : Option Shape) → child_of n t ≡ o → child_of m t ≡ p
        → put_subtree (n ∷ names) x (put_subtree (m ∷ others) y t)
        ≡ put_subtree (m ∷ others) y (put_subtree (n ∷ names) x t)
    by o None e f =
        ap (put_subtree (n ∷ names) x) (no_step m others y t f)
        ∙ sym (no_step m others y (put_subtree (n ∷ names) x t) (child_of-put_other m n names x t (apart n m d) ∙ f))
    by None (Some b) e f =
        no_step n names x (put_subtree (m ∷ others) y t) (child_of-put_other n m others y t d ∙ e)
        ∙ sym (ap (put_subtree (m ∷ others) y) (no_step n names x t e))
    by (Some a) (Some b) e f =
        put_step n names x (put_subtree (m ∷ others) y t) a (child_of-put_other n m others y t d ∙ e)
        ∙ ap (with_child n (put_subtree names x a)) (put_step m others y t b f)
        ∙ with_apart n m (put_subtree names x a) (put_subtree others y b) t (apart n m d) (ap is_some e) (ap is_some f)
        ∙ sym (put_step m others y (put_subtree (n ∷ names) x t) b
        (child_of-put_other m n names x t (apart n m d) ∙ f)
        ∙ ap (with_child m (put_subtree others y b)) (put_step n names x t a e))

-- under one name
put_alike : (n : List ℕ) (names others : List (List ℕ)) (x y t : Shape)
    → ((c : Shape) → put_subtree names x (put_subtree others y c) ≡ put_subtree others y (put_subtree names x c))
    → put_subtree (n ∷ names) x (put_subtree (n ∷ others) y t)
    ≡ put_subtree (n ∷ others) y (put_subtree (n ∷ names) x t)
put_alike n names others x y t more = by (child_of n t) refl
  where
    twice : (ns ms : List (List ℕ)) (a b c : Shape) → child_of n t ≡ Some c
        → put_subtree (n ∷ ns) a (put_subtree (n ∷ ms) b t) ≡ with_child n (put_subtree ns a (put_subtree ms b c)) t
    twice ns ms a b c e =
        ap (put_subtree (n ∷ ns) a) (put_step n ms b t c e)
        ∙ put_step n ns a (with_child n (put_subtree ms b c) t) (put_subtree ms b c)
        (child_of-with_same n (put_subtree ms b c) t (directory_from_child n t c e))
        ∙ with_child_twice n (put_subtree ns a (put_subtree ms b c)) (put_subtree ms b c) t

    by : (o : Option Shape) → child_of n t ≡ o
        → put_subtree (n ∷ names) x (put_subtree (n ∷ others) y t)
        ≡ put_subtree (n ∷ others) y (put_subtree (n ∷ names) x t)
    by None e =
        ap (put_subtree (n ∷ names) x) (no_step n others y t e) ∙ no_step n names x t e
        ∙ sym (ap (put_subtree (n ∷ others) y) (no_step n names x t e) ∙ no_step n others y t e)
    by (Some c) e =
        twice names others x y c e ∙ ap (λ s. with_child n s t) (more c) ∙ sym (twice others names y x c e)

-- two trees are put in either order where routes that part lead
pub put_apart : (names others : List (List ℕ)) (x y t : Shape) → are_apart names others ≡ true
    → put_subtree names x (put_subtree others y t) ≡ put_subtree others y (put_subtree names x t)
put_apart [] others x y t h = cc
put_apart (n ∷ names) [] x y t h = cc
put_apart (n ∷ names) (m ∷ others) x y t h =
    by (bytes_eq n m) refl (λ same c. put_apart names others x y c (part_on n m names others same h))
  where
    by : (b : Bool) → bytes_eq n m ≡ b
        → (bytes_eq n m ≡ true → (c : Shape)
        → put_subtree names x (put_subtree others y c) ≡ put_subtree others y (put_subtree names x c))
        → put_subtree (n ∷ names) x (put_subtree (m ∷ others) y t)
        ≡ put_subtree (m ∷ others) y (put_subtree (n ∷ names) x t)
    by false d more = put_differ n m names others x y t d
    by true d more =
        let same : n ≡ m = (bytes_eq-Decides n m).0 d in
        subst (λ (k : List ℕ). put_subtree (n ∷ names) x (put_subtree (k ∷ others) y t)
        ≡ put_subtree (k ∷ others) y (put_subtree (n ∷ names) x t)) same (put_alike n names others x y t (more d))
