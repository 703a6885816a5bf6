-- What a search by name finds among a directory's entries in memory, and what a write there leaves.
use Rattle.std.proofs.Common.{◌≡◌, ℕ, ◌<◌, ◌+◌, Bool, true, false, cond, ltb, List, [], ◌∷◌, length, get_or, set}
use Rattle.std.proofs.Common.{position, Some, None, refl, ap, zero, suc, arith, not}
use Rattle.std.specs.List.{position_or_len, insert}
use Rattle.std.specs.Str.{bytes_eq}
use Rattle.std.proofs.lemmas.List.Quantifiers.{position-Some}
use Rattle.std.proofs.lemmas.List.Recursion.{found_at, found_nowhere}
use Rattle.std.proofs.lemmas.List.Sums.{prefix_len_passes}
use Rattle.std.proofs.lemmas.Bool.Decides.{nat_tests}
use Rattle.host_node.specs.declared.tree.TreeEntry.{TreeEntry}
use Rattle.host_node.specs.Tree.{Shape, Children, lent, no_children, child, kind_of, find_child, replace_child}
use Rattle.host_node.specs.Tree.{insert_child, lend_in}
use Rattle.host_node.specs.Levels.{children_from, entry_names, has_name, comes_before}

-- where no place passes, no element does
all_fail : {X : Type 0} (p : X → Bool) (xs : List X) (d : X) (b : Bool) → ltb (position_or_len p xs) (length xs) ≡ b
    → cond b (Some (position_or_len p xs)) None ≡ None → (k : ℕ) → k < length xs → p (get_or xs k d) ≡ false
all_fail p xs d true e h k l = cc
all_fail p xs d false e h k l =
    let passes : not (p (get_or xs k d)) ≡ true =
    prefix_len_passes (λ x. not (p x)) xs k d (grind (arith, nat_tests)) in
    not_true _ passes
  where
    not_true : (b : Bool) → not b ≡ true → b ≡ false
    not_true true h = cc
    not_true false h = refl

-- what stands at the place of a name is what stands under it
pub find_here : (name : List ℕ) (es : List TreeEntry) (i : ℕ) (d : TreeEntry) → position (has_name name) es ≡ Some i
    → find_child name (children_from es) ≡ Some (get_or es i d).tree
find_here name es i d e =
    let at = position-Some (has_name name) es i d e in
    found_at (λ xs. find_child name (children_from xs)) (has_name name) (λ x. Some x.tree) None refl
    (λ _ _. refl) es i d at.0 at.2 at.1

-- a name that has no place has nothing under it
pub find_nowhere : (name : List ℕ) (es : List TreeEntry) → position (has_name name) es ≡ None
    → find_child name (children_from es) ≡ None
find_nowhere name [] e = refl
find_nowhere name (x ∷ xs) e =
    found_nowhere (λ ys. find_child name (children_from ys)) (has_name name) (λ y. Some y.tree) None refl
    (λ _ _. refl) (x ∷ xs) x
    (all_fail (has_name name) (x ∷ xs) x _ refl e)

-- with nothing under a name, a replacement there leaves the entries
pub replace_nowhere : (name : List ℕ) (t : Shape) (cs : Children) → find_child name cs ≡ None
    → replace_child name t cs ≡ cs
replace_nowhere name t no_children e = refl
replace_nowhere name t (child other s rest) e = by (bytes_eq name other) e (replace_nowhere name t rest)
  where
    by : (b : Bool) → cond b (Some s) (find_child name rest) ≡ None
        → (find_child name rest ≡ None → replace_child name t rest ≡ rest)
        → cond b (child other t rest) (child other s (replace_child name t rest)) ≡ child other s rest
    by true h more = cc
    by false h more = ap (child other s) (more h)

replace_at : (name : List ℕ) (t : Shape) (es : List TreeEntry) (i : ℕ) (d : TreeEntry) → i < length es
    → has_name name (get_or es i d) ≡ true
    → ((k : ℕ) → k < i → has_name name (get_or es k d) ≡ false)
    → children_from (set es i (record { name = (get_or es i d).name; tree = t }))
    ≡ replace_child name t (children_from es)
replace_at name t [] i d l at before = absurd (omega arith)
replace_at name t (x ∷ xs) zero d l at before = rw at refl
replace_at name t (x ∷ xs) (suc i) d l at before =
    let e = replace_at name t xs i d (omega arith) at (λ k h. before (suc k) (omega arith)) in
    rw (before 0 (omega arith)) (ap (child x.name x.tree) e)

-- a write to the tree at the place of a name replaces what stands under it
pub replace_here : (name : List ℕ) (t : Shape) (es : List TreeEntry) (i : ℕ) (d : TreeEntry)
    → position (has_name name) es ≡ Some i
    → children_from (set es i (record { name = (get_or es i d).name; tree = t }))
    ≡ replace_child name t (children_from es)
replace_here name t es i d e =
    let at = position-Some (has_name name) es i d e in
    replace_at name t es i d at.0 at.1 at.2

names_at : (es : List TreeEntry) (i : ℕ) (d : TreeEntry) (t : Shape) → i < length es
    → entry_names (set es i (record { name = (get_or es i d).name; tree = t })) ≡ entry_names es
names_at [] i d t l = absurd (omega arith)
names_at (x ∷ xs) zero d t l = refl
names_at (x ∷ xs) (suc i) d t l = ap (λ ns. x.name ∷ ns) (names_at xs i d t (omega arith))

-- and it leaves the names
pub names_here : (name : List ℕ) (es : List TreeEntry) (i : ℕ) (d : TreeEntry) (t : Shape)
    → position (has_name name) es ≡ Some i
    → entry_names (set es i (record { name = (get_or es i d).name; tree = t })) ≡ entry_names es
names_here name es i d t e = names_at es i d t (position-Some (has_name name) es i d e).0

-- leaving what stands at the place of a name to a borrower is a replacement there
pub lend_here : (name : List ℕ) (es : List TreeEntry) (i : ℕ) (d : TreeEntry) → position (has_name name) es ≡ Some i
    → children_from (set es i (record { name = (get_or es i d).name; tree = lent (kind_of (get_or es i d).tree) }))
    ≡ lend_in name (children_from es)
lend_here name es i d e =
    rw (find_here name es i d e) (replace_here name (lent (kind_of (get_or es i d).tree)) es i d e)

-- with nothing under a name, nothing is left to a borrower there
pub lend_nowhere : (name : List ℕ) (cs : Children) → find_child name cs ≡ None → lend_in name cs ≡ cs
lend_nowhere name cs e = rw e refl

-- an insertion past the first element is one among the others
pub insert_more : {X : Type 0} (x : X) (xs : List X) (n : ℕ) (y : X) → insert (x ∷ xs) (1 + n) y ≡ x ∷ insert xs n y
insert_more x xs n y = let e : 1 + n ≡ suc n = omega arith in rw e refl

-- an entry that goes in before the first greater name goes in in order
pub insert_here : (name : List ℕ) (t : Shape) (es : List TreeEntry)
    → children_from (insert es (position_or_len (comes_before name) es) (record { name = name; tree = t }))
    ≡ insert_child name t (children_from es)
insert_here name t [] = refl
insert_here name t (x ∷ xs) = by (comes_before name x) (insert_here name t xs)
  where
    n : ℕ
    n = position_or_len (comes_before name) xs

    by : (b : Bool) → children_from (insert xs n (record { name = name; tree = t }))
        ≡ insert_child name t (children_from xs)
        → children_from (insert (x ∷ xs) (cond (not b) (1 + n) 0) (record { name = name; tree = t }))
        ≡ cond b (child name t (children_from (x ∷ xs))) (child x.name x.tree (insert_child name t (children_from xs)))
    by true e = refl
    by false e = rw (insert_more x xs n (record { name = name; tree = t })) (ap (child x.name x.tree) e)
