-- Which of the lent children has a name, and what its number is.
use Rattle.std.proofs.Common.{◌≡◌, ℕ, suc, ◌+◌, ◌<◌, ◌^◌, Bool, false, true, List, [], ◌∷◌, refl, ap, sym, ◌∙◌, subst}
use Rattle.std.proofs.Common.{arith}
use Rattle.std.specs.Prelude.{Option, Some, None, IsSomeAnd, IfSome, option_map, slice_get, if◌then◌else◌}
use Rattle.std.specs.Str.{bytes_eq}
use Rattle.std.proofs.lemmas.Slice.Eq.{bytes_eq-Decides}
use Rattle.host_node.specs.declared.kind.Kind.TheVariants.{Dir}
use Rattle.host_node.specs.Tree.{Shape, directory, file, link, lent, kind_of, faults_of, is_lent, is_directory}
use Rattle.host_node.specs.Tree.{none_lent, child_of}
use Rattle.host_node.specs.Told.{CanLend}
use Rattle.kernel_model.specs.declared.opening.Rise.{Rise}
use Rattle.kernel_model.specs.files.FileTree.{number_in}
use Rattle.image_walk.specs.declared.granted.Numbering.{Numbering}
use Rattle.image_walk.specs.Granted.{LentChild, place_of_child}
use Rattle.image_walk.specs.Loading.{faulted_by}
use Rattle.image_walk.specs.Standing.{lend_all, IsNoneOf, StandUnlent, lent_from, numbers_from, StandsLent}
use Rattle.host_node.proofs.Apart.{apart}
use Rattle.image_walk.proofs.Trees.{faulted_by_none, free_child}
use Rattle.image_walk.proofs.Lending.{faults_of-lend_all, is_directory-lend_all, child_of-lend_all}

-- a child that is there, and is not lent in its tree
abbrev pub IsThere : Option Shape → Type 0
IsThere o = IsSomeAnd o (λ s. (is_lent s ≡ false) × (faults_of s < 2 ^ 64))

-- where nothing rose, the root tells the tree without its children
pub root_is : (num : Numbering) (t : Shape) (names : List (List ℕ)) (root : Option Shape) (children : List LentChild)
    → StandsLent num t names [] root children → root ≡ Some (lend_all names t)
root_is num t names root children s =
    s.root_tells
    ∙ ap Some (faulted_by_none (lend_all names t)
    (subst (λ (n : ℕ). n < 2 ^ 64) (sym (faults_of-lend_all names t)) s.small))

-- ---- no child has that name

pub record Unplaced (name : List ℕ) (n : ℕ) (names : List (List ℕ)) : Type 0 where
  pub unnumbered : number_in name (numbers_from n names) ≡ None
  pub new : IsNoneOf name names

unplaced_more : (name : List ℕ) (n : ℕ) (other : List ℕ) (names : List (List ℕ)) → bytes_eq name other ≡ false
    → Unplaced name (n + 1) names → Unplaced name n (other ∷ names)
unplaced_more name n other names e u = record {
  unnumbered = ap (λ b. if b then Some n else number_in name (numbers_from (n + 1) names)) e ∙ u.unnumbered;
  new = (apart name other e, u.new);
}

-- a name without a number is none of the names
pub unnumbered_new : (name : List ℕ) (n : ℕ) (names : List (List ℕ)) → number_in name (numbers_from n names) ≡ None
    → IsNoneOf name names
unnumbered_new name n [] e = tt
unnumbered_new name n (other ∷ names) e =
    by (bytes_eq name other) refl e (λ h. unnumbered_new name (n + 1) names h)
  where
    by : (b : Bool) → bytes_eq name other ≡ b
        → (if b then Some n else number_in name (numbers_from (n + 1) names)) ≡ None
        → (number_in name (numbers_from (n + 1) names) ≡ None → IsNoneOf name names)
        → IsNoneOf name (other ∷ names)
    by true d e more = absurd (cc e)
    by false d e more = (apart name other d, more e)

mapped_none : (o : Option ℕ) → option_map (λ (place : ℕ). place + 1) o ≡ None → o ≡ None
mapped_none None e = refl
mapped_none (Some i) e = cc

unplaced_from : (name : List ℕ) (n : ℕ) (t : Shape) (names : List (List ℕ)) (rises : List Rise)
    → place_of_child name (lent_from n t names rises) ≡ None → Unplaced name n names
unplaced_from name n t [] rises e = record { unnumbered = refl; new = tt }
unplaced_from name n t (other ∷ names) rises e =
    by (bytes_eq name other) refl e (λ h. unplaced_from name (n + 1) t names rises h)
  where
    by : (b : Bool) → bytes_eq name other ≡ b
        → (if b then Some 0 else option_map (λ place. place + 1)
        (place_of_child name (lent_from (n + 1) t names rises)))
        ≡ None
        → (place_of_child name (lent_from (n + 1) t names rises) ≡ None → Unplaced name (n + 1) names)
        → Unplaced name n (other ∷ names)
    by true d e more = absurd (cc e)
    by false d e more = unplaced_more name n other names d (more (mapped_none _ e))

pub unplaced : (num : Numbering) (t : Shape) (names : List (List ℕ)) (rises : List Rise) (root : Option Shape)
    (children : List LentChild)
    (name : List ℕ) → StandsLent num t names rises root children → place_of_child name children ≡ None
    → Unplaced name num.first names
unplaced num t names rises root children name s e =
    unplaced_from name num.first t names rises (subst (λ (cs : List LentChild). place_of_child name cs
    ≡ None) s.children_tell e)

-- its child in the tree without its children is that of the tree, and can be lent
pub can_lend : (t : Shape) (names : List (List ℕ)) (name : List ℕ) → none_lent t ≡ true → is_directory t ≡ true
    → IsNoneOf name names → CanLend name (Some (lend_all names t))
can_lend t names name free d new = (
  is_directory-lend_all names t ∙ d,
  subst (λ (o : Option Shape). IfSome o (λ s. is_lent s ≡ false)) (sym (child_of-lend_all name names t new))
      (free_child name t free),
)

-- ---- a child has that name

pub record Placed (t : Shape) (name : List ℕ) (n : ℕ) (names : List (List ℕ)) (children : List LentChild)
    (i : ℕ) : Type 0 where
  pub number : number_in name (numbers_from n names) ≡ Some (i + n)
  pub there : IsThere (child_of name t)
  pub child : slice_get children i ≡ Some (name, child_of name t)

same_child : (o : Option Shape) → IsThere o → option_map (faulted_by 0) o ≡ o
same_child None h = refl
same_child (Some s) h = ap Some (faulted_by_none s h.1)

placed_first : (t : Shape) (name : List ℕ) (n : ℕ) (names : List (List ℕ)) (i : ℕ) → IsThere (child_of name t)
    → 0 ≡ i → bytes_eq name name ≡ true → Placed t name n (name ∷ names) (lent_from n t (name ∷ names) []) i
placed_first t name n names i h z e =
    subst (λ (j : ℕ). Placed t name n (name ∷ names) (lent_from n t (name ∷ names) []) j) z
    record {
      number =
          let same : n ≡ 0 + n = omega arith in
          ap (λ b. if b then Some n else number_in name (numbers_from (n + 1) names)) e ∙ ap Some same;
      there = h;
      child = ap (λ (o : Option Shape). Some (name, o)) (same_child (child_of name t) h);
    }

placed_more : (t : Shape) (name : List ℕ) (n : ℕ) (other : List ℕ) (names : List (List ℕ)) (i j : ℕ)
    → bytes_eq name other ≡ false → j + 1 ≡ i → Placed t name (n + 1) names (lent_from (n + 1) t names []) j
    → Placed t name n (other ∷ names) (lent_from n t (other ∷ names) []) i
placed_more t name n other names i j e next p =
    let later : suc j ≡ i = omega arith in
    subst (λ (k : ℕ). Placed t name n (other ∷ names) (lent_from n t (other ∷ names) []) k) later
    record {
      number =
          let same : j + (n + 1) ≡ suc j + n = omega arith in
          ap (λ b. if b then Some n else number_in name (numbers_from (n + 1) names)) e ∙ p.number ∙ ap Some same;
      there = p.there;
      child = p.child;
    }

mapped_some : (o : Option ℕ) (i : ℕ) → option_map (λ (place : ℕ). place + 1) o ≡ Some i
    → (j : ℕ) × (o ≡ Some j) × (j + 1 ≡ i)
mapped_some None i e = absurd (cc e)
mapped_some (Some j) i e = (j, refl, cc)

placed_from : (t : Shape) (name : List ℕ) (n : ℕ) (names : List (List ℕ)) (i : ℕ) → StandUnlent t names
    → place_of_child name (lent_from n t names []) ≡ Some i → Placed t name n names (lent_from n t names []) i
placed_from t name n [] i h e = absurd (cc e)
placed_from t name n (other ∷ names) i h e =
    by (bytes_eq name other) refl e (λ j g. placed_from t name (n + 1) names j h.2 g)
  where
    by : (b : Bool) → bytes_eq name other ≡ b
        → (if b then Some 0 else option_map (λ place. place + 1) (place_of_child name (lent_from (n + 1) t names [])))
        ≡ Some i
        → ((j : ℕ) → place_of_child name (lent_from (n + 1) t names []) ≡ Some j
        → Placed t name (n + 1) names (lent_from (n + 1) t names []) j)
        → Placed t name n (other ∷ names) (lent_from n t (other ∷ names) []) i
    by true d e more =
        let same : other ≡ name = sym ((bytes_eq-Decides name other).0 d) in
        let first : 0 ≡ i = cc in
        subst (λ (m : List ℕ). Placed t name n (m ∷ names) (lent_from n t (m ∷ names) []) i) (sym same)
        (placed_first t name n names i (subst (λ (m : List ℕ). IsThere (child_of m t)) same h.0) first
        (subst (λ (m : List ℕ). bytes_eq name m ≡ true) same d))
    by false d e more =
        let found = mapped_some (place_of_child name (lent_from (n + 1) t names [])) i e in
        placed_more t name n other names i found.0 d found.2 (more found.0 found.1)

pub placed : (num : Numbering) (t : Shape) (names : List (List ℕ)) (root : Option Shape) (children : List LentChild)
    (name : List ℕ) (i : ℕ)
    → StandsLent num t names [] root children → place_of_child name children ≡ Some i
    → Placed t name num.first names children i
placed num t names root children name i s e =
    subst (λ (cs : List LentChild). Placed t name num.first names cs i) (sym s.children_tell)
    (placed_from t name num.first names i s.there
    (subst (λ (cs : List LentChild). place_of_child name cs ≡ Some i) s.children_tell e))

-- the same of a name that no child has
pub can_lend_new : (num : Numbering) (t : Shape) (names : List (List ℕ)) (rises : List Rise) (root : Option Shape)
    (children : List LentChild)
    (name : List ℕ) → StandsLent num t names rises root children → is_directory t ≡ true → place_of_child name children
    ≡ None
    → CanLend name (Some (lend_all names t))
can_lend_new num t names rises root children name s d e =
    can_lend t names name s.free d (unplaced num t names rises root children name s e).new

-- its child in the tree without its children is that of the tree
pub child_of-new : (num : Numbering) (t : Shape) (names : List (List ℕ)) (rises : List Rise) (root : Option Shape)
    (children : List LentChild)
    (name : List ℕ) → StandsLent num t names rises root children → place_of_child name children ≡ None
    → child_of name (lend_all names t) ≡ child_of name t
child_of-new num t names rises root children name s e =
    child_of-lend_all name names t (unplaced num t names rises root children name s e).new

-- a node of a directory's kind that stands here is one
pub directory_of_kind : (t : Shape) → kind_of t ≡ Dir → none_lent t ≡ true → is_directory t ≡ true
directory_of_kind (directory mode faults entries) e n = refl
directory_of_kind (file bytes mode faults) e n = cc
directory_of_kind (link text faults) e n = cc
directory_of_kind (lent kind) e n = cc
