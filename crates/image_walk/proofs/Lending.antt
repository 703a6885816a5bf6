-- Children of a directory that are lent one after another.
use Rattle.std.proofs.Common.{◌≡◌, ℕ, ◌<◌, ◌^◌, true, false, List, [], ◌∷◌, ◌++◌, refl, sym, ◌∙◌, subst}
use Rattle.std.specs.Prelude.{Option, Some, None, IsSomeAnd, ⊤}
use Rattle.host_node.specs.Tree.{Shape, faults_of, is_lent, is_directory, child_of, lend_child}
use Rattle.kernel_model.specs.files.FileTree.{owner_executes}
use Rattle.image_walk.specs.Standing.{lend_all, IsNoneOf, StandUnlent}
use Rattle.host_node.proofs.Apart.{apart}
use Rattle.image_walk.proofs.Trees.{faults_of-lend, is_directory-lend, owner_executes-lend, child_of-lend_other}
use Rattle.image_walk.proofs.Trees.{child_of-lend_same}

-- what a directory keeps where children are lent: its count,
pub faults_of-lend_all : (names : List (List ℕ)) (t : Shape) → faults_of (lend_all names t) ≡ faults_of t
faults_of-lend_all [] t = refl
faults_of-lend_all (name ∷ names) t = faults_of-lend_all names (lend_child name t) ∙ faults_of-lend name t

-- that it is one,
pub is_directory-lend_all : (names : List (List ℕ)) (t : Shape) → is_directory (lend_all names t) ≡ is_directory t
is_directory-lend_all [] t = refl
is_directory-lend_all (name ∷ names) t = is_directory-lend_all names (lend_child name t) ∙ is_directory-lend name t

-- who may search it,
pub owner_executes-lend_all : (names : List (List ℕ)) (t : Shape)
    → owner_executes (lend_all names t) ≡ owner_executes t
owner_executes-lend_all [] t = refl
owner_executes-lend_all (name ∷ names) t =
    owner_executes-lend_all names (lend_child name t) ∙ owner_executes-lend name t

-- and what stands under another name
pub child_of-lend_all : (m : List ℕ) (names : List (List ℕ)) (t : Shape) → IsNoneOf m names
    → child_of m (lend_all names t) ≡ child_of m t
child_of-lend_all m [] t h = refl
child_of-lend_all m (name ∷ names) t h =
    child_of-lend_all m names (lend_child name t) h.1 ∙ child_of-lend_other m name t (apart name m h.0)

-- one more at the end
pub lend_all-more : (names : List (List ℕ)) (name : List ℕ) (t : Shape)
    → lend_all (names ++ name ∷ []) t ≡ lend_child name (lend_all names t)
lend_all-more [] name t = refl
lend_all-more (other ∷ names) name t = lend_all-more names name (lend_child other t)

-- where one is lent, the others stand as they did
pub still_there : (name : List ℕ) (names : List (List ℕ)) (t : Shape) → IsNoneOf name names → StandUnlent t names
    → StandUnlent (lend_child name t) names
still_there name [] t apart h = tt
still_there name (other ∷ names) t apart h = (
  subst (λ (o : Option Shape). IsSomeAnd o (λ s. (is_lent s ≡ false) × (faults_of s < 2 ^ 64)))
      (sym (child_of-lend_other other name t apart.0)) h.0,
  h.1,
  still_there name names t apart.1 h.2,
)

-- under each of these names stands a lent node
abbrev pub AreLent : Shape → (names : List (List ℕ)) → Type 0
AreLent t [] = ⊤
AreLent t (name ∷ names) = IsSomeAnd (child_of name t) (λ s. is_lent s ≡ true) × AreLent t names

lent_first : (name : List ℕ) (t : Shape)
    → IsSomeAnd (child_of name t) (λ s. (is_lent s ≡ false) × (faults_of s < 2 ^ 64))
    → IsSomeAnd (child_of name (lend_child name t)) (λ s. is_lent s ≡ true)
lent_first name t h = by (child_of name t) refl h
  where
    by : (o : Option Shape) → child_of name t ≡ o → IsSomeAnd o (λ s. (is_lent s ≡ false) × (faults_of s < 2 ^ 64))
        → IsSomeAnd (child_of name (lend_child name t)) (λ s. is_lent s ≡ true)
    by None e h = absurd h
    by (Some s) e h =
        subst (λ (o : Option Shape). IsSomeAnd o (λ x. is_lent x ≡ true)) (sym (child_of-lend_same name t s e)) refl

pub all_lent : (names : List (List ℕ)) (t : Shape) → StandUnlent t names → AreLent (lend_all names t) names
all_lent [] t h = tt
all_lent (name ∷ names) t h = (
  subst (λ (o : Option Shape). IsSomeAnd o (λ s. is_lent s ≡ true))
      (sym (child_of-lend_all name names (lend_child name t) h.1)) (lent_first name t h.0),
  all_lent names (lend_child name t) (still_there name names t h.1 h.2),
)
