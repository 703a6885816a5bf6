-- A folder that was granted, and what is told once it is settled.
use Rattle.std.proofs.Common.{◌≡◌, ℕ, zero, suc, ◌<◌, ◌^◌, List, [], ◌∷◌, ◌++◌, length}
use Rattle.std.proofs.Common.{refl}
use Rattle.std.proofs.Common.{ap, sym, ◌∙◌, subst, arith}
use Rattle.std.specs.Prelude.{Option, Some, None, IsSome, option_map}
use Rattle.std.proofs.lemmas.Option.{same_Some}
use Rattle.host_node.specs.declared.kind.Kind.{Kind}
use Rattle.host_node.specs.declared.kind.Kind.TheVariants.{Dir, File}
use Rattle.host_node.specs.Tree.{Shape, faults_of, lent}
use Rattle.host_node.specs.Routes.{subtree, put_subtree, directory_at}
use Rattle.host_node.specs.Told.{CanGrant, TellsGranted, ComesFrom, CanSettle, Settles}
use Rattle.host_node.proofs.RouteLemmas.{is_directory-directory_at, none_lent-is_free, subtree-directory_at}
use Rattle.host_node.proofs.RouteLemmas.{subtree-granted}
use Rattle.host_node.proofs.ToldLemmas.{settles_other}
use Rattle.image_walk.specs.Granted.{LentChild, CanGiveBack, GivesBack, put_all}
use Rattle.image_walk.specs.Walking.{IsRoot}
use Rattle.run_opening.specs.Trees.{AreSmall}

-- ---- a granted folder

-- the folder of the world that a granted root tells
pub record Came (names : List (List ℕ)) (world : Shape) (told : Option Shape) : Type 0 where
  pub tree : Shape
  pub there : directory_at names world ≡ Some tree
  pub told_is : told ≡ Some tree
  pub small : faults_of tree < 2 ^ 64

pub came : (names : List (List ℕ)) (world : Shape) (told : Option Shape) (count : ℕ) (what : Kind)
    → TellsGranted names (Some world) told count what → count < 2 ^ 64 → Came names world told
came names world told count what g small = by (directory_at names world) refl g
  where
    by : (o : Option Shape) → directory_at names world ≡ o → ComesFrom o told count what → Came names world told
    by None e from = absurd from
    by (Some t) e from =
        record { tree = t; there = e; told_is = from.0; small = subst (λ (n : ℕ). n < 2 ^ 64) from.1 small }

-- a root that was granted is a directory of which nothing is lent
pub is_root : (names : List (List ℕ)) (world root : Option Shape) (count : ℕ) (what : Kind)
    → CanGrant names world → TellsGranted names world root count what → IsRoot root
is_root names None root count what u g = subst IsRoot (sym g) tt
is_root names (Some w) root count what u g = by_directory (directory_at names w) refl g
  where
    by_directory : (o : Option Shape) → directory_at names w ≡ o → ComesFrom o root count what → IsRoot root
    by_directory None e from = absurd from
    by_directory (Some t) e from =
        subst IsRoot (sym from.0)
        (is_directory-directory_at names t w e, none_lent-is_free names t w u (subtree-directory_at names t w e))

-- it can be settled while the host tells what it did after the grant
pub can_settle : (names : List (List ℕ)) (world world1 root : Option Shape) (count : ℕ) (what : Kind)
    → TellsGranted names world root count what → world1 ≡ option_map (put_subtree names (lent Dir)) world
    → CanSettle names world1
can_settle names None world1 root count what g e = subst (λ (o : Option Shape). CanSettle names o) (sym e) tt
can_settle names (Some w) world1 root count what g e =
    subst (λ (o : Option Shape). CanSettle names o) (sym e) (by_directory (directory_at names w) refl g)
  where
    by_directory : (o : Option Shape) → directory_at names w ≡ o → ComesFrom o root count what
        → subtree names (put_subtree names (lent Dir) w) ≡ Some (lent Dir)
    by_directory None d from = absurd from
    by_directory (Some t) d from = subtree-granted names t w d

-- what is settled in the place of the folder stands there
pub settled_there : (names : List (List ℕ)) (world new : Shape) (between told after : Option Shape)
    → between ≡ Some (put_subtree names (lent Dir) world) → told ≡ Some new → Settles names between told after
    → after ≡ Some (put_subtree names new world)
settled_there names world new between told after b t s =
    settles_other names world new after
    (subst (λ (o : Option Shape). Settles names o (Some new) after) b
    (subst (λ (o : Option Shape). Settles names between o after) t s))

-- ---- what a root gives back of which nothing is lent

gives_first : (t : Shape) (root : Option Shape) (children : List LentChild) (after : Shape) → root ≡ Some t
    → children ≡ []
    → GivesBack root children (Some after) → after ≡ t
gives_first t root children after r c gives =
    same_Some after t
    (subst (λ (o : Option Shape). GivesBack o [] (Some after)) r
    (subst (λ (cs : List LentChild). GivesBack root cs (Some after)) c gives))

pub gives_same : (told root : Option Shape) (children : List LentChild) (t after : Shape) → root ≡ told → children ≡ []
    → told ≡ Some t → GivesBack root children (Some after) → after ≡ t
gives_same told root children t after r c e gives = gives_first t root children after (r ∙ e) c gives

pub can_first : (root : Option Shape) (children : List LentChild) → children ≡ [] → CanGiveBack root children
can_first root children c = subst (λ (cs : List LentChild). CanGiveBack root cs) (sym c) (by root)
  where
    by : (o : Option Shape) → CanGiveBack o []
    by None = tt
    by (Some t) = tt

-- one that tells gives a tree back
pub gives_tree : (told root back : Option Shape) (children : List LentChild) (t : Shape) → (IsSome told → IsSome root)
    → GivesBack root children back → told ≡ Some t
    → (after : Shape) × (back ≡ Some after) × GivesBack root children (Some after)
gives_tree told root back children t tells gives e =
    by root (tells (subst (λ (o : Option Shape). IsSome o) (sym e) refl)) gives
  where
    by : (o : Option Shape) → IsSome o → GivesBack o children back
        → (after : Shape) × (back ≡ Some after) × GivesBack o children (Some after)
    by None is g = cc is
    by (Some r) is g = (put_all children r, g, refl)

-- ---- trees of so many mounts

-- some trees, of which it does not matter which they are
abbrev pub some_trees : ℕ → List Shape
some_trees zero = []
some_trees (suc n) = lent File ∷ some_trees n

pub some_long : (n : ℕ) → length (some_trees n) ≡ n
some_long zero = refl
some_long (suc n) = ap suc (some_long n)

pub some_small : (n : ℕ) → AreSmall (some_trees n)
some_small zero = tt
some_small (suc n) = (omega arith, some_small n)

-- and one more
pub small_more : (trees : List Shape) (t : Shape) → AreSmall trees → faults_of t < 2 ^ 64 → AreSmall (trees ++ t ∷ [])
small_more [] t h g = (g, tt)
small_more (x ∷ trees) t h g = (h.0, small_more trees t h.1 g)
