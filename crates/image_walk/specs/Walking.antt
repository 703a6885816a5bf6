-- How the walk of an opening execve goes over a host's nodes.
use Rattle.std.specs.Prelude.{◌≡◌, ℕ, ◌+◌, ◌<◌, ◌^◌, List, [], ◌∷◌, ◌++◌, length, Bool, true, false, Option, Some, None}
use Rattle.std.specs.Prelude.{⊤}
use Rattle.std.specs.Prelude.{slice_get, slice_set}
use Rattle.host_node.specs.Tree.{Shape, faults_of, child_of, is_directory, lend_child, none_lent}
use Rattle.sn_errno.specs.declared.errno.Errno.TheVariants.{EIO, ENOENT, EACCES}
use Rattle.kernel_model.specs.files.FileTree.{owner_executes}
use Rattle.image_walk.specs.declared.granted.Numbering.{Numbering}
use Rattle.image_walk.specs.declared.loading.ImageAnswer.{ImageAnswer}
use Rattle.image_walk.specs.declared.loading.ImageAnswer.TheVariants.{Refuses, Memory}
use Rattle.image_walk.specs.declared.loading.NodeAnswer.{NodeAnswer}
use Rattle.image_walk.specs.declared.walk.WalkEnd.{WalkEnd}
use Rattle.image_walk.specs.Granted.{LentChild, place_of_child}
use Rattle.image_walk.specs.Loading.{Loads, LoadsWhere, faulted_by}
use Rattle.image_walk.specs.Standing.{StandsLent}

-- no child tells itself
-- profile
abbrev pub TellNothing : List LentChild → Type 0
TellNothing [] = ⊤
TellNothing (c ∷ children) = (c.1 ≡ None) × TellNothing children

-- a granted folder of which these children were lent, and none of whose nodes failed so far; or its nodes tell nothing
-- profile
abbrev pub IsGrant : Numbering → (root : Option Shape) → List LentChild → Type 0
IsGrant num None children = TellNothing children
IsGrant num (Some r) children =
    (t : Shape) × (names : List (List ℕ)) × (is_directory t ≡ true) × StandsLent num t names [] (Some r) children

-- a walk that draws a number draws the next, for a child that is then behind the others
-- inode(7), st_ino
abbrev pub DrawsNext : Numbering → (drawn : Bool) → (ino before after : ℕ) → Type 0
DrawsNext num true ino before after = (ino ≡ before + num.first) × (after ≡ before + 1)
DrawsNext num false ino before after = after ≡ before

-- the numbers that an execve draws, by how many children were lent before and after: none, or the next
-- inode(7), st_ino
abbrev pub NumbersNext : Numbering → List ℕ → (before after : ℕ) → Type 0
NumbersNext num [] before after = after ≡ before
NumbersNext num (n ∷ []) before after = (n ≡ before + num.first) × (after ≡ before + 1)
NumbersNext num (n ∷ m ∷ numbers) before after = ⊥

-- the nodes of a granted folder tell nothing
-- profile
abbrev pub IsSilent : (root : Option Shape) → List LentChild → Type 0
IsSilent root children = (root ≡ None) × TellNothing children

-- a root as it is granted: where it tells itself, it is a directory of which nothing is lent
-- profile
abbrev pub IsRoot : (told : Option Shape) → Type 0
IsRoot None = ⊤
IsRoot (Some t) = (is_directory t ≡ true) × (none_lent t ≡ true)

-- a root that its owner may not search, or that failed
-- path_resolution(7), EACCES
abbrev pub NotSearched : Shape → (after : Option Shape) → (risen : Option ℕ) → ImageAnswer → Type 0
NotSearched t after None (Refuses errno) = (owner_executes t ≡ false) × (errno ≡ EACCES) × (after ≡ Some t)
NotSearched t after None Memory = after ≡ Some t
NotSearched t after (Some d) (Refuses errno) = (errno ≡ EIO) × (0 < d) × (after ≡ Some (faulted_by d t))
NotSearched t after _ _ = ⊥

-- what a search of the root came to: refused so, or its owner may search it
-- path_resolution(7), EACCES
abbrev pub SearchedBy : Shape → (after : Option Shape) → Option NodeAnswer → Type 0
SearchedBy t after (Some loaded) = NotSearched t after loaded.risen loaded.answer
SearchedBy t after None = (owner_executes t ≡ true) × (after ≡ Some t)

abbrev pub SearchedFor : (told after : Option Shape) → Option NodeAnswer → Type 0
SearchedFor None after loaded = after ≡ None
SearchedFor (Some t) after loaded = SearchedBy t after loaded

-- the root has no child of that name, or it failed
-- path_resolution(7), ENOENT
abbrev pub LendsNone : Shape → (name : List ℕ) → (after : Option Shape) → (risen : Option ℕ) → ImageAnswer → Type 0
LendsNone t name after None (Refuses errno) = (after ≡ Some t) × (child_of name t ≡ None) × (errno ≡ ENOENT)
LendsNone t name after (Some d) (Refuses errno) = (errno ≡ EIO) × (0 < d) × (after ≡ Some (faulted_by d t))
LendsNone t name after _ _ = ⊥

-- the root lent the child of that name, which was loaded
-- execve(2)
pub record LendsChild (t : Shape) (name : List ℕ) (children children' : List LentChild) (after : Option Shape)
    (risen : Option ℕ) (answer : ImageAnswer) : Type 0 where
  pub child : Shape
  pub there : child_of name t ≡ Some child
  pub small : faults_of child < 2 ^ 64
  pub told : Option Shape
  pub lent : after ≡ Some (lend_child name t)
  pub pushed : children' ≡ children ++ (name, told) ∷ []
  pub loads : Loads child told risen answer

abbrev pub LendsBy : Numbering → (drawn : Bool) → Shape → (name : List ℕ) → (children children' : List LentChild)
    → (after : Option Shape) → (ino : ℕ) → (risen : Option ℕ) → ImageAnswer → Type 0
LendsBy num true t name children children' after ino risen answer =
    LendsChild t name children children' after risen answer × (ino ≡ length children + num.first)
LendsBy num false t name children children' after ino risen answer =
    LendsNone t name after risen answer × (children' ≡ children) × (ino ≡ num.root)

abbrev pub LendsWhere : Numbering → (told : Option Shape) → (name : List ℕ) → (children children' : List LentChild)
    → (after : Option Shape) → WalkEnd → Type 0
LendsWhere num None name children children' after step =
    (after ≡ None) × (TellNothing children → TellNothing children')
LendsWhere num (Some t) name children children' after step =
    LendsBy num step.drawn t name children children' after step.ino step.loaded.risen step.loaded.answer

-- the child at a place was loaded again
-- execve(2)
pub record LoadsAt (place : ℕ) (children children' : List LentChild) (risen : Option ℕ)
    (answer : ImageAnswer) : Type 0 where
  pub child : LentChild
  pub at : slice_get children place ≡ Some child
  pub told : Option Shape
  pub set : children' ≡ slice_set children place (child.0, told)
  pub loads : LoadsWhere child.1 told risen answer

-- how a walk went over a root that tells itself
-- path_resolution(7); execve(2)
pub data Walks (num : Numbering) (t : Shape) (name : List ℕ) (children children' : List LentChild)
    (after : Option Shape)
    (step : WalkEnd) : Type 0 where
  Unsearched : NotSearched t after step.loaded.risen step.loaded.answer → children' ≡ children → step.drawn ≡ false
      → step.ino ≡ num.root → Walks num t name children children' after step
  Known : owner_executes t ≡ true → after ≡ Some t → step.drawn ≡ false → (place : ℕ)
      → place_of_child name children ≡ Some place → step.ino ≡ place + num.first
      → LoadsAt place children children' step.loaded.risen step.loaded.answer
      → Walks num t name children children' after step
  Lent : owner_executes t ≡ true → place_of_child name children ≡ None
      → LendsBy num step.drawn t name children children' after step.ino step.loaded.risen step.loaded.answer
      → Walks num t name children children' after step

-- the same, where the root tells itself
-- profile
abbrev pub WalksWhere : Numbering → (told : Option Shape) → (name : List ℕ) → (children children' : List LentChild)
    → (after : Option Shape) → WalkEnd → Type 0
WalksWhere num None name children children' after step =
    (after ≡ None) × (TellNothing children → TellNothing children')
WalksWhere num (Some t) name children children' after step = Walks num t name children children' after step
