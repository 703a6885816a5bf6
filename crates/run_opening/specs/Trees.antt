-- The granted trees of all mounts: that of the mount at `/`, in its place among those of the others.
use Rattle.std.specs.Prelude.{◌≡◌, ℕ, ◌+◌, ◌<◌, ◌^◌, List, [], ◌∷◌, ◌++◌, length, Some, ⊤}
use Rattle.host_node.specs.Tree.{Shape, faults_of}
use Rattle.mount_file.specs.declared.mounts.Mount.{Mount}
use Rattle.kernel_model.specs.declared.kernel.Kernel.{Kernel}
use Rattle.kernel_model.specs.files.Settled.{tree_now}
use Rattle.kernel_model.specs.opening.Opening.{root_of}
use Rattle.image_walk.specs.Standing.{no_left}

-- the trees of the other mounts, in order: of those before the mount at `/`, and of those behind it
-- profile
pub record Others : Type 0 where
  pub before : List Shape
  pub behind : List Shape

-- the trees of all mounts, in order, with this one as that of the mount at `/`
-- profile
abbrev pub trees_with : Others → Shape → List Shape
trees_with others t = others.before ++ t ∷ others.behind

-- the counts of faults of these trees' roots are as a host has them
-- profile
abbrev pub AreSmall : List Shape → Type 0
AreSmall [] = ⊤
AreSmall (t ∷ trees) = (faults_of t < 2 ^ 64) × AreSmall trees

-- these are trees of the other mounts among the first so many, that at `/` being one of them
-- profile
pub record AreAmong (mounts : List Mount) (count : ℕ) (others : Others) : Type 0 where
  pub place : root_of mounts ≡ length others.before + 1
  pub long : count ≡ length others.before + length others.behind + 1
  pub small_before : AreSmall others.before
  pub small_behind : AreSmall others.behind

-- there is one for each of the other mounts
-- profile
abbrev pub AreOthers : List Mount → Others → Type 0
AreOthers mounts others = AreAmong mounts (length mounts) others

-- the roots from that number on have these trees in a state, numbered in order
-- inode(7), st_ino
abbrev pub HaveTrees : Kernel → (number : ℕ) → List Shape → Type 0
HaveTrees k number [] = ⊤
HaveTrees k number (t ∷ trees) = (tree_now k no_left number ≡ Some t) × HaveTrees k (number + 1) trees
