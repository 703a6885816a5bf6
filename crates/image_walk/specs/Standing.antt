-- A granted tree of which children of the root were lent, and the kernel's nodes that it then is.
use Rattle.std.specs.Prelude.{◌≡◌, ◌≢◌, ℕ, ◌+◌, ◌<◌, ◌≤◌, ◌^◌, List, [], ◌∷◌, true, false, Option, Some, None}
use Rattle.std.specs.Prelude.{IsSomeAnd, ⊤, option_map}
use Rattle.std.specs.Str.{bytes_eq}
use Rattle.std.specs.FinMap as map
use Rattle.host_node.specs.Tree.{Shape, faults_of, child_of, lend_child, is_lent, none_lent}
use Rattle.kernel_model.specs.declared.kernel.Node.{Node}
use Rattle.kernel_model.specs.declared.kernel.Numbered.{Numbered}
use Rattle.kernel_model.specs.declared.opening.Left.{Left}
use Rattle.kernel_model.specs.declared.opening.Rise.{Rise}
use Rattle.kernel_model.specs.files.FileTree.{Nodes, child_node}
use Rattle.kernel_model.specs.files.Settled.{rise_in}
use Rattle.image_walk.specs.declared.granted.Numbering.{Numbering}
use Rattle.image_walk.specs.declared.granted.TheConstants.{MOST_ROOTS}
use Rattle.image_walk.specs.Granted.{LentChild}
use Rattle.image_walk.specs.Loading.{faulted_by}

-- the numbers of a granted folder: the root's, and those of children from the first on, which are above those of roots
-- inode(7), st_ino; how many roots there may be: profile
abbrev pub IsNumbering : Numbering → Type 0
IsNumbering num = (0 < num.root) × (num.root < num.first) × (num.first ≤ MOST_ROOTS + 1)

-- a tree with what stands under names left to borrowers
-- profile
abbrev pub lend_all : (names : List (List ℕ)) → Shape → Shape
lend_all [] t = t
lend_all (name ∷ names) t = lend_all names (lend_child name t)

-- none of these names is that one
-- profile
abbrev pub IsNoneOf : List ℕ → (names : List (List ℕ)) → Type 0
IsNoneOf name [] = ⊤
IsNoneOf name (other ∷ names) = (bytes_eq other name ≡ false) × IsNoneOf name names

-- under each of these names, of which no two are one, stands a node that is not lent
-- profile
abbrev pub StandUnlent : Shape → (names : List (List ℕ)) → Type 0
StandUnlent t [] = ⊤
StandUnlent t (name ∷ names) =
    IsSomeAnd (child_of name t) (λ s. (is_lent s ≡ false) × (faults_of s < 2 ^ 64)) × IsNoneOf name names
    × StandUnlent t names

-- what the nodes under these names tell, numbered from that number on, after these rises of counts
-- profile
abbrev pub lent_from : (number : ℕ) → Shape → (names : List (List ℕ)) → List Rise → List LentChild
lent_from n t [] rises = []
lent_from n t (name ∷ names) rises =
    (name, option_map (faulted_by (rise_in n rises)) (child_of name t)) ∷ lent_from (n + 1) t names rises

-- a granted tree of which these children were lent: what its root and the children, numbered in order, tell after these
-- rises of counts
-- profile
pub record StandsLent (num : Numbering) (t : Shape) (names : List (List ℕ)) (rises : List Rise) (root : Option Shape)
    (children : List LentChild) : Type 0 where
  pub small : faults_of t < 2 ^ 64
  pub free : none_lent t ≡ true
  pub there : StandUnlent t names
  pub root_tells : root ≡ Some (faulted_by (rise_in num.root rises) (lend_all names t))
  pub children_tell : children ≡ lent_from num.first t names rises

-- ---- the kernel's nodes

-- the numbers of these names, from that one on
-- inode(7), st_ino
abbrev pub numbers_from : (number : ℕ) → (names : List (List ℕ)) → List Numbered
numbers_from n [] = []
numbers_from n (name ∷ names) = record { name = name; ino = n } ∷ numbers_from (n + 1) names

-- the node of the root
-- inode(7), st_ino
abbrev pub root_with : Numbering → Shape → (names : List (List ℕ)) → Node
root_with num t names =
    record { parent = num.root; linked = true; tree = lend_all names t; numbers = numbers_from num.first names }

-- the nodes from that number on are those of these names, children of the root, and there are no others
-- inode(7), st_ino
abbrev pub HaveNodes : Numbering → Nodes → (number : ℕ) → Shape → (names : List (List ℕ)) → Type 0
HaveNodes num nodes n t [] = (ino : ℕ) → n ≤ ino → map.get nodes ino ≡ None
HaveNodes num nodes n t (name ∷ names) =
    (map.get nodes n ≡ option_map (child_node num.root) (child_of name t)) × HaveNodes num nodes (n + 1) t names

-- the nodes of a granted tree of which these children have numbers
-- inode(7), st_ino
pub record AreNodes (num : Numbering) (nodes : Nodes) (t : Shape) (names : List (List ℕ)) : Type 0 where
  pub root : map.get nodes num.root ≡ Some (root_with num t names)
  pub children : HaveNodes num nodes num.first t names

-- the nodes of the other roots, whose numbers are below those of children, are as they were
-- inode(7), st_ino
abbrev pub KeepsRoots : Numbering → (before after : Nodes) → Type 0
KeepsRoots num before after =
    (ino : ℕ) → ino ≢ num.root → ino < num.first → map.get after ino ≡ map.get before ino

-- nothing that reached no entry, and nothing lent
-- profile
abbrev pub no_left : Left
no_left = record { rises = []; lent = [] }
