-- What a run leaves of the world: each grant's tree as the last state has it, with the counts of faults risen.
use Rattle.std.specs.Prelude.{ℕ, ◌+◌, ◌==◌, suc, List, [], ◌∷◌, Option, Some, None, if◌then◌else◌, unwrap_or, sum_by}
use Rattle.std.specs.FinMap as map
use Rattle.host_node.specs.Tree.{Shape, lent}
use Rattle.host_node.specs.Routes.{put_subtree}
use Rattle.host_node.specs.declared.kind.Kind.TheVariants.{Dir}
use Rattle.sn_base.specs.Sums.{capped}
use Rattle.kernel_model.specs.declared.limits.TheConstants.{LAST_NUMBER}
use Rattle.kernel_model.specs.declared.kernel.Kernel.{Kernel}
use Rattle.mount_file.specs.declared.mounts.Mount.{Mount}
use Rattle.kernel_model.specs.declared.opening.Rise.{Rise}
use Rattle.kernel_model.specs.declared.opening.Left.{Left}
use Rattle.kernel_model.specs.declared.opening.LeftRise.{LeftRise}
use Rattle.kernel_model.specs.files.FileTree.{plain}
use Rattle.kernel_model.specs.entries.Given.{Nodes_so_far, number_all, node_changes}
use Rattle.kernel_model.specs.entries.Parts.{parts, outcome_in, changed}

-- the kernel with the fresh numbers of rises that reached no entry
-- profile
abbrev pub numbered_by : Kernel → Option Nodes_so_far → Kernel
numbered_by k None = k
numbered_by k (Some nodes) = changed (node_changes nodes) k

abbrev pub left_numbered : List LeftRise → Kernel → Kernel
left_numbered [] k = k
left_numbered (r ∷ rises) k = left_numbered rises (numbered_by k (outcome_in (parts k) (number_all r.given.fresh [])))

-- by how much a node's count rose in calls that reached no entry
-- profile
abbrev pub rise_in : ℕ → List Rise → ℕ
rise_in ino rises = sum_by (λ (r : Rise). if r.ino == ino then r.count else 0) rises

abbrev pub left_rise : ℕ → List LeftRise → ℕ
left_rise ino rises = sum_by (λ (r : LeftRise). rise_in ino r.given.rises) rises

-- a node's count of faults: as granted, and its rises; counts stop at 2^64 - 1
-- profile
abbrev pub count_now : Kernel → Left → ℕ → ℕ → ℕ
count_now k left ino granted = capped (granted + unwrap_or (map.get k.failed ino) 0 + left_rise ino left.rises)

-- the tree of a root, without numbers, with the counts as they are now
-- profile
abbrev pub tree_now : Kernel → Left → ℕ → Option Shape
tree_now k left root = plain (suc LAST_NUMBER) (count_now k left) (left_numbered left.rises k).nodes root

-- the world's tree with each grant replaced by the tree of its root
-- profile
abbrev pub with_grant : List (List ℕ) → Option Shape → Shape → Shape
with_grant names None world = world
with_grant names (Some tree) world = put_subtree names tree world

abbrev pub settled : List Mount → List ℕ → (ℕ → Option Shape) → Shape → Shape
settled (m ∷ mounts) (root ∷ roots) tree world = settled mounts roots tree (with_grant m.folder.names (tree root) world)
settled _ _ tree world = world

-- the world's tree with each grant taken out: what is outside the grants
-- profile
abbrev pub outside : List Mount → Shape → Shape
outside [] world = world
outside (m ∷ mounts) world = outside mounts (put_subtree m.folder.names (lent Dir) world)
