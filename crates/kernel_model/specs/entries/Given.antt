-- What a call draws and meets: fresh inode numbers of children, and rises of nodes' counts of faults.
use Rattle.std.specs.Prelude.{ℕ, ◌+◌, ◌==◌, nat_lt, nat_le, List, [], ◌∷◌, ◌++◌, map, Bool, true, false, ◌&&◌, ◌||◌}
use Rattle.std.specs.Prelude.{Option, Some, None, if◌then◌else◌, unwrap_or, not}
use Rattle.std.specs.List.{list_all, list_any}
use Rattle.std.specs.Str.{bytes_eq}
use Rattle.std.specs.Ordering.{nat_cmp}
use Rattle.std.specs.FinMap as map
use Rattle.sn_base.specs.Sums.{capped}
use Rattle.kernel_model.specs.declared.limits.TheConstants.{LAST_NUMBER}
use Rattle.kernel_model.specs.declared.kernel.Node.{Node}
use Rattle.kernel_model.specs.declared.kernel.Part.TheVariants.{OfNode, OfFaults}
use Rattle.kernel_model.specs.declared.opening.Fresh.{Fresh}
use Rattle.kernel_model.specs.declared.opening.Rise.{Rise}
use Rattle.kernel_model.specs.declared.opening.Given.{Given}
use Rattle.kernel_model.specs.files.FileTree.{Nodes, Child, Missing, Known, Unnumbered, child_at}
use Rattle.kernel_model.specs.files.FileTree.{child_node, numbered_in}
use Rattle.kernel_model.specs.entries.Parts.{Prog, done, look, ◌>>=◌, Change}

-- a list has an item
-- profile
abbrev pub has_any : {A : Type 0} → List A → Bool
has_any [] = false
has_any (x ∷ xs) = true

-- a call drew nothing and met nothing
-- profile
abbrev pub is_quiet : Given → Bool
is_quiet given = not (has_any given.rises) && not (has_any given.fresh)

-- numbers that strictly ascend, the first above that one
-- profile
abbrev pub ascend_from : ℕ → List ℕ → Bool
ascend_from last [] = true
ascend_from last (n ∷ ns) = nat_lt last n && ascend_from n ns

abbrev pub numbers_of : List Fresh → List ℕ
numbers_of fresh = map (λ (f : Fresh). f.ino) fresh

abbrev pub nodes_of : List Rise → List ℕ
nodes_of rises = map (λ (r : Rise). r.ino) rises

-- two fresh numbers are of one child
-- inode(7), st_ino
abbrev pub same_child : Fresh → Fresh → Bool
same_child a b = (a.dir == b.dir) && bytes_eq a.name b.name

-- each child has one number at most
-- inode(7), st_ino
abbrev pub are_apart : List Fresh → Bool
are_apart [] = true
are_apart (f ∷ fresh) = not (list_any (same_child f) fresh) && are_apart fresh

-- fresh numbers ascend from 1 on, each of another child, rises ascend by node, and none is of 0
-- profile
abbrev pub is_in_order : Given → Bool
is_in_order given =
    ascend_from 0 (numbers_of given.fresh) && are_apart given.fresh && ascend_from 0 (nodes_of given.rises)
    && list_all (λ (r : Rise). nat_lt 0 r.count) given.rises

-- a number above the greatest is drawn for a child and given to no node
-- profile
abbrev pub above_last : Fresh → Bool
above_last f = nat_lt LAST_NUMBER f.ino

-- the number is that of no node
-- inode(7), st_ino
abbrev pub is_unused : Nodes → Fresh → Bool
is_unused nodes f = not (map.contains_key nodes f.ino)

-- a fresh number that is given to a node is that one
-- inode(7), st_ino; profile
abbrev pub gives_number : ℕ → Fresh → Bool
gives_number ino f = nat_le f.ino LAST_NUMBER && (f.ino == ino)

-- the node whose count rose has a number, or gets it from the fresh ones
-- profile
abbrev pub is_numbered : Nodes → List Fresh → Rise → Bool
is_numbered nodes fresh r = map.contains_key nodes r.ino || list_any (gives_number r.ino) fresh

-- what may be drawn and met where these nodes have numbers: fresh numbers are unused, and counts rise of nodes that
-- have numbers then
-- profile
abbrev pub may_meet : Nodes → Given → Bool
may_meet nodes given =
    list_all (is_unused nodes) given.fresh && list_all (is_numbered nodes given.fresh) given.rises

-- nodes that a step has changed so far, the latest first
-- profile
abbrev pub Nodes_so_far : Type 0
Nodes_so_far = List (ℕ × Node)

abbrev pub node_in : ℕ → Nodes_so_far → Option Node
node_in ino [] = None
node_in ino (entry ∷ entries) = if entry.0 == ino then Some entry.1 else node_in ino entries

-- a node, as the step has left it so far
-- profile
abbrev pub node_by : Option Node → ℕ → Prog (Option Node)
node_by (Some node) ino = done (Some node)
node_by None ino = look (OfNode ino) (λ node. done node)

abbrev pub node_now : Nodes_so_far → ℕ → Prog (Option Node)
node_now nodes ino = node_by (node_in ino nodes) ino

-- a child that is there and has no number gets the fresh one; one above the greatest is drawn and given to no node
-- inode(7), st_ino; profile
abbrev pub given_number : Nodes_so_far → Fresh → Node → Child → Option Nodes_so_far
given_number nodes fresh dir Missing = None
given_number nodes fresh dir (Known ino) = None
given_number nodes fresh dir (Unnumbered shape) =
    if nat_le fresh.ino LAST_NUMBER
    then Some ((fresh.ino, child_node fresh.dir shape) ∷ (fresh.dir, numbered_in dir fresh.name fresh.ino) ∷ nodes)
    else Some nodes

abbrev pub number_at : Nodes_so_far → Fresh → Option Node → Option Nodes_so_far
number_at nodes fresh None = None
number_at nodes fresh (Some dir) = given_number nodes fresh dir (child_at fresh.name dir)

abbrev pub number_one : Nodes_so_far → Fresh → Prog (Option Nodes_so_far)
number_one nodes fresh = node_now nodes fresh.dir >>= λ dir. done (number_at nodes fresh dir)

-- each fresh number in turn
-- profile
abbrev pub number_next : (Nodes_so_far → Prog (Option Nodes_so_far)) → Option Nodes_so_far
    → Prog (Option Nodes_so_far)
number_next rest None = done None
number_next rest (Some nodes) = rest nodes

abbrev pub number_all : List Fresh → Nodes_so_far → Prog (Option Nodes_so_far)
number_all [] nodes = done (Some nodes)
number_all (f ∷ fresh) nodes = number_one nodes f >>= number_next (number_all fresh)

-- a count after a rise, by number
-- profile: counts stop at 2^64 - 1
abbrev pub risen : List Rise → map.FinMap nat_cmp ℕ → map.FinMap nat_cmp ℕ
risen [] failed = failed
risen (r ∷ rises) failed = risen rises (map.insert failed r.ino (capped (unwrap_or (map.get failed r.ino) 0 + r.count)))

-- the nodes of a step as its changes, the earliest first
-- profile
abbrev pub node_changes : Nodes_so_far → List Change
node_changes [] = []
node_changes (entry ∷ entries) = node_changes entries ++ (OfNode entry.0, Some entry.1) ∷ []

-- what a call leaves in which a host call failed: fresh numbers of children that are there, and the rises
-- profile
abbrev pub met : Given → Option Nodes_so_far → map.FinMap nat_cmp ℕ → Option (List Change)
met given None failed = None
met given (Some nodes) failed = Some (node_changes nodes ++ (OfFaults, risen given.rises failed) ∷ [])

abbrev pub faulted : Given → Prog (Option (List Change))
faulted given = number_all given.fresh [] >>= λ nodes. look OfFaults (λ failed. done (met given nodes failed))
