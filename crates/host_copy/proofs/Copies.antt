-- A directory that gets an entry more.
use Rattle.std.proofs.Common.{◌≡◌, ℕ, true, List}
use Rattle.host_node.specs.Tree.{Shape, with_child, none_lent}
use Rattle.host_node.proofs.TreeLemmas.{none_lent-with_child}

-- a tree with nothing lent has nothing lent with another such under a name
pub lent_more : (name : List ℕ) (tree folder : Shape) → none_lent folder ≡ true → none_lent tree ≡ true
    → none_lent (with_child name tree folder) ≡ true
lent_more name tree folder h n = none_lent-with_child name tree folder h n
