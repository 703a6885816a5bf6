-- How the entries below a directory's entries are counted.
use Rattle.std.proofs.Common.{◌≡◌, ℕ, ◌<◌, ◌≤◌, ◌+◌, ◌*◌, List, [], ◌∷◌, length, get_or, zero, suc, arith, ap}
use Rattle.host_node.specs.declared.tree.TreeEntry.{TreeEntry}
use Rattle.host_node.specs.Levels.{children_from}
use Rattle.host_node.specs.laws.TreeSize.{weight, weight_of_entries}

weight_at : (es : List TreeEntry) (i : ℕ) (d : TreeEntry) → i < length es → weight (get_or es i d).tree + 1
    ≤ weight_of_entries (children_from es)
weight_at [] i d l = absurd (omega arith)
weight_at (x ∷ xs) zero d l = omega arith
weight_at (x ∷ xs) (suc i) d l = omega (arith, weight_at xs i d (omega arith))

-- an entry has fewer entries below it than all of them together
pub weight_item : (es : List TreeEntry) (i : ℕ) (e : TreeEntry) → i < length es → e ≡ get_or es i e
    → 2 * weight e.tree + 1 < 2 * weight_of_entries (children_from es)
weight_item es i e l is =
    let same : weight e.tree ≡ weight (get_or es i e).tree = ap (λ x. weight x.tree) is in
    omega (arith, weight_at es i e l)
