-- Directories and the numbers of their children.
use Rattle.std.proofs.Common.{◌≡◌, ℕ, ◌<◌, ◌↔◌, List, [], ◌∷◌, ◌++◌, length, Option, Some, None, refl, ap, sym, ◌∙◌}
use Rattle.std.proofs.Common.{arith}
use Rattle.std.specs.Prelude.{IsSome, option_to_list}
use Rattle.std.proofs.lemmas.List.{same_from_push, length_push}
use Rattle.host_node.specs.Tree.{Shape, child_of, with_child}
use Rattle.host_node.proofs.TreeLemmas.{with_child-lend}
use Rattle.kernel_model.specs.declared.kernel.Node.{Node}
use Rattle.kernel_model.specs.declared.kernel.Numbered.{Numbered}
use Rattle.kernel_model.specs.files.FileTree.{numbered_in}

-- what is left where the last item was taken
popped : {A : Type 0} (xs ys : List A) (x : A) (o : Option A) → xs ++ x ∷ [] ≡ ys ++ option_to_list o
    → (0 < length (xs ++ x ∷ []) → IsSome o) → ys ≡ xs
popped xs ys x None e some = absurd (cc (some (omega (arith, length_push xs x))))
popped xs ys x (Some y) e some = sym (same_from_push xs ys x y e).0

-- a directory that gave a number last, and takes the child back, is as it was
pub taken_back : (dir : Node) (name : List ℕ) (ino : ℕ) (shape : Shape) (now : Node) (numbers : List Numbered)
    (last : Option Numbered) (tree : Shape)
    → child_of name dir.tree ≡ Some shape → now ≡ numbered_in dir name ino
    → now.numbers ≡ numbers ++ option_to_list last → IsSome last ↔ (0 < length now.numbers)
    → tree ≡ with_child name shape now.tree
    → record { parent = now.parent; linked = now.linked; tree = tree; numbers = numbers } ≡ dir
taken_back dir name ino shape now numbers last tree there was pops some gives =
    let left : numbers ≡ dir.numbers =
    popped dir.numbers numbers (record { name = name; ino = ino }) last (sym (ap (λ (n : Node). n.numbers) was)
    ∙ pops) (λ h. some.1 (rw was h)) in
    let back : tree ≡ dir.tree =
    gives ∙ ap (λ (n : Node). with_child name shape n.tree) was ∙ with_child-lend name shape dir.tree there in
    let parent : now.parent ≡ dir.parent = ap (λ (n : Node). n.parent) was in
    let linked : now.linked ≡ dir.linked = ap (λ (n : Node). n.linked) was in
    rw (parent, linked, back, left) refl
