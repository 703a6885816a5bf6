-- A child of a directory that is lent, and what stays of the directory.
use Rattle.std.proofs.Common.{◌≡◌, ℕ, ◌+◌, ◌<◌, ◌^◌, true, false, List, refl, ap, ◌∙◌, arith}
use Rattle.std.specs.Prelude.{Option, Some, None, IfSome}
use Rattle.std.specs.Option.{option_map_or}
use Rattle.std.specs.Str.{bytes_eq}
use Rattle.sn_base.specs.Sums.{capped}
use Rattle.host_node.specs.Tree.{Shape, Children, directory, file, link, lent, kind_of, faults_of, with_faults, is_lent}
use Rattle.host_node.specs.Tree.{is_directory, find_child, replace_child, child_of, lend_in, lend_child}
use Rattle.host_node.specs.Tree.{none_lent}
use Rattle.host_node.proofs.TreeLemmas.{with_faults_own, find-replace_other, lend_child_found, child_of-with_same}
use Rattle.host_node.proofs.TreeLemmas.{directory_from_child, children_of-with_faults, none_lent-child_of}
use Rattle.host_node.proofs.TreeLemmas.{is_lent-none_lent}
use Rattle.kernel_model.specs.files.FileTree.{owner_executes}
use Rattle.image_walk.specs.Loading.{faulted_by}

-- a count that did not rise
pub faulted_by_none : (s : Shape) → faults_of s < 2 ^ 64 → faulted_by 0 s ≡ s
faulted_by_none s h =
    let same : capped (faults_of s + 0) ≡ faults_of s = omega (arith, h) in
    ap (λ n. with_faults n s) same ∙ with_faults_own s

-- what a directory keeps where a child is lent: its count,
pub faults_of-lend : (name : List ℕ) (t : Shape) → faults_of (lend_child name t) ≡ faults_of t
faults_of-lend name (directory mode faults entries) = refl
faults_of-lend name (file bytes mode faults) = refl
faults_of-lend name (link text faults) = refl
faults_of-lend name (lent kind) = refl

-- that it is one,
pub is_directory-lend : (name : List ℕ) (t : Shape) → is_directory (lend_child name t) ≡ is_directory t
is_directory-lend name (directory mode faults entries) = refl
is_directory-lend name (file bytes mode faults) = refl
is_directory-lend name (link text faults) = refl
is_directory-lend name (lent kind) = refl

-- who may search it,
pub owner_executes-lend : (name : List ℕ) (t : Shape) → owner_executes (lend_child name t) ≡ owner_executes t
owner_executes-lend name (directory mode faults entries) = refl
owner_executes-lend name (file bytes mode faults) = refl
owner_executes-lend name (link text faults) = refl
owner_executes-lend name (lent kind) = refl

lend_in_other : (m name : List ℕ) (cs : Children) → bytes_eq m name ≡ false
    → find_child m (lend_in name cs) ≡ find_child m cs
lend_in_other m name cs e = by (find_child name cs)
  where
    by : (o : Option Shape)
        → find_child m (option_map_or (λ s. replace_child name (lent (kind_of s)) cs) o cs) ≡ find_child m cs
    by None = refl
    by (Some s) = find-replace_other m name (lent (kind_of s)) cs e

-- and what stands under another name
pub child_of-lend_other : (m name : List ℕ) (t : Shape) → bytes_eq m name ≡ false
    → child_of m (lend_child name t) ≡ child_of m t
child_of-lend_other m name (directory mode faults entries) e = lend_in_other m name entries e
child_of-lend_other m name (file bytes mode faults) e = refl
child_of-lend_other m name (link text faults) e = refl
child_of-lend_other m name (lent kind) e = refl

-- the child itself stands as lent
pub child_of-lend_same : (name : List ℕ) (t s : Shape) → child_of name t ≡ Some s
    → child_of name (lend_child name t) ≡ Some (lent (kind_of s))
child_of-lend_same name t s e =
    ap (child_of name) (lend_child_found name s t e)
    ∙ child_of-with_same name (lent (kind_of s)) t (directory_from_child name t s e)

-- a count changes nothing under a name
pub child_of-faults : (name : List ℕ) (n : ℕ) (t : Shape) → child_of name (with_faults n t) ≡ child_of name t
child_of-faults name n t = ap (find_child name) (children_of-with_faults n t)

-- nothing under a name of a tree with nothing lent is lent
pub free_child : (name : List ℕ) (t : Shape) → none_lent t ≡ true → IfSome (child_of name t) (λ s. is_lent s ≡ false)
free_child name t n = by (child_of name t) refl
  where
    by : (o : Option Shape) → child_of name t ≡ o → IfSome o (λ s. is_lent s ≡ false)
    by None e = tt
    by (Some s) e = is_lent-none_lent s (none_lent-child_of name s t n e)
