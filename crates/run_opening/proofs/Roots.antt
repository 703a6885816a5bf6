-- The roots of all mounts: their nodes as they are granted, and their trees in a later state.
use Rattle.std.proofs.Common.{◌≡◌, ◌≢◌, ℕ, suc, ◌+◌, ◌-◌, ◌<◌, ◌≤◌, ◌^◌, true, List, [], ◌∷◌, ◌++◌, length, ap}
use Rattle.std.proofs.Common.{sym, ◌∙◌, ◌||◌, arith, inl, inr, length-append}
use Rattle.std.specs.Prelude.{Option, Some, None, if◌then◌else◌, is_none, is_some, min, option_map, unwrap_or}
use Rattle.std.specs.FinMap as map
use Rattle.std.proofs.lemmas.Bool.{cases_eq}
use Rattle.sn_base.specs.Sums.{capped}
use Rattle.sn_base.proofs.Maps.{get_of_empty, get-insert_same, get-insert_other}
use Rattle.host_node.specs.Tree.{Shape, faults_of, with_faults}
use Rattle.host_node.proofs.TreeLemmas.{with_faults_own}
use Rattle.mount_file.specs.Rules.{has_root}
use Rattle.mount_file.specs.declared.mounts.Mount.{Mount}
use Rattle.kernel_model.specs.declared.limits.TheConstants.{LAST_NUMBER}
use Rattle.kernel_model.specs.declared.kernel.Kernel.{Kernel}
use Rattle.kernel_model.specs.files.FileTree.{Nodes, plain, plain_node, root_node}
use Rattle.kernel_model.specs.files.Settled.{count_now, tree_now}
use Rattle.kernel_model.specs.opening.Opening.{root_among, root_of, rooted}
use Rattle.image_walk.specs.declared.granted.Numbering.{Numbering}
use Rattle.image_walk.specs.Standing.{AreNodes, KeepsRoots, no_left}
use Rattle.image_walk.proofs.KernelAnswers.{AreStill}
use Rattle.run_opening.specs.Openings.{numbering_of}
use Rattle.run_opening.specs.Trees.{AreOthers, AreSmall, HaveTrees, Others, trees_with}

-- ---- the number of the mount at `/`

-- it is that of one of the mounts
pub root_within : (first : ℕ) (mounts : List Mount) → has_root mounts ≡ true
    → (first ≤ root_among first mounts) × (root_among first mounts < first + length mounts)
root_within first [] h = cc
root_within first (m ∷ mounts) h = by m.at h (root_within (first + 1) mounts)
  where
    by : (at : Option (List ℕ)) → (is_none at || has_root mounts) ≡ true
        → (has_root mounts ≡ true
        → (first + 1 ≤ root_among (first + 1) mounts) × (root_among (first + 1) mounts < first + 1 + length mounts))
        → (first ≤ (if is_some at then root_among (first + 1) mounts else first))
        × ((if is_some at then root_among (first + 1) mounts else first) < first + suc (length mounts))
    by None h more = (omega arith, omega arith)
    by (Some name) h more =
        let low : first + 1 ≤ root_among (first + 1) mounts = (more h).0 in
        let high : root_among (first + 1) mounts < first + 1 + length mounts = (more h).1 in
        (omega arith, omega arith)

-- ---- the nodes of the roots, as they are granted

-- behind some roots stand the others
rooted_from : (first : ℕ) (before trees : List Shape) (ino : ℕ) → first + length before ≤ ino
    → map.get (rooted first (before ++ trees)) ino ≡ map.get (rooted (first + length before) trees) ino
rooted_from first [] trees ino h =
    let same : first ≡ first + 0 = omega arith in
    ap (λ n. map.get (rooted n trees) ino) same
rooted_from first (b ∷ before) trees ino h =
    let g : first + suc (length before) ≤ ino = h in
    let apart : first ≢ ino = λ e. absurd (omega arith) in
    let next : first + 1 + length before ≤ ino = omega arith in
    let same : first + 1 + length before ≡ first + suc (length before) = omega arith in
    get-insert_other (rooted (first + 1) (before ++ trees)) first ino (root_node first b) apart
    ∙ rooted_from (first + 1) before trees ino next
    ∙ ap (λ n. map.get (rooted n trees) ino) same

-- they are the same whatever the tree of one root
pub rooted_but : (first : ℕ) (before behind : List Shape) (a b : Shape) (ino : ℕ) → ino ≢ first + length before
    → map.get (rooted first (before ++ a ∷ behind)) ino ≡ map.get (rooted first (before ++ b ∷ behind)) ino
rooted_but first [] behind a b ino differs =
    let d : ino ≢ first + 0 = differs in
    let apart : first ≢ ino = λ e. d (omega arith) in
    get-insert_other (rooted (first + 1) behind) first ino (root_node first a) apart
    ∙ sym (get-insert_other (rooted (first + 1) behind) first ino (root_node first b) apart)
rooted_but first (x ∷ before) behind a b ino differs =
    let with_a = rooted (first + 1) (before ++ a ∷ behind) in
    let with_b = rooted (first + 1) (before ++ b ∷ behind) in
    let node = root_node first x in
    elim (cases_eq first ino) [
      | inl e ↦ ap (map.get (map.insert with_a first node)) (sym e) ∙ get-insert_same with_a first node
          ∙ sym (get-insert_same with_b first node) ∙ ap (map.get (map.insert with_b first node)) e
      | inr apart ↦ get-insert_other with_a first ino node apart
          ∙ rooted_but (first + 1) before behind a b ino (λ e.
          let d : ino ≢ first + suc (length before) = differs in
          let same : ino ≡ first + suc (length before) = omega arith in
          d same)
          ∙ sym (get-insert_other with_b first ino node apart)
    ]

-- above them there is none
pub rooted_above : (first : ℕ) (trees : List Shape) (ino : ℕ) → first + length trees ≤ ino
    → map.get (rooted first trees) ino ≡ None
rooted_above first [] ino h = get_of_empty ino
rooted_above first (t ∷ trees) ino h =
    let g : first + suc (length trees) ≤ ino = h in
    let apart : first ≢ ino = λ e. absurd (omega arith) in
    let next : first + 1 + length trees ≤ ino = omega arith in
    get-insert_other (rooted (first + 1) trees) first ino (root_node first t) apart
    ∙ rooted_above (first + 1) trees ino next

-- before any opening execve no child has a number
pub are_nodes : (num : Numbering) (others : Others) (t : Shape) → num.root ≡ length others.before + 1
    → num.first ≡ length others.before + length others.behind + 2
    → AreNodes num (rooted 1 (trees_with others t)) t []
are_nodes num others t root first = record {
  root =
      let from : 1 + length others.before ≤ num.root = omega arith in
      let same : num.root ≡ 1 + length others.before = omega arith in
      rooted_from 1 others.before (t ∷ others.behind) num.root from
      ∙ ap (λ n. map.get (rooted n (t ∷ others.behind)) num.root) (sym same)
      ∙ get-insert_same (rooted (num.root + 1) others.behind) num.root (root_node num.root t);
  children = λ ino h.
      let long : length (trees_with others t) ≡ length others.before + suc (length others.behind) =
      length-append others.before (t ∷ others.behind) in
      let above : 1 + length (trees_with others t) ≤ ino = omega arith in
      rooted_above 1 (trees_with others t) ino above;
}

-- ---- the trees of the roots in a state

-- the tree of a root that stands as it was granted, by its count
plain_granted : (depth : ℕ) (count : ℕ → ℕ → ℕ) (nodes : Nodes) (ino : ℕ) (t : Shape)
    → map.get nodes ino ≡ Some (root_node ino t)
    → plain (suc depth) count nodes ino ≡ Some (with_faults (count ino (faults_of t)) t)
unfolding plain
plain_granted depth count nodes ino t node = ap (option_map (plain_node (plain depth count nodes) count ino)) node

same_count : (faults : ℕ) → faults < 2 ^ 64 → capped (faults + 0 + 0) ≡ faults
same_count faults small =
    let same : min (faults + 0 + 0) (2 ^ 64 - 1) ≡ faults = omega arith in
    same

-- where no count of it rose, it is the granted one
tree_granted : (k : Kernel) (ino : ℕ) (t : Shape) → map.get k.nodes ino ≡ Some (root_node ino t)
    → map.get k.failed ino ≡ None → faults_of t < 2 ^ 64 → tree_now k no_left ino ≡ Some t
tree_granted k ino t node failed small =
    plain_granted LAST_NUMBER (count_now k no_left) k.nodes ino t node
    ∙ ap (λ o. Some (with_faults (capped (faults_of t + unwrap_or o 0 + 0)) t)) failed
    ∙ ap (λ n. Some (with_faults n t)) (same_count (faults_of t) small)
    ∙ ap Some (with_faults_own t)

-- roots that stand as they were granted have their trees
have_granted : (k : Kernel) (number : ℕ) (trees : List Shape) → AreSmall trees
    → ((ino : ℕ) → number ≤ ino → ino < number + length trees
    → map.get k.nodes ino ≡ map.get (rooted number trees) ino)
    → ((ino : ℕ) → number ≤ ino → ino < number + length trees → map.get k.failed ino ≡ None)
    → HaveTrees k number trees
have_granted k number [] small nodes failed = tt
have_granted k number (t ∷ trees) small nodes failed =
    let low : number ≤ number = omega arith in
    let high : number < number + suc (length trees) = omega arith in (
      tree_granted k number t
          (nodes number low high ∙ get-insert_same (rooted (number + 1) trees) number (root_node number t))
          (failed number low high) small.0,
      have_granted k (number + 1) trees small.1
          (λ ino from within.
          let above : number ≤ ino = omega arith in
          let below : ino < number + suc (length trees) = omega arith in
          let apart : number ≢ ino = λ e. absurd (omega arith) in
          nodes ino above below ∙ get-insert_other (rooted (number + 1) trees) number ino (root_node number t) apart)
          (λ ino from within.
          let above : number ≤ ino = omega arith in
          let below : ino < number + suc (length trees) = omega arith in
          failed ino above below),
    )

-- and so, where one of them has another tree
have_with : (k : Kernel) (number root : ℕ) (before behind : List Shape) (t after : Shape)
    → root ≡ number + length before → AreSmall before → AreSmall behind
    → ((ino : ℕ) → ino ≢ root → number ≤ ino → ino < number + length before + suc (length behind)
    → map.get k.nodes ino ≡ map.get (rooted number (before ++ t ∷ behind)) ino)
    → ((ino : ℕ) → ino ≢ root → number ≤ ino → ino < number + length before + suc (length behind)
    → map.get k.failed ino ≡ None)
    → tree_now k no_left root ≡ Some after → HaveTrees k number (before ++ after ∷ behind)
have_with k number root [] behind t after is small_before small nodes failed tree =
    let here : root ≡ number + 0 = is in
    let same : root ≡ number = omega arith in (
      ap (tree_now k no_left) (sym same) ∙ tree,
      have_granted k (number + 1) behind small
          (λ ino from within.
          let differs : ino ≢ root = λ e. absurd (omega arith) in
          let above : number ≤ ino = omega arith in
          let below : ino < number + 0 + suc (length behind) = omega arith in
          let apart : number ≢ ino = λ e. absurd (omega arith) in
          nodes ino differs above below
          ∙ get-insert_other (rooted (number + 1) behind) number ino (root_node number t) apart)
          (λ ino from within.
          let differs : ino ≢ root = λ e. absurd (omega arith) in
          let above : number ≤ ino = omega arith in
          let below : ino < number + 0 + suc (length behind) = omega arith in
          failed ino differs above below),
    )
have_with k number root (b ∷ before) behind t after is small_before small nodes failed tree =
    let here : root ≡ number + suc (length before) = is in
    let next : root ≡ number + 1 + length before = omega arith in
    let low : number ≤ number = omega arith in
    let high : number < number + suc (length before) + suc (length behind) = omega arith in
    let other : number ≢ root = λ e. absurd (omega arith) in (
      tree_granted k number b
          (nodes number other low high
          ∙ get-insert_same (rooted (number + 1) (before ++ t ∷ behind)) number (root_node number b))
          (failed number other low high) small_before.0,
      have_with k (number + 1) root before behind t after next small_before.1 small
          (λ ino differs from within.
          let above : number ≤ ino = omega arith in
          let below : ino < number + suc (length before) + suc (length behind) = omega arith in
          let apart : number ≢ ino = λ e. absurd (omega arith) in
          nodes ino differs above below
          ∙ get-insert_other (rooted (number + 1) (before ++ t ∷ behind)) number ino (root_node number b) apart)
          (λ ino differs from within.
          let above : number ≤ ino = omega arith in
          let below : ino < number + suc (length before) + suc (length behind) = omega arith in
          failed ino differs above below)
          tree,
    )

-- the other roots have the trees that were granted, whatever the mount at `/` has then
pub have_trees : (mounts : List Mount) (others : Others) (t after : Shape) (k : Kernel) → AreOthers mounts others
    → KeepsRoots (numbering_of mounts) (rooted 1 (trees_with others t)) k.nodes
    → AreStill (numbering_of mounts) k.failed → tree_now k no_left (root_of mounts) ≡ Some after
    → HaveTrees k 1 (trees_with others after)
have_trees mounts others t after k are kept still tree =
    let place : root_of mounts ≡ length others.before + 1 = are.place in
    let count : length mounts ≡ length others.before + length others.behind + 1 = are.long in
    let root : root_of mounts ≡ 1 + length others.before = omega arith in
    have_with k 1 (root_of mounts) others.before others.behind t after root are.small_before are.small_behind
    (λ ino differs from within.
    let low : ino < length mounts + 1 = omega arith in
    kept ino differs low)
    (λ ino differs from within.
    let low : ino < length mounts + 1 = omega arith in
    still ino differs low)
    tree
