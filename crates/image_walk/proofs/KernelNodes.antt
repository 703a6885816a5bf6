-- The kernel's nodes after an opening execve: those of the folder, with one more where a number was drawn.
use Rattle.std.proofs.Common.{◌≡◌, ◌≢◌, ℕ, suc, ◌+◌, ◌<◌, ◌≤◌, Bool, true, false, List, [], ◌∷◌, ◌++◌, length, refl, ap}
use Rattle.std.proofs.Common.{sym, ◌∙◌, arith}
use Rattle.std.specs.Prelude.{Option, Some, None, option_map}
use Rattle.std.specs.FinMap as map
use Rattle.sn_base.proofs.Maps.{get-insert_same, get-insert_other}
use Rattle.host_node.specs.Tree.{Shape, child_of}
use Rattle.kernel_model.specs.declared.kernel.Kernel.{Kernel}
use Rattle.kernel_model.specs.declared.kernel.Node.{Node}
use Rattle.kernel_model.specs.files.FileTree.{Nodes, child_node, numbered_in}
use Rattle.kernel_model.specs.entries.Given.{node_changes}
use Rattle.kernel_model.specs.entries.Parts.{Change, changed}
use Rattle.image_walk.specs.declared.granted.Numbering.{Numbering}
use Rattle.image_walk.specs.Standing.{lend_all, numbers_from, root_with, HaveNodes, AreNodes, KeepsRoots}
use Rattle.image_walk.specs.Executing.{named_then}
use Rattle.image_walk.proofs.Lending.{lend_all-more}
use Rattle.image_walk.proofs.Places.{IsThere}
use Rattle.image_walk.proofs.KernelNumbers.{nodes_then, nodes_drawn, Draws}

-- ---- the nodes with one more

numbers_from-more : (n : ℕ) (names : List (List ℕ)) (name : List ℕ)
    → numbers_from n (names ++ name ∷ [])
    ≡ numbers_from n names ++ record { name = name; ino = length names + n } ∷ []
numbers_from-more n [] name =
    let same : n ≡ 0 + n = omega arith in
    ap (λ ino. record { name = name; ino = ino } ∷ []) same
numbers_from-more n (other ∷ names) name =
    let same : length names + (n + 1) ≡ suc (length names) + n = omega arith in
    ap (λ ns. record { name = other; ino = n } ∷ ns)
    (numbers_from-more (n + 1) names name
    ∙ ap (λ ino. numbers_from (n + 1) names ++ record { name = name; ino = ino } ∷ []) same)

-- the root with one more number
root_more : (num : Numbering) (t : Shape) (names : List (List ℕ)) (name : List ℕ)
    → numbered_in (root_with num t names) name (length names + num.first) ≡ root_with num t (names ++ name ∷ [])
root_more num t names name =
    ap (λ tree. record {
      parent = num.root;
      linked = true;
      tree = tree;
      numbers = numbers_from num.first names ++ record { name = name; ino = length names + num.first } ∷ [];
    }) (sym (lend_all-more names name t))
    ∙ ap (λ numbers. record {
      parent = num.root;
      linked = true;
      tree = lend_all (names ++ name ∷ []) t;
      numbers = numbers;
    })
    (sym (numbers_from-more num.first names name))

have_more : (num : Numbering) (nodes nodes' : Nodes) (n : ℕ) (t : Shape) (names : List (List ℕ)) (name : List ℕ)
    → HaveNodes num nodes n t names
    → ((ino : ℕ) → n ≤ ino → ino ≢ length names + n → map.get nodes' ino ≡ map.get nodes ino)
    → map.get nodes' (length names + n) ≡ option_map (child_node num.root) (child_of name t)
    → HaveNodes num nodes' n t (names ++ name ∷ [])
have_more num nodes nodes' n t [] name h others here =
    let same : n ≡ 0 + n = omega arith in (
      ap (map.get nodes') same ∙ here,
      λ ino low.
          let above : n ≤ ino = omega arith in
          let differs : ino ≢ 0 + n = λ e. absurd (omega arith) in
          others ino above differs ∙ h ino above,
    )
have_more num nodes nodes' n t (other ∷ names) name h others here =
    let same : suc (length names) + n ≡ length names + (n + 1) = omega arith in
    let low : n ≤ n = omega arith in
    let differs : n ≢ suc (length names) + n = λ e. absurd (omega arith) in (
      others n low differs ∙ h.0,
      have_more num nodes nodes' (n + 1) t names name h.1
          (λ ino l d.
          let above : n ≤ ino = omega arith in
          let apart : ino ≢ suc (length names) + n = λ e. d (e ∙ same) in
          others ino above apart)
          (ap (map.get nodes') (sym same) ∙ here),
    )

are_more : (num : Numbering) (low : num.root < num.first) (nodes : Nodes) (t : Shape) (names : List (List ℕ))
    (name : List ℕ) (x : Shape) → AreNodes num nodes t names
    → child_of name t ≡ Some x
    → AreNodes num (map.insert (map.insert nodes num.root
    (numbered_in (root_with num t names) name (length names + num.first)))
    (length names + num.first) (child_node num.root x)) t (names ++ name ∷ [])
are_more num low nodes t names name x a e = record {
  root =
      let apart : length names + num.first ≢ num.root = λ one. absurd (omega arith) in
      get-insert_other (map.insert nodes num.root (numbered_in (root_with num t names) name (length names + num.first)))
      (length names + num.first) num.root (child_node num.root x) apart
      ∙ get-insert_same nodes num.root (numbered_in (root_with num t names) name (length names + num.first))
      ∙ ap Some (root_more num t names name);
  children = have_more num nodes _ num.first t names name a.children
      (λ ino from d.
      let last : length names + num.first ≢ ino = λ same. d (sym same) in
      let first : num.root ≢ ino = λ one. absurd (omega arith) in
      get-insert_other (map.insert nodes num.root (numbered_in (root_with num t names) name (length names + num.first)))
      (length names + num.first) ino (child_node num.root x) last
      ∙ get-insert_other nodes num.root ino (numbered_in (root_with num t names) name (length names + num.first)) first)
      (get-insert_same _ (length names + num.first) (child_node num.root x) ∙ ap (option_map (child_node num.root))
      (sym e));
}

-- the other roots are not among those that changed
roots_more : (num : Numbering) (nodes : Nodes) (last : ℕ) (root child : Node) → num.first ≤ last
    → KeepsRoots num nodes (map.insert (map.insert nodes num.root root) last child)
roots_more num nodes last root child high = λ ino differs low.
    let above : last ≢ ino = λ e. absurd (omega arith) in
    let other : num.root ≢ ino = λ e. differs (sym e) in
    get-insert_other (map.insert nodes num.root root) last ino child above
    ∙ get-insert_other nodes num.root ino root other

-- ---- what changes leave

-- the kernel with changed nodes, and the same otherwise but for counts that rose; the other roots stand
pub record Leaves (num : Numbering) (k after : Kernel) (t : Shape) (names : List (List ℕ)) : Type 0 where
  pub nodes : AreNodes num after.nodes t names
  pub others : KeepsRoots num k.nodes after.nodes
  pub rest : after ≡ record k { nodes = after.nodes }

leaves_drawn : (num : Numbering) (low : num.root < num.first) (k : Kernel) (t : Shape) (names : List (List ℕ))
    (name : List ℕ) (o : Option Shape)
    → AreNodes num k.nodes t names → child_of name t ≡ o → IsThere o
    → Leaves num k (changed (node_changes (nodes_drawn num t names name o)) k) t (names ++ name ∷ [])
leaves_drawn num low k t names name None a e there = absurd there
leaves_drawn num low k t names name (Some x) a e there =
    record {
      nodes = are_more num low k.nodes t names name x a e;
      others =
          let high : num.first ≤ length names + num.first = omega arith in
          roots_more num k.nodes (length names + num.first) _ _ high;
      rest = refl;
    }

pub leaves : (num : Numbering) (low : num.root < num.first) (drawn : Bool) (k : Kernel) (t : Shape)
    (names : List (List ℕ)) (name : List ℕ) → AreNodes num k.nodes t names
    → Draws num t names name drawn
    → Leaves num k (changed (node_changes (nodes_then num drawn t names name)) k) t (named_then drawn names name)
leaves num low true k t names name a d = leaves_drawn num low k t names name (child_of name t) a refl (d.there refl)
leaves num low false k t names name a d = record { nodes = a; others = λ ino differs below. refl; rest = refl }

-- one more change
pub changed-more : (changes : List Change) (change : Change) (k : Kernel)
    → changed (changes ++ change ∷ []) k ≡ changed (change ∷ []) (changed changes k)
changed-more [] change k = refl
changed-more (c ∷ changes) change k = changed-more changes change (changed (c ∷ []) k)
