-- The kernel's walk of an opening execve, over the nodes of a granted folder.
use Rattle.std.proofs.Common.{◌≡◌, ◌≢◌, ℕ, suc, ◌+◌, ◌<◌, ◌≤◌, ◌^◌, Bool, true, false, List, [], ◌∷◌, length, refl, ap}
use Rattle.std.proofs.Common.{sym, ◌∙◌, arith, ◌⊎◌, inl, inr}
use Rattle.std.specs.Prelude.{Option, Some, None, Err, option_map, if◌then◌else◌, IsSomeAnd, is_some}
use Rattle.std.proofs.lemmas.Bool.{cases_eq}
use Rattle.std.specs.Str.{bytes_eq}
use Rattle.std.specs.FinMap as map
use Rattle.std.proofs.lemmas.Slice.Eq.{bytes_eq-Decides}
use Rattle.std.proofs.lemmas.Option.{same_Some}
use Rattle.host_node.specs.Tree.{Shape, child_of, is_lent, faults_of}
use Rattle.sn_errno.specs.declared.errno.Errno.TheVariants.{EACCES}
use Rattle.mount_file.specs.declared.mounts.Program.{Program}
use Rattle.kernel_model.specs.declared.kernel.Kernel.{Kernel}
use Rattle.kernel_model.specs.declared.kernel.Node.{Node}
use Rattle.kernel_model.specs.declared.kernel.Part.TheVariants.{OfNode}
use Rattle.kernel_model.specs.declared.opening.Given.{Given}
use Rattle.kernel_model.specs.entries.Parts.{Parts, parts, outcome_in, done}
use Rattle.kernel_model.specs.files.FileTree.{Nodes, number_in, known, child_node, owner_executes}
use Rattle.kernel_model.specs.opening.Arguments.{is_too_long}
use Rattle.kernel_model.specs.opening.Opening.{Walked, walk_of, walked_from, numbered_image, execve, execve_of, by_walk}
use Rattle.kernel_model.specs.opening.Opening.{unwalked}
use Rattle.kernel_model.specs.opening.Opening as opening
use Rattle.kernel_model.proofs.Trees.{outcome-bind}
use Rattle.image_walk.specs.declared.granted.Numbering.{Numbering}
use Rattle.image_walk.specs.Standing.{lend_all, numbers_from, root_with, HaveNodes, AreNodes, StandUnlent}
use Rattle.image_walk.specs.Executing.{walked_by, walked_among, walked_to, without_draw}
use Rattle.image_walk.proofs.Lending.{owner_executes-lend_all, child_of-lend_all}
use Rattle.image_walk.proofs.Places.{unnumbered_new}

-- the node of a name that has a number
pub numbered_node : (num : Numbering) (nodes : Nodes) (name : List ℕ) (n : ℕ) (t : Shape) (names : List (List ℕ))
    (ino : ℕ)
    → HaveNodes num nodes n t names → number_in name (numbers_from n names) ≡ Some ino
    → map.get nodes ino ≡ option_map (child_node num.root) (child_of name t)
numbered_node num nodes name n t [] ino h e = absurd (cc e)
numbered_node num nodes name n t (other ∷ names) ino h e =
    by (bytes_eq name other) refl e (λ g. numbered_node num nodes name (n + 1) t names ino h.1 g)
  where
    by : (b : Bool) → bytes_eq name other ≡ b
        → (if b then Some n else number_in name (numbers_from (n + 1) names)) ≡ Some ino
        → (number_in name (numbers_from (n + 1) names) ≡ Some ino
        → map.get nodes ino ≡ option_map (child_node num.root) (child_of name t))
        → map.get nodes ino ≡ option_map (child_node num.root) (child_of name t)
    by true d e more =
        let same : name ≡ other = (bytes_eq-Decides name other).0 d in
        ap (map.get nodes) (sym (same_Some n ino e)) ∙ h.0
        ∙ ap (λ (m : List ℕ). option_map (child_node num.root) (child_of m t)) (sym same)
    by false d e more = more e

-- above their numbers there is none
pub none_above : (num : Numbering) (nodes : Nodes) (n : ℕ) (t : Shape) (names : List (List ℕ)) (ino : ℕ)
    → HaveNodes num nodes n t names
    → n + length names ≤ ino → map.get nodes ino ≡ None
none_above num nodes n t [] ino h l = let low : n ≤ ino = let g : n + 0 ≤ ino = l in omega arith in h ino low
none_above num nodes n t (name ∷ names) ino h l =
    let g : n + suc (length names) ≤ ino = l in
    let next : n + 1 + length names ≤ ino = omega arith in
    none_above num nodes (n + 1) t names ino h.1 next

-- up to them there is one
pub node_within : (num : Numbering) (nodes : Nodes) (n : ℕ) (t : Shape) (names : List (List ℕ)) (ino : ℕ)
    → HaveNodes num nodes n t names
    → StandUnlent t names → n ≤ ino → ino < n + length names → is_some (map.get nodes ino) ≡ true
node_within num nodes n t [] ino h there low high = absurd (let g : ino < n + 0 = high in omega arith)
node_within num nodes n t (name ∷ names) ino h there low high =
    by (cases_eq n ino) (λ l g. node_within num nodes (n + 1) t names ino h.1 there.2 l g)
  where
    is_child : (o : Option Shape) → IsSomeAnd o (λ s. (is_lent s ≡ false) × (faults_of s < 2 ^ 64))
        → map.get nodes n ≡ option_map (child_node num.root) o → is_some (map.get nodes n) ≡ true
    is_child None i e = absurd i
    is_child (Some x) i e = ap is_some e

    by : (n ≡ ino) ⊎ (n ≡ ino → ⊥)
        → (n + 1 ≤ ino → ino < n + 1 + length names → is_some (map.get nodes ino) ≡ true)
        → is_some (map.get nodes ino) ≡ true
    by (inl e) more = ap (λ m. is_some (map.get nodes m)) (sym e) ∙ is_child (child_of name t) there.0 h.0
    by (inr d) more =
        let g : ino < n + suc (length names) = high in
        let apart : n ≢ ino = d in
        let next : n + 1 ≤ ino = omega arith in
        let below : ino < n + 1 + length names = omega arith in
        more next below

-- a state whose nodes are those of the folder
pub record HasNodes (num : Numbering) (s : Parts) (t : Shape) (names : List (List ℕ)) : Type 0 where
  pub root : s (OfNode num.root) ≡ Some (root_with num t names)
  pub child : (name : List ℕ) (ino : ℕ) → number_in name (numbers_from num.first names) ≡ Some ino
      → s (OfNode ino) ≡ option_map (child_node num.root) (child_of name t)
  pub above : (ino : ℕ) → num.first + length names ≤ ino → s (OfNode ino) ≡ None
  pub within : (ino : ℕ) → num.first ≤ ino → ino < num.first + length names → is_some (s (OfNode ino)) ≡ true

pub has_nodes : (num : Numbering) (k : Kernel) (t : Shape) (names : List (List ℕ)) → AreNodes num k.nodes t names
    → StandUnlent t names
    → HasNodes num (parts k) t names
has_nodes num k t names a there = record {
  root = a.root;
  child = λ name ino e. numbered_node num k.nodes name num.first t names ino a.children e;
  above = λ ino h. none_above num k.nodes num.first t names ino a.children h;
  within = λ ino low h. node_within num k.nodes num.first t names ino a.children there low h;
}

module _ (num : Numbering) (s : Parts) (t : Shape) (names : List (List ℕ)) (has : HasNodes num s t names) where
  known_walk : (o : Option Shape) (node : Option Node) → node ≡ option_map (child_node num.root) o
      → record { draws = false; image = numbered_image node } ≡ without_draw (walked_by o)
  known_walk None held e = ap (λ n. record { draws = false; image = numbered_image n }) e
  known_walk (Some x) held e = ap (λ n. record { draws = false; image = numbered_image n }) e

  unknown_walk : (o : Option Shape) → outcome_in s (opening.walked_to_child (known None o)) ≡ walked_by o
  unknown_walk None = refl
  unknown_walk (Some x) = refl

  child_walk : (name : List ℕ) (number : Option ℕ) → number_in name (numbers_from num.first names) ≡ number
      → outcome_in s (opening.walked_to_child (known number (child_of name (lend_all names t))))
      ≡ walked_to number (walked_by (child_of name t))
  child_walk name None e =
      unknown_walk (child_of name (lend_all names t))
      ∙ ap walked_by (child_of-lend_all name names t (unnumbered_new name num.first names e))
  child_walk name (Some ino) e = known_walk (child_of name t) (s (OfNode ino)) (has.child name ino e)

  walk_if : (name : List ℕ) (b : Bool)
      → outcome_in s (if b
      then opening.walked_to_child (known (number_in name (numbers_from num.first names))
      (child_of name (lend_all names t)))
      else done (record { draws = false; image = Err EACCES }))
      ≡ (if b then walked_to (number_in name (numbers_from num.first names)) (walked_by (child_of name t))
      else record { draws = false; image = Err EACCES })
  walk_if name true = child_walk name (number_in name (numbers_from num.first names)) refl
  walk_if name false = refl

  pub walk_is : (name : List ℕ) → outcome_in s (walk_of num.root name) ≡ walked_among num t names name
  walk_is name =
      ap (λ o. outcome_in s (walked_from name o)) has.root
      ∙ walk_if name (owner_executes (lend_all names t))
      ∙ ap
      (λ b. if b then walked_to (number_in name (numbers_from num.first names)) (walked_by (child_of name t))
      else record { draws = false; image = Err EACCES }) (owner_executes-lend_all names t)

  -- the walk, or none where the strings are too long
  abbrev pub walked_for : Bool → List ℕ → Walked
  walked_for long name = if long then unwalked else walked_among num t names name

  for_name : (name : List ℕ) (given : Given) (b : Bool)
      → outcome_in s (if b then by_walk num.root name given unwalked else execve num.root name given)
      ≡ outcome_in s (by_walk num.root name given (walked_for b name))
  for_name name given true = refl
  for_name name given false =
      outcome-bind s (walk_of num.root name) (by_walk num.root name given)
      ∙ ap (λ w. outcome_in s (by_walk num.root name given w)) (walk_is name)

  pub execve_is : (p : Program) (given : Given) → outcome_in s (execve_of num.root p given)
      ≡ outcome_in s (by_walk num.root p.name given (walked_for (is_too_long p.args p.env) p.name))
  execve_is p given = for_name p.name given (is_too_long p.args p.env)
