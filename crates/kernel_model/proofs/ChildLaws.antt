-- Fresh numbers that are given to other children leave a child without a number as it is.
use Rattle.std.proofs.Common.{◌≡◌, ℕ, Bool, true, false, cond, List, [], ◌∷◌, ◌++◌, Option, Some, None, refl, ap}
use Rattle.std.proofs.Common.{sym, ◌∙◌, subst}
use Rattle.std.specs.Prelude.{nat_le, ◌==◌, ◌&&◌, ◌||◌, not, is_some}
use Rattle.std.specs.List.{list_all, list_any}
use Rattle.std.specs.Str.{bytes_eq}
use Rattle.std.specs.FinMap as map
use Rattle.std.proofs.lemmas.Bool.{eqb-true, eqb-false}
use Rattle.sn_base.proofs.Maps.{get-insert_same, get-insert_other}
use Rattle.host_node.specs.Tree.{Shape, child_of, lend_child, kind_of, lent}
use Rattle.host_node.proofs.TreeLemmas.{lend_child_found, child_of-with_other}
use Rattle.kernel_model.specs.declared.limits.TheConstants.{LAST_NUMBER}
use Rattle.kernel_model.specs.declared.kernel.Kernel.{Kernel}
use Rattle.kernel_model.specs.declared.kernel.Node.{Node}
use Rattle.kernel_model.specs.declared.kernel.Numbered.{Numbered}
use Rattle.kernel_model.specs.declared.kernel.Part.TheVariants.{OfNode}
use Rattle.kernel_model.specs.declared.opening.Fresh.{Fresh}
use Rattle.kernel_model.specs.files.FileTree.{Nodes, Child, Missing, Known, Unnumbered, child_at}
use Rattle.kernel_model.specs.files.FileTree.{child_node, numbered_in, number_in, known}
use Rattle.kernel_model.specs.entries.Given.{Nodes_so_far, node_in, node_by, node_now, given_number, number_at}
use Rattle.kernel_model.specs.entries.Given.{number_one, number_next, number_all, node_changes, is_unused}
use Rattle.kernel_model.specs.entries.Parts.{Parts, parts, done, outcome_in, Change, put, changed}
use Rattle.kernel_model.specs.laws.Children.{HasUnnumbered, is_given_to}
use Rattle.kernel_model.proofs.Trees.{outcome-bind}

-- ---- a directory that gives a number to another child

number_in-push : (name other : List ℕ) (ino : ℕ) (entries : List Numbered) → bytes_eq name other ≡ false
    → number_in name (entries ++ record { name = other; ino = ino } ∷ []) ≡ number_in name entries
number_in-push name other ino [] e = ap (λ b. cond b (Some ino) None) e
number_in-push name other ino (entry ∷ entries) e =
    ap (cond (bytes_eq name entry.name) (Some entry.ino)) (number_in-push name other ino entries e)

there_by : (o : Option ℕ) (child : Option Shape) (shape : Shape) → known o child ≡ Unnumbered shape
    → child ≡ Some shape
there_by (Some ino) child shape e = absurd (cc e)
there_by None None shape e = absurd (cc e)
there_by None (Some s) shape e = cc e

-- the child that gets the number is there
child_there : (name : List ℕ) (dir : Node) (shape : Shape) → child_at name dir ≡ Unnumbered shape
    → child_of name dir.tree ≡ Some shape
child_there name dir shape e = there_by (number_in name dir.numbers) (child_of name dir.tree) shape e

-- and each other one stays as it was
other_child : (name other : List ℕ) (ino : ℕ) (dir : Node) (shape : Shape) → child_at other dir ≡ Unnumbered shape
    → bytes_eq name other ≡ false → child_at name (numbered_in dir other ino) ≡ child_at name dir
other_child name other ino dir shape e apart =
    ap (λ o. known o (child_of name (lend_child other dir.tree))) (number_in-push name other ino dir.numbers apart)
    ∙ ap (known (number_in name dir.numbers))
    (ap (child_of name) (lend_child_found other shape dir.tree (child_there other dir shape e))
    ∙ child_of-with_other name other (lent (kind_of shape)) dir.tree apart)

third_part : (a b c : Bool) → a ≡ true → b ≡ true → (a && b && c) ≡ false → c ≡ false
third_part true true c p q e = e
third_part true false c p q e = absurd (cc q)
third_part false b c p q e = absurd (cc p)

both : (a b : Bool) → (a && b) ≡ true → (a ≡ true) × (b ≡ true)
both true true e = (refl, refl)
both true false e = absurd (cc e)
both false b e = absurd (cc e)

neither : (a b : Bool) → (a || b) ≡ false → (a ≡ false) × (b ≡ false)
neither true b e = absurd (cc e)
neither false b e = (refl, e)

-- a fresh number is that one
abbrev pub is_number : ℕ → Fresh → Bool
is_number ino f = f.ino == ino

-- numbers that are unused are not that of a node that is there
pub unused_others : (nodes : Nodes) (dir : ℕ) (node : Node) (fresh : List Fresh) → map.get nodes dir ≡ Some node
    → list_all (is_unused nodes) fresh ≡ true → list_any (is_number dir) fresh ≡ false
unused_others nodes dir node [] there all = refl
unused_others nodes dir node (f ∷ fresh) there all =
    let parted = both (is_unused nodes f) (list_all (is_unused nodes) fresh) all in
    by (f.ino == dir) refl parted.0 (unused_others nodes dir node fresh there parted.1)
  where
    by : (b : Bool) → (f.ino == dir) ≡ b → is_unused nodes f ≡ true → list_any (is_number dir) fresh ≡ false
        → ((f.ino == dir) || list_any (is_number dir) fresh) ≡ false
    by true e unused rest =
        absurd (cc (unused, ap (λ n. not (map.contains_key nodes n)) (eqb-true f.ino dir e), ap is_some there))
    by false e unused rest = ap (λ b. b || list_any (is_number dir) fresh) e ∙ rest

-- ---- numbers given in a state, of which none is the child's

module _ (s : Parts) where
  -- a node, as a step has left it so far
  abbrev now : Nodes_so_far → ℕ → Option Node
  now nodes ino = outcome_in s (node_now nodes ino)

  now_first : (n : ℕ × Node) (nodes : Nodes_so_far) (ino : ℕ)
      → now (n ∷ nodes) ino ≡ cond (n.0 == ino) (Some n.1) (now nodes ino)
  now_first n nodes ino = by (n.0 == ino)
    where
      by : (b : Bool) → outcome_in s (node_by (cond b (Some n.1) (node_in ino nodes)) ino)
          ≡ cond b (Some n.1) (outcome_in s (node_by (node_in ino nodes) ino))
      by true = refl
      by false = refl

module _ (s : Parts) (dir : ℕ) (name : List ℕ) (shape : Shape) where
  -- the child stands as it is in the nodes so far
  abbrev pub Stays : Nodes_so_far → Type 0
  Stays nodes = HasUnnumbered name shape (now s nodes dir)

  abbrev pub StaysIf : Option Nodes_so_far → Type 0
  StaysIf None = Unit {0}
  StaysIf (Some nodes) = Stays nodes

  -- the directory stays as it is, or gives another child its number
  directory_stays : (nodes : Nodes_so_far) (f : Fresh) (d : Node) (child : Shape) → now s nodes f.dir ≡ Some d
      → child_at f.name d ≡ Unnumbered child → nat_le f.ino LAST_NUMBER ≡ true → is_given_to dir name f ≡ false
      → Stays nodes → HasUnnumbered name shape (now s ((f.dir, numbered_in d f.name f.ino) ∷ nodes) dir)
  directory_stays nodes f d child there waits small apart (node, found, has) =
      by (f.dir == dir) refl (now_first s (f.dir, numbered_in d f.name f.ino) nodes dir)
    where
      by : (b : Bool) → (f.dir == dir) ≡ b → now s ((f.dir, numbered_in d f.name f.ino) ∷ nodes) dir
          ≡ cond b (Some (numbered_in d f.name f.ino)) (now s nodes dir)
          → HasUnnumbered name shape (now s ((f.dir, numbered_in d f.name f.ino) ∷ nodes) dir)
      by true e first =
          let same : d ≡ node = cc (there, found, ap (now s nodes) (eqb-true f.dir dir e)) in
          let other : bytes_eq name f.name ≡ false = third_part _ _ _ small e apart in (
            numbered_in d f.name f.ino,
            first,
            other_child name f.name f.ino d child waits other ∙ ap (child_at name) same ∙ has,
          )
      by false e first = (node, first ∙ found, has)

  -- the new node is not the directory's
  given_stays : (nodes : Nodes_so_far) (f : Fresh) (d : Node) (child : Shape) → now s nodes f.dir ≡ Some d
      → is_number dir f ≡ false → child_at f.name d ≡ Unnumbered child → nat_le f.ino LAST_NUMBER ≡ true
      → is_given_to dir name f ≡ false → Stays nodes
      → Stays ((f.ino, child_node f.dir child) ∷ (f.dir, numbered_in d f.name f.ino) ∷ nodes)
  given_stays nodes f d child there other waits small apart stays =
      let left = directory_stays nodes f d child there waits small apart stays in
      let above : Nodes_so_far = (f.dir, numbered_in d f.name f.ino) ∷ nodes in (
        left.0,
        now_first s (f.ino, child_node f.dir child) above dir
            ∙ ap (λ b. cond b (Some (child_node f.dir child)) (now s above dir)) other
            ∙ left.1,
        left.2,
      )

  -- one number
  number_stays : (nodes : Nodes_so_far) (f : Fresh) (d : Option Node) → now s nodes f.dir ≡ d
      → is_number dir f ≡ false → is_given_to dir name f ≡ false → Stays nodes → StaysIf (number_at nodes f d)
  number_stays nodes f None there other apart stays = tt
  number_stays nodes f (Some d) there other apart stays = by (child_at f.name d) refl
    where
      small : (child : Shape) (b : Bool) → child_at f.name d ≡ Unnumbered child → nat_le f.ino LAST_NUMBER ≡ b
          → StaysIf (cond b (Some ((f.ino, child_node f.dir child) ∷ (f.dir, numbered_in d f.name f.ino) ∷ nodes))
          (Some nodes))
      small child true e l = given_stays nodes f d child there other e l apart stays
      small child false e l = stays

      by : (child : Child) → child_at f.name d ≡ child → StaysIf (given_number nodes f d child)
      by Missing e = tt
      by (Known ino) e = tt
      by (Unnumbered child) e = small child (nat_le f.ino LAST_NUMBER) e refl

  one_stays : (nodes : Nodes_so_far) (f : Fresh) → is_number dir f ≡ false → is_given_to dir name f ≡ false
      → Stays nodes → StaysIf (outcome_in s (number_one nodes f))
  one_stays nodes f other apart stays =
      subst StaysIf (sym (outcome-bind s (node_now nodes f.dir) (λ d. done (number_at nodes f d))))
      (number_stays nodes f (now s nodes f.dir) refl other apart stays)

  next_stays : (fresh : List Fresh)
      → ((nodes : Nodes_so_far) → Stays nodes → StaysIf (outcome_in s (number_all fresh nodes)))
      → (so_far : Option Nodes_so_far) → StaysIf so_far → StaysIf (outcome_in s (number_next (number_all fresh) so_far))
  next_stays fresh rest None stays = tt
  next_stays fresh rest (Some nodes) stays = rest nodes stays

  -- and each in turn
  pub all_stay : (fresh : List Fresh) → list_any (is_number dir) fresh ≡ false
      → list_any (is_given_to dir name) fresh ≡ false → (nodes : Nodes_so_far) → Stays nodes
      → StaysIf (outcome_in s (number_all fresh nodes))
  all_stay [] others apart nodes stays = stays
  all_stay (f ∷ fresh) others apart nodes stays =
      let other = neither (is_number dir f) (list_any (is_number dir) fresh) others in
      let parted = neither (is_given_to dir name f) (list_any (is_given_to dir name) fresh) apart in
      let first : StaysIf (outcome_in s (number_one nodes f)) = one_stays nodes f other.0 parted.0 stays in
      subst StaysIf (sym (outcome-bind s (number_one nodes f) (number_next (number_all fresh))))
      (next_stays fresh (all_stay fresh other.1 parted.1) (outcome_in s (number_one nodes f)) first)

-- ---- the nodes that a step leaves

pub changed-append : (xs ys : List Change) (k : Kernel) → changed (xs ++ ys) k ≡ changed ys (changed xs k)
changed-append [] ys k = refl
changed-append (x ∷ xs) ys k = changed-append xs ys (put x.0 x.1 k)

-- a node as a step has left it so far is the one that the kernel with these nodes has
pub nodes_left : (nodes : Nodes_so_far) (k : Kernel) (ino : ℕ)
    → map.get (changed (node_changes nodes) k).nodes ino ≡ outcome_in (parts k) (node_now nodes ino)
nodes_left [] k ino = refl
nodes_left (n ∷ nodes) k ino =
    ap (λ (m : Kernel). map.get m.nodes ino) (changed-append (node_changes nodes) ((OfNode n.0, Some n.1) ∷ []) k)
    ∙ by (n.0 == ino) refl (nodes_left nodes k ino)
    ∙ sym (now_first (parts k) n nodes ino)
  where
    by : (b : Bool) → (n.0 == ino) ≡ b
        → map.get (changed (node_changes nodes) k).nodes ino ≡ outcome_in (parts k) (node_now nodes ino)
        → map.get (map.insert (changed (node_changes nodes) k).nodes n.0 n.1) ino
        ≡ cond b (Some n.1) (outcome_in (parts k) (node_now nodes ino))
    by true e rest =
        ap (map.get (map.insert (changed (node_changes nodes) k).nodes n.0 n.1)) (sym (eqb-true n.0 ino e))
        ∙ get-insert_same (changed (node_changes nodes) k).nodes n.0 n.1
    by false e rest =
        get-insert_other (changed (node_changes nodes) k).nodes n.0 ino n.1 (eqb-false n.0 ino e) ∙ rest
