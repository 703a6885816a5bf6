-- Fresh numbers given in place: the nodes that a step keeps apart come to the same as those of a kernel with them.
use Rattle.std.proofs.Common.{◌≡◌, ◌≢◌, ℕ, ◌<◌, ◌≤◌, Bool, true, false, cond, List, [], ◌∷◌, ◌++◌, Option, Some, None}
use Rattle.std.proofs.Common.{refl, ap, sym, ◌∙◌, option_map, arith}
use Rattle.std.specs.Prelude.{option_and_then, nat_le, nat_lt, is_some, not, ◌==◌, ◌&&◌}
use Rattle.std.specs.List.{list_all}
use Rattle.std.specs.Ordering.{nat_cmp}
use Rattle.std.specs.FinMap as map
use Rattle.std.proofs.lemmas.Bool.{and_parts, eqb-true, eqb-false, ltb-true}
use Rattle.sn_base.proofs.Maps.{get-insert_same, get-insert_other}
use Rattle.host_node.specs.Tree.{Shape}
use Rattle.kernel_model.specs.declared.limits.TheConstants.{LAST_NUMBER}
use Rattle.kernel_model.specs.declared.kernel.Kernel.{Kernel}
use Rattle.kernel_model.specs.declared.kernel.Node.{Node}
use Rattle.kernel_model.specs.declared.kernel.Part.TheVariants.{OfNode}
use Rattle.kernel_model.specs.declared.opening.Fresh.{Fresh}
use Rattle.kernel_model.specs.files.FileTree.{Child, Missing, Known, Unnumbered, child_at, child_node}
use Rattle.kernel_model.specs.files.FileTree.{numbered_in}
use Rattle.kernel_model.specs.entries.Given.{Nodes_so_far, node_in, node_by, node_now, given_number, number_at}
use Rattle.kernel_model.specs.entries.Given.{number_one, number_next, number_all, node_changes, ascend_from}
use Rattle.kernel_model.specs.entries.Given.{numbers_of, is_unused}
use Rattle.kernel_model.specs.entries.Parts.{parts, done, outcome_in, Change, put, changed}
use Rattle.kernel_model.specs.laws.InPlace.{with_nodes, nodes_for, numbered}
use Rattle.kernel_model.proofs.Trees.{outcome-bind}
use Rattle.node_numbers.specs.Unused.{AreUnused}

-- ---- changes one after another

pub changed-append : (xs ys : List Change) (k : Kernel) → changed (xs ++ ys) k ≡ changed ys (changed xs k)
changed-append [] ys k = refl
changed-append (x ∷ xs) ys k = changed-append xs ys (put x.0 x.1 k)

-- the nodes of two lists, the earlier ones first
pub with_nodes-append : (ns ms : Nodes_so_far) (k : Kernel) → with_nodes (ns ++ ms) k ≡ with_nodes ns (with_nodes ms k)
with_nodes-append [] ms k = refl
with_nodes-append (n ∷ ns) ms k =
    changed-append (node_changes (ns ++ ms)) ((OfNode n.0, Some n.1) ∷ []) k
    ∙ ap (put (OfNode n.0) (Some n.1)) (with_nodes-append ns ms k)
    ∙ sym (changed-append (node_changes ns) ((OfNode n.0, Some n.1) ∷ []) (with_nodes ms k))

pub with_nodes_first : (n : ℕ × Node) (ns : Nodes_so_far) (k : Kernel)
    → with_nodes (n ∷ ns) k ≡ put (OfNode n.0) (Some n.1) (with_nodes ns k)
with_nodes_first n ns k = changed-append (node_changes ns) ((OfNode n.0, Some n.1) ∷ []) k

-- a node as a step has left it so far is the one that the kernel with these nodes has
pub node_now_is : (nodes : Nodes_so_far) (ino : ℕ) (k : Kernel)
    → outcome_in (parts k) (node_now nodes ino) ≡ map.get (with_nodes nodes k).nodes ino
node_now_is [] ino k = refl
node_now_is (n ∷ ns) ino k = by (n.0 == ino) refl (node_now_is ns ino k)
  where
    there : map.get (with_nodes (n ∷ ns) k).nodes ino ≡ map.get (map.insert (with_nodes ns k).nodes n.0 n.1) ino
    there = ap (λ (m : Kernel). map.get m.nodes ino) (with_nodes_first n ns k)

    by : (b : Bool) → (n.0 == ino) ≡ b → outcome_in (parts k) (node_now ns ino) ≡ map.get (with_nodes ns k).nodes ino
        → outcome_in (parts k) (node_by (cond b (Some n.1) (node_in ino ns)) ino)
        ≡ map.get (with_nodes (n ∷ ns) k).nodes ino
    by true e rest =
        let same : n.0 ≡ ino = eqb-true n.0 ino e in
        sym (there ∙ ap (λ i. map.get (map.insert (with_nodes ns k).nodes i n.1) ino) same
        ∙ get-insert_same (with_nodes ns k).nodes ino n.1)
    by false e rest = rest ∙ sym (there ∙ get-insert_other (with_nodes ns k).nodes n.0 ino n.1 (eqb-false n.0 ino e))

-- ---- a number given behind others is given in the kernel with those

module _ (nodes : Nodes_so_far) where
  given_behind : (f : Fresh) (dir : Node) (child : Child)
      → given_number nodes f dir child ≡ option_map (λ ns. ns ++ nodes) (given_number [] f dir child)
  given_behind f dir Missing = refl
  given_behind f dir (Known ino) = refl
  given_behind f dir (Unnumbered shape) = by (nat_le f.ino LAST_NUMBER)
    where
      by : (b : Bool)
          → cond b (Some ((f.ino, child_node f.dir shape) ∷ (f.dir, numbered_in dir f.name f.ino) ∷ nodes)) (Some nodes)
          ≡ option_map (λ ns. ns ++ nodes)
          (cond b (Some ((f.ino, child_node f.dir shape) ∷ (f.dir, numbered_in dir f.name f.ino) ∷ [])) (Some []))
      by true = refl
      by false = refl

  at_behind : (f : Fresh) (dir : Option Node)
      → number_at nodes f dir ≡ option_map (λ ns. ns ++ nodes) (number_at [] f dir)
  at_behind f None = refl
  at_behind f (Some dir) = given_behind f dir (child_at f.name dir)

-- an unused number adds the nodes that its directory has it add
pub unused_at : (f : Fresh) (k : Kernel) → is_unused k.nodes f ≡ true
    → nodes_for f k ≡ number_at [] f (map.get k.nodes f.dir)
unused_at f k unused = ap (λ b. cond b (number_at [] f (map.get k.nodes f.dir)) None) unused

one_behind : (nodes : Nodes_so_far) (f : Fresh) (k : Kernel) → is_unused (with_nodes nodes k).nodes f ≡ true
    → outcome_in (parts k) (number_one nodes f) ≡ option_map (λ ns. ns ++ nodes) (nodes_for f (with_nodes nodes k))
one_behind nodes f k unused =
    outcome-bind (parts k) (node_now nodes f.dir) (λ dir. done (number_at nodes f dir))
    ∙ ap (number_at nodes f) (node_now_is nodes f.dir k)
    ∙ at_behind nodes f (map.get (with_nodes nodes k).nodes f.dir)
    ∙ ap (option_map (λ ns. ns ++ nodes)) (sym (unused_at f (with_nodes nodes k) unused))

-- ---- the other fresh numbers stay unused when one was given

-- the nodes with the child in its own
abbrev pub nodes_given : Fresh → Node → Shape → map.FinMap nat_cmp Node → map.FinMap nat_cmp Node
nodes_given f dir shape nodes =
    map.insert (map.insert nodes f.dir (numbered_in dir f.name f.ino)) f.ino (child_node f.dir shape)

-- a number that is unused is not that of a node
there_apart : (g : Fresh) (k : Kernel) (ino : ℕ) (node : Node) → map.get k.nodes ino ≡ Some node
    → is_unused k.nodes g ≡ true → ino ≢ g.ino
there_apart g k ino node there unused e =
    cc (unused, ap (λ i. not (map.contains_key k.nodes i)) e, ap is_some there)

left_unused : (f g : Fresh) (k : Kernel) (dir : Node) (shape : Shape) → map.get k.nodes f.dir ≡ Some dir
    → f.ino ≢ g.ino → is_unused k.nodes g ≡ true → is_unused (nodes_given f dir shape k.nodes) g ≡ true
left_unused f g k dir shape there other unused =
    ap (λ (o : Option Node). not (is_some o))
    (get-insert_other (map.insert k.nodes f.dir (numbered_in dir f.name f.ino)) f.ino g.ino (child_node f.dir shape)
    other
    ∙ get-insert_other k.nodes f.dir g.ino (numbered_in dir f.name f.ino) (there_apart g k f.dir dir there unused))
    ∙ unused

module _ (f g : Fresh) (k : Kernel) (ns : Nodes_so_far) (other : f.ino ≢ g.ino) (unused : is_unused k.nodes g ≡ true)
  where
    stays_by : (dir : Option Node) → map.get k.nodes f.dir ≡ dir → number_at [] f dir ≡ Some ns
        → is_unused (with_nodes ns k).nodes g ≡ true
    stays_by None there added = absurd (cc added)
    stays_by (Some dir) there added = child (child_at f.name dir) added
      where
        small : (shape : Shape) (b : Bool)
            → cond b (Some ((f.ino, child_node f.dir shape) ∷ (f.dir, numbered_in dir f.name f.ino) ∷ [])) (Some [])
            ≡ Some ns → is_unused (with_nodes ns k).nodes g ≡ true
        small shape true e =
            let is : ns ≡ (f.ino, child_node f.dir shape) ∷ (f.dir, numbered_in dir f.name f.ino) ∷ [] = cc e in
            ap (λ (added : Nodes_so_far). is_unused (with_nodes added k).nodes g) is
            ∙ left_unused f g k dir shape there other unused
        small shape false e =
            let is : ns ≡ [] = cc e in
            ap (λ (added : Nodes_so_far). is_unused (with_nodes added k).nodes g) is ∙ unused

        child : (c : Child) → given_number [] f dir c ≡ Some ns → is_unused (with_nodes ns k).nodes g ≡ true
        child Missing e = absurd (cc e)
        child (Known ino) e = absurd (cc e)
        child (Unnumbered shape) e = small shape (nat_le f.ino LAST_NUMBER) e

module _ (f : Fresh) (k : Kernel) (ns : Nodes_so_far) (free : is_unused k.nodes f ≡ true)
    (added : nodes_for f k ≡ Some ns) where
  -- those that ascend from it
  stay_unused : (fresh : List Fresh) (last : ℕ) → f.ino ≤ last → ascend_from last (numbers_of fresh) ≡ true
      → list_all (is_unused k.nodes) fresh ≡ true → list_all (is_unused (with_nodes ns k).nodes) fresh ≡ true
  stay_unused [] last below ascend unused = refl
  stay_unused (g ∷ fresh) last below ascend unused =
      let order = and_parts (nat_lt last g.ino) (ascend_from g.ino (numbers_of fresh)) ascend in
      let each = and_parts (is_unused k.nodes g) (list_all (is_unused k.nodes) fresh) unused in
      let above : last < g.ino = ltb-true last g.ino order.0 in
      let other : f.ino ≢ g.ino = λ e. omega (arith, above, e) in
      ap (λ b. b && list_all (is_unused (with_nodes ns k).nodes) fresh)
      (stays_by f g k ns other each.0 (map.get k.nodes f.dir) refl (sym (unused_at f k free) ∙ added))
      ∙ stay_unused fresh g.ino (omega (arith, above)) order.1 each.1

-- ---- numbers one after another

pub numbered_none : (k : Kernel) → numbered [] k ≡ Some k
unfolding numbered
numbered_none k = refl

numbered_first : (f : Fresh) (fresh : List Fresh) (k : Kernel)
    → numbered (f ∷ fresh) k ≡ option_and_then (λ ns. numbered fresh (with_nodes ns k)) (nodes_for f k)
unfolding numbered
numbered_first f fresh k = refl

-- fresh numbers behind others come to the kernel of those, numbered on
abbrev ComeTo : List Fresh → Type 0
ComeTo fresh =
    (last : ℕ) (nodes : Nodes_so_far) (k : Kernel) → ascend_from last (numbers_of fresh) ≡ true
    → list_all (is_unused (with_nodes nodes k).nodes) fresh ≡ true
    → option_map (λ ns. with_nodes ns k) (outcome_in (parts k) (number_all fresh nodes))
    ≡ numbered fresh (with_nodes nodes k)

next_given : (f : Fresh) (fresh : List Fresh) → ComeTo fresh → ComeTo (f ∷ fresh)
next_given f fresh rest last nodes k ascend unused =
    ap (option_map (λ ns. with_nodes ns k))
    (outcome-bind (parts k) (number_one nodes f) (number_next (number_all fresh))
    ∙ ap (λ o. outcome_in (parts k) (number_next (number_all fresh) o)) (one_behind nodes f k each.0))
    ∙ by (nodes_for f (with_nodes nodes k)) refl
    ∙ sym (numbered_first f fresh (with_nodes nodes k))
  where
    each : (is_unused (with_nodes nodes k).nodes f ≡ true)
        × (list_all (is_unused (with_nodes nodes k).nodes) fresh ≡ true)
    each =
        and_parts (is_unused (with_nodes nodes k).nodes f) (list_all (is_unused (with_nodes nodes k).nodes) fresh)
        unused

    order : ascend_from f.ino (numbers_of fresh) ≡ true
    order = (and_parts (nat_lt last f.ino) (ascend_from f.ino (numbers_of fresh)) ascend).1

    by : (added : Option Nodes_so_far) → nodes_for f (with_nodes nodes k) ≡ added
        → option_map (λ ns. with_nodes ns k)
        (outcome_in (parts k) (number_next (number_all fresh) (option_map (λ ns. ns ++ nodes) added)))
        ≡ option_and_then (λ ns. numbered fresh (with_nodes ns (with_nodes nodes k))) added
    by None e = refl
    by (Some ns) e =
        let same : with_nodes (ns ++ nodes) k ≡ with_nodes ns (with_nodes nodes k) = with_nodes-append ns nodes k in
        rest f.ino (ns ++ nodes) k order
        (ap (λ (m : Kernel). list_all (is_unused m.nodes) fresh) same
        ∙ stay_unused f (with_nodes nodes k) ns each.0 e fresh f.ino (omega arith) order each.1)
        ∙ ap (numbered fresh) same

all_given : (fresh : List Fresh) → ComeTo fresh
all_given [] last nodes k ascend unused = sym (numbered_none (with_nodes nodes k))
all_given (f ∷ fresh) last nodes k ascend unused =
    next_given f fresh (all_given fresh) last nodes k ascend unused

-- unused numbers in place are those of the definition
pub all_numbered_is : (fresh : List Fresh) (k : Kernel) → AreUnused fresh k
    → option_map (λ ns. with_nodes ns k) (outcome_in (parts k) (number_all fresh [])) ≡ numbered fresh k
all_numbered_is fresh k are = all_given fresh 0 [] k are.ascend are.unused

pub numbered_one : (f : Fresh) (k : Kernel)
    → numbered (f ∷ []) k ≡ option_map (λ ns. with_nodes ns k) (nodes_for f k)
numbered_one f k = numbered_first f [] k ∙ by (nodes_for f k)
  where
    by : (added : Option Nodes_so_far) → option_and_then (λ ns. numbered [] (with_nodes ns k)) added
        ≡ option_map (λ ns. with_nodes ns k) added
    by None = refl
    by (Some ns) = numbered_none (with_nodes ns k)

pub numbered_more : (f : Fresh) (fresh : List Fresh) (k : Kernel)
    → numbered (f ∷ fresh) k ≡ option_and_then (numbered fresh) (numbered (f ∷ []) k)
numbered_more f fresh k =
    numbered_first f fresh k ∙ by (nodes_for f k)
    ∙ sym (ap (option_and_then (numbered fresh)) (numbered_one f k))
  where
    by : (added : Option Nodes_so_far) → option_and_then (λ ns. numbered fresh (with_nodes ns k)) added
        ≡ option_and_then (numbered fresh) (option_map (λ ns. with_nodes ns k) added)
    by None = refl
    by (Some ns) = refl

and_then_behind : (fresh more : List Fresh) (both : Kernel → Option Kernel)
    → ((k : Kernel) → both k ≡ option_and_then (numbered more) (numbered fresh k)) → (o : Option Kernel)
    → option_and_then both o ≡ option_and_then (numbered more) (option_and_then (numbered fresh) o)
and_then_behind fresh more both same None = refl
and_then_behind fresh more both same (Some k) = same k

pub numbered-append : (xs ys : List Fresh) (k : Kernel)
    → numbered (xs ++ ys) k ≡ option_and_then (numbered ys) (numbered xs k)
numbered-append [] ys k = sym (ap (option_and_then (numbered ys)) (numbered_none k))
numbered-append (x ∷ xs) ys k =
    numbered_more x (xs ++ ys) k
    ∙ and_then_behind xs ys (numbered (xs ++ ys)) (numbered-append xs ys) (numbered (x ∷ []) k)
    ∙ sym (ap (option_and_then (numbered ys)) (numbered_more x xs k))
