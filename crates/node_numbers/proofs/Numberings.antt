-- What a fresh number leaves, while it is given in place and while it is taken back.
use Rattle.std.proofs.Common.{◌≡◌, ◌≢◌, ℕ, ◌<◌, ◌≤◌, Bool, true, false, cond, List, [], ◌∷◌, Option, Some, None}
use Rattle.std.proofs.Common.{refl, ap, sym, ◌∙◌, ◌⊎◌, inl, inr, option_map, leb}
use Rattle.std.specs.Prelude.{is_some, is_none, not, IsSome}
use Rattle.std.specs.Ordering.{nat_cmp}
use Rattle.std.specs.FinMap as map
use Rattle.std.proofs.lemmas.Bool.{cases_eq, le-leb, lt-leb}
use Rattle.sn_base.proofs.Maps.{get-insert_same, get-insert_other, insert_same, insert-insert, remove-insert}
use Rattle.sn_base.proofs.Maps.{remove_absent, same_by_get}
use Rattle.host_node.specs.Tree.{Shape, child_of, lend_child, kind_of, lent}
use Rattle.host_node.proofs.TreeLemmas.{lend_child_found, child_of-with_same, directory_from_child}
use Rattle.kernel_model.specs.declared.limits.TheConstants.{LAST_NUMBER}
use Rattle.kernel_model.specs.declared.kernel.Kernel.{Kernel}
use Rattle.kernel_model.specs.declared.kernel.Node.{Node}
use Rattle.kernel_model.specs.declared.opening.Fresh.{Fresh}
use Rattle.kernel_model.specs.files.FileTree.{Child, Missing, Known, Unnumbered, child_at, child_node}
use Rattle.kernel_model.specs.files.FileTree.{numbered_in, number_in, known, unnumbered}
use Rattle.kernel_model.specs.entries.Given.{Nodes_so_far, given_number, number_at}
use Rattle.kernel_model.specs.entries.Given.{is_unused}
use Rattle.kernel_model.specs.laws.InPlace.{with_nodes, nodes_for, numbered, IsWaiting, Waits}
use Rattle.node_numbers.proofs.NodesSoFar.{unused_at, nodes_given, numbered_one}

-- ---- what one number leaves

waiting_child : (f : Fresh) (k : Kernel) (dir : Node) (shape : Shape) → IsWaiting f k dir shape
    → child_at f.name dir ≡ Unnumbered shape
waiting_child f k dir shape w = ap (λ o. known o (child_of f.name dir.tree)) w.unnumbered_yet ∙ ap unnumbered w.there

-- the number of a child that waits is that of no node
free_unused : (f : Fresh) (k : Kernel) (dir : Node) (shape : Shape) → IsWaiting f k dir shape
    → is_unused k.nodes f ≡ true
free_unused f k dir shape w = ap (λ (o : Option Node). not (is_some o)) w.free

waiting_number : (f : Fresh) (k : Kernel) (dir : Node) (shape : Shape) → IsWaiting f k dir shape
    → nodes_for f k ≡ given_number [] f dir (Unnumbered shape)
waiting_number f k dir shape w =
    unused_at f k (free_unused f k dir shape w)
    ∙ ap (number_at [] f) w.directory
    ∙ ap (given_number [] f dir) (waiting_child f k dir shape w)

-- a number up to the greatest gets its node
pub number_given : (f : Fresh) (k : Kernel) (dir : Node) (shape : Shape) → IsWaiting f k dir shape → f.ino ≤ LAST_NUMBER
    → numbered (f ∷ []) k ≡ Some (record k { nodes = nodes_given f dir shape k.nodes })
number_given f k dir shape w small =
    numbered_one f k ∙ ap (option_map (λ ns. with_nodes ns k)) (waiting_number f k dir shape w
    ∙ by (le-leb f.ino LAST_NUMBER small))
  where
    by : leb f.ino LAST_NUMBER ≡ true → given_number [] f dir (Unnumbered shape)
        ≡ Some ((f.ino, child_node f.dir shape) ∷ (f.dir, numbered_in dir f.name f.ino) ∷ [])
    by e =
        ap (λ b. cond b (Some ((f.ino, child_node f.dir shape) ∷ (f.dir, numbered_in dir f.name f.ino) ∷ [])) (Some []))
        e

-- one above it changes nothing
pub number_spent : (f : Fresh) (k : Kernel) (dir : Node) (shape : Shape) → IsWaiting f k dir shape → LAST_NUMBER < f.ino
    → numbered (f ∷ []) k ≡ Some k
number_spent f k dir shape w large =
    numbered_one f k ∙ ap (option_map (λ ns. with_nodes ns k)) (waiting_number f k dir shape w
    ∙ by (lt-leb f.ino LAST_NUMBER large))
  where
    by : leb f.ino LAST_NUMBER ≡ false → given_number [] f dir (Unnumbered shape) ≡ Some []
    by e =
        ap (λ b. cond b (Some ((f.ino, child_node f.dir shape) ∷ (f.dir, numbered_in dir f.name f.ino) ∷ [])) (Some []))
        e

-- and no other number fits
not_at : (f : Fresh) (k : Kernel) → nodes_for f k ≡ None → numbered (f ∷ []) k ≡ None
not_at f k e = numbered_one f k ∙ ap (option_map (λ ns. with_nodes ns k)) e

-- a number whose directory has it add nothing adds nothing, whether it is unused or not
none_if : (b : Bool) (added : Option Nodes_so_far) → added ≡ None → cond b added None ≡ None
none_if true added e = e
none_if false added e = refl

nothing_at : (f : Fresh) (k : Kernel) → number_at [] f (map.get k.nodes f.dir) ≡ None → numbered (f ∷ []) k ≡ None
nothing_at f k e = not_at f k (none_if (is_unused k.nodes f) (number_at [] f (map.get k.nodes f.dir)) e)

pub no_directory : (f : Fresh) (k : Kernel) → map.get k.nodes f.dir ≡ None → numbered (f ∷ []) k ≡ None
no_directory f k e = nothing_at f k (ap (number_at [] f) e)

no_child : (f : Fresh) (k : Kernel) (dir : Node) (child : Child) → map.get k.nodes f.dir ≡ Some dir
    → child_at f.name dir ≡ child → given_number [] f dir child ≡ None → numbered (f ∷ []) k ≡ None
no_child f k dir child d c none =
    nothing_at f k (ap (number_at [] f) d ∙ ap (given_number [] f dir) c ∙ none)

pub already_known : (f : Fresh) (k : Kernel) (dir : Node) (ino : ℕ) → map.get k.nodes f.dir ≡ Some dir
    → number_in f.name dir.numbers ≡ Some ino → numbered (f ∷ []) k ≡ None
already_known f k dir ino d e = no_child f k dir (Known ino) d (ap (λ o. known o (child_of f.name dir.tree)) e) refl

pub child_missing : (f : Fresh) (k : Kernel) (dir : Node) → map.get k.nodes f.dir ≡ Some dir
    → number_in f.name dir.numbers ≡ None → child_of f.name dir.tree ≡ None → numbered (f ∷ []) k ≡ None
child_missing f k dir d e c =
    no_child f k dir Missing d (ap (λ o. known o (child_of f.name dir.tree)) e ∙ ap unnumbered c) refl

-- where a number fits, a child waited for it
module _ (f : Fresh) (k after : Kernel) where
  waits_at : (dir : Option Node) → map.get k.nodes f.dir ≡ dir → map.get k.nodes f.ino ≡ None
      → option_map (λ ns. with_nodes ns k) (number_at [] f dir) ≡ Some after → Waits f k
  waits_at None d t e = absurd (cc e)
  waits_at (Some dir) d t e = number (number_in f.name dir.numbers) refl e
    where
      child : (c : Option Shape) → child_of f.name dir.tree ≡ c → number_in f.name dir.numbers ≡ None
          → option_map (λ ns. with_nodes ns k) (given_number [] f dir (unnumbered c)) ≡ Some after → Waits f k
      child None c i e = absurd (cc e)
      child (Some shape) c i e = (dir, shape, record { directory = d; unnumbered_yet = i; there = c; free = t })

      number : (o : Option ℕ) → number_in f.name dir.numbers ≡ o
          → option_map (λ ns. with_nodes ns k) (given_number [] f dir (known o (child_of f.name dir.tree)))
          ≡ Some after → Waits f k
      number (Some ino) i e = absurd (cc e)
      number None i e = child (child_of f.name dir.tree) refl i e

  waits_by : (taken : Option Node) → map.get k.nodes f.ino ≡ taken
      → option_map (λ ns. with_nodes ns k) (cond (not (is_some taken)) (number_at [] f (map.get k.nodes f.dir)) None)
      ≡ Some after → Waits f k
  waits_by None t e = waits_at (map.get k.nodes f.dir) refl t e
  waits_by (Some node) t e = absurd (cc e)

pub waited : (f : Fresh) (k after : Kernel) → numbered (f ∷ []) k ≡ Some after → Waits f k
waited f k after e =
    waits_by f k after (map.get k.nodes f.ino) refl (sym (numbered_one f k) ∙ e)

-- ---- and back

-- a directory and its child have two numbers
two_numbers : (f : Fresh) (k : Kernel) (dir : Node) (shape : Shape) → IsWaiting f k dir shape → f.dir ≢ f.ino
two_numbers f k dir shape w e = cc (w.directory, w.free, ap (map.get k.nodes) e)

-- without the child's node, the directory alone is as it was numbered
pub child_removed : (f : Fresh) (k : Kernel) (dir : Node) (shape : Shape) → IsWaiting f k dir shape
    → map.remove (nodes_given f dir shape k.nodes) f.ino ≡ map.insert k.nodes f.dir (numbered_in dir f.name f.ino)
child_removed f k dir shape w =
    remove-insert (map.insert k.nodes f.dir (numbered_in dir f.name f.ino)) f.ino (child_node f.dir shape)
    ∙ remove_absent _ f.ino (get-insert_other k.nodes f.dir f.ino (numbered_in dir f.name f.ino)
    (two_numbers f k dir shape w) ∙ w.free)

-- and with the directory as it was, so are all nodes
pub directory_back : (f : Fresh) (k : Kernel) (dir : Node) (shape : Shape) → IsWaiting f k dir shape
    → map.insert (map.insert k.nodes f.dir (numbered_in dir f.name f.ino)) f.dir dir ≡ k.nodes
directory_back f k dir shape w =
    insert-insert k.nodes f.dir (numbered_in dir f.name f.ino) dir ∙ insert_same k.nodes f.dir dir w.directory

-- a child that is lent stands in its directory
pub lent_child : (name : List ℕ) (s t : Shape) → child_of name t ≡ Some s
    → child_of name (lend_child name t) ≡ Some (lent (kind_of s))
lent_child name s t e =
    ap (child_of name) (lend_child_found name s t e)
    ∙ child_of-with_same name (lent (kind_of s)) t (directory_from_child name t s e)

-- ---- in the words of the code

-- a number that some node has fits nowhere
pub taken_number : (f : Fresh) (k : Kernel) → map.contains_key k.nodes f.ino ≡ true → numbered (f ∷ []) k ≡ None
taken_number f k e =
    not_at f k (ap (λ b. cond (not b) (number_at [] f (map.get k.nodes f.dir)) None) e)

-- nor one of a child that has a number, or is not there
pub has_number : (f : Fresh) (k : Kernel) (dir : Node) → map.get k.nodes f.dir ≡ Some dir
    → is_none (number_in f.name dir.numbers) ≡ false → numbered (f ∷ []) k ≡ None
has_number f k dir d e = by (number_in f.name dir.numbers) refl e
  where
    by : (o : Option ℕ) → number_in f.name dir.numbers ≡ o → is_none o ≡ false → numbered (f ∷ []) k ≡ None
    by None g s = absurd (cc s)
    by (Some ino) g s = already_known f k dir ino d g

pub is_missing : (f : Fresh) (k : Kernel) (dir : Node) → map.get k.nodes f.dir ≡ Some dir
    → is_some (child_of f.name dir.tree) ≡ false → numbered (f ∷ []) k ≡ None
is_missing f k dir d e = by (child_of f.name dir.tree) refl e
  where
    number : (o : Option ℕ) → number_in f.name dir.numbers ≡ o → child_of f.name dir.tree ≡ None
        → numbered (f ∷ []) k ≡ None
    number None g c = child_missing f k dir d g c
    number (Some ino) g c = already_known f k dir ino d g

    by : (o : Option Shape) → child_of f.name dir.tree ≡ o → is_some o ≡ false → numbered (f ∷ []) k ≡ None
    by None g s = number (number_in f.name dir.numbers) refl g
    by (Some shape) g s = absurd (cc s)

-- a number above the greatest
pub waits_spent : (f : Fresh) (k : Kernel) → Waits f k → LAST_NUMBER < f.ino → numbered (f ∷ []) k ≡ Some k
waits_spent f k w large = number_spent f k w.0 w.1 w.2 large

pub spent_back : (f : Fresh) (before k : Kernel) → numbered (f ∷ []) before ≡ Some k → LAST_NUMBER < f.ino → k ≡ before
spent_back f before k e large =
    let same : numbered (f ∷ []) before ≡ Some before = waits_spent f before (waited f before k e) large in cc

-- what is known of the nodes after a number was given to one
pub record WasPlaced (f : Fresh) (before k : Kernel) (dir : Node) (shape : Shape) : Type 0 where
  pub removed : map.get (map.remove k.nodes f.ino) f.dir ≡ Some (numbered_in dir f.name f.ino)
  pub child : map.get k.nodes f.ino ≡ Some (child_node f.dir shape)
  pub there : child_of f.name dir.tree ≡ Some shape
  pub back : record k { nodes = map.insert (map.remove k.nodes f.ino) f.dir dir } ≡ before

pub was_placed : (f : Fresh) (before k : Kernel) → numbered (f ∷ []) before ≡ Some k → f.ino ≤ LAST_NUMBER
    → (dir : Node) × (shape : Shape) × WasPlaced f before k dir shape
was_placed f before k e small = by (waited f before k e)
  where
    by : Waits f before → (dir : Node) × (shape : Shape) × WasPlaced f before k dir shape
    by (dir, shape, w) =
        let given : numbered (f ∷ []) before ≡ Some (record before { nodes = nodes_given f dir shape before.nodes }) =
        number_given f before dir shape w small in
        let is : k ≡ record before { nodes = nodes_given f dir shape before.nodes } = cc in
        let nodes : map.remove k.nodes f.ino ≡ map.insert before.nodes f.dir (numbered_in dir f.name f.ino) =
        ap (λ (m : Kernel). map.remove m.nodes f.ino) is ∙ child_removed f before dir shape w in (
          dir,
          shape,
          record {
            removed =
                ap (λ m. map.get m f.dir) nodes ∙ get-insert_same before.nodes f.dir (numbered_in dir f.name f.ino);
            child =
                ap (λ (m : Kernel). map.get m.nodes f.ino) is
                ∙ get-insert_same (map.insert before.nodes f.dir (numbered_in dir f.name f.ino)) f.ino
                (child_node f.dir shape);
            there = w.there;
            back = ap (λ m. record k { nodes = map.insert m f.dir dir }) nodes
                ∙ ap (λ (m : Kernel). record m {
                  nodes =
                      map.insert (map.insert before.nodes f.dir (numbered_in dir f.name f.ino)) f.dir dir;
                }) is
                ∙ ap (λ m. record before { nodes = m }) (directory_back f before dir shape w);
          },
        )

-- what stood under a number before its node changes nothing
pub stood_in : {V : Type 0} (m : map.FinMap nat_cmp V) (i d : ℕ) (a b c : V)
    → map.insert (map.insert (map.insert m i a) d b) i c ≡ map.insert (map.insert m d b) i c
stood_in {V} m i d a b c = same_by_get _ _ (λ q. at q (cases_eq i q) (cases_eq d q))
  where
    others : (q : ℕ) → i ≢ q → (d ≡ q) ⊎ (d ≢ q) → map.get (map.insert (map.insert m i a) d b) q
        ≡ map.get (map.insert m d b) q
    others q apart (inl is) =
        ap (map.get (map.insert (map.insert m i a) d b)) (sym is) ∙ get-insert_same (map.insert m i a) d b
        ∙ sym (get-insert_same m d b) ∙ ap (map.get (map.insert m d b)) is
    others q apart (inr other) =
        get-insert_other (map.insert m i a) d q b other ∙ get-insert_other m i q a apart
        ∙ sym (get-insert_other m d q b other)

    at : (q : ℕ) → (i ≡ q) ⊎ (i ≢ q) → (d ≡ q) ⊎ (d ≢ q)
        → map.get (map.insert (map.insert (map.insert m i a) d b) i c) q ≡ map.get (map.insert (map.insert m d b) i c) q
    at q (inl is) e =
        ap (map.get (map.insert (map.insert (map.insert m i a) d b) i c)) (sym is)
        ∙ get-insert_same (map.insert (map.insert m i a) d b) i c
        ∙ sym (get-insert_same (map.insert m d b) i c) ∙ ap (map.get (map.insert (map.insert m d b) i c)) is
    at q (inr apart) e =
        get-insert_other (map.insert (map.insert m i a) d b) i q c apart ∙ others q apart e
        ∙ sym (get-insert_other (map.insert m d b) i q c apart)

-- ---- while a number is given

-- the directory is found beside the stand-in
pub beside_stand_in : (f : Fresh) (k : Kernel) (dir : Node) (shape : Shape) (stand_in : Node) → IsWaiting f k dir shape
    → map.get (map.insert k.nodes f.ino stand_in) f.dir ≡ Some dir
beside_stand_in f k dir shape stand_in w =
    get-insert_other k.nodes f.ino f.dir stand_in (λ e. two_numbers f k dir shape w (sym e)) ∙ w.directory

-- where the number was not noted, all is as it was without the stand-in
pub stand_in_removed : (f : Fresh) (k : Kernel) (dir : Node) (shape : Shape) (stand_in : Node) → IsWaiting f k dir shape
    → map.remove (map.insert (map.insert k.nodes f.ino stand_in) f.dir dir) f.ino ≡ k.nodes
stand_in_removed f k dir shape stand_in w =
    ap (λ m. map.remove m f.ino) (insert_same (map.insert k.nodes f.ino stand_in) f.dir dir
    (beside_stand_in f k dir shape stand_in w))
    ∙ remove-insert k.nodes f.ino stand_in ∙ remove_absent k.nodes f.ino w.free

-- and where it was, the kernel has the number
pub placed : (f : Fresh) (k : Kernel) (dir : Node) (shape : Shape) (stand_in : Node) → IsWaiting f k dir shape
    → f.ino ≤ LAST_NUMBER
    → numbered (f ∷ []) k
    ≡ Some (record k {
      nodes =
          map.insert (map.insert (map.insert k.nodes f.ino stand_in) f.dir (numbered_in dir f.name f.ino)) f.ino
          (child_node f.dir shape);
    })
placed f k dir shape stand_in w small =
    number_given f k dir shape w small
    ∙ ap (λ m. Some (record k { nodes = m }))
    (sym (stood_in k.nodes f.ino f.dir stand_in (numbered_in dir f.name f.ino) (child_node f.dir shape)))

-- a key that was given a value has one, whatever else was given
pub still_there : {V : Type 0} (m : map.FinMap nat_cmp V) (i d : ℕ) (a b : V)
    → map.contains_key (map.insert (map.insert m i a) d b) i ≡ true
still_there m i d a b = by (cases_eq d i)
  where
    by : (d ≡ i) ⊎ (d ≢ i) → map.contains_key (map.insert (map.insert m i a) d b) i ≡ true
    by (inl e) =
        ap (λ q. map.contains_key (map.insert (map.insert m i a) d b) q) (sym e)
        ∙ ap is_some (get-insert_same (map.insert m i a) d b)
    by (inr e) = ap is_some (get-insert_other (map.insert m i a) d i b e ∙ get-insert_same m i a)

-- ---- while a number is taken back, told by what the calls left

module _ (f : Fresh) (before k : Kernel) (e : numbered (f ∷ []) before ≡ Some k) (small : f.ino ≤ LAST_NUMBER) where
  now_is : (dir : Node) (shape : Shape) (rest : map.FinMap nat_cmp Node) (now : Node) → WasPlaced f before k dir shape
      → rest ≡ map.remove k.nodes f.ino → map.get rest f.dir ≡ Some now → now ≡ numbered_in dir f.name f.ino
  now_is dir shape rest now w is found =
      let there : map.get rest f.dir ≡ Some (numbered_in dir f.name f.ino) = ap (λ m. map.get m f.dir) is ∙ w.removed in
      cc

  -- the directory has a place for the child
  pub directory_found : (rest : map.FinMap nat_cmp Node) (now : Node) → rest ≡ map.remove k.nodes f.ino
      → map.get rest f.dir ≡ Some now → IsSome (child_of f.name now.tree)
  directory_found rest now is found = by (was_placed f before k e small)
    where
      by : (dir : Node) × (shape : Shape) × WasPlaced f before k dir shape → IsSome (child_of f.name now.tree)
      by (dir, shape, w) =
          ap (λ (n : Node). is_some (child_of f.name n.tree)) (now_is dir shape rest now w is found)
          ∙ ap is_some (lent_child f.name shape dir.tree w.there)

  -- with the child in it again, all is as it was
  pub child_given_back : (rest : map.FinMap nat_cmp Node) (now child left : Node) → rest ≡ map.remove k.nodes f.ino
      → map.get rest f.dir ≡ Some now → map.get k.nodes f.ino ≡ Some child
      → ((dir : Node) (ino : ℕ) → now ≡ numbered_in dir f.name ino → child_of f.name dir.tree ≡ Some child.tree
      → left ≡ dir)
      → record k { nodes = map.insert rest f.dir left } ≡ before
  child_given_back rest now child left is found there back = by (was_placed f before k e small)
    where
      by : (dir : Node) × (shape : Shape) × WasPlaced f before k dir shape
          → record k { nodes = map.insert rest f.dir left } ≡ before
      by (dir, shape, w) =
          let same : child ≡ child_node f.dir shape = cc (there, w.child) in
          let here : left ≡ dir =
          back dir f.ino (now_is dir shape rest now w is found) (w.there
          ∙ ap (λ (n : Node). Some n.tree) (sym same)) in
          ap (λ m. record k { nodes = map.insert m f.dir left }) is
          ∙ ap (λ n. record k { nodes = map.insert (map.remove k.nodes f.ino) f.dir n }) here
          ∙ w.back

  pub child_found : (rest : map.FinMap nat_cmp Node) → rest ≡ map.remove k.nodes f.ino → map.get rest f.dir ≡ None → ⊥
  child_found rest is none = by (was_placed f before k e small)
    where
      by : (dir : Node) × (shape : Shape) × WasPlaced f before k dir shape → ⊥
      by (dir, shape, w) =
          let there : map.get rest f.dir ≡ Some (numbered_in dir f.name f.ino) =
          ap (λ m. map.get m f.dir) is ∙ w.removed in
          cc

  pub no_child_left : map.get k.nodes f.ino ≡ None → ⊥
  no_child_left none = by (was_placed f before k e small)
    where
      by : (dir : Node) × (shape : Shape) × WasPlaced f before k dir shape → ⊥
      by (dir, shape, w) = cc (none, w.child)

-- ---- while a number is given, told by what the calls left

module _ (f : Fresh) (k : Kernel) (waits : Waits f k) (stand_in : Node) (nodes : map.FinMap nat_cmp Node) where
  dir_there : nodes ≡ map.insert k.nodes f.ino stand_in → map.get nodes f.dir ≡ Some waits.0
  dir_there is = ap (λ m. map.get m f.dir) is ∙ beside_stand_in f k waits.0 waits.1 stand_in waits.2

  pub stand_in_lost : nodes ≡ map.insert k.nodes f.ino stand_in → map.get nodes f.dir ≡ None → ⊥
  stand_in_lost is none = cc (none, dir_there is)

  module _ (now : Node) (is : nodes ≡ map.insert k.nodes f.ino stand_in) (found : map.get nodes f.dir ≡ Some now) where
    dir_is : now ≡ waits.0
    dir_is = cc (found, dir_there is)

    -- the directory has the child,
    pub has_the_child : IsSome (child_of f.name now.tree)
    has_the_child = ap (λ (n : Node). is_some (child_of f.name n.tree)) dir_is ∙ ap is_some waits.2.there

    -- which gets its node,
    pub child_placed : f.ino ≤ LAST_NUMBER → (left : Node) (tree : Shape) → left ≡ numbered_in now f.name f.ino
        → child_of f.name now.tree ≡ Some tree
        → (after : map.FinMap nat_cmp Node)
        → after ≡ map.insert (map.insert nodes f.dir left) f.ino (child_node f.dir tree)
        → numbered (f ∷ []) k ≡ Some (record k { nodes = after })
    child_placed small left tree e t after a =
        let shape : tree ≡ waits.1 = cc (t, ap (λ (n : Node). child_of f.name n.tree) dir_is, waits.2.there) in
        placed f k waits.0 waits.1 stand_in waits.2 small
        ∙ sym (ap (λ m. Some (record k { nodes = m }))
        (a ∙ ap (λ m. map.insert (map.insert m f.dir left) f.ino (child_node f.dir tree)) is
        ∙ ap (λ n. map.insert (map.insert (map.insert k.nodes f.ino stand_in) f.dir n) f.ino (child_node f.dir tree)) (e
        ∙ ap (λ n. numbered_in n f.name f.ino) dir_is)
        ∙ ap (λ s. map.insert (map.insert (map.insert k.nodes f.ino stand_in) f.dir (numbered_in waits.0 f.name f.ino))
        f.ino (child_node f.dir s)) shape))

    -- or stays where it is
    pub stand_in_back : (left : Node) → left ≡ now → (after : map.FinMap nat_cmp Node)
        → after ≡ map.remove (map.insert nodes f.dir left) f.ino → record k { nodes = after } ≡ k
    stand_in_back left e after a =
        ap (λ m. record k { nodes = m })
        (a ∙ ap (λ m. map.remove (map.insert m f.dir left) f.ino) is
        ∙ ap (λ n. map.remove (map.insert (map.insert k.nodes f.ino stand_in) f.dir n) f.ino) (e ∙ dir_is)
        ∙ stand_in_removed f k waits.0 waits.1 stand_in waits.2)
