-- The nodes that are told are those of a granted tree of which children were lent, and no others.
use Rattle.std.proofs.Common.{◌≡◌, ◌≢◌, ℕ, suc, ◌+◌, ◌<◌, ◌≤◌, true, List, [], ◌∷◌, length, inl, inr, refl, ap}
use Rattle.std.proofs.Common.{sym, ◌∙◌, subst, arith, length-append}
use Rattle.std.specs.Prelude.{Option, Some, None, IsSomeAnd, option_and_then, option_map, if◌then◌else◌}
use Rattle.std.specs.FinMap as map
use Rattle.std.proofs.lemmas.Bool.{cases_eq, cases_lt}
use Rattle.sn_base.proofs.Maps.{get-insert_same, get-insert_other, same_by_get}
use Rattle.host_node.specs.Tree.{Shape, child_of, is_lent}
use Rattle.mount_file.specs.declared.mounts.Mount.{Mount}
use Rattle.kernel_model.specs.declared.kernel.Node.{Node}
use Rattle.kernel_model.specs.declared.opening.Rise.{Rise}
use Rattle.kernel_model.specs.files.FileTree.{Nodes, child_node}
use Rattle.kernel_model.specs.opening.Opening.{rooted}
use Rattle.image_walk.specs.declared.granted.Numbering.{Numbering}
use Rattle.image_walk.specs.Granted.{AreOut, CanGiveBack, LentChild}
use Rattle.image_walk.specs.Loading.{faulted_by}
use Rattle.image_walk.specs.Standing.{AreNodes, StandUnlent, HaveNodes, KeepsRoots, StandsLent, lend_all, lent_from}
use Rattle.image_walk.specs.Standing.{numbers_from}
use Rattle.image_walk.proofs.OutAgain.{can_give_back}
use Rattle.image_walk.proofs.Places.{IsThere, root_is}
use Rattle.image_walk.proofs.Trees.{faulted_by_none}
use Rattle.run_opening.specs.Openings.{numbering_of}
use Rattle.run_opening.specs.Told.{lent_told, lent_names, nodes_told, root_told, roots_told, told_at, trees_told}
use Rattle.run_opening.specs.Told.{with_lent}
use Rattle.run_opening.specs.Trees.{AreOthers, Others, trees_with}
use Rattle.run_opening.proofs.Roots.{rooted_above, rooted_but}

-- ---- the children

-- a child whose place in the root is left to it is told as it tells itself
told_place : (place told : Option Shape) → IsSomeAnd place (λ s. is_lent s ≡ true) → told_at place told ≡ told
told_place None told lent = absurd lent
told_place (Some place) told lent = ap (λ b. if b then told else None) lent

-- what a child tells of which no count rose
told_child : (o : Option Shape) (s : Shape) → o ≡ Some s → IsThere o → option_map (faulted_by 0) o ≡ Some s
told_child None s e there = absurd there
told_child (Some x) s e there = ap Some (faulted_by_none x there.1) ∙ e

lent_named : (n : ℕ) (t : Shape) (names : List (List ℕ)) (rises : List Rise)
    → lent_names (lent_from n t names rises) ≡ names
lent_named n t [] rises = refl
lent_named n t (name ∷ names) rises = ap (λ ns. name ∷ ns) (lent_named (n + 1) t names rises)

-- the child of a name, where one is there
found : (o : Option Shape) → IsThere o → (s : Shape) × (o ≡ Some s)
found None there = absurd there
found (Some s) there = (s, refl)

-- the nodes from a number on, over those below it
pub record LentNodes (num : Numbering) (t root : Shape) (n : ℕ) (names : List (List ℕ)) (base : Nodes) : Type 0 where
  pub nodes : Nodes
  pub told : with_lent num.root n root (lent_from n t names []) base ≡ Some nodes
  pub have : HaveNodes num nodes n t names
  pub below : (ino : ℕ) → ino < n → map.get nodes ino ≡ map.get base ino

lent_nodes : (num : Numbering) (t root : Shape) (n : ℕ) (names : List (List ℕ)) (base : Nodes) → StandUnlent t names
    → AreOut root (lent_from n t names []) → ((ino : ℕ) → n ≤ ino → map.get base ino ≡ None)
    → LentNodes num t root n names base
lent_nodes num t root n [] base there out none =
    record { nodes = base; told = refl; have = none; below = λ ino low. refl }
lent_nodes num t root n (name ∷ names) base there out none =
    let s = found (child_of name t) there.0 in
    let more : Nodes = map.insert base n (child_node num.root s.0) in
    let next : LentNodes num t root (n + 1) names more =
    lent_nodes num t root (n + 1) names more there.2 out.3 (λ ino high.
    let apart : n ≢ ino = λ e. absurd (omega arith) in
    let above : n ≤ ino = omega arith in
    get-insert_other base n ino (child_node num.root s.0) apart ∙ none ino above) in
    let tells : lent_told root (name, option_map (faulted_by 0) (child_of name t)) ≡ Some s.0 =
    told_place (child_of name root) _ out.0 ∙ told_child (child_of name t) s.0 s.1 there.0 in
    let here : n < n + 1 = omega arith in
    record {
      nodes = next.nodes;
      told =
          ap (option_and_then (λ x. with_lent num.root (n + 1) root (lent_from (n + 1) t names [])
          (map.insert base n (child_node num.root x)))) tells ∙ next.told;
      have = (
        next.below n here ∙ get-insert_same base n (child_node num.root s.0)
            ∙ ap (option_map (child_node num.root)) (sym s.1),
        next.have,
      );
      below = λ ino low.
          let apart : n ≢ ino = λ e. absurd (omega arith) in
          let within : ino < n + 1 = omega arith in
          next.below ino within ∙ get-insert_other base n ino (child_node num.root s.0) apart;
    }

-- ---- the nodes that are told

-- a granted tree of which these children were lent tells all its nodes
pub record Tells (num : Numbering) (others : Others) (t : Shape) (names : List (List ℕ)) (root : Option Shape)
    (children : List LentChild) : Type 0 where
  pub nodes : Nodes
  pub told : nodes_told num (trees_told others root children) ≡ Some nodes
  pub are : AreNodes num nodes t names
  pub kept : KeepsRoots num (rooted 1 (trees_with others t)) nodes

module _ (mounts : List Mount) (others : Others) (is : AreOthers mounts others) (t : Shape)
    (names : List (List ℕ)) where
  abbrev num : Numbering
  num = numbering_of mounts

  tells_of : (r : Shape) → StandUnlent t names → AreOut r (lent_from num.first t names []) → r ≡ lend_all names t
      → Tells num others t names (Some r) (lent_from num.first t names [])
  tells_of r there out lends =
      let children : List LentChild = lent_from num.first t names [] in
      let place : num.root ≡ length others.before + 1 = is.place in
      let long : length mounts ≡ length others.before + length others.behind + 1 = is.long in
      let all : length (trees_with others r) ≡ length others.before + suc (length others.behind) =
      length-append others.before (r ∷ others.behind) in
      let node : Node = root_told num r children in
      let roots : Nodes = rooted 1 (trees_with others r) in
      let base : Nodes = roots_told num others r children in
      let l : LentNodes num t r num.first names base =
      lent_nodes num t r num.first names base there out (λ ino high.
      let apart : num.root ≢ ino = λ e. absurd (omega arith) in
      let above : 1 + length (trees_with others r) ≤ ino = omega arith in
      get-insert_other roots num.root ino node apart ∙ rooted_above 1 (trees_with others r) ino above) in
      record {
        nodes = l.nodes;
        told = l.told;
        are = record {
          root =
              let low : num.root < num.first = omega arith in
              l.below num.root low ∙ get-insert_same roots num.root node
              ∙ ap (λ x. Some (record { parent = num.root; linked = true; tree = x; numbers = node.numbers })) lends
              ∙ ap (λ ns. Some (record {
                parent = num.root;
                linked = true;
                tree = lend_all names t;
                numbers = numbers_from num.first ns;
              })) (lent_named num.first t names []);
          children = l.have;
        };
        kept = λ ino differs low.
            let apart : num.root ≢ ino = λ e. differs (sym e) in
            l.below ino low ∙ get-insert_other roots num.root ino node apart
            ∙ rooted_but 1 others.before others.behind r t ino (λ e.
            let same : ino ≡ num.root = omega arith in
            differs same);
      }

  -- so it does, where these are what its root and the children tell
  pub tells : (root : Option Shape) (children : List LentChild) → StandsLent num t names [] root children
      → Tells num others t names root children
  tells root children s =
      let is_told : root ≡ Some (lend_all names t) = root_is num t names root children s in
      let out : AreOut (lend_all names t) (lent_from num.first t names []) =
      subst (λ (cs : List LentChild). CanGiveBack (Some (lend_all names t)) cs) s.children_tell
      (subst (λ (o : Option Shape). CanGiveBack o children) is_told (can_give_back num t names [] root children s)) in
      subst (λ (cs : List LentChild). Tells num others t names root cs) (sym s.children_tell)
      (subst (λ (o : Option Shape). Tells num others t names o (lent_from num.first t names [])) (sym is_told)
      (tells_of (lend_all names t) s.there out refl))

-- ---- there are no others

same_have : (num : Numbering) (t : Shape) (n : ℕ) (names : List (List ℕ)) (a b : Nodes) → HaveNodes num a n t names
    → HaveNodes num b n t names → (ino : ℕ) → n ≤ ino → map.get a ino ≡ map.get b ino
same_have num t n [] a b h g ino high = h ino high ∙ sym (g ino high)
same_have num t n (name ∷ names) a b h g ino high =
    elim (cases_eq n ino) [
      | inl e ↦ ap (map.get a) (sym e) ∙ h.0 ∙ sym g.0 ∙ ap (map.get b) e
      | inr d ↦ let above : n + 1 ≤ ino = omega (arith, d) in
          same_have num t (n + 1) names a b h.1 g.1 ino above
    ]

-- two maps that are the nodes of one tree are one
same_nodes : (num : Numbering) (t : Shape) (names : List (List ℕ)) (roots a b : Nodes) → AreNodes num a t names
    → KeepsRoots num roots a → AreNodes num b t names → KeepsRoots num roots b → a ≡ b
same_nodes num t names roots a b in_a kept_a in_b kept_b = same_by_get a b (λ ino.
    elim (cases_eq ino num.root) [
      | inl e ↦ ap (map.get a) e ∙ in_a.root ∙ sym in_b.root ∙ ap (map.get b) (sym e)
      | inr d ↦ elim (cases_lt ino num.first) [
        | inl low ↦ kept_a ino d low ∙ sym (kept_b ino d low)
        | inr high ↦ same_have num t num.first names a b in_a.children in_b.children ino high
      ]
    ])

-- the nodes of a granted tree, with the other roots as granted, are those that are told
pub told_nodes : (mounts : List Mount) (others : Others) (is : AreOthers mounts others) (t : Shape)
    (names : List (List ℕ)) (nodes : Nodes) (root : Option Shape) (children : List LentChild)
    → StandsLent (numbering_of mounts) t names [] root children → AreNodes (numbering_of mounts) nodes t names
    → KeepsRoots (numbering_of mounts) (rooted 1 (trees_with others t)) nodes
    → nodes_told (numbering_of mounts) (trees_told others root children) ≡ Some nodes
told_nodes mounts others is t names nodes root children s are kept =
    let h = tells mounts others is t names root children s in
    h.told
    ∙ ap Some (same_nodes (numbering_of mounts) t names (rooted 1 (trees_with others t)) h.nodes nodes h.are h.kept
    are kept)
