-- The tree of the root, by the kernel's nodes, is what the nodes of the folder tell once all are back.
use Rattle.std.proofs.Common.{◌≡◌, ℕ, suc, ◌+◌, ◌-◌, ◌^◌, List, [], ◌∷◌, ◌⊎◌, inl, inr, refl, ap}
use Rattle.std.proofs.Common.{sym, ◌∙◌, subst, arith}
use Rattle.std.specs.Prelude.{Option, Some, None, min, unwrap_or, option_map}
use Rattle.std.specs.Ordering.{nat_cmp}
use Rattle.std.specs.FinMap as map
use Rattle.std.proofs.lemmas.Bool.{cases_eq}
use Rattle.sn_base.specs.Sums.{capped}
use Rattle.sn_base.proofs.Maps.{get_of_empty, get-insert_same, get-insert_other}
use Rattle.host_node.specs.Tree.{Shape, faults_of, with_faults, child_of}
use Rattle.kernel_model.specs.declared.kernel.Kernel.{Kernel}
use Rattle.kernel_model.specs.declared.opening.Rise.{Rise}
use Rattle.kernel_model.specs.files.FileTree.{Nodes, plain, plain_node, put_back, child_node}
use Rattle.kernel_model.specs.files.Settled.{rise_in, count_now, tree_now}
use Rattle.image_walk.specs.declared.granted.Numbering.{Numbering}
use Rattle.image_walk.specs.Granted.{LentChild, GivesBack, put_all}
use Rattle.image_walk.specs.Loading.{faulted_by}
use Rattle.image_walk.specs.Standing.{lend_all, lent_from, numbers_from, HaveNodes, AreNodes, StandsLent, no_left}
use Rattle.image_walk.proofs.StandingMore.{rise_here, rise_elsewhere}

-- counts that rose by these rises
abbrev pub CountsBy : List Rise → (ℕ → ℕ → ℕ) → Type 0
CountsBy rises count = (ino granted : ℕ) → count ino granted ≡ capped (granted + rise_in ino rises)

module _ (num : Numbering) (t : Shape) (rises : List Rise) (count : ℕ → ℕ → ℕ) (counts : CountsBy rises count)
    (nodes : Nodes) where
  counted : (ino : ℕ) (s : Shape) → with_faults (count ino (faults_of s)) s ≡ faulted_by (rise_in ino rises) s
  counted ino s = ap (λ n. with_faults n s) (counts ino (faults_of s))

  child_told : (depth ino : ℕ) (o : Option Shape)
      → option_map (plain_node (plain depth count nodes) count ino) (option_map (child_node num.root) o)
      ≡ option_map (faulted_by (rise_in ino rises)) o
  child_told depth ino None = refl
  child_told depth ino (Some s) = ap Some (counted ino s)

  child_plain : (depth ino : ℕ) (o : Option Shape) → map.get nodes ino ≡ option_map (child_node num.root) o
      → plain (suc depth) count nodes ino ≡ option_map (faulted_by (rise_in ino rises)) o
  unfolding plain
  child_plain depth ino o e =
      ap (option_map (plain_node (plain depth count nodes) count ino)) e ∙ child_told depth ino o

  all_back : (depth n : ℕ) (names : List (List ℕ)) (root : Shape) → HaveNodes num nodes n t names
      → put_back (plain (suc depth) count nodes) (numbers_from n names) root ≡ put_all (lent_from n t names rises) root
  all_back depth n [] root h = refl
  all_back depth n (name ∷ names) root h =
      all_back depth (n + 1) names _ h.1
      ∙ ap (λ (o : Option Shape). put_all ((name, o) ∷ lent_from (n + 1) t names rises) root)
      (child_plain depth n (child_of name t) h.0)

  pub root_plain : (depth : ℕ) (names : List (List ℕ)) → AreNodes num nodes t names
      → plain (suc (suc depth)) count nodes num.root
      ≡ Some (put_all (lent_from num.first t names rises) (faulted_by (rise_in num.root rises) (lend_all names t)))
  unfolding plain
  root_plain depth names a =
      ap (option_map (plain_node (plain (suc depth) count nodes) count num.root)) a.root
      ∙ ap Some (all_back depth num.first names _ a.children)
      ∙ ap (λ (x : Shape). Some (put_all (lent_from num.first t names rises) x)) (counted num.root (lend_all names t))

gives : (root root' : Option Shape) (children children' : List LentChild) (after : Option Shape) (tree : Shape)
    → root ≡ Some tree → children ≡ children' → after ≡ Some (put_all children' tree) → GivesBack root children after
gives root root' children children' after tree r c e =
    subst (λ (o : Option Shape). GivesBack o children after) (sym r)
    (subst (λ (cs : List LentChild). after ≡ Some (put_all cs tree)) (sym c) e)

-- with counts that rose by the rises that the nodes met
pub settles_by : (num : Numbering) (k : Kernel) (t : Shape) (names : List (List ℕ)) (rises : List Rise)
    (root : Option Shape)
    (children : List LentChild) → AreNodes num k.nodes t names → CountsBy rises (count_now k no_left)
    → StandsLent num t names rises root children → GivesBack root children (tree_now k no_left num.root)
settles_by num k t names rises root children a counts s =
    gives root root children (lent_from num.first t names rises) (tree_now k no_left num.root)
    (faulted_by (rise_in num.root rises) (lend_all names t)) s.root_tells s.children_tell
    (root_plain num t rises (count_now k no_left) counts k.nodes 65535 names a)

-- no count rose,
counts_still : (k : Kernel) → k.failed ≡ map.empty → CountsBy [] (count_now k no_left)
counts_still k f ino granted =
    let none : map.get k.failed ino ≡ None = ap (λ (m : map.FinMap nat_cmp ℕ). map.get m ino) f ∙ get_of_empty ino in
    let same : granted + 0 + 0 ≡ granted + 0 = omega arith in
    ap (λ o. capped (granted + unwrap_or o 0 + 0)) none ∙ ap capped same

pub settles : (num : Numbering) (k : Kernel) (t : Shape) (names : List (List ℕ)) (root : Option Shape)
    (children : List LentChild)
    → AreNodes num k.nodes t names → k.failed ≡ map.empty → StandsLent num t names [] root children
    → GivesBack root children (tree_now k no_left num.root)
settles num k t names root children a f s = settles_by num k t names [] root children a (counts_still k f) s

-- or that of one node
risen_capped : (granted d : ℕ) → capped (granted + capped (0 + d) + 0) ≡ capped (granted + d)
risen_capped granted d =
    let e : min (granted + min (0 + d) (2 ^ 64 - 1) + 0) (2 ^ 64 - 1) ≡ min (granted + d) (2 ^ 64 - 1) = omega arith in
    e

counts_risen : (k : Kernel) (r : Rise) → k.failed ≡ map.insert map.empty r.ino (capped (0 + r.count))
    → CountsBy (r ∷ []) (count_now k no_left)
counts_risen k r f ino granted = by (cases_eq r.ino ino)
  where
    by : (r.ino ≡ ino) ⊎ (r.ino ≡ ino → ⊥)
        → count_now k no_left ino granted ≡ capped (granted + rise_in ino (r ∷ []))
    by (inl h) =
        let found : map.get k.failed ino ≡ Some (capped (0 + r.count)) =
        ap (λ (m : map.FinMap nat_cmp ℕ). map.get m ino) f
        ∙ ap (map.get (map.insert map.empty r.ino (capped (0 + r.count)))) (sym h)
        ∙ get-insert_same map.empty r.ino (capped (0 + r.count)) in
        ap (λ o. capped (granted + unwrap_or o 0 + 0)) found ∙ risen_capped granted r.count
        ∙ ap (λ d. capped (granted + d)) (sym (rise_here ino r h))
    by (inr h) =
        let none : map.get k.failed ino ≡ None =
        ap (λ (m : map.FinMap nat_cmp ℕ). map.get m ino) f
        ∙ get-insert_other map.empty r.ino ino (capped (0 + r.count)) h ∙ get_of_empty ino in
        let same : granted + 0 + 0 ≡ granted + 0 = omega arith in
        ap (λ o. capped (granted + unwrap_or o 0 + 0)) none ∙ ap capped same
        ∙ ap (λ d. capped (granted + d)) (sym (rise_elsewhere ino r h))

pub settles_risen : (num : Numbering) (k : Kernel) (t : Shape) (names : List (List ℕ)) (r : Rise) (root : Option Shape)
    (children : List LentChild) → AreNodes num k.nodes t names
    → k.failed ≡ map.insert map.empty r.ino (capped (0 + r.count)) → StandsLent num t names (r ∷ []) root children
    → GivesBack root children (tree_now k no_left num.root)
settles_risen num k t names r root children a f s =
    settles_by num k t names (r ∷ []) root children a (counts_risen k r f) s
