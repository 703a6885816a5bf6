-- What a tree tells once another was put into it, as callers of a host in memory need it.
use Rattle.std.proofs.Common.{◌≡◌, ℕ, ◌<◌, true, false, cond, List, [], ◌∷◌, length, Option, Some, None, is_some}
use Rattle.std.proofs.Common.{is_none, option_and_then, refl, ap, sym, ◌∙◌, arith}
use Rattle.std.specs.Option.{option_map_or, IfSome}
use Rattle.host_node.specs.declared.kind.Kind.{Kind}
use Rattle.host_node.specs.declared.kind.Kind.TheVariants.{Dir}
use Rattle.host_node.specs.Told.{ComesFrom, CanLend, TellsLent, CanTakeBack, TellsGranted}
use Rattle.host_node.specs.Tree.{Shape, directory, file, link, lent, with_faults, is_directory, is_lent, child_of}
use Rattle.host_node.specs.Tree.{with_child, lend_child, none_lent}
use Rattle.host_node.specs.Routes.{subtree, put_subtree, directory_at, only_directory, is_way_free}
use Rattle.host_node.proofs.TreeLemmas.{directory_from_child, child_of-with_same, none_lent-with_faults}
use Rattle.host_node.proofs.TreeLemmas.{none_lent-child_of, none_lent-with_child, is_lent-none_lent}
use Rattle.host_node.proofs.RouteLemmas.{put-put_subtree, none_lent-subtree, none_lent-put_subtree, is_free-none_lent}
use Rattle.host_node.proofs.RouteLemmas.{subtree-directory_at}
use Rattle.host_node.proofs.ToldLemmas.{can_take_back, can_settle}
use Rattle.host_memory.specs.declared.places.PutErr.TheVariants.{NoParent, Taken}
use Rattle.host_memory.specs.Places.{way_of, last_of, parent_directory, put_under, put_fault}
use Rattle.host_memory.proofs.PlaceLemmas.{given-taken, put_under-below}

-- the directory for what is put is the one that the names before the last lead to
parent_found : (names : List (List ℕ)) (t p : Shape) → parent_directory names t ≡ Some p → subtree (way_of names) t
    ≡ Some p
parent_found names t p h = subtree-directory_at (way_of names) p t h

-- a tree with nothing lent stays so where one with nothing lent is put
pub none_lent_put : (names : List (List ℕ)) (new t : Shape) → none_lent t ≡ true → none_lent new ≡ true
    → none_lent (put_under names new t) ≡ true
none_lent_put names new t n h = by (parent_directory names t) refl
  where
    by : (o : Option Shape) → parent_directory names t ≡ o
        → none_lent (option_map_or (λ p. put_subtree (way_of names) (with_child (last_of names) new p) t) o t) ≡ true
    by None e = n
    by (Some p) e =
        none_lent-put_subtree (way_of names) (with_child (last_of names) new p) t n
        (none_lent-with_child (last_of names) new p (none_lent-subtree (way_of names) p t n (parent_found names t p e))
        h)

-- a tree with nothing lent can grant each of its folders
pub can_grant : (names : List (List ℕ)) (t : Shape) → none_lent t ≡ true → is_way_free names t ≡ true
can_grant names t n = is_free-none_lent names t n

-- a folder that was granted has its place, where it can be settled
pub granted_place : (names : List (List ℕ)) (t after n : Shape) (count : ℕ) (what : Kind)
    → TellsGranted names (Some t) (Some n) count what
    → Some after ≡ Some (put_subtree names (lent Dir) t) → subtree names after ≡ Some (lent Dir)
granted_place names t after n count what h e =
    let same : after ≡ put_subtree names (lent Dir) t = cc in
    rw same (can_settle names (Some t) (Some n) count what h)

-- a folder with nothing lent that is settled where it was granted leaves nothing lent
pub none_lent_settled : (names : List (List ℕ)) (t after n : Shape) → none_lent t ≡ true → none_lent n ≡ true
    → after ≡ put_subtree names (lent Dir) t → none_lent (put_subtree names n after) ≡ true
none_lent_settled names t after n w h e =
    rw (e, put-put_subtree names n (lent Dir) t) (none_lent-put_subtree names n t w h)

-- a folder that was granted of a tree with nothing lent has nothing lent
pub none_lent_granted : (names : List (List ℕ)) (t n : Shape) (count : ℕ) (what : Kind) → none_lent t ≡ true
    → TellsGranted names (Some t) (Some n) count what → none_lent n ≡ true
none_lent_granted names t n count what w h = by (directory_at names t) refl h
  where
    by : (d : Option Shape) → directory_at names t ≡ d → ComesFrom d (Some n) count what → none_lent n ≡ true
    by None e h = absurd h
    by (Some s) e h =
        let same : n ≡ s = cc in
        rw same (none_lent-subtree names s t w (subtree-directory_at names s t e))

-- a directory with nothing lent can lend each of its children
pub can_lend : (name : List ℕ) (t : Shape) → is_directory t ≡ true → none_lent t ≡ true → CanLend name (Some t)
can_lend name t d w = (d, by (child_of name t) refl)
  where
    by : (o : Option Shape) → child_of name t ≡ o → IfSome o (λ s. is_lent s ≡ false)
    by None e = tt
    by (Some s) e = is_lent-none_lent s (none_lent-child_of name s t w e)

-- a child that was lent has its place, where it can be taken back
pub lent_place : (name : List ℕ) (t after s : Shape) (count : ℕ) (what : Kind)
    → TellsLent name (Some t) (Some s) count what
    → Some after ≡ Some (lend_child name t) → CanTakeBack name (Some after)
lent_place name t after s count what h e =
    let same : after ≡ lend_child name t = cc in
    rw same (can_take_back name (Some t) (Some s) count what h)

-- a directory with nothing lent whose child was lent, met calls and came back has nothing lent
pub none_lent_back : (name : List ℕ) (t after s n last : Shape) (k count : ℕ) (what : Kind) → none_lent t ≡ true
    → TellsLent name (Some t) (Some s) count what → Some after ≡ Some (lend_child name t)
    → Some n ≡ Some (with_faults k s)
    → Some last ≡ Some (with_child name n after) → none_lent last ≡ true
none_lent_back name t after s n last k count what w h away met back = by (child_of name t) refl h
  where
    same : (c : Shape) → child_of name t ≡ Some c → s ≡ c
        → none_lent (with_child name (with_faults k s) (lend_child name t)) ≡ true
    same c e i =
        rw (i, given-taken name t c (with_faults k c) (sym e))
        (none_lent-with_child name (with_faults k c) t w (none_lent-with_faults k c ∙ none_lent-child_of name c t w e))

    by : (o : Option Shape) → child_of name t ≡ o → ComesFrom o (Some s) count what → none_lent last ≡ true
    by None e g = absurd g
    by (Some c) e g =
        let is : s ≡ c = cc in
        let taken : after ≡ lend_child name t = cc in
        let counted : n ≡ with_faults k s = cc in
        let given : last ≡ with_child name n after = cc in
        rw (given, counted, taken) (same c e is)

-- why nothing can be put below a child, as told from its directory
fault_below : (name next : List ℕ) (more : List (List ℕ)) (t : Shape) (o : Option Shape) → child_of name t ≡ o
    → put_fault (name ∷ next ∷ more) t
    ≡ cond (is_none (option_and_then only_directory (option_and_then (subtree (way_of (next ∷ more))) o)))
    (Some NoParent)
    (cond (is_some (option_and_then (subtree (next ∷ more)) o)) (Some Taken) None)
fault_below name next more t o h =
    ap (λ x. cond (is_none (option_and_then only_directory (option_and_then (subtree (way_of (next ∷ more))) x)))
    (Some NoParent)
    (cond (is_some (option_and_then (subtree (next ∷ more)) x)) (Some Taken) None)) h

stands_here : (name : List ℕ) (new t : Shape) → put_fault (name ∷ []) t ≡ None
    → subtree (name ∷ []) (put_under (name ∷ []) new t) ≡ Some new
stands_here name new (directory mode faults entries) f =
    ap (option_and_then (subtree [])) (child_of-with_same name new (directory mode faults entries) refl)
stands_here name new (file bytes mode faults) f = cc
stands_here name new (link text faults) f = cc
stands_here name new (lent kind) f = cc

-- what was put where names lead stands there
pub stands_put : (names : List (List ℕ)) (new t : Shape) → 0 < length names → put_fault names t ≡ None
    → subtree names (put_under names new t) ≡ Some new
stands_put [] new t l f = absurd (omega arith)
stands_put (name ∷ []) new t l f = stands_here name new t f
stands_put (name ∷ next ∷ more) new t l f =
    by (child_of name t) refl (λ s g. stands_put (next ∷ more) new s (omega arith) g)
  where
    by : (o : Option Shape) → child_of name t ≡ o
        → ((s : Shape) → put_fault (next ∷ more) s ≡ None
        → subtree (next ∷ more) (put_under (next ∷ more) new s) ≡ Some new)
        → subtree (name ∷ next ∷ more) (put_under (name ∷ next ∷ more) new t) ≡ Some new
    by None e more_so = let g = sym (fault_below name next more t None e) ∙ f in cc
    by (Some s) e more_so =
        ap (subtree (name ∷ next ∷ more)) (put_under-below name next more new t s (sym e))
        ∙ ap (option_and_then (subtree (next ∷ more)))
        (child_of-with_same name (put_under (next ∷ more) new s) t (directory_from_child name t s e))
        ∙ more_so s (sym (fault_below name next more t (Some s) e) ∙ f)
