-- How a walk goes on from a root that was searched.
use Rattle.std.proofs.Common.{◌≡◌, ℕ, zero, suc, ◌+◌, true, false, List, [], ◌∷◌, ◌++◌, length, refl, ap, sym, ◌∙◌}
use Rattle.std.proofs.Common.{subst}
use Rattle.std.specs.Prelude.{Option, Some, None, IfSome, IfOk, Result, Ok, Err, option_map, slice_get}
use Rattle.std.specs.Prelude.{slice_set}
use Rattle.std.proofs.lemmas.List.{map-append}
use Rattle.std.proofs.lemmas.Option.{same_Some}
use Rattle.host_node.specs.Tree.{Shape, child_of, lend_child}
use Rattle.host_node.specs.declared.kind.Kind.{Kind}
use Rattle.host_node.specs.Told.{CanLend, ComesFrom, TellsLent}
use Rattle.image_walk.specs.declared.granted.Numbering.{Numbering}
use Rattle.image_walk.specs.declared.loading.NodeAnswer.{NodeAnswer}
use Rattle.image_walk.specs.declared.walk.WalkEnd.{WalkEnd}
use Rattle.image_walk.specs.Granted.{LentChild, place_of_child, told_of}
use Rattle.image_walk.specs.declared.granted.Lent.{Lent as ALent}
use Rattle.image_walk.specs.Loading.{IsHere, LoadsWhere}
use Rattle.image_walk.specs.Standing.{StandsLent}
use Rattle.image_walk.specs.Walking.{IsGrant, TellNothing, SearchedFor, LendsWhere, LoadsAt, Known, Lent, WalksWhere}
use Rattle.image_walk.proofs.Places.{IsThere, root_is, unplaced, can_lend, placed}

-- ---- children of nodes that tell nothing

nothing_here : (children : List LentChild) (i : ℕ) → TellNothing children
    → IfSome (slice_get children i) (λ c. IsHere c.1)
nothing_here [] i h = tt
nothing_here (c ∷ children) zero h = subst IsHere (sym h.0) tt
nothing_here (c ∷ children) (suc i) h = nothing_here children i h.1

nothing_set : (children : List LentChild) (i : ℕ) (child : LentChild) (told : Option Shape) → TellNothing children
    → slice_get children i ≡ Some child → (child.1 ≡ None → told ≡ None)
    → TellNothing (slice_set children i (child.0, told))
nothing_set [] i child told h e f = tt
nothing_set (c ∷ children) zero child told h e f =
    let same : c ≡ child = same_Some c child e in
    (f (ap (λ (x : LentChild). x.1) (sym same) ∙ h.0), h.1)
nothing_set (c ∷ children) (suc i) child told h e f = (h.0, nothing_set children i child told h.1 e f)

-- a root that was not refused
pub searched_none : (told after : Option Shape) (o : Option NodeAnswer) → SearchedFor told after o
    → ((x : NodeAnswer) → o ≡ Some x → ⊥) → SearchedFor told after None
searched_none told after None h n = h
searched_none told after (Some x) h n = absurd (n x refl)

-- ---- a child that is lent now

-- it is told behind the others
pub told_more : {N : Type 0} (told : N → Option Shape) (before kept after : List (ALent N)) (name called : List ℕ)
    (node : N) → kept ≡ before → called ≡ name → after ≡ kept ++ record { name = called; node = node } ∷ []
    → told_of told after ≡ told_of told before ++ (name, told node) ∷ []
told_more told before kept after name called node same is e =
    rw (e, same, is) (map-append (λ l. (l.name, told l.node)) before (record { name = name; node = node } ∷ []))

-- ---- a child that was lent before

there_here : (o : Option Shape) → IsThere o → IsHere o
there_here None h = tt
there_here (Some s) h = h.0

pub known_here : (num : Numbering) (name : List ℕ) (root : Option Shape) (children : List LentChild) (i : ℕ)
    → IsGrant num root children
    → place_of_child name children ≡ Some i → IfSome (slice_get children i) (λ c. IsHere c.1)
known_here num name None children i grant e = nothing_here children i grant
known_here num name (Some r) children i grant e =
    let p = placed num grant.0 grant.1 (Some r) children name i grant.3 e in
    subst (λ (o : Option LentChild). IfSome o (λ c. IsHere c.1)) (sym p.child)
    (there_here (child_of name grant.0) p.there)

pub walks_known : (num : Numbering) (name : List ℕ) (told after : Option Shape) (children children' : List LentChild)
    (place : ℕ)
    (step : WalkEnd) → SearchedFor told after None → place_of_child name children ≡ Some place → step.drawn ≡ false
    → step.ino ≡ place + num.first → LoadsAt place children children' step.loaded.risen step.loaded.answer
    → WalksWhere num told name children children' after step
walks_known num name None after children children' place step searched e drawn ino loads = (
  searched,
  λ h. subst TellNothing (sym loads.set)
      (nothing_set children place loads.child loads.told h loads.at
      (λ n. subst (λ (o : Option Shape). LoadsWhere o loads.told step.loaded.risen step.loaded.answer) n loads.loads)),
)
walks_known num name (Some t) after children children' place step searched e drawn ino loads =
    Known searched.0 searched.1 drawn place e ino loads

-- ---- a child that was not

pub can_lend_then : (num : Numbering) (name : List ℕ) (told after : Option Shape) (children : List LentChild)
    → IsGrant num told children
    → SearchedFor told after None → place_of_child name children ≡ None → CanLend name after
can_lend_then num name None after children grant searched e =
    subst (λ (o : Option Shape). CanLend name o) (sym searched) tt
can_lend_then num name (Some r) after children grant searched e =
    let s : StandsLent num grant.0 grant.1 [] (Some r) children = grant.3 in
    let u = unplaced num grant.0 grant.1 [] (Some r) children name s e in
    subst (λ (o : Option Shape). CanLend name o) (sym (searched.1 ∙ root_is num grant.0 grant.1 (Some r) children s))
    (can_lend grant.0 grant.1 name s.free grant.2 u.new)

pub walks_lent : (num : Numbering) (name : List ℕ) (told between after : Option Shape)
    (children children' : List LentChild) (step : WalkEnd)
    → SearchedFor told between None → place_of_child name children ≡ None
    → LendsWhere num between name children children' after step → WalksWhere num told name children children' after step
walks_lent num name None between after children children' step searched e lends =
    subst (λ (o : Option Shape). LendsWhere num o name children children' after step) searched lends
walks_lent num name (Some t) between after children children' step searched e lends =
    Lent searched.0 e
    (subst (λ (o : Option Shape). LendsWhere num o name children children' after step) searched.1 lends)

-- ---- a child that is lent now

nothing_more : (children : List LentChild) (child : LentChild) → child.1 ≡ None → TellNothing children
    → TellNothing (children ++ child ∷ [])
nothing_more [] child e h = (e, tt)
nothing_more (c ∷ children) child e h = (h.0, nothing_more children child e h.1)

pub lends_child : (num : Numbering) (told root' child child' : Option Shape) (name : List ℕ) (count : ℕ) (what : Kind)
    (ino : ℕ)
    (loaded : NodeAnswer) (children children' : List LentChild) → TellsLent name told child count what
    → root' ≡ option_map (lend_child name) told → LoadsWhere child child' loaded.risen loaded.answer
    → children' ≡ children ++ (name, child') ∷ [] → ino ≡ length children + num.first
    → LendsWhere num told name children children' root' (record { drawn = true; ino = ino; loaded = loaded })
lends_child num None root' child child' name count what ino loaded children children' lent r loads pushed i = (
  r,
  λ h. subst TellNothing (sym pushed) (nothing_more children (name, child')
      (subst (λ (o : Option Shape). LoadsWhere o child' loaded.risen loaded.answer) lent loads) h),
)
lends_child num (Some t) root' child child' name count what ino loaded children children' lent r loads pushed i =
    from_child (child_of name t) refl lent
  where
    from_child : (o : Option Shape) → child_of name t ≡ o → ComesFrom o child count what
        → LendsWhere num (Some t) name children children' root' (record { drawn = true; ino = ino; loaded = loaded })
    from_child None e from = absurd from
    from_child (Some s) e from =
        let l : LoadsWhere (Some s) child' loaded.risen loaded.answer =
        subst (λ (x : Option Shape). LoadsWhere x child' loaded.risen loaded.answer) from.0 loads in (
          record {
            child = s;
            there = e;
            small = l.0;
            told = child';
            lent = r;
            pushed = pushed;
            loads = l.1;
          },
          i,
        )

-- ---- the walk as a result

pub walks_ok : {E : Type 0} (num : Numbering) (name : List ℕ) (told between after : Option Shape)
    (children children' : List LentChild)
    (result : Result WalkEnd E) → SearchedFor told between None → place_of_child name children ≡ None
    → IfOk result (LendsWhere num between name children children' after)
    → IfOk result (WalksWhere num told name children children' after)
walks_ok num name told between after children children' (Ok step) searched e lends =
    walks_lent num name told between after children children' step searched e lends
walks_ok num name told between after children children' (Err x) searched e lends = tt
