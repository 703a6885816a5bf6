-- What an object of a host tells after a node that it lent came back.
use Rattle.std.proofs.Common.{◌≡◌, ℕ, List, Option, Some, None, option_map, refl, sym, ap, ◌∙◌}
use Rattle.host_node.specs.declared.kind.Kind.{Kind}
use Rattle.host_node.specs.declared.kind.Kind.TheVariants.{Dir}
use Rattle.host_node.specs.Tree.{Shape, lent, kind_of, with_faults, child_of, with_child, lend_child}
use Rattle.host_node.specs.Routes.{put_subtree, directory_at}
use Rattle.host_node.specs.Told.{TellsItself, kept, ComesFrom, TellsLent, CanTakeBack, TakesBack, TellsGranted}
use Rattle.host_node.specs.Told.{CanSettle, Settles}
use Rattle.host_node.proofs.TreeLemmas.{with_faults_own, with_faults_twice, directory_from_child, child_of-with_same}
use Rattle.host_node.proofs.TreeLemmas.{with_child_twice, with_child_found, lend_child_found}
use Rattle.host_node.proofs.RouteLemmas.{put-put_subtree, put_subtree_found, subtree-directory_at, subtree-granted}

-- the last of two counts stays
pub kept-kept : (m n : ℕ) (o : Option Shape) → kept m (kept n o) ≡ kept m o
kept-kept m n None = refl
kept-kept m n (Some t) = ap Some (with_faults_twice m n t)

-- a node that kept its count tells what it told
pub kept_own : (o : Option Shape) (count : ℕ) (what : Kind) → TellsItself o count what → kept count o ≡ o
kept_own None count what h = refl
kept_own (Some t) count what h = ap (λ n. Some (with_faults n t)) (sym h.0) ∙ ap Some (with_faults_own t)

-- and so does one whose count came to what it was
pub kept_still : (o : Option Shape) (before now : ℕ) (what : Kind) → TellsItself o before what
    → now ≡ before → kept now o ≡ o
kept_still o before now what h e = ap (λ n. kept n o) e ∙ kept_own o before what h

-- a node that came from somewhere tells itself
TellsItself-ComesFrom : (c told : Option Shape) (count : ℕ) (what : Kind) → ComesFrom c told count what
    → TellsItself told count what
TellsItself-ComesFrom None told count what h = absurd h
TellsItself-ComesFrom (Some s) told count what h = rw h.0 (sym h.1, sym h.2)

-- so does a node that was lent
pub TellsItself-lent : (name : List ℕ) (o told : Option Shape) (count : ℕ) (what : Kind)
    → TellsLent name o told count what → TellsItself told count what
TellsItself-lent name None told count what h = rw h tt
TellsItself-lent name (Some t) told count what h = TellsItself-ComesFrom (child_of name t) told count what h

-- and a folder that was granted
pub TellsItself-granted : (names : List (List ℕ)) (o told : Option Shape) (count : ℕ) (what : Kind)
    → TellsGranted names o told count what
    → TellsItself told count what
TellsItself-granted names None told count what h = rw h tt
TellsItself-granted names (Some t) told count what h = TellsItself-ComesFrom (directory_at names t) told count what h

-- a child that was lent stands as lent under its name
child_of-lend : (name : List ℕ) (s t : Shape) → child_of name t ≡ Some s → child_of name (lend_child name t)
    ≡ Some (lent (kind_of s))
child_of-lend name s t h =
    ap (child_of name) (lend_child_found name s t h)
    ∙ child_of-with_same name (lent (kind_of s)) t (directory_from_child name t s h)

-- a node that was lent can come back
pub can_take_back : (name : List ℕ) (o told : Option Shape) (count : ℕ) (what : Kind) → TellsLent name o told count what
    → CanTakeBack name (option_map (lend_child name) o)
can_take_back name None told count what h = tt
can_take_back name (Some t) told count what h = by (child_of name t) refl h
  where
    by : (c : Option Shape) → child_of name t ≡ c → ComesFrom c told count what
        → CanTakeBack name (Some (lend_child name t))
    by None e g = absurd g
    by (Some s) e g = rw (child_of-lend name s t e) refl

-- where it tells what it told then, the directory does too
pub takes_back_same : (name : List ℕ) (o told after : Option Shape) (count : ℕ) (what : Kind)
    → TellsLent name o told count what
    → TakesBack name (option_map (lend_child name) o) told after → after ≡ o
takes_back_same name None told after count what h back = back
takes_back_same name (Some t) told after count what h back = by (child_of name t) refl h
  where
    by : (c : Option Shape) → child_of name t ≡ c → ComesFrom c told count what → after ≡ Some t
    by None e g = absurd g
    by (Some s) e g =
        let here : TakesBack name (Some (lend_child name t)) (Some s) after = rw g.0 at back in
        here ∙ ap Some (ap (with_child name s) (lend_child_found name s t e)
        ∙ with_child_twice name s (lent (kind_of s)) t ∙ with_child_found name s t e)

-- where it tells another node, the directory tells that one in its place
pub takes_back_other : (name : List ℕ) (t s new : Shape) (after : Option Shape) → child_of name t ≡ Some s
    → TakesBack name (Some (lend_child name t)) (Some new) after → after ≡ Some (with_child name new t)
takes_back_other name t s new after e back =
    back ∙ ap Some (ap (with_child name new) (lend_child_found name s t e)
    ∙ with_child_twice name new (lent (kind_of s)) t)

-- a folder that was granted can be settled
pub can_settle : (names : List (List ℕ)) (o told : Option Shape) (count : ℕ) (what : Kind)
    → TellsGranted names o told count what
    → CanSettle names (option_map (put_subtree names (lent Dir)) o)
can_settle names None told count what h = tt
can_settle names (Some t) told count what h = by (directory_at names t) refl h
  where
    by : (d : Option Shape) → directory_at names t ≡ d → ComesFrom d told count what
        → CanSettle names (Some (put_subtree names (lent Dir) t))
    by None e g = absurd g
    by (Some s) e g = subtree-granted names s t e

-- where it tells what it told then, the host does too
pub settles_same : (names : List (List ℕ)) (o told after : Option Shape) (count : ℕ) (what : Kind)
    → TellsGranted names o told count what
    → Settles names (option_map (put_subtree names (lent Dir)) o) told after → after ≡ o
settles_same names None told after count what h back = back
settles_same names (Some t) told after count what h back = by (directory_at names t) refl h
  where
    by : (d : Option Shape) → directory_at names t ≡ d → ComesFrom d told count what → after ≡ Some t
    by None e g = absurd g
    by (Some s) e g =
        let here : Settles names (Some (put_subtree names (lent Dir) t)) (Some s) after = rw g.0 at back in
        here ∙ ap Some (put-put_subtree names s (lent Dir) t
        ∙ put_subtree_found names s t (subtree-directory_at names s t e))

-- where it tells another tree, the host tells that one in its place
pub settles_other : (names : List (List ℕ)) (t new : Shape) (after : Option Shape)
    → Settles names (Some (put_subtree names (lent Dir) t)) (Some new) after → after ≡ Some (put_subtree names new t)
settles_other names t new after back = back ∙ ap Some (put-put_subtree names new (lent Dir) t)
