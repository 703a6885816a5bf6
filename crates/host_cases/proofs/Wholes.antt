-- What may be asked of a node or a host of which nothing stands with a borrower, and that it stays so.
use Rattle.std.proofs.Common.{◌≡◌, ◌≢◌, ℕ, List, Bool, true, false, Option, Some, None, option_map, is_some, refl, ap, ◌∙◌}
use Rattle.host_node.specs.declared.kind.Kind.{Kind}
use Rattle.host_node.specs.declared.kind.Kind.TheVariants.{Dir, File}
use Rattle.host_node.specs.Told.{kept, ComesFrom, CanList, CanLend, TellsLent, CanOpen, CanRead, Opened, Closed}
use Rattle.host_node.specs.Told.{TakesBack, CanGrant, TellsGranted, Settles}
use Rattle.host_node.specs.Tree.{Shape, directory, file, link, lent, kind_of, child_of}
use Rattle.host_node.specs.Tree.{with_child, lend_child, none_lent}
use Rattle.host_node.specs.Routes.{put_subtree, directory_at}
use Rattle.host_node.proofs.TreeLemmas.{none_lent-with_faults, none_lent-child_of, none_lent-with_child}
use Rattle.host_node.proofs.RouteLemmas.{none_lent-subtree, none_lent-put_subtree, is_free-none_lent, subtree-directory_at}
use Rattle.host_node.proofs.ToldLemmas.{takes_back_other, settles_other}
use Rattle.host_memory.proofs.Worlds.{can_lend}
use Rattle.host_cases.specs.Whole.{IsWhole}

-- a node in memory that is a directory can be listed
pub can_list : (t : Shape) → none_lent t ≡ true → kind_of t ≡ Dir → CanList (Some t)
can_list (directory mode faults entries) w k = refl
can_list (file bytes mode faults) w k = cc
can_list (link text faults) w k = cc
can_list (lent kind) w k = cc

-- and lend what stands under any name
pub can_lend_any : (t : Shape) (name : List ℕ) → none_lent t ≡ true → kind_of t ≡ Dir → CanLend name (Some t)
can_lend_any t name w k = can_lend name t (can_list t w k) w

-- a file can be opened
pub can_open_file : (t : Shape) (write : Bool) → none_lent t ≡ true → kind_of t ≡ File → CanOpen write (Some t)
can_open_file (directory mode faults entries) write w k = cc
can_open_file (file bytes mode faults) write w k = tt
can_open_file (link text faults) write w k = cc
can_open_file (lent kind) write w k = cc

-- and a directory, for reading
pub can_open_directory : (t : Shape) (write : Bool) → none_lent t ≡ true → kind_of t ≡ Dir → write ≡ false
    → CanOpen write (Some t)
can_open_directory (directory mode faults entries) write w k h = h
can_open_directory (file bytes mode faults) write w k h = cc
can_open_directory (link text faults) write w k h = cc
can_open_directory (lent kind) write w k h = cc

-- a file that is open can be read
pub can_read : (t : Shape) (opened : Opened) → none_lent t ≡ true → kind_of t ≡ File → opened ≢ Closed
    → CanRead (Some t) opened
can_read (directory mode faults entries) opened w k h = cc
can_read (file bytes mode faults) opened w k h = h
can_read (link text faults) opened w k h = cc
can_read (lent kind) opened w k h = cc

-- a node stays whole in a call that leaves its files alone
pub whole_kept : (n : ℕ) (o : Option Shape) → IsWhole o → IsWhole (kept n o)
whole_kept n None w = tt
whole_kept n (Some t) w = none_lent-with_faults n t ∙ w

-- and tells whatever it told
pub some_kept : (n : ℕ) (o : Option Shape) → is_some (kept n o) ≡ is_some o
some_kept n None = refl
some_kept n (Some t) = refl

-- a node that came from a whole one is whole
whole_from : (c told : Option Shape) (count : ℕ) (what : Kind) → IsWhole c → ComesFrom c told count what → IsWhole told
whole_from None told count what w h = absurd h
whole_from (Some s) told count what w h = rw h.0 w

some_from : (c told : Option Shape) (count : ℕ) (what : Kind) → ComesFrom c told count what → is_some told ≡ true
some_from None told count what h = absurd h
some_from (Some s) told count what h = ap is_some h.0

whole_child : (name : List ℕ) (t : Shape) → none_lent t ≡ true → IsWhole (child_of name t)
whole_child name t w = by (child_of name t) refl
  where
    by : (o : Option Shape) → child_of name t ≡ o → IsWhole o
    by None e = tt
    by (Some s) e = none_lent-child_of name s t w e

whole_directory : (names : List (List ℕ)) (t : Shape) → none_lent t ≡ true → IsWhole (directory_at names t)
whole_directory names t w = by (directory_at names t) refl
  where
    by : (o : Option Shape) → directory_at names t ≡ o → IsWhole o
    by None e = tt
    by (Some s) e = none_lent-subtree names s t w (subtree-directory_at names s t e)

-- what a whole node lends is whole
pub whole_lent : (name : List ℕ) (o told : Option Shape) (count : ℕ) (what : Kind) → IsWhole o
    → TellsLent name o told count what → IsWhole told
whole_lent name None told count what w h = rw h tt
whole_lent name (Some t) told count what w h =
    whole_from (child_of name t) told count what (whole_child name t w) h

some_lent : (name : List ℕ) (o told : Option Shape) (count : ℕ) (what : Kind) → TellsLent name o told count what
    → is_some told ≡ is_some o
some_lent name None told count what h = ap is_some h
some_lent name (Some t) told count what h = some_from (child_of name t) told count what h

-- what is told after a child came back, in the place that it left
back_of : (name : List ℕ) (t s : Shape) (told after : Option Shape) (count : ℕ) (what : Kind)
    → TellsLent name (Some t) told count what → TakesBack name (Some (lend_child name t)) (Some s) after
    → after ≡ Some (with_child name s t)
back_of name t s told after count what h back = by (child_of name t) refl h
  where
    by : (c : Option Shape) → child_of name t ≡ c → ComesFrom c told count what → after ≡ Some (with_child name s t)
    by None e g = absurd g
    by (Some c) e g = takes_back_other name t c s after e back

-- a whole node is whole again once what it lent came back whole
pub whole_back : (name : List ℕ) (o told given after : Option Shape) (count : ℕ) (what : Kind) → IsWhole o
    → TellsLent name o told count what → IsWhole given → is_some given ≡ is_some told
    → TakesBack name (option_map (lend_child name) o) given after → IsWhole after
whole_back name None told given after count what w h g s back = rw back tt
whole_back name (Some t) told None after count what w h g s back =
    let there = some_lent name (Some t) told count what h in cc
whole_back name (Some t) told (Some new) after count what w h g s back =
    rw (back_of name t new told after count what h back) (none_lent-with_child name new t w g)

pub some_back : (name : List ℕ) (o told given after : Option Shape) (count : ℕ) (what : Kind)
    → TellsLent name o told count what → is_some given ≡ is_some told
    → TakesBack name (option_map (lend_child name) o) given after → is_some after ≡ is_some o
some_back name None told given after count what h s back = ap is_some back
some_back name (Some t) told None after count what h s back =
    let there = some_lent name (Some t) told count what h in cc
some_back name (Some t) told (Some new) after count what h s back =
    ap is_some (back_of name t new told after count what h back)

-- a whole host can grant each of its folders
pub can_grant : (names : List (List ℕ)) (o : Option Shape) → IsWhole o → CanGrant names o
can_grant names None w = tt
can_grant names (Some t) w = is_free-none_lent names t w

-- and what it grants is whole
pub whole_granted : (names : List (List ℕ)) (o told : Option Shape) (count : ℕ) (what : Kind) → IsWhole o
    → TellsGranted names o told count what → IsWhole told
whole_granted names None told count what w h = rw h tt
whole_granted names (Some t) told count what w h =
    whole_from (directory_at names t) told count what (whole_directory names t w) h

pub some_granted : (names : List (List ℕ)) (o told : Option Shape) (count : ℕ) (what : Kind)
    → TellsGranted names o told count what → is_some told ≡ is_some o
some_granted names None told count what h = ap is_some h
some_granted names (Some t) told count what h = some_from (directory_at names t) told count what h

-- a whole host is whole again once what it granted was settled whole
pub whole_settled : (names : List (List ℕ)) (o told given after : Option Shape) (count : ℕ) (what : Kind) → IsWhole o
    → TellsGranted names o told count what → IsWhole given → is_some given ≡ is_some told
    → Settles names (option_map (put_subtree names (lent Dir)) o) given after → IsWhole after
whole_settled names None told given after count what w h g s back = rw back tt
whole_settled names (Some t) told None after count what w h g s back =
    let there = some_granted names (Some t) told count what h in cc
whole_settled names (Some t) told (Some new) after count what w h g s back =
    rw (settles_other names t new after back) (none_lent-put_subtree names new t w g)

pub some_settled : (names : List (List ℕ)) (o told given after : Option Shape) (count : ℕ) (what : Kind)
    → TellsGranted names o told count what → is_some given ≡ is_some told
    → Settles names (option_map (put_subtree names (lent Dir)) o) given after → is_some after ≡ is_some o
some_settled names None told given after count what h s back = ap is_some back
some_settled names (Some t) told None after count what h s back =
    let there = some_granted names (Some t) told count what h in cc
some_settled names (Some t) told (Some new) after count what h s back =
    ap is_some (settles_other names t new after back)
