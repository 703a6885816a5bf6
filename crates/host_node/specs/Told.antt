-- What an object of a host tells of the files it holds, by cases on whether it tells them: an object in
-- memory tells a tree, and one that stands for files of a machine tells nothing, `None`.
use Rattle.std.specs.Prelude.{◌≡◌, ◌≢◌, ℕ, ◌-◌, min, List, ◌++◌, length, take, drop, Bool, true, false, Option, Some}
use Rattle.std.specs.Prelude.{None, Result, Ok, Err, IsTrue, ⊤, option_map, IsSomeAnd, IfSome}
use Rattle.host_node.specs.declared.kind.Kind.{Kind}
use Rattle.host_node.specs.declared.kind.Kind.TheVariants.{Dir}
use Rattle.host_node.specs.declared.kind.Attr.{Attr}
use Rattle.host_node.specs.declared.listing.Listed.{Listed}
use Rattle.host_node.specs.declared.error.HostErr.{HostErr}
use Rattle.host_node.specs.Tree.{Shape, directory, file, link, lent, kind_of, faults_of, with_faults, attr_of, file_bytes}
use Rattle.host_node.specs.Tree.{is_directory, is_lent, child_of, with_child, lend_child, listing_of}
use Rattle.host_node.specs.Routes.{subtree, put_subtree, directory_at, is_way_free}

-- how a node stands to its file
-- open(2), O_RDONLY and O_RDWR
pub data Opened : Type 0 where
  Closed : Opened
  Reading : Opened
  Writing : Opened

-- a node that was opened so
-- open(2), O_RDONLY and O_RDWR
abbrev pub told_opened : Bool → Opened
told_opened false = Reading
told_opened true = Writing

-- how a node stands to its file after an open with this answer
-- open(2)
abbrev pub told_after_open : {A : Type 0} → Result A HostErr → Bool → Opened → Opened
told_after_open (Ok _) write before = told_opened write
told_after_open (Err _) write before = before

-- what a node tells is a node with this count of failed calls, and of this kind
-- profile
abbrev pub TellsItself : Option Shape → ℕ → Kind → Type 0
TellsItself None count kind = ⊤
TellsItself (Some t) count kind = (faults_of t ≡ count) × (kind_of t ≡ kind)

-- what a node tells after a call that left its files alone, with the count that it has then
-- profile
abbrev pub kept : ℕ → Option Shape → Option Shape
kept count None = None
kept count (Some t) = Some (with_faults count t)

-- the attributes are those of what is told
-- stat(2)
abbrev pub TellsAttr : Option Shape → Attr → Type 0
TellsAttr None attr = ⊤
TellsAttr (Some t) attr = attr ≡ attr_of t

-- what is told is a directory
-- readdir(3), ENOTDIR
abbrev pub CanList : Option Shape → Type 0
CanList None = ⊤
CanList (Some t) = IsTrue (is_directory t)

-- the entries are those of what is told
-- readdir(3)
abbrev pub TellsListing : Option Shape → List Listed → Type 0
TellsListing None listed = ⊤
TellsListing (Some t) listed = listed ≡ listing_of t

-- what is told is a directory, and what it has under the name, if anything, isn't lent already
-- profile
abbrev pub CanLend : List ℕ → Option Shape → Type 0
CanLend name None = ⊤
CanLend name (Some t) = IsTrue (is_directory t) × IfSome (child_of name t) (λ s. is_lent s ≡ false)

-- what is told has nothing under the name
-- path_resolution(7)
abbrev pub LacksChild : List ℕ → Option Shape → Type 0
LacksChild name None = ⊤
LacksChild name (Some t) = child_of name t ≡ None

-- a node came from here: it tells what was told here, with the count and the kind that this has
-- profile
abbrev pub ComesFrom : Option Shape → (told : Option Shape) (count : ℕ) (what : Kind) → Type 0
ComesFrom None told count what = ⊥
ComesFrom (Some s) told count what = (told ≡ Some s) × (count ≡ faults_of s) × (what ≡ kind_of s)

-- a node that was lent tells what stood under the name; where nothing was told, it tells nothing
-- profile
abbrev pub TellsLent : List ℕ → Option Shape → (told : Option Shape) (count : ℕ) (what : Kind) → Type 0
TellsLent name None told count what = told ≡ None
TellsLent name (Some t) told count what = ComesFrom (child_of name t) told count what

-- what a directory tells after it was asked to lend what stands under a name, with the count that it has
-- then: where it lent it, its child stands as lent
-- profile
abbrev pub after_lend : {N : Type 0} → Result (Option N) HostErr → List ℕ → ℕ → Option Shape → Option Shape
after_lend (Ok None) name count told = kept count told
after_lend (Ok (Some _)) name count told = option_map (lend_child name) told
after_lend (Err _) name count told = kept count told

-- what is told is a file, or a directory that is not to be written
-- open(2), EISDIR
abbrev pub CanOpen : Bool → Option Shape → Type 0
CanOpen write None = ⊤
CanOpen write (Some (directory mode faults entries)) = write ≡ false
CanOpen write (Some (file bytes mode faults)) = ⊤
CanOpen write (Some (link text faults)) = ⊥
CanOpen write (Some (lent kind)) = ⊥

-- what is told is a file, and it is open
-- read(2), EBADF
abbrev pub CanRead : Option Shape → Opened → Type 0
CanRead None opened = ⊤
CanRead (Some (directory mode faults entries)) opened = ⊥
CanRead (Some (file bytes mode faults)) opened = opened ≢ Closed
CanRead (Some (link text faults)) opened = ⊥
CanRead (Some (lent kind)) opened = ⊥

-- a read of `count` bytes from an offset got all that is there, up to the buffer's length
-- pread(2); that no read is short: profile
abbrev pub ReadsAt : ℕ → Option Shape → (count : ℕ) (before after : List ℕ) → Type 0
ReadsAt offset None count before after = ⊤
ReadsAt offset (Some t) count before after =
    (count ≡ min (length before) (length (file_bytes t) - offset))
    × (after ≡ take count (drop offset (file_bytes t)) ++ drop count before)

-- what is told has the name as that of a node that stands with a borrower
-- profile
abbrev pub CanTakeBack : List ℕ → Option Shape → Type 0
CanTakeBack name None = ⊤
CanTakeBack name (Some t) = IsSomeAnd (child_of name t) (λ s. is_lent s ≡ true)

-- what a directory tells after a node came back to it: the node under its name
-- profile
abbrev pub TakesBack : List ℕ → (told given after : Option Shape) → Type 0
TakesBack name None given after = after ≡ None
TakesBack name (Some t) None after = ⊤
TakesBack name (Some t) (Some s) after = after ≡ Some (with_child name s t)

-- what is told has no node with a borrower on the way to a folder, in its place, or below it
-- profile
abbrev pub CanGrant : List (List ℕ) → Option Shape → Type 0
CanGrant names None = ⊤
CanGrant names (Some t) = IsTrue (is_way_free names t)

-- what is told has no directory where the names lead
-- path_resolution(7), ENOENT and ENOTDIR
abbrev pub LacksFolder : List (List ℕ) → Option Shape → Type 0
LacksFolder names None = ⊤
LacksFolder names (Some t) = directory_at names t ≡ None

-- a node that was granted tells the directory where the names lead; where nothing was told, it tells nothing
-- profile
abbrev pub TellsGranted : List (List ℕ) → Option Shape → (told : Option Shape) (count : ℕ) (what : Kind) → Type 0
TellsGranted names None told count what = told ≡ None
TellsGranted names (Some t) told count what = ComesFrom (directory_at names t) told count what

-- what a host tells after it was asked to grant a folder: where it granted it, the folder stands as lent
-- profile
abbrev pub after_grant : {N : Type 0} → Result (Option N) HostErr → List (List ℕ) → Option Shape → Option Shape
after_grant (Ok None) names told = told
after_grant (Ok (Some _)) names told = option_map (put_subtree names (lent Dir)) told
after_grant (Err _) names told = told

-- what is told has a directory with a borrower where the names lead
-- profile
abbrev pub CanSettle : List (List ℕ) → Option Shape → Type 0
CanSettle names None = ⊤
CanSettle names (Some t) = subtree names t ≡ Some (lent Dir)

-- what a host tells after a granted folder came back to it: the folder in its place
-- profile
abbrev pub Settles : List (List ℕ) → (told given after : Option Shape) → Type 0
Settles names None given after = after ≡ None
Settles names (Some t) None after = ⊤
Settles names (Some t) (Some s) after = after ≡ Some (put_subtree names s t)
