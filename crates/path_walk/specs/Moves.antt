-- What a walk does by one part, in words of the code's own: it goes to a node, onto a link, or has found what it wants.
use Rattle.std.specs.Prelude.{◌≡◌, ◌<◌, ⊤, ℕ, List, Bool, true, false, Some, Result, Ok, Err}
use Rattle.mount_tree.specs.Mounts.{Places}
use Rattle.path_walk.specs.declared.error.WalkErr.{WalkErr}
use Rattle.path_walk.specs.declared.error.WalkErr.TheVariants.{Errno as RefusedFor, Host, Numbers, Memory}
use Rattle.path_walk.specs.declared.moves.Move.{Move}
use Rattle.path_walk.specs.declared.moves.Move.TheVariants.{To, Onto, At}
use Rattle.path_walk.specs.declared.node.NodeId.{NodeId}
use Rattle.path_walk.specs.declared.node.Want.{Want}
use Rattle.path_walk.specs.Parts.{part_error}
use Rattle.path_walk.specs.Questions.{TreeAnswers, Walk, Finds, Refuses, Ends, come_to}
use Rattle.path_walk.specs.Resolve.{Going}

abbrev pub going_by : Places → Want → Bool → Going
going_by places want follow = record { places = places; want = want; follow = follow }

-- a walk after a move, by what it does from a node and onto a link
-- path_resolution(7), step 2
abbrev pub after_move : (onto next : NodeId → Walk) → Move → Walk
after_move onto next (To node) = next node
after_move onto next (Onto link) = onto link
after_move onto next (At found) = Ends (Finds found)

-- a walk comes to what is refused for, where that is an errno
-- errno(3)
abbrev pub ComesToErr : TreeAnswers → Walk → WalkErr → Type 0
ComesToErr t walk (RefusedFor errno) = come_to t walk ≡ Refuses errno
ComesToErr t walk Host = ⊤
ComesToErr t walk (Numbers ino) = ⊤
ComesToErr t walk Memory = ⊤

-- a walk of one part is the move, whatever comes behind it
-- path_resolution(7), step 2
abbrev pub Moves : TreeAnswers → ((onto next : NodeId → Walk) → Walk) → Result Move WalkErr → Type 0
Moves t walk (Ok move) =
    (onto next : NodeId → Walk) → come_to t (walk onto next) ≡ come_to t (after_move onto next move)
Moves t walk (Err err) = (onto next : NodeId → Walk) → ComesToErr t (walk onto next) err

-- the host failed in a walk
-- profile
abbrev pub walk_met_host : {A : Type 0} → Result A WalkErr → Bool
walk_met_host (Ok a) = false
walk_met_host (Err (RefusedFor errno)) = false
walk_met_host (Err Host) = true
walk_met_host (Err (Numbers ino)) = false
walk_met_host (Err Memory) = false

-- a number that is told as drawn is above the last that a node may have
-- profile
abbrev pub HasDrawnLate : WalkErr → Type 0
HasDrawnLate (RefusedFor errno) = ⊤
HasDrawnLate Host = ⊤
HasDrawnLate (Numbers ino) = 65536 < ino
HasDrawnLate Memory = ⊤

-- why a part gave no name: its error, or want of memory
-- path_resolution(7), ENAMETOOLONG; malloc(3), ENOMEM
abbrev pub IsPartError : List ℕ → WalkErr → Type 0
IsPartError part (RefusedFor errno) = part_error part ≡ Some errno
IsPartError part Host = ⊥
IsPartError part (Numbers ino) = ⊥
IsPartError part Memory = ⊤
