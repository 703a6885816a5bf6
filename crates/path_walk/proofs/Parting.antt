-- What a walk by a part comes to, once it is known what the node is and whether it may be searched.
use Rattle.std.proofs.Common.{◌≡◌, ◌&&◌, ℕ, List, Bool, true, false, Result, Ok, Err, sym, subst}
use Rattle.path_walk.specs.declared.error.WalkErr.{WalkErr}
use Rattle.path_walk.specs.declared.moves.Move.{Move}
use Rattle.path_walk.specs.declared.node.NodeId.{NodeId}
use Rattle.path_walk.specs.declared.error.WalkErr.TheVariants.{Errno as RefusedFor, Host, Numbers, Memory}
use Rattle.path_walk.specs.Moves.{Moves, after_move}
use Rattle.path_walk.specs.Questions.{TreeAnswers, Walk, Refuses, come_to}
use Rattle.path_walk.specs.Resolve.{Going, by_part, directory_part, in_searched, is_dir, last_part, walk_part}
use Rattle.path_walk.specs.Resolve.{wants_parent}

-- a walk that comes to the same makes the same moves
as_same : (t : TreeAnswers) (result : Result Move WalkErr) (walk same : (onto next : NodeId → Walk) → Walk) →
    ((onto next : NodeId → Walk) → come_to t (walk onto next) ≡ come_to t (same onto next)) →
    Moves t same result → Moves t walk result
as_same t (Ok move) walk same is moves = λ onto next.
    subst (λ came. came ≡ come_to t (after_move onto next move)) (sym (is onto next)) (moves onto next)
as_same t (Err (RefusedFor errno)) walk same is moves = λ onto next.
    subst (λ came. came ≡ Refuses errno) (sym (is onto next)) (moves onto next)
as_same t (Err Host) walk same is moves = moves
as_same t (Err (Numbers ino)) walk same is moves = moves
as_same t (Err Memory) walk same is moves = moves

pub by_searched : (going : Going) (dir : NodeId) (part : List ℕ) (slash at_end : Bool) (t : TreeAnswers)
    (result : Result Move WalkErr) → t.searchable dir ≡ true →
    Moves t (λ onto next. by_part going onto dir part slash at_end next) result →
    Moves t (λ onto next. in_searched dir (by_part going onto dir part slash at_end next)) result
by_searched going dir part slash at_end t result may moves = as_same t result
    (λ onto next. in_searched dir (by_part going onto dir part slash at_end next))
    (λ onto next. by_part going onto dir part slash at_end next) (λ onto next. cc may) moves

pub by_last : (going : Going) (dir : NodeId) (part : List ℕ) (slash at_end : Bool) (t : TreeAnswers)
    (result : Result Move WalkErr) → (at_end && wants_parent going.want) ≡ true →
    Moves t (λ onto next. last_part dir part slash) result →
    Moves t (λ onto next. directory_part going onto dir part slash at_end next) result
by_last going dir part slash at_end t result is moves = as_same t result
    (λ onto next. directory_part going onto dir part slash at_end next)
    (λ onto next. last_part dir part slash) (λ onto next. cc is) moves

pub by_inner : (going : Going) (dir : NodeId) (part : List ℕ) (slash at_end : Bool) (t : TreeAnswers)
    (result : Result Move WalkErr) → (at_end && wants_parent going.want) ≡ false →
    Moves t (λ onto next. in_searched dir (by_part going onto dir part slash at_end next)) result →
    Moves t (λ onto next. directory_part going onto dir part slash at_end next) result
by_inner going dir part slash at_end t result is moves = as_same t result
    (λ onto next. directory_part going onto dir part slash at_end next)
    (λ onto next. in_searched dir (by_part going onto dir part slash at_end next)) (λ onto next. cc is) moves

pub by_directory : (going : Going) (here : NodeId) (part : List ℕ) (slash at_end : Bool) (t : TreeAnswers)
    (result : Result Move WalkErr) → is_dir (t.kind here) ≡ true →
    Moves t (λ onto next. directory_part going onto here part slash at_end next) result →
    Moves t (λ onto next. walk_part going onto here part slash at_end next) result
by_directory going here part slash at_end t result is moves = as_same t result
    (λ onto next. walk_part going onto here part slash at_end next)
    (λ onto next. directory_part going onto here part slash at_end next) (λ onto next. cc is) moves
