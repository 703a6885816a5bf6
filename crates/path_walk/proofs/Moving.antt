-- What a walk of one part comes to, once a question has its answer.
use Rattle.std.proofs.Common.{◌≡◌, ℕ, List, Bool, Option, None, Result, Ok, Err, sym, subst}
use Rattle.path_walk.specs.declared.error.WalkErr.{WalkErr}
use Rattle.path_walk.specs.declared.error.WalkErr.TheVariants.{Errno as RefusedFor, Host, Numbers, Memory}
use Rattle.path_walk.specs.declared.moves.Move.{Move}
use Rattle.path_walk.specs.declared.node.NodeId.{NodeId}
use Rattle.path_walk.specs.Moves.{Moves}
use Rattle.path_walk.specs.Questions.{TreeAnswers}
use Rattle.path_walk.specs.Resolve.{Going, by_child, by_name}

by_answer : (going : Going) (dir : NodeId) (name : List ℕ) (slash at_end : Bool) (t : TreeAnswers)
    (result : Result Move WalkErr) →
    Moves t (λ onto next. by_child going onto dir name slash at_end (t.child dir name) next) result →
    Moves t (λ onto next. by_name going onto dir name slash at_end None next) result
by_answer going dir name slash at_end t (Ok move) moves = moves
by_answer going dir name slash at_end t (Err (RefusedFor errno)) moves = moves
by_answer going dir name slash at_end t (Err Host) moves = moves
by_answer going dir name slash at_end t (Err (Numbers ino)) moves = moves
by_answer going dir name slash at_end t (Err Memory) moves = moves

pub by_found_child : (going : Going) (dir : NodeId) (name : List ℕ) (slash at_end : Bool) (t : TreeAnswers)
    (result : Result Move WalkErr) (mount : Option ℕ) (found : Option NodeId) →
    mount ≡ None → t.child dir name ≡ found →
    Moves t (λ onto next. by_child going onto dir name slash at_end found next) result →
    Moves t (λ onto next. by_name going onto dir name slash at_end mount next) result
by_found_child going dir name slash at_end t result mount found none is moves =
    subst (λ m. Moves t (λ onto next. by_name going onto dir name slash at_end m next) result) (sym none)
    (by_answer going dir name slash at_end t result
    (subst (λ f. Moves t (λ onto next. by_child going onto dir name slash at_end f next) result) (sym is) moves))
