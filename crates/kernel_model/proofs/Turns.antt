-- Pieces of a step in turn: each comes to what it does in the state that those before it left.
use Rattle.std.proofs.Common.{◌≡◌, List, [], ◌∷◌, ◌++◌, refl, ap, sym, ◌∙◌, inr}
use Rattle.kernel_model.specs.declared.kernel.Kernel.{Kernel}
use Rattle.kernel_model.specs.entries.InTurn.{nothing, content_after, over_changes, followed, in_turn}
use Rattle.kernel_model.specs.entries.Parts.{Parts, parts, put, changed, Change, Prog, done, look, outcome_in, ◌>>=◌}
use Rattle.kernel_model.specs.laws.InPlace.{kernel_left}
use Rattle.kernel_model.proofs.ChildLaws.{changed-append}
use Rattle.kernel_model.proofs.PartChanges.{put_same, changed_alike}
use Rattle.kernel_model.proofs.Trees.{outcome_alike, outcome-bind}

-- a state after changes
abbrev pub state_after : List Change → Parts → Parts
state_after changes s part = content_after changes part (s part)

-- a tree where changes have been made comes to what it comes to in the state after them,
pub outcome_over : {A : Type 0} (s : Parts) (changes : List Change) (tree : Prog A)
    → outcome_in s (over_changes changes tree) ≡ outcome_in (state_after changes s) tree
unfolding over_changes
outcome_over s changes (done a) = refl
outcome_over s changes (look part next) = outcome_over s changes (next (content_after changes part (s part)))

-- and so in the kernel after them
pub outcome_changed : {A : Type 0} (k : Kernel) (changes : List Change) (tree : Prog A)
    → outcome_in (parts k) (over_changes changes tree) ≡ outcome_in (parts (changed changes k)) tree
unfolding content_after
outcome_changed k changes tree =
    outcome_over (parts k) changes tree
    ∙ sym (outcome_alike (state_after changes (parts k)) (parts (changed changes k)) tree
    (λ p is. changed_alike changes (put p (parts k p) nothing) k p (inr (put_same p (parts k p) nothing)))).1

-- what two pieces come to
pub outcome_followed : (s : Parts) (first second : Prog (List Change)) → outcome_in s (followed first second)
    ≡ outcome_in s first ++ outcome_in s (over_changes (outcome_in s first) second)
outcome_followed s first second =
    outcome-bind s first (λ before. over_changes before second >>= λ after. done (before ++ after))
    ∙ outcome-bind s (over_changes (outcome_in s first) second) (λ after. done (outcome_in s first ++ after))

-- ---- the kernels that pieces leave

pub done_followed : (k : Kernel) (first second : Prog (List Change))
    → kernel_left (followed first second) k ≡ kernel_left second (kernel_left first k)
done_followed k first second =
    ap (λ changes. changed changes k)
    (outcome_followed (parts k) first second
    ∙ ap (λ after. outcome_in (parts k) first ++ after) (outcome_changed k (outcome_in (parts k) first) second))
    ∙ changed-append (outcome_in (parts k) first) _ k

pub done_in_turn : {A : Type 0} (k : Kernel) (piece : A → Prog (List Change)) (x : A) (xs : List A)
    → kernel_left (in_turn piece (x ∷ xs)) k ≡ kernel_left (in_turn piece xs) (kernel_left (piece x) k)
unfolding in_turn
done_in_turn k piece x xs = done_followed k (piece x) (in_turn piece xs)

pub done_none : {A : Type 0} (k : Kernel) (piece : A → Prog (List Change)) → kernel_left (in_turn piece []) k ≡ k
unfolding in_turn
done_none k piece = refl
