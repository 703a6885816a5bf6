-- The line of a cause, as it is written.
use Rattle.std.proofs.Common.{◌≡◌, ℕ, List, ◌++◌, Option, Some, None, Result, Ok, Err, OnOk, sym, subst, ap, ◌∙◌}
use Rattle.std.proofs.Common.{append_assoc}
use Rattle.std.specs.Io.KnownBytes.{Appends}
use Rattle.sentry_run.specs.declared.outcome.Fault.{Fault}
use Rattle.sentry_run.specs.ErrorLine.{line_of}

-- what writes the text of a cause writes its line
pub line_written : {E : Type 0} (r : Result (Unit {0}) E) (old new : Option (List ℕ)) (fault cause : Fault)
    (text : List ℕ) → fault ≡ cause → text ≡ line_of cause → OnOk r (Appends old new text)
    → OnOk r (Appends old new (line_of fault))
line_written r old new fault cause text is same h =
    let here : OnOk r (Appends old new (line_of cause)) = subst (λ l. OnOk r (Appends old new l)) same h in
    subst (λ f. OnOk r (Appends old new (line_of f))) (sym is) here

-- what writes some bytes, and then others, writes both together
pub written_more : {E : Type 0} (r : Result (Unit {0}) E) (old mid new : Option (List ℕ)) (xs ys text : List ℕ)
    → Appends old mid xs → OnOk r (Appends mid new ys) → xs ++ ys ≡ text → OnOk r (Appends old new text)
written_more (Ok u) None mid new xs ys text h k same = tt
written_more (Ok u) (Some a) None new xs ys text h k same = absurd h
written_more (Ok u) (Some a) (Some b) None xs ys text h k same = k
written_more (Ok u) (Some a) (Some b) (Some c) xs ys text h k same =
    k ∙ ap (λ l. l ++ ys) h ∙ append_assoc a xs ys ∙ ap (λ l. a ++ l) same
written_more (Err e) old mid new xs ys text h k same = tt
