-- A history goes on by one entry at its end.
use Rattle.std.proofs.Common.{◌≡◌, ℕ, Bool, true, false, List, [], ◌∷◌, ◌++◌, refl, ap, sym, subst, ◌∙◌}
use Rattle.std.specs.Prelude.{Option, Some, None, ◌&&◌, option_and_then}
use Rattle.kernel_model.specs.declared.entry.Entry.{Entry}
use Rattle.kernel_model.specs.declared.kernel.Kernel.{Kernel}
use Rattle.kernel_model.specs.entries.Steps.{step, task_of}
use Rattle.kernel_model.specs.entries.History.{replay, each_whole, whole_then, is_whole}
use Rattle.kernel_model.specs.entries.Ready.{ready_numbers}
use Rattle.call_table.specs.Turns.{AreInTurn, last_turn, next_task_of, turns_then}

first_part : (a b : Bool) → (a && b) ≡ true → a ≡ true
first_part true b h = refl
first_part false b h = cc

second_part : (a b : Bool) → (a && b) ≡ true → b ≡ true
second_part true b h = h
second_part false b h = cc

pub replay-last : (k : Kernel) (es : List Entry) (e : Entry)
    → replay k (es ++ e ∷ []) ≡ option_and_then (λ (next : Kernel). step next e) (replay k es)
replay-last k [] e = after (step k e)
  where
    after : (o : Option Kernel) → option_and_then (λ (next : Kernel). replay next []) o ≡ o
    after None = refl
    after (Some next) = refl
replay-last k (x ∷ es) e = go (step k x) (λ next. replay-last next es e)
  where
    go : (o : Option Kernel)
        → ((next : Kernel) → replay next (es ++ e ∷ []) ≡ option_and_then (λ (y : Kernel). step y e) (replay next es))
        → option_and_then (λ (next : Kernel). replay next (es ++ e ∷ [])) o
        ≡ option_and_then (λ (next : Kernel). step next e) (option_and_then (λ (next : Kernel). replay next es) o)
    go None f = refl
    go (Some next) f = f next

pub replay_more : (k next last : Kernel) (es : List Entry) (e : Entry) → replay k es ≡ Some next
    → step next e ≡ Some last → replay k (es ++ e ∷ []) ≡ Some last
replay_more k next last es e r s = replay-last k es e ∙ ap (option_and_then (λ (x : Kernel). step x e)) r ∙ s

both : {a b : Bool} → a ≡ true → b ≡ true → (a && b) ≡ true
both {a} {b} p q = ap (λ x. x && b) p ∙ q

pub whole_more : (k next last : Kernel) (es : List Entry) (e : Entry) → replay k es ≡ Some next → each_whole k es ≡ true
    → step next e ≡ Some last → is_whole e next last ≡ true → each_whole k (es ++ e ∷ []) ≡ true
whole_more k next last [] e r w s h =
    let same : k ≡ next = cc in
    ap (λ (x : Kernel). whole_then e x (step x e) (λ after. true)) same
    ∙ ap (λ o. whole_then e next o (λ after. true)) s ∙ both h refl
whole_more k next last (x ∷ es) e r w s h = go (step k x) r w (λ y p q. whole_more y next last es e p q s h)
  where
    go : (o : Option Kernel) → option_and_then (λ (y : Kernel). replay y es) o ≡ Some next
        → whole_then x k o (λ after. each_whole after es) ≡ true
        → ((y : Kernel) → replay y es ≡ Some next → each_whole y es ≡ true → each_whole y (es ++ e ∷ []) ≡ true)
        → whole_then x k o (λ after. each_whole after (es ++ e ∷ [])) ≡ true
    go None p q f = cc
    go (Some y) p q f =
        both (first_part (is_whole x k y) (each_whole y es) q)
        (f y p (second_part (is_whole x k y) (each_whole y es) q))

-- one more, of the task whose turn is next
pub turns_more : (last : ℕ) (k next after : Kernel) (es : List Entry) (e : Entry) → AreInTurn last k es
    → replay k es ≡ Some next → step next e ≡ Some after
    → next_task_of (last_turn last es) (ready_numbers next) ≡ Some (task_of e) → AreInTurn last k (es ++ e ∷ [])
turns_more last k next after [] e turns r s turn =
    let same : k ≡ next = cc r in (
      ap (λ (x : Kernel). next_task_of last (ready_numbers x)) same ∙ turn,
      subst (λ (o : Option Kernel). turns_then o (λ (x : Kernel). AreInTurn (task_of e) x []))
          (sym (ap (λ (x : Kernel). step x e) same ∙ s)) tt,
    )
turns_more last k next after (x ∷ es) e turns r s turn =
    (turns.0, go (step k x) turns.1 r (λ y t p. turns_more (task_of x) y next after es e t p s turn))
  where
    go : (o : Option Kernel) → turns_then o (λ (y : Kernel). AreInTurn (task_of x) y es)
        → option_and_then (λ (y : Kernel). replay y es) o ≡ Some next
        → ((y : Kernel) → AreInTurn (task_of x) y es → replay y es ≡ Some next
        → AreInTurn (task_of x) y (es ++ e ∷ []))
        → turns_then o (λ (y : Kernel). AreInTurn (task_of x) y (es ++ e ∷ []))
    go None t p f = t
    go (Some y) t p f = f y t p

-- whose task is that of the last turn then
pub last_more : (last : ℕ) (es : List Entry) (e : Entry) → last_turn last (es ++ e ∷ []) ≡ task_of e
last_more last [] e = refl
last_more last (x ∷ es) e = last_more (task_of x) es e
