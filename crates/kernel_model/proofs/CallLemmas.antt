-- A call, by what it drew and met.
use Rattle.std.proofs.Common.{◌≡◌, ℕ, Bool, true, false, cond, List, [], ◌∷◌, Option, Some, None, refl, ap, ◌∙◌, ℤ}
use Rattle.std.specs.Prelude.{not, ◌&&◌, ◌++◌, if◌then◌else◌}
use Rattle.std.specs.List.{list_any}
use Rattle.std.specs.Ordering.{int_eq}
use Rattle.kernel_model.specs.declared.caller.Caller.{Caller}
use Rattle.kernel_model.specs.declared.entry.Args.{Args}
use Rattle.kernel_model.specs.declared.opening.Fresh.{Fresh}
use Rattle.kernel_model.specs.declared.opening.Given.{Given}
use Rattle.kernel_model.specs.declared.opening.Rise.{Rise}
use Rattle.kernel_model.specs.calls.Answers.{replies}
use Rattle.kernel_model.specs.calls.Callers.{Context}
use Rattle.kernel_model.specs.calls.Table.{call_row}
use Rattle.kernel_model.specs.entries.Given.{has_any, is_in_order, is_quiet, above_last}
use Rattle.kernel_model.specs.entries.Parts.{Parts, Prog, done, outcome_in, ◌>>=◌, Change}
use Rattle.kernel_model.specs.entries.Steps.{by_given, by_answer, failing, going_on}
use Rattle.kernel_model.proofs.Trees.{outcome-bind}

module _ (s : Parts) (context : Context) (c : Caller) (call : ℕ) (args : Args) (reply : ℤ) (given : Given) where
  -- a call with a rise failed,
  pub call_failing : has_any given.rises ≡ true → is_in_order given ≡ true
      → outcome_in s (by_given context c call args reply given) ≡ outcome_in s (failing c reply given)
  call_failing h o =
      ap (λ b. outcome_in s (cond b (cond (has_any given.rises) (failing c reply given)
      (call_row context c call args >>= by_answer c reply given)) (done None))) o
      ∙ ap (λ b. outcome_in s (cond b (failing c reply given)
      (call_row context c call args >>= by_answer c reply given))) h

  -- one whose record is in disorder fits nothing,
  pub call_disordered : is_in_order given ≡ false → outcome_in s (by_given context c call args reply given) ≡ None
  call_disordered o =
      ap (λ b. outcome_in s (cond b (cond (has_any given.rises) (failing c reply given)
      (call_row context c call args >>= by_answer c reply given)) (done None))) o

  -- and another is answered
  pub call_answered : has_any given.rises ≡ false → is_in_order given ≡ true
      → outcome_in s (by_given context c call args reply given)
      ≡ outcome_in s (by_answer c reply given (outcome_in s (call_row context c call args)))
  call_answered h o =
      ap (λ b. outcome_in s (cond b (cond (has_any given.rises) (failing c reply given)
      (call_row context c call args >>= by_answer c reply given)) (done None))) o
      ∙ ap (λ b. outcome_in s (cond b (failing c reply given)
      (call_row context c call args >>= by_answer c reply given))) h
      ∙ outcome-bind s (call_row context c call args) (by_answer c reply given)

-- a number alone, of a call that names no child, fits nothing
drawing_by : (s : Parts) (c : Caller) (reply value : ℤ) (f : Fresh) (fresh : List Fresh) (rises : List Rise)
    (changes : List Change)
    → outcome_in s (by_answer c reply (record { fresh = f ∷ fresh; rises = rises }) (replies value changes)) ≡ None
drawing_by s c reply value f fresh rises changes = by (list_any above_last (f ∷ fresh))
  where
    by : (b : Bool) → outcome_in s (cond {A = Prog (Option (List Change))} b (done None) (done None)) ≡ None
    by true = refl
    by false = refl

module _ (s : Parts) (context : Context) (c : Caller) (call : ℕ) (args : Args) (reply value : ℤ)
    (changes : List Change) where
  drawing_of : (given : Given) → has_any given.fresh ≡ true
      → outcome_in s (by_answer c reply given (replies value changes)) ≡ None
  drawing_of given f = by given.fresh f
    where
      by : (fresh : List Fresh) → has_any fresh ≡ true
          → outcome_in s (by_answer c reply (record { fresh = fresh; rises = given.rises }) (replies value changes))
          ≡ None
      by [] h = cc
      by (first ∷ fresh) h = drawing_by s c reply value first fresh given.rises changes

  -- so a call that names no child fits with no fresh number,
  pub call_drawing : (given : Given) → outcome_in s (call_row context c call args) ≡ replies value changes
      → has_any given.rises ≡ false → has_any given.fresh ≡ true
      → outcome_in s (by_given context c call args reply given) ≡ None
  call_drawing given row h f = by (is_in_order given) refl
    where
      by : (b : Bool) → is_in_order given ≡ b → outcome_in s (by_given context c call args reply given) ≡ None
      by true o =
          call_answered s context c call args reply given h o
          ∙ ap (λ answer. outcome_in s (by_answer c reply given answer)) row ∙ drawing_of given f
      by false o = call_disordered s context c call args reply given o

  quiet_by : (fresh : List Fresh) (rises : List Rise) → has_any fresh ≡ false → has_any rises ≡ false
      → outcome_in s (call_row context c call args) ≡ replies value changes
      → outcome_in s (by_given context c call args reply (record { fresh = fresh; rises = rises }))
      ≡ (if int_eq reply value then Some (changes ++ going_on c value) else None)
  quiet_by [] [] f r row =
      outcome-bind s (call_row context c call args) (by_answer c reply (record { fresh = []; rises = [] }))
      ∙ ap (λ answer. outcome_in s (by_answer c reply (record { fresh = []; rises = [] }) answer)) row
  quiet_by (first ∷ fresh) rises f r row = absurd (cc f)
  quiet_by [] (rise ∷ rises) f r row = absurd (cc r)

  -- and one that drew nothing and met nothing is what its row says
  pub call_quiet : (given : Given) → outcome_in s (call_row context c call args) ≡ replies value changes
      → is_quiet given ≡ true
      → outcome_in s (by_given context c call args reply given)
      ≡ (if int_eq reply value then Some (changes ++ going_on c value) else None)
  call_quiet given row h = by (has_any given.rises) (has_any given.fresh) refl refl h
    where
      by : (r f : Bool) → has_any given.rises ≡ r → has_any given.fresh ≡ f → (not r && not f) ≡ true
          → outcome_in s (by_given context c call args reply given)
          ≡ (if int_eq reply value then Some (changes ++ going_on c value) else None)
      by false false r f e = quiet_by given.fresh given.rises f r row
      by false true r f e = absurd (cc e)
      by true f r g e = absurd (cc e)
