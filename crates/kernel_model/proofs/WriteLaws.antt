-- A write reads no context: it comes to the same whatever the mounts, the key of the random stream and the number of
-- entries are.
use Rattle.std.proofs.Common.{◌≡◌, ℕ, ℤ, Option, Some, None, cond, List, ◌∷◌, ◌++◌, refl, ap, sym, ◌∙◌, inl, inr}
use Rattle.kernel_model.specs.declared.caller.Caller.{Caller}
use Rattle.kernel_model.specs.declared.entry.Args.{Args}
use Rattle.kernel_model.specs.declared.entry.Entry.{Entry}
use Rattle.kernel_model.specs.declared.entry.Entry.TheVariants.{Call}
use Rattle.kernel_model.specs.declared.kernel.Kernel.{Kernel}
use Rattle.kernel_model.specs.declared.kernel.Part.{Part}
use Rattle.kernel_model.specs.declared.kernel.Part.TheVariants.{OfSleepers}
use Rattle.kernel_model.specs.declared.opening.Given.{Given}
use Rattle.kernel_model.specs.calls.Answers.{Answer}
use Rattle.kernel_model.specs.calls.Callers.{Context, context_of, caller_of}
use Rattle.kernel_model.specs.calls.Table.{call_row, row_if_known}
use Rattle.kernel_model.specs.entries.Areas.{Stands, next_row}
use Rattle.kernel_model.specs.entries.Given.{has_any, is_in_order}
use Rattle.kernel_model.specs.entries.Parts.{Parts, parts, Prog, done, outcome_in, uses, ◌>>=◌, AgreeOn, Change}
use Rattle.kernel_model.specs.entries.Steps.{by_given, by_answer, failing, stands_at, if_live, row_of}
use Rattle.kernel_model.specs.entries.Steps.{entry_row, used}
use Rattle.kernel_model.specs.entries.Waiting.{Wait, Awake, Asleep, Woken, wait_of}
use Rattle.kernel_model.specs.laws.Writes.{IsWrite}
use Rattle.kernel_model.proofs.Trees.{outcome_alike, outcome-bind, uses-bind}

module _ (c d : Context) (number : ℕ) (args : Args) (writes : IsWrite number) where
  row_alike : (caller : Caller) → call_row c caller number args ≡ call_row d caller number args
  row_alike caller = by writes
    where
      by : IsWrite number → call_row c caller number args ≡ call_row d caller number args
      by (inl is) = ap (row_if_known c caller args) is ∙ sym (ap (row_if_known d caller args) is)
      by (inr (inl is)) = ap (row_if_known c caller args) is ∙ sym (ap (row_if_known d caller args) is)
      by (inr (inr is)) = ap (row_if_known c caller args) is ∙ sym (ap (row_if_known d caller args) is)

  module _ (task : ℕ) (given : Given) (reply : ℤ) where
    abbrev entry : Entry
    entry = Call task number args given reply

    given_alike : (caller : Caller)
        → by_given c caller number args reply given ≡ by_given d caller number args reply given
    given_alike caller =
        ap (λ (row : Prog Answer). cond (is_in_order given)
        (cond (has_any given.rises) (failing caller reply given) (row >>= by_answer caller reply given)) (done None))
        (row_alike caller)

    entry_alike : (caller : Caller) (wait : Wait) → row_of c entry caller wait ≡ row_of d entry caller wait
    entry_alike caller Asleep = refl
    entry_alike caller Woken = refl
    entry_alike caller Awake =
        ap (λ (row : Prog (Option (List Change))). next_row caller
        >>= λ (x : Stands). cond (stands_at number args caller.registers x.next) row (done None)) (given_alike caller)

    uses_live : (s : Parts) (caller : Option Caller) → uses s (if_live c entry caller) ≡ uses s (if_live d entry caller)
    uses_live s None = refl
    uses_live s (Some caller) =
        ap (λ (row : Prog (Option (List Change))). OfSleepers ∷ uses s row)
        (entry_alike caller (wait_of (s OfSleepers) caller.task))

    comes_live : (s : Parts) (caller : Option Caller)
        → outcome_in s (if_live c entry caller) ≡ outcome_in s (if_live d entry caller)
    comes_live s None = refl
    comes_live s (Some caller) = ap (outcome_in s) (entry_alike caller (wait_of (s OfSleepers) caller.task))

    -- a write looks at the same parts in one context and in another,
    uses_alike : (s : Parts) → uses s (entry_row c entry) ≡ uses s (entry_row d entry)
    uses_alike s =
        uses-bind s (caller_of task) (if_live c entry)
        ∙ ap (λ (ps : List Part). uses s (caller_of task) ++ ps) (uses_live s (outcome_in s (caller_of task)))
        ∙ sym (uses-bind s (caller_of task) (if_live d entry))

    -- and comes to the same
    comes_alike : (s : Parts) → outcome_in s (entry_row c entry) ≡ outcome_in s (entry_row d entry)
    comes_alike s =
        outcome-bind s (caller_of task) (if_live c entry)
        ∙ comes_live s (outcome_in s (caller_of task))
        ∙ sym (outcome-bind s (caller_of task) (if_live d entry))

pub write_reads : (a b : Kernel) (task number : ℕ) (args : Args) (given : Given) (reply : ℤ) → IsWrite number →
    let e : Entry = Call task number args given reply in AgreeOn (used a e) (parts a) (parts b)
    → (used b e ≡ used a e)
    × (outcome_in (parts b) (entry_row (context_of b) e) ≡ outcome_in (parts a) (entry_row (context_of a) e))
write_reads a b task number args given reply writes same =
    let e : Entry = Call task number args given reply in
    let here = outcome_alike (parts a) (parts b) (entry_row (context_of a) e) same in (
      uses_alike (context_of b) (context_of a) number args writes task given reply (parts b) ∙ here.0,
      comes_alike (context_of b) (context_of a) number args writes task given reply (parts b) ∙ here.1,
    )
