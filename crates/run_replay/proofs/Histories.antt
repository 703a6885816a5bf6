-- How a trace goes on by one entry.
use Rattle.std.proofs.Common.{◌≡◌, ℕ, ◌+◌, ◌<◌, true, false, List, [], ◌∷◌, ◌++◌, take, length, get_or, refl, ap, sym}
use Rattle.std.proofs.Common.{◌∙◌}
use Rattle.std.specs.Prelude.{Bool, Option, Some, None, is_some, unwrap_or, option_and_then, option_map, if◌then◌else◌}
use Rattle.std.proofs.lemmas.List.{take_more}
use Rattle.call_table.proofs.Histories.{replay-last}
use Rattle.kernel_model.specs.declared.entry.Entry.{Entry}
use Rattle.kernel_model.specs.declared.kernel.Kernel.{Kernel}
use Rattle.kernel_model.specs.entries.History.{replay}
use Rattle.kernel_model.specs.entries.Parts.{Change, outcome_in, parts}
use Rattle.kernel_model.specs.calls.Callers.{context_of}
use Rattle.kernel_model.specs.entries.Steps.{entry_row, may_enter, step, stepped}

-- the entries of a trace, and one more, lead where the step of that one leads
pub replay_next : (k next : Kernel) (trace : List Entry) (i : ℕ) (e : Entry) → i < length trace → e ≡ get_or trace i e
    → replay k (take i trace) ≡ Some next → replay k (take (i + 1) trace) ≡ step next e
replay_next k next trace i e h is r =
    ap (replay k) (take_more trace i e h ∙ ap (λ x. take i trace ++ x ∷ []) (sym is))
    ∙ replay-last k (take i trace) e ∙ ap (option_and_then (λ (x : Kernel). step x e)) r

-- an entry that is a step, and what it leaves
pub step_is : (k next : Kernel) (o : Option Kernel) → is_some o ≡ true → next ≡ unwrap_or o k → o ≡ Some next
step_is k next None some is = cc
step_is k next (Some x) some is = ap Some (sym is)

-- one that is none
pub step_is-none : (o : Option Kernel) → is_some o ≡ false → o ≡ None
step_is-none None none = refl
step_is-none (Some x) none = cc

-- a kernel after an entry has made one more
pub one_more : (k next : Kernel) (e : Entry) → step k e ≡ Some next → next.entries ≡ k.entries + 1
unfolding step
one_more k next e h =
    by (may_enter k.nodes e) (outcome_in (parts k) (entry_row (context_of k) e)) h
  where
    by : (b : Bool) (changes : Option (List Change)) → (if b then option_map (stepped k) changes else None) ≡ Some next
        → next.entries ≡ k.entries + 1
    by false changes h = cc
    by true None h = cc
    by true (Some cs) h =
        let same : stepped k cs ≡ next = cc in sym (ap (λ (x : Kernel). x.entries) same)
