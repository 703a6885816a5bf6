-- A whole step.
use Rattle.std.proofs.Common.{◌≡◌, ◌+◌, Bool, true, false, cond, List, [], ◌∷◌, Option, Some, None, refl, ap}
use Rattle.std.proofs.Common.{sym, ◌∙◌, option_map, is_some, unwrap_or}
use Rattle.std.specs.Prelude.{Ok}
use Rattle.kernel_model.specs.declared.entry.Entry.{Entry}
use Rattle.kernel_model.specs.declared.kernel.Kernel.{Kernel}
use Rattle.kernel_model.specs.declared.kernel.Part.{Part}
use Rattle.kernel_model.specs.declared.kernel.Part.TheVariants.{OfTasks, OfTask, OfSpace, OfArea, OfTable}
use Rattle.kernel_model.specs.declared.kernel.Part.TheVariants.{OfDescription}
use Rattle.kernel_model.specs.declared.kernel.Part.TheVariants.{OfPipe, OfNode, OfSleepers, OfConsole, OfFaults}
use Rattle.kernel_model.specs.calls.Callers.{context_of}
use Rattle.kernel_model.specs.entries.Parts.{Holds, parts, outcome_in, Change, put, changed}
use Rattle.kernel_model.specs.entries.Steps.{may_enter, entry_row, stepped, step}
use Rattle.plain_steps.specs.Doing.{Does}

entries_put : (p : Part) (content : Holds p) (k : Kernel) → (put p content k).entries ≡ k.entries
entries_put OfTasks content k = refl
entries_put (OfTask n) content k = refl
entries_put (OfSpace n) content k = refl
entries_put (OfArea n) content k = refl
entries_put (OfTable n) content k = refl
entries_put (OfDescription n) content k = refl
entries_put (OfPipe n) content k = refl
entries_put (OfNode n) content k = refl
entries_put OfSleepers content k = refl
entries_put OfConsole content k = refl
entries_put OfFaults content k = refl

-- changes leave the count of entries as it is
pub entries_changed : (changes : List Change) (k : Kernel) → (changed changes k).entries ≡ k.entries
entries_changed [] k = refl
entries_changed (c ∷ cs) k = entries_changed cs (put c.0 c.1 k) ∙ entries_put c.0 c.1 k

-- an entry that may be made does what its row comes to, and another fits nothing
pub step_is : (k : Kernel) (e : Entry) → may_enter k.nodes e ≡ true
    → step k e ≡ option_map (stepped k) (outcome_in (parts k) (entry_row (context_of k) e))
unfolding step
step_is k e may = ap (λ b. cond b (option_map (stepped k) (outcome_in (parts k) (entry_row (context_of k) e))) None) may

pub step_none : (k : Kernel) (e : Entry) → may_enter k.nodes e ≡ false → step k e ≡ None
unfolding step
step_none k e not_now =
    ap (λ b. cond b (option_map (stepped k) (outcome_in (parts k) (entry_row (context_of k) e))) None) not_now

module _ (k left : Kernel) (e : Entry) (may : may_enter k.nodes e ≡ true) where
  pub step_fits : (b : Bool) → Does (outcome_in (parts k) (entry_row (context_of k) e)) k left (Ok b)
      → b ≡ is_some (step k e)
  step_fits b does =
      by (outcome_in (parts k) (entry_row (context_of k) e)) b does ∙ sym (ap is_some (step_is k e may))
    where
      by : (changes : Option (List Change)) (b : Bool) → Does changes k left (Ok b)
          → b ≡ is_some (option_map (stepped k) changes)
      by None true d = absurd (cc d)
      by None false d = refl
      by (Some cs) true d = refl
      by (Some cs) false d = absurd (cc d.0)

  -- the count of entries stays, whatever changes were done
  pub entries_by : (b : Bool) → Does (outcome_in (parts k) (entry_row (context_of k) e)) k left (Ok b)
      → left.entries ≡ k.entries
  entries_by b does = by (outcome_in (parts k) (entry_row (context_of k) e)) b does
    where
      by : (changes : Option (List Change)) (b : Bool) → Does changes k left (Ok b) → left.entries ≡ k.entries
      by None true d = absurd (cc d)
      by None false d = ap (λ (n : Kernel). n.entries) d.1
      by (Some cs) true d =
          let is : left ≡ changed cs k = cc d in ap (λ (n : Kernel). n.entries) is ∙ entries_changed cs k
      by (Some cs) false d = absurd (cc d.0)

  pub step_taken : (b : Bool) → Does (outcome_in (parts k) (entry_row (context_of k) e)) k left (Ok b) → b ≡ true
      → record left { entries = left.entries + 1 } ≡ unwrap_or (step k e) k
  step_taken b does is =
      by (outcome_in (parts k) (entry_row (context_of k) e)) b does is
      ∙ sym (ap (λ o. unwrap_or o k) (step_is k e may))
    where
      by : (changes : Option (List Change)) (b : Bool) → Does changes k left (Ok b) → b ≡ true
          → record left { entries = left.entries + 1 } ≡ unwrap_or (option_map (stepped k) changes) k
      by None true d is = absurd (cc d)
      by None false d is = absurd (cc is)
      by (Some cs) true d is =
          let same : left ≡ changed cs k = cc d in
          ap (λ (n : Kernel). record n { entries = n.entries + 1 }) same
          ∙ ap (λ n. record (changed cs k) { entries = n + 1 }) (entries_changed cs k)
      by (Some cs) false d is = absurd (cc is)

  pub step_refused : (b : Bool) → Does (outcome_in (parts k) (entry_row (context_of k) e)) k left (Ok b) → b ≡ false
      → left ≡ unwrap_or (step k e) k
  step_refused b does is =
      by (outcome_in (parts k) (entry_row (context_of k) e)) b does is
      ∙ sym (ap (λ o. unwrap_or o k) (step_is k e may))
    where
      by : (changes : Option (List Change)) (b : Bool) → Does changes k left (Ok b) → b ≡ false
          → left ≡ unwrap_or (option_map (stepped k) changes) k
      by None true d is = absurd (cc d)
      by None false d is = d.1
      by (Some cs) true d is = absurd (cc is)
      by (Some cs) false d is = absurd (cc d.0)
