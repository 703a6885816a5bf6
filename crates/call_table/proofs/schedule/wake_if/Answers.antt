-- Where it is wanted, that is one more to look at, and else all is as it was.
use Rattle.std.proofs.Common.{◌≡◌, ◌≢◌, ℕ, Bool, true, false, ap, sym, refl, ◌∙◌, ◌⊎◌, inl, inr}
use Rattle.std.specs.Prelude.{◌==◌, ◌&&◌, ◌||◌, is_some}
use Rattle.std.specs.Ordering.{nat_cmp}
use Rattle.std.specs.FinMap as map
use Rattle.std.proofs.Math.Bool.{or-false}
use Rattle.std.proofs.lemmas.Bool.{eq-eqb, ne_eqb}
use Rattle.sn_base.proofs.Maps.{get-insert_same, get-insert_other}
use Rattle.kernel_model.proofs.NamedMaps.{same_or_other}
use Rattle.call_table.proofs.schedule.wake_if.Goals as goal

or_true : (b : Bool) → (b || true) ≡ true
or_true true = refl
or_true false = refl

module _ {V : Type 0} (task : ℕ) (before after : map.FinMap nat_cmp V) (mark : V)
    (added : after ≡ map.insert before task mark) (other : ℕ) where
  one_more : map.contains_key after other ≡ (map.contains_key before other || (other == task))
  one_more = by (same_or_other task other)
    where
      by : (task ≡ other) ⊎ (task ≢ other)
          → map.contains_key after other ≡ (map.contains_key before other || (other == task))
      by (inl same) =
          ap (λ m. map.contains_key m other) added ∙ ap (map.contains_key (map.insert before task mark)) (sym same)
          ∙ ap is_some (get-insert_same before task mark)
          ∙ sym (ap (λ b. map.contains_key before other || b) (eq-eqb other task (sym same))
          ∙ or_true (map.contains_key before other))
      by (inr apart) =
          ap (λ m. map.contains_key m other) added ∙ ap is_some (get-insert_other before task other mark apart)
          ∙ sym (ap (λ b. map.contains_key before other || b) (ne_eqb other task (λ same. apart (sym same)))
          ∙ or-false (map.contains_key before other))

pub returns-in_ok-wake-clause-awake : goal.returns-in_ok-wake-clause-awake
returns-in_ok-wake-clause-awake c = λ other.
    one_more c.args.task c.args.parking.now.awake c.wake.new.self.awake tt c.in_ok-wake.ensures.ok other
    ∙ ap (λ b. map.contains_key c.args.parking.now.awake other || (b && (other == c.args.task))) (sym c.if-wanted.true)

pub returns-else-wanted-clause-awake : goal.returns-else-wanted-clause-awake
returns-else-wanted-clause-awake c = λ other.
    sym (ap (λ b. map.contains_key c.args.parking.now.awake other || (b && (other == c.args.task))) c.if-wanted.false
    ∙ or-false (map.contains_key c.args.parking.now.awake other))
