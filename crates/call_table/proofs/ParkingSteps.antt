-- Tasks that are looked at and parked, where one of them is looked at, rests or is parked.
use Rattle.std.proofs.Common.{◌≡◌, ◌≢◌, ℕ, Bool, true, false, refl, ap, sym, subst, ◌∙◌, ◌⊎◌, inl, inr}
use Rattle.std.specs.Prelude.{Option, Some, None, is_some, ◌||◌}
use Rattle.std.specs.Ordering.{nat_cmp}
use Rattle.std.specs.FinMap as map
use Rattle.sn_base.proofs.Maps.{get-insert_same, get-insert_other, get-remove_same, get-remove_other}
use Rattle.task_table.specs.Table.{TaskTable, is_live}
use Rattle.kernel_model.specs.entries.Waiting.{Woken, wait_of}
use Rattle.kernel_model.proofs.NamedMaps.{same_or_other}
use Rattle.proc_cells.specs.declared.cells.Cells.{Cells}
use Rattle.proc_cells.specs.Cells.{AreKept, IsAwake}
use Rattle.parked_tasks.specs.Parking.{AreParkedAlike, IsParkedAt, parked_at}
use Rattle.parked_tasks.specs.declared.used.Spot.{Spot}
use Rattle.parked_tasks.specs.declared.parking.Parking.{Parking}
use Rattle.call_table.specs.Parks.{Parks}
use Rattle.call_table.specs.Schedules.{AreParked, AreParkedBut, is_watched}
use Rattle.call_table.proofs.Parks.{parks_still}

-- ---- where nothing of the cells has changed

pub parked_still : (p q : Cells) (parking : Parking) → AreKept p q → AreParked p parking → AreParked q parking
parked_still p q parking kept parked = record {
  awake = λ task among. ap (λ w. wait_of w task) kept.sleepers ∙ parked.awake task among;
  apart = parked.apart;
  parked = λ task spot is. parks_still p q task spot kept (parked.parked task spot is);
  covers = λ task live awake.
      parked.covers task (ap (λ (t : TaskTable). is_live t.tasks task) (sym kept.tasks) ∙ live)
      (ap (λ w. wait_of w task) (sym kept.sleepers) ∙ awake);
}

-- ---- a map with one key less, or more

module _ {V : Type 0} (m : map.FinMap nat_cmp V) (one : ℕ) where
  left_among : (task : ℕ) → map.contains_key (map.remove m one) task ≡ true
      → (one ≢ task) × (map.contains_key m task ≡ true)
  left_among task e = by (same_or_other one task)
    where
      by : (one ≡ task) ⊎ (one ≢ task) → (one ≢ task) × (map.contains_key m task ≡ true)
      by (inl same) =
          absurd (cc (ap is_some (get-remove_same m one), ap (map.contains_key (map.remove m one)) same ∙ e))
      by (inr apart) = (apart, ap is_some (sym (get-remove_other m one task apart)) ∙ e)

  left_other : (task : ℕ) → one ≢ task → map.contains_key (map.remove m one) task ≡ map.contains_key m task
  left_other task apart = ap is_some (get-remove_other m one task apart)

  more_other : (task : ℕ) (mark : V) → one ≢ task
      → map.contains_key (map.insert m one mark) task ≡ map.contains_key m task
  more_other task mark apart = ap is_some (get-insert_other m one task mark apart)

  more_itself : (mark : V) → map.contains_key (map.insert m one mark) one ≡ true
  more_itself mark = ap is_some (get-insert_same m one mark)

-- ---- one task is looked at, rests, or is parked

module _ (cells : Cells) (p q : Parking) (parked : AreParked cells p) (one : ℕ) where
  -- one that doesn't live rests
  pub parked_rest : is_live cells.tasks.tasks one ≡ false → q.awake ≡ map.remove p.awake one
      → AreParkedAlike p q → AreParked cells q
  parked_rest dead awake alike = record {
    awake = λ task among.
        parked.awake task (left_among p.awake one task (ap (λ m. map.contains_key m task) (sym awake) ∙ among)).1;
    apart = λ task among.
        alike task
        ∙ parked.apart task (left_among p.awake one task (ap (λ m. map.contains_key m task) (sym awake) ∙ among)).1;
    parked = λ task spot is. parked.parked task spot (sym (alike task) ∙ is);
    covers = λ task live off.
        ap (λ b. b || is_some (parked_at q task))
        (ap (λ m. map.contains_key m task) awake
        ∙ left_other p.awake one task (λ e. cc (dead, ap (is_live cells.tasks.tasks) e ∙ live)))
        ∙ ap (λ o. map.contains_key p.awake task || is_some o) (alike task)
        ∙ parked.covers task live off;
  }

  -- one that waits is parked
  pub parked_more : (spot : Spot) → Parks cells one spot → q.awake ≡ map.remove p.awake one
      → IsParkedAt one spot p q → AreParked cells q
  parked_more spot parks awake more = record {
    awake = λ task among. parked.awake task (was task among).1;
    apart = λ task among. more.others task (was task among).0 ∙ parked.apart task (was task among).1;
    parked = λ task s is. which task s is (same_or_other one task);
    covers = λ task live off. covered task live off (same_or_other one task);
  }
    where
      was : (task : ℕ) → map.contains_key q.awake task ≡ true → (one ≢ task) × (map.contains_key p.awake task ≡ true)
      was task among = left_among p.awake one task (ap (λ m. map.contains_key m task) (sym awake) ∙ among)

      which : (task : ℕ) (s : Spot) → parked_at q task ≡ Some s → (one ≡ task) ⊎ (one ≢ task) → Parks cells task s
      which task s is (inl same) =
          let e : Some spot ≡ Some s = sym more.itself ∙ ap (parked_at q) same ∙ is in
          let named : spot ≡ s = cc e in
          subst (λ t. Parks cells t s) same (subst (λ (x : Spot). Parks cells one x) named parks)
      which task s is (inr apart) = parked.parked task s (sym (more.others task apart) ∙ is)

      covered : (task : ℕ) → is_live cells.tasks.tasks task ≡ true → IsAwake cells task
          → (one ≡ task) ⊎ (one ≢ task) → is_watched q task ≡ true
      covered task live off (inl same) = by (map.contains_key q.awake task)
        where
          there : is_some (parked_at q task) ≡ true
          there = ap (λ t. is_some (parked_at q t)) (sym same) ∙ ap is_some more.itself

          by : (b : Bool) → (b || is_some (parked_at q task)) ≡ true
          by true = refl
          by false = there
      covered task live off (inr apart) =
          ap (λ b. b || is_some (parked_at q task))
          (ap (λ m. map.contains_key m task) awake ∙ left_other p.awake one task apart)
          ∙ ap (λ o. map.contains_key p.awake task || is_some o) (more.others task apart)
          ∙ parked.covers task live off

  -- one that is looked at may go on
  pub parked_but : map.contains_key p.awake one ≡ true → AreParkedBut one cells p
  parked_but looked_at = record {
    looked_at = looked_at;
    awake = λ task apart among. parked.awake task among;
    apart = parked.apart;
    parked = parked.parked;
    covers = λ task apart live off. parked.covers task live off;
  }

  -- and one that was woken, where it is looked at
  module _ (woken : wait_of cells.sleepers one ≡ Woken) where
    not_parked : parked_at p one ≡ None
    not_parked = by (parked_at p one) refl
      where
        by : (o : Option Spot) → parked_at p one ≡ o → parked_at p one ≡ None
        by None is = is
        by (Some spot) is = absurd (cc (woken, (parked.parked one spot is).awake))

    pub parked_woken : q.awake ≡ map.insert p.awake one tt → AreParkedAlike p q → AreParkedBut one cells q
    parked_woken awake alike = record {
      looked_at = ap (λ m. map.contains_key m one) awake ∙ more_itself p.awake one tt;
      awake = λ task apart among. parked.awake task (was task apart among);
      apart = λ task among. alike task ∙ gone task among (same_or_other one task);
      parked = λ task spot is. parked.parked task spot (sym (alike task) ∙ is);
      covers = λ task apart live off.
          ap (λ b. b || is_some (parked_at q task))
          (ap (λ m. map.contains_key m task) awake ∙ more_other p.awake one task tt apart)
          ∙ ap (λ o. map.contains_key p.awake task || is_some o) (alike task)
          ∙ parked.covers task live off;
    }
      where
        was : (task : ℕ) → one ≢ task → map.contains_key q.awake task ≡ true → map.contains_key p.awake task ≡ true
        was task apart among =
            sym (more_other p.awake one task tt apart) ∙ ap (λ m. map.contains_key m task) (sym awake) ∙ among

        gone : (task : ℕ) → map.contains_key q.awake task ≡ true → (one ≡ task) ⊎ (one ≢ task)
            → parked_at p task ≡ None
        gone task among (inl here) = ap (parked_at p) (sym here) ∙ not_parked
        gone task among (inr apart) = parked.apart task (was task apart among)
