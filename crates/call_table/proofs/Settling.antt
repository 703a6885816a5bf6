-- After an entry, tasks are looked at and parked as they are to be.
use Rattle.std.proofs.Common.{◌≡◌, ◌≢◌, ℕ, ◌<◌, Bool, true, false, refl, ap, sym, ◌∙◌, ◌⊎◌, inl, inr, arith}
use Rattle.std.specs.Prelude.{Option, Some, None, is_some, nat_lt, ◌==◌, ◌&&◌, ◌||◌, if◌then◌else◌}
use Rattle.std.specs.FinMap as map
use Rattle.std.proofs.lemmas.Bool.{and_parts, eqb-true, eq-eqb, lt-ltb, ltb-true, or_parts}
use Rattle.sn_base.proofs.Maps.{get-remove_same, get-remove_other}
use Rattle.sn_base.specs.declared.made.Made.{Made}
use Rattle.task_table.specs.Table.{TaskTable, is_live}
use Rattle.kernel_model.specs.entries.Waiting.{wait_of}
use Rattle.kernel_model.proofs.NamedMaps.{same_or_other}
use Rattle.proc_cells.specs.declared.cells.Cells.{Cells}
use Rattle.proc_cells.specs.Cells.{IsAwake}
use Rattle.parked_tasks.specs.Parking.{AreParkedAlike, AreWoken, parked_at}
use Rattle.parked_tasks.specs.Touched.{is_touched}
use Rattle.parked_tasks.specs.Used.{same_made, uses_areas}
use Rattle.parked_tasks.specs.declared.used.Spot.{Spot}
use Rattle.parked_tasks.specs.declared.parking.Parking.{Parking}
use Rattle.call_table.specs.Moves.{LeavesRest, is_woken_by, puts_to_sleep}
use Rattle.call_table.specs.Parks.{Parks}
use Rattle.call_table.specs.Schedules.{AreParked, AreParkedBut, is_last_made, is_watched, is_off}
use Rattle.call_table.specs.declared.entered.Entered.{Entered}
use Rattle.call_table.proofs.Parkings.{awake_off, off_awake}
use Rattle.call_table.proofs.Parks.{parks_on}

-- ---- truth values

either : (a b : Bool) → (a || b) ≡ true → (a ≡ true) ⊎ (b ≡ true)
either true b e = inl refl
either false b e = inr e

first_of : (a b : Bool) → a ≡ true → (a || b) ≡ true
first_of a b e = ap (λ x. x || b) e

second_of : (a b : Bool) → b ≡ true → (a || b) ≡ true
second_of true b e = refl
second_of false b e = e

-- ---- a task that is parked or not

there_of : (o : Option Spot) → is_some o ≡ true → (spot : Spot) × (o ≡ Some spot)
there_of None e = absurd (cc e)
there_of (Some spot) e = (spot, refl)

-- one that was passed over
left_of : (b : Bool) (o : Option Spot) (spot : Spot) → (if b then None else o) ≡ Some spot
    → (b ≡ false) × (o ≡ Some spot)
left_of true o spot e = absurd (cc e)
left_of false o spot e = (refl, e)

stays_none : (b : Bool) (o : Option Spot) → o ≡ None → (if b then None else o) ≡ None
stays_none true o e = refl
stays_none false o e = e

-- ---- an entry of a task with a memory

module _ (task : ℕ) (memory : Made) (made : Entered) (before after : Cells)
    (moves : LeavesRest task memory made before after) (p q : Parking) (but : AreParkedBut task before p)
    (woken : ℕ → Bool)
    (passing : (t : ℕ) (spot : Spot) → parked_at p t ≡ Some spot → is_woken_by made memory spot ≡ true
    → woken t ≡ true)
    (only : (t : ℕ) → woken t ≡ true → is_some (parked_at p t) ≡ true)
    (kept : (t : ℕ) → parked_at q t ≡ (if woken t then None else parked_at p t))
    (between : ℕ → Bool)
    (rests : (t : ℕ) → between t ≡ true → (map.contains_key p.awake t ≡ true)
    × (puts_to_sleep made.entry ≡ true → task ≢ t))
    (stays : (t : ℕ) → map.contains_key p.awake t ≡ true → (puts_to_sleep made.entry ≡ false) ⊎ (task ≢ t)
    → between t ≡ true)
    (looked_at : (t : ℕ) → map.contains_key q.awake t
    ≡ ((between t || is_last_made after before.tasks.last t) || woken t)) where
  -- the task itself isn't parked
  not_itself : (t : ℕ) (m : Spot) → parked_at p t ≡ Some m → task ≢ t
  not_itself t m is same = cc (is, ap (parked_at p) (sym same) ∙ but.apart task but.looked_at)

  -- one that was looked at before
  rested_off : (t : ℕ) → between t ≡ true → IsAwake after t
  rested_off t e = by (same_or_other task t) (puts_to_sleep made.entry) refl
    where
      by : (task ≡ t) ⊎ (task ≢ t) → (b : Bool) → puts_to_sleep made.entry ≡ b → IsAwake after t
      by (inl same) true sleeps = absurd ((rests t e).1 sleeps same)
      by (inl same) false sleeps = ap (wait_of after.sleepers) (sym same) ∙ moves.itself sleeps
      by (inr apart) b sleeps = moves.off t apart (but.awake t apart (rests t e).0)

  -- a task that was made
  child_parts : (t : ℕ) → is_last_made after before.tasks.last t ≡ true
      → (t ≡ after.tasks.last) × (before.tasks.last < after.tasks.last)
      × (is_off after.sleepers after.tasks.last ≡ true)
  child_parts t e =
      let parts = and_parts (nat_lt before.tasks.last after.tasks.last && is_off after.sleepers after.tasks.last)
      (t == after.tasks.last) e in
      let others = and_parts (nat_lt before.tasks.last after.tasks.last) (is_off after.sleepers after.tasks.last)
      parts.0 in
      (eqb-true t after.tasks.last parts.1, ltb-true before.tasks.last after.tasks.last others.0, others.1)

  child_off : (t : ℕ) → is_last_made after before.tasks.last t ≡ true → IsAwake after t
  child_off t e =
      let child = child_parts t e in
      ap (wait_of after.sleepers) child.0 ∙ off_awake after.sleepers after.tasks.last child.2

  -- changes the task list
  child_listed : (t : ℕ) → is_last_made after before.tasks.last t ≡ true → made.tasks ≡ true
  child_listed t e = by made.tasks refl
    where
      by : (b : Bool) → made.tasks ≡ b → made.tasks ≡ true
      by true is = is
      by false is =
          let child = child_parts t e in
          let same : after.tasks.last ≡ before.tasks.last = ap (λ (x : TaskTable). x.last) (moves.tasks is) in
          absurd (omega (arith, same, child.1))

  woken_off : (t : ℕ) → woken t ≡ true → IsAwake after t
  woken_off t e =
      let m = there_of (parked_at p t) (only t e) in
      moves.off t (not_itself t m.0 m.1) (but.parked t m.0 m.1).awake

  -- of those that are looked at
  settled_awake : (t : ℕ) → map.contains_key q.awake t ≡ true → IsAwake after t
  settled_awake t e =
      elim (either (between t || is_last_made after before.tasks.last t) (woken t)
      (sym (looked_at t) ∙ e)) [
        | inl f ↦ elim (either (between t) (is_last_made after before.tasks.last t) f) [
          | inl g ↦ rested_off t g
          | inr g ↦ child_off t g
        ]
        | inr f ↦ woken_off t f
      ]

  -- where the task list may have changed, none is parked any more
  none_left : made.tasks ≡ true → (t : ℕ) → (if woken t then None else parked_at p t) ≡ None
  none_left is t = by (woken t) (parked_at p t) refl refl
    where
      by : (b : Bool) (o : Option Spot) → woken t ≡ b → parked_at p t ≡ o → (if b then None else o) ≡ None
      by true o stays there = refl
      by false None stays there = refl
      by false (Some m) stays there =
          let all : is_woken_by made memory m ≡ true =
          ap (λ b. b || ((same_made m.memory memory || (uses_areas m && made.areas)) || is_touched made.touched m))
          is in
          absurd (cc (stays, passing t m there all))

  settled_apart : (t : ℕ) → map.contains_key q.awake t ≡ true → parked_at q t ≡ None
  settled_apart t e =
      kept t
      ∙ elim (either (between t || is_last_made after before.tasks.last t) (woken t)
      (sym (looked_at t) ∙ e)) [
        | inl f ↦ elim (either (between t) (is_last_made after before.tasks.last t) f) [
          | inl g ↦ stays_none (woken t) (parked_at p t) (but.apart t (rests t g).0)
          | inr g ↦ none_left (child_listed t g) t
        ]
        | inr f ↦ ap (λ b. if b then None else parked_at p t) f
      ]

  -- of those that are parked
  not_woken : (t : ℕ) (m : Spot) → parked_at p t ≡ Some m → woken t ≡ false → is_woken_by made memory m ≡ false
  not_woken t m there stays = by (is_woken_by made memory m) refl
    where
      by : (b : Bool) → is_woken_by made memory m ≡ b → is_woken_by made memory m ≡ false
      by true is = absurd (cc (stays, passing t m there is))
      by false is = is

  settled_parked : (t : ℕ) (m : Spot) → parked_at q t ≡ Some m → Parks after t m
  settled_parked t m e =
      let was = left_of (woken t) (parked_at p t) m (sym (kept t) ∙ e) in
      let parts = or_parts made.tasks
      ((same_made m.memory memory || (uses_areas m && made.areas)) || is_touched made.touched m)
      (not_woken t m was.1 was.0) in
      let met = or_parts (same_made m.memory memory || (uses_areas m && made.areas)) (is_touched made.touched m)
      parts.1 in
      let others = or_parts (same_made m.memory memory) (uses_areas m && made.areas) met.0 in
      parks_on task memory made before after t m moves parts.0 (not_itself t m was.1) others.1 others.0 met.1
      (but.parked t m was.1)

  -- and of all others
  looked_at_again : (t : ℕ) → between t ≡ true → is_watched q t ≡ true
  looked_at_again t e =
      first_of (map.contains_key q.awake t) (is_some (parked_at q t))
      (looked_at t
      ∙ first_of (between t || is_last_made after before.tasks.last t) (woken t)
      (first_of (between t) (is_last_made after before.tasks.last t) e))

  was_parked : (t : ℕ) (m : Spot) → parked_at p t ≡ Some m → is_watched q t ≡ true
  was_parked t m is = by (woken t) refl
    where
      by : (b : Bool) → woken t ≡ b → is_watched q t ≡ true
      by true e =
          first_of (map.contains_key q.awake t) (is_some (parked_at q t))
          (looked_at t ∙ second_of (between t || is_last_made after before.tasks.last t) (woken t) e)
      by false e =
          second_of (map.contains_key q.awake t) (is_some (parked_at q t))
          (ap is_some (kept t ∙ ap (λ b. if b then None else parked_at p t) e ∙ is))

  covered_before : (t : ℕ) → task ≢ t → (b : Bool) (o : Option Spot) → map.contains_key p.awake t ≡ b
      → parked_at p t ≡ o → (b || is_some o) ≡ true → is_watched q t ≡ true
  covered_before t apart true o awake parked e = looked_at_again t (stays t awake (inr apart))
  covered_before t apart false None awake parked e = absurd (cc e)
  covered_before t apart false (Some m) awake parked e = was_parked t m parked

  new_covered : (t : ℕ) → is_live after.tasks.tasks t ≡ true → is_live before.tasks.tasks t ≡ false → IsAwake after t
      → is_watched q t ≡ true
  new_covered t live dead off =
      let child = moves.lives t live dead in
      let above : nat_lt before.tasks.last after.tasks.last ≡ true =
      lt-ltb before.tasks.last after.tasks.last (omega (arith, child.1)) in
      let is : is_last_made after before.tasks.last t ≡ true =
      ap (λ b. (b && is_off after.sleepers after.tasks.last) && (t == after.tasks.last)) above
      ∙ ap (λ b. b && (t == after.tasks.last)) (ap (is_off after.sleepers) (sym child.0)
      ∙ awake_off after.sleepers t off)
      ∙ eq-eqb t after.tasks.last child.0 in
      first_of (map.contains_key q.awake t) (is_some (parked_at q t))
      (looked_at t
      ∙ first_of (between t || is_last_made after before.tasks.last t) (woken t)
      (second_of (between t) (is_last_made after before.tasks.last t) is))

  settled_covers : (t : ℕ) → is_live after.tasks.tasks t ≡ true → IsAwake after t → is_watched q t ≡ true
  settled_covers t live off = by (same_or_other task t)
    where
      itself : task ≡ t → (b : Bool) → puts_to_sleep made.entry ≡ b → is_watched q t ≡ true
      itself same true sleeps = absurd (moves.asleep sleeps (ap (wait_of after.sleepers) same ∙ off))
      itself same false sleeps =
          looked_at_again t (stays t (ap (map.contains_key p.awake) (sym same) ∙ but.looked_at) (inl sleeps))

      other : task ≢ t → (b : Bool) → is_live before.tasks.tasks t ≡ b → is_watched q t ≡ true
      other apart true lived =
          covered_before t apart (map.contains_key p.awake t) (parked_at p t) refl refl
          (but.covers t apart lived (moves.was_off t apart live off))
      other apart false dead = new_covered t live dead off

      by : (task ≡ t) ⊎ (task ≢ t) → is_watched q t ≡ true
      by (inl same) = itself same (puts_to_sleep made.entry) refl
      by (inr apart) = other apart (is_live before.tasks.tasks t) refl

  pub settled : AreParked after q
  settled = record {
    awake = settled_awake;
    apart = settled_apart;
    parked = settled_parked;
    covers = settled_covers;
  }

-- ---- by what the calls leave

module _ (task : ℕ) (memory : Made) (made : Entered) (before after : Cells)
    (moves : LeavesRest task memory made before after) (p r s q : Parking) (but : AreParkedBut task before p) (last : ℕ)
    (same : last ≡ before.tasks.last) (did : AreWoken (is_woken_by made memory) s q) (parked : AreParkedAlike p s)
    (rested : r.awake ≡ (if puts_to_sleep made.entry then map.remove p.awake task else p.awake))
    (child : (t : ℕ) → map.contains_key s.awake t ≡ (map.contains_key r.awake t || is_last_made after last t)) where
  removed : (b : Bool) → puts_to_sleep made.entry ≡ b → r.awake ≡ (if b then map.remove p.awake task else p.awake)
  removed b is = rested ∙ ap (λ x. if x then map.remove p.awake task else p.awake) is

  rests : (t : ℕ) → map.contains_key r.awake t ≡ true → (map.contains_key p.awake t ≡ true)
      × (puts_to_sleep made.entry ≡ true → task ≢ t)
  rests t e = by (puts_to_sleep made.entry) refl (same_or_other task t)
    where
      by : (b : Bool) → puts_to_sleep made.entry ≡ b → (task ≡ t) ⊎ (task ≢ t) → (map.contains_key p.awake t ≡ true)
          × (puts_to_sleep made.entry ≡ true → task ≢ t)
      by false is o =
          (ap (λ m. map.contains_key m t) (sym (removed false is)) ∙ e, λ sleeps. absurd (cc (is, sleeps)))
      by true is (inl here) =
          let gone : map.contains_key r.awake t ≡ false =
          ap (λ m. map.contains_key m t) (removed true is) ∙ ap (map.contains_key (map.remove p.awake task)) (sym here)
          ∙ ap is_some (get-remove_same p.awake task) in
          absurd (cc (gone, e))
      by true is (inr apart) = (
        ap is_some (sym (get-remove_other p.awake task t apart))
            ∙ ap (λ m. map.contains_key m t) (sym (removed true is)) ∙ e,
        λ sleeps. apart,
      )

  stays : (t : ℕ) → map.contains_key p.awake t ≡ true → (puts_to_sleep made.entry ≡ false) ⊎ (task ≢ t)
      → map.contains_key r.awake t ≡ true
  stays t e how = by (puts_to_sleep made.entry) refl how
    where
      by : (b : Bool) → puts_to_sleep made.entry ≡ b → (puts_to_sleep made.entry ≡ false) ⊎ (task ≢ t)
          → map.contains_key r.awake t ≡ true
      by false is o = ap (λ m. map.contains_key m t) (removed false is) ∙ e
      by true is (inl goes) = absurd (cc (is, goes))
      by true is (inr apart) =
          ap (λ m. map.contains_key m t) (removed true is) ∙ ap is_some (get-remove_other p.awake task t apart) ∙ e

  pub settled_by : AreParked after q
  settled_by =
      settled task memory made before after moves p q but did.woken
      (λ t spot there passes. did.passing t spot (parked t ∙ there) passes)
      (λ t e. ap is_some (sym (parked t)) ∙ did.only t e)
      (λ t. did.parked t ∙ ap (λ o. if did.woken t then None else o) (parked t))
      (map.contains_key r.awake) rests stays
      (λ t. did.looked_at t
      ∙ ap (λ b. b || did.woken t) (child t)
      ∙ ap (λ n. (map.contains_key r.awake t || is_last_made after n t) || did.woken t) same)
