-- Changes of reservations leave no task with two.
use Rattle.std.proofs.Common.{[], false, arith, refl, cond, ◌≤◌, ◌||◌, ◌∷◌, ◌≡◌, ◌≢◌, true, ℕ, ◌<◌, ◌==◌, not, Bool}
use Rattle.std.proofs.Common.{List, length, filter, get_or, Option}
use Rattle.std.proofs.lemmas.Bool.{not-true, eqb-false}
use Rattle.std.proofs.lemmas.List.Elements.{All-get_or, filter_passes}
use Rattle.std.proofs.lemmas.List.Kept.{AllPairs-filter}
use Rattle.std.proofs.lemmas.List.Quantifiers.{all_pairs_push}
use Rattle.std.proofs.lemmas.List.Filters.{length-filter_both}
use Rattle.rv_table.specs.declared.error.Area.{Area}
use Rattle.rv_atomic.specs.declared.reservations.Reservation.{Reservation}
use Rattle.rv_atomic.specs.Reservations.{AtMostOneEach, is_reserving, without, reserved, after_store, after_run}
use Rattle.rv_atomic.specs.Reservations.{outside_range}

-- fewer reservations are single where all were
pub single_filter : (keeps : Reservation → Bool) (rs : List Reservation) → AtMostOneEach rs
    → AtMostOneEach (filter keeps rs)
single_filter keeps rs single = AllPairs-filter (λ a b. a.task ≢ b.task) keeps rs single

-- no reservation of the others is the task's
others : (rs : List Reservation) (task : ℕ) (k : ℕ) (d : Reservation) → k < length (without rs task)
    → (get_or (without rs task) k d).task ≢ task
others rs task k d within =
    eqb-false _ _
    (not-true _ (All-get_or (λ r. not (r.task == task) ≡ true) (without rs task) k d within
    (filter_passes (λ r. not (r.task == task)) rs)))

pub single_after_load : (rs : List Reservation) (task address width : ℕ) (area : Option Area) → AtMostOneEach rs
    → AtMostOneEach (reserved rs task address width area)
single_after_load rs task address width area single =
    all_pairs_push (λ a b. a.task ≢ b.task) (without rs task) _ (single_filter (λ r. not (r.task == task)) rs single)
    (others rs task)

pub single_without : (rs : List Reservation) (task : ℕ) → AtMostOneEach rs → AtMostOneEach (without rs task)
single_without rs task single = single_filter _ rs single

pub single_after_store : (rs : List Reservation) (task at width : ℕ) → AtMostOneEach rs
    → AtMostOneEach (after_store rs task at width)
single_after_store rs task at width single = single_filter _ rs single

pub single_after_run : (rs : List Reservation) (task at count : ℕ) → AtMostOneEach rs
    → AtMostOneEach (after_run rs task at count)
single_after_run rs task at count single = single_filter _ rs single

pub single_outside : (rs : List Reservation) (at count : ℕ) → AtMostOneEach rs
    → AtMostOneEach (outside_range rs at count)
single_outside rs at count single = single_filter _ rs single

-- without the task's own there are no more
pub no_more_without : (rs : List Reservation) (task : ℕ) → length (without rs task) ≤ length rs
no_more_without rs task =
    let keeps : Reservation → Bool = λ r. not (r.task == task) in
    omega (arith, length-filter_both keeps (λ r. not (keeps r)) (λ _. refl) rs)

-- and fewer where it has one
pub fewer_without : (rs : List Reservation) (task : ℕ) → is_reserving rs task ≡ true
    → length (without rs task) < length rs
fewer_without [] task had = absurd (cc had)
fewer_without (r ∷ rs) task had = fewer (r.task == task) (fewer_without rs task) had
  where
    fewer : (own : Bool) → (is_reserving rs task ≡ true → length (without rs task) < length rs)
        → (own || is_reserving rs task) ≡ true → length (cond (not own) (r ∷ without rs task) (without rs task))
        < length (r ∷ rs)
    fewer true rest had = omega (arith, no_more_without rs task)
    fewer false rest had = omega (arith, rest had)
