-- Changes of the reservations in a shared area leave no task with two.
use Rattle.std.proofs.Common.{[], false, arith, refl, cond, ◌≤◌, ◌||◌, ◌∷◌, ◌≡◌, ◌≢◌, true, ℕ, ◌<◌, ◌==◌, not, Bool}
use Rattle.std.proofs.Common.{List, length, filter, get_or}
use Rattle.std.proofs.lemmas.Bool.{not-true, eqb-false}
use Rattle.std.proofs.lemmas.List.Elements.{All-get_or, filter_passes}
use Rattle.std.proofs.lemmas.List.Kept.{AllPairs-filter}
use Rattle.std.proofs.lemmas.List.Quantifiers.{all_pairs_push}
use Rattle.std.proofs.lemmas.List.Filters.{length-filter_both}
use Rattle.rv_atomic.specs.declared.area_reservations.AreaReservation.{AreaReservation}
use Rattle.rv_atomic.specs.AreaReservations.{AtMostOneHere, is_reserving_here, without_here, reserved_here}
use Rattle.rv_atomic.specs.AreaReservations.{after_store_here, after_run_here}

-- fewer reservations are single where all were
single_filter_here : (keeps : AreaReservation → Bool) (rs : List AreaReservation) → AtMostOneHere rs
    → AtMostOneHere (filter keeps rs)
single_filter_here keeps rs single = AllPairs-filter (λ a b. a.task ≢ b.task) keeps rs single

-- no reservation of the others is the task's
others_here : (rs : List AreaReservation) (task : ℕ) (k : ℕ) (d : AreaReservation) → k < length (without_here rs task)
    → (get_or (without_here rs task) k d).task ≢ task
others_here rs task k d within =
    eqb-false _ _
    (not-true _ (All-get_or (λ r. not (r.task == task) ≡ true) (without_here rs task) k d within
    (filter_passes (λ r. not (r.task == task)) rs)))

pub single_after_load_here : (rs : List AreaReservation) (task granule : ℕ) → AtMostOneHere rs
    → AtMostOneHere (reserved_here rs task granule)
single_after_load_here rs task granule single =
    all_pairs_push (λ a b. a.task ≢ b.task) (without_here rs task) _
    (single_filter_here (λ r. not (r.task == task)) rs single) (others_here rs task)

pub single_without_here : (rs : List AreaReservation) (task : ℕ) → AtMostOneHere rs
    → AtMostOneHere (without_here rs task)
single_without_here rs task single = single_filter_here _ rs single

pub single_after_store_here : (rs : List AreaReservation) (task at width : ℕ) → AtMostOneHere rs
    → AtMostOneHere (after_store_here rs task at width)
single_after_store_here rs task at width single = single_filter_here _ rs single

pub single_after_run_here : (rs : List AreaReservation) (task at count : ℕ) → AtMostOneHere rs
    → AtMostOneHere (after_run_here rs task at count)
single_after_run_here rs task at count single = single_filter_here _ rs single

-- without the task's own there are no more
pub no_more_without_here : (rs : List AreaReservation) (task : ℕ) → length (without_here rs task) ≤ length rs
no_more_without_here rs task =
    let keeps : AreaReservation → Bool = λ r. not (r.task == task) in
    omega (arith, length-filter_both keeps (λ r. not (keeps r)) (λ _. refl) rs)

-- and fewer where it has one
pub fewer_without_here : (rs : List AreaReservation) (task : ℕ) → is_reserving_here rs task ≡ true
    → length (without_here rs task) < length rs
fewer_without_here [] task had = absurd (cc had)
fewer_without_here (r ∷ rs) task had = fewer (r.task == task) (fewer_without_here rs task) had
  where
    fewer : (own : Bool) → (is_reserving_here rs task ≡ true → length (without_here rs task) < length rs)
        → (own || is_reserving_here rs task) ≡ true
        → length (cond (not own) (r ∷ without_here rs task) (without_here rs task)) < length (r ∷ rs)
    fewer true rest had = omega (arith, no_more_without_here rs task)
    fewer false rest had = omega (arith, rest had)
