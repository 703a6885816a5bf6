-- A task's own reservations where it stores, reserves and gives up what it had reserved.
use Rattle.std.proofs.Common.{◌≡◌, ℕ, ◌==◌, Bool, true, false, ◌&&◌, ◌||◌, not, [], ◌∷◌, List, ap, ◌∙◌, arith}
use Rattle.std.proofs.Common.{Option}
use Rattle.std.proofs.lemmas.Bool.{and_parts, or_left, not_from_true}
use Rattle.std.proofs.lemmas.Bool.Decides.{nat_tests}
use Rattle.std.proofs.lemmas.List.Folds.{list_any-append}
use Rattle.std.proofs.lemmas.Map.Views.{any-filter_same}
use Rattle.rv_table.specs.declared.error.Area.{Area}
use Rattle.rv_atomic.specs.declared.area_reservations.AreaReservation.{AreaReservation}
use Rattle.rv_atomic.specs.declared.reservations.Reservation.{Reservation}
use Rattle.rv_atomic.specs.AreaReservations.{after_store_here, is_held_here, reserved_here, without_here}
use Rattle.rv_atomic.specs.Reservations.{after_store, granule, is_held, is_just, is_same_area, meets, reserved, without}

abbrev is_own_here : (task granule : ℕ) → AreaReservation → Bool
is_own_here task granule r = (r.task == task) && (r.granule == granule)

own_task : (task address width : ℕ) (area : Option Area) (r : Reservation) → is_just task address width area r ≡ true
    → (r.task == task) ≡ true
own_task task address width area r own = (and_parts (r.task == task) _ own).0

-- ---- a task's own store keeps them

pub store_keeps : (rs : List Reservation) (task at width address size : ℕ) (area : Option Area)
    → is_held (after_store rs task at width) task address size area ≡ is_held rs task address size area
store_keeps rs task at width address size area =
    any-filter_same (is_just task address size area)
    (λ (r : Reservation). (r.task == task) || not (meets (granule r.address) at width)) true
    (λ r held. or_left (r.task == task) (not (meets (granule r.address) at width)) (own_task task address size area r held))
    rs

pub store_keeps_here : (rs : List AreaReservation) (task at width granule : ℕ)
    → is_held_here (after_store_here rs task at width) task granule ≡ is_held_here rs task granule
store_keeps_here rs task at width granule =
    any-filter_same (is_own_here task granule)
    (λ (r : AreaReservation). (r.task == task) || not (meets r.granule at width)) true
    (λ r held. or_left (r.task == task) (not (meets r.granule at width)) (and_parts (r.task == task) _ held).0) rs

-- ---- a task that has given up what it had reserved has none

pub without_ends : (rs : List Reservation) (task address size : ℕ) (area : Option Area)
    → is_held (without rs task) task address size area ≡ false
without_ends rs task address size area =
    any-filter_same (is_just task address size area) (λ (r : Reservation). not (r.task == task)) false
    (λ r held. not_from_true (r.task == task) (own_task task address size area r held)) rs

-- ---- a task that has reserved has just that

one_held : (task at width address size : ℕ) (same : Bool)
    → (((task == task) && ((at == address) && ((width == size) && same))) || false)
    ≡ (((address == at) && (size == width)) && same)
one_held task at width address size same = grind (arith, nat_tests)

pub just_reserved : (rs : List Reservation) (task at width : ℕ) (made : Option Area) (address size : ℕ)
    (area : Option Area)
    → is_held (reserved rs task at width made) task address size area
    ≡ (((address == at) && (size == width)) && is_same_area made area)
just_reserved rs task at width made address size area =
    list_any-append (is_just task address size area) (without rs task)
    (record { task = task; address = at; width = width; area = made } ∷ [])
    ∙ ap (λ b. b || (((task == task) && ((at == address) && ((width == size) && is_same_area made area))) || false))
    (without_ends rs task address size area)
    ∙ one_held task at width address size (is_same_area made area)

own_here : (before : Bool) (task granule : ℕ) → (before || (((task == task) && (granule == granule)) || false)) ≡ true
own_here before task granule = grind (arith, nat_tests)

pub reserved_there : (rs : List AreaReservation) (task granule : ℕ)
    → is_held_here (reserved_here rs task granule) task granule ≡ true
reserved_there rs task granule =
    list_any-append (is_own_here task granule) (without_here rs task) (record { task = task; granule = granule } ∷ [])
    ∙ own_here (is_held_here (without_here rs task) task granule) task granule
