-- The reservations that tasks have in a shared area: each has its task, and its granule from the area's first byte on.
-- RISC-V Unprivileged ISA 20191213, 8.2, Load-Reserved/Store-Conditional Instructions
use Rattle.std.specs.Prelude.{◌≢◌, ℕ, ◌==◌, ◌&&◌, ◌||◌, not, Bool, List, [], ◌∷◌, ◌++◌, filter, AllPairs}
use Rattle.std.specs.List.{list_any}
use Rattle.rv_atomic.specs.declared.area_reservations.AreaReservation.{AreaReservation}
use Rattle.rv_atomic.specs.Reservations.{lies_over, meets}

-- no task has two reservations in one area
-- 8.2: a hart has one reservation at most
abbrev pub AtMostOneHere : List AreaReservation → Type 0
AtMostOneHere rs = AllPairs (λ a b. a.task ≢ b.task) rs

-- whether a task has a reservation in the area, and whether it has that of a granule
-- 8.2: a hart holds a reservation, or none
abbrev pub is_reserving_here : List AreaReservation → (task : ℕ) → Bool
is_reserving_here rs task = list_any (λ r. r.task == task) rs

abbrev pub is_held_here : List AreaReservation → (task granule : ℕ) → Bool
is_held_here rs task granule = list_any (λ r. (r.task == task) && (r.granule == granule)) rs

-- the reservations of all tasks but one
-- 8.2: SC ends the reservation, whether it succeeds or not
abbrev pub without_here : List AreaReservation → (task : ℕ) → List AreaReservation
without_here rs task = filter (λ r. not (r.task == task)) rs

-- the reservations after a load-reserved: the task's new one stands last
-- 8.2: LR puts a new reservation in the place of the old one
abbrev pub reserved_here : List AreaReservation → (task granule : ℕ) → List AreaReservation
reserved_here rs task granule = without_here rs task ++ (record { task = task; granule = granule }) ∷ []

-- the reservations after a store to bytes of the area: each ends that is another task's and whose granule it meets
-- 8.2: a store from another hart to the reservation set; a task's own stores end nothing: profile
abbrev pub after_store_here : List AreaReservation → (task at width : ℕ) → List AreaReservation
after_store_here rs task at width = filter (λ r. (r.task == task) || not (meets r.granule at width)) rs

-- the reservations after a task has put so many bytes of the area, however many: each ends that is another task's and
-- has a byte of its granule there
-- read(2): what a call puts into its buffer; 8.2: a store from another hart to the reservation set
abbrev pub after_run_here : List AreaReservation → (task at count : ℕ) → List AreaReservation
after_run_here rs task at count = filter (λ r. (r.task == task) || not (lies_over r.granule at count)) rs
