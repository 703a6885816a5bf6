-- The reservations of one address space, what ends them, and when a store-conditional succeeds.
-- RISC-V Unprivileged ISA 20191213, 8.2, Load-Reserved/Store-Conditional Instructions
use Rattle.std.specs.Prelude.{◌≢◌, ℕ, zero, suc, ◌+◌, ◌*◌, ◌/◌, ◌%◌, ◌^◌, ◌==◌, ◌&&◌, ◌||◌, not, nat_lt, max, min, Bool}
use Rattle.std.specs.Prelude.{true, false, List, [], ◌∷◌, ◌++◌, filter, AllPairs, Option, Some, None}
use Rattle.std.specs.List.{list_any}
use Rattle.rv_table.specs.Areas.{is_area}
use Rattle.rv_table.specs.declared.error.Area.{Area}
use Rattle.rv_atomic.specs.declared.reservations.Reservation.{Reservation}

-- the number of the aligned eight bytes that hold an address
-- 8.2: the reservation set; eight bytes: profile
abbrev pub granule : ℕ → ℕ
granule address = address / 8

-- whether one of so many bytes from an address on lies in a granule; addresses go round at 2^64
-- 8.2: a store to the reservation set; 1.4, Memory
unfoldable pub meets : (number at width : ℕ) → Bool
meets number at zero = false
meets number at (suc k) = (granule ((at + k) % 2 ^ 64) == number) || meets number at k

-- no task has two reservations
-- 8.2: a hart has one reservation at most
abbrev pub AtMostOneEach : List Reservation → Type 0
AtMostOneEach rs = AllPairs (λ a b. a.task ≢ b.task) rs

-- whether a task has a reservation
-- 8.2: a hart holds a reservation, or none
abbrev pub is_reserving : List Reservation → (task : ℕ) → Bool
is_reserving rs task = list_any (λ r. r.task == task) rs

-- the reservations of all tasks but one
-- 8.2: SC ends the reservation, whether it succeeds or not
abbrev pub without : List Reservation → (task : ℕ) → List Reservation
without rs task = filter (λ r. not (r.task == task)) rs

-- the reservations after a load-reserved, in a page of an area or of none: the task's new one stands last
-- 8.2: LR puts a new reservation in the place of the old one; that it notes the area: profile
abbrev pub reserved : List Reservation → (task address width : ℕ) → Option Area → List Reservation
reserved rs task address width area =
    without rs task ++ (record { task = task; address = address; width = width; area = area }) ∷ []

-- the reservations after a store: each ends that is another task's and whose granule the store meets
-- 8.2: a store from another hart to the reservation set; a task's own stores end nothing: profile
abbrev pub after_store : List Reservation → (task at width : ℕ) → List Reservation
after_store rs task at width = filter (λ r. (r.task == task) || not (meets (granule r.address) at width)) rs

-- whether two pages lie in one area, or both in none
-- mmap(2), MAP_SHARED
abbrev pub is_same_area : Option Area → Option Area → Bool
is_same_area None None = true
is_same_area None (Some b) = false
is_same_area (Some a) None = false
is_same_area (Some a) (Some b) = is_area a b

-- whether a reservation is a task's, of just that address and width, and made in a page of just that area or of none
-- 8.2: SC pairs with the latest LR, and fails where that reserved other bytes; an SC to another address or of another
-- width fails: profile
abbrev pub is_just : (task address width : ℕ) → Option Area → Reservation → Bool
is_just task address width area r =
    (r.task == task) && ((r.address == address) && ((r.width == width) && is_same_area r.area area))

-- whether a task has the reservation of just that address and width, made in a page of just that area or of none
-- 8.2
abbrev pub is_held : List Reservation → (task address width : ℕ) → Option Area → Bool
is_held rs task address width area = list_any (is_just task address width area) rs

-- whether a byte of a granule is one of so many bytes from an address on
-- 8.2: the reservation set
abbrev pub lies_over : (number at count : ℕ) → Bool
lies_over number at count = nat_lt (max (8 * number) at) (min (8 * number + 8) (at + count))

-- the reservations once so many bytes from an address on were mapped anew, unmapped or got other rights: none stays
-- that has a byte of its granule there
-- mmap(2), munmap(2), mprotect(2); that a reservation is lost by them: profile
abbrev pub outside_range : List Reservation → (at count : ℕ) → List Reservation
outside_range rs at count = filter (λ r. not (lies_over (granule r.address) at count)) rs

-- the reservations after a task has put so many bytes from an address on, however many: each ends that is another
-- task's and has a byte of its granule there
-- read(2): what a call puts into its buffer; 8.2: a store from another hart to the reservation set
abbrev pub after_run : List Reservation → (task at count : ℕ) → List Reservation
after_run rs task at count = filter (λ r. (r.task == task) || not (lies_over (granule r.address) at count)) rs
