-- Reservations in an address space, and in the shared areas that are handed in.
use Rattle.std.specs.Prelude.{ℕ, ◌+◌, ◌*◌, ◌%◌, ◌^◌, Bool, true, false, ◌&&◌, List, Option, Some, None}
use Rattle.std.specs.FinMap as map
use Rattle.std.specs.Option.{option_map_or}
use Rattle.rv_atomic.specs.Reservations.{granule, is_held, reserved, without}
use Rattle.rv_atomic.specs.AreaReservations.{is_held_here, reserved_here, without_here}
use Rattle.mm_areas.specs.Pages.{Held, Bytes, PageOf, Mapped}
use Rattle.mm_space.specs.Accesses.{page_number, page_offset}
use Rattle.mm_space.specs.Handed.{AreaState, InHand, area_in}
use Rattle.mm_space.specs.Places.{area_of_page}
use Rattle.mm_space.specs.Puts.{with_area}
use Rattle.mm_space.specs.Spaces.{Reach}

-- the granule of a byte in a page of an area, counted from the area's first byte
-- RISC-V Unprivileged ISA 20191213, 8.2: the reservation set; that it is the area's: profile
abbrev pub area_granule : (number offset : ℕ) → ℕ
area_granule number offset = granule ((4096 * number + offset) % 2 ^ 64)

-- a shared area in which a task has reserved the granule of a byte
-- 8.2: LR registers a reservation set
abbrev pub reserve_in_area : (task number offset : ℕ) → AreaState → AreaState
reserve_in_area task number offset area =
    record { pages = area.pages; reservations = reserved_here area.reservations task (area_granule number offset) }

-- and one in which a task has none
-- 8.2: SC ends the reservation, whether it succeeds or not
abbrev pub leave_in_area : (task : ℕ) → AreaState → AreaState
leave_in_area task area = record { pages = area.pages; reservations = without_here area.reservations task }

-- whether an area has a task's reservation of the granule of a byte; one that isn't handed in has none
-- 8.2; shared areas: profile
abbrev pub is_held_in_area : (task number offset : ℕ) → Option AreaState → Bool
is_held_in_area task number offset area =
    option_map_or (λ a. is_held_here a.reservations task (area_granule number offset)) area false

-- what becomes of the areas in hand where a task reserves a byte of a page, and where it gives that up
-- 8.2
abbrev pub reserve_held : (task offset : ℕ) → Held → List InHand → List InHand
reserve_held task offset (Bytes bytes) hand = hand
reserve_held task offset (PageOf name number) hand = with_area name (reserve_in_area task number offset) hand

abbrev pub reserve_mapped : (task offset : ℕ) → Option Mapped → List InHand → List InHand
reserve_mapped task offset None hand = hand
reserve_mapped task offset (Some m) hand = reserve_held task offset m.held hand

abbrev pub leave_held : (task : ℕ) → Held → List InHand → List InHand
leave_held task (Bytes bytes) hand = hand
leave_held task (PageOf name number) hand = with_area name (leave_in_area task) hand

abbrev pub leave_mapped : (task : ℕ) → Option Mapped → List InHand → List InHand
leave_mapped task None hand = hand
leave_mapped task (Some m) hand = leave_held task m.held hand

-- whether a reservation of a byte of a page counts: in a private page always, in a shared area where that has it too
-- 8.2; that it stands in both lists: profile
abbrev pub counts_held : (task offset : ℕ) → Held → List InHand → Bool
counts_held task offset (Bytes bytes) hand = true
counts_held task offset (PageOf name number) hand = is_held_in_area task number offset (area_in name hand)

abbrev pub counts_mapped : (task offset : ℕ) → Option Mapped → List InHand → Bool
counts_mapped task offset None hand = true
counts_mapped task offset (Some m) hand = counts_held task offset m.held hand

-- what is reached after a load-reserved: the reservation notes the area that its page lies in
-- 8.2: LR puts a new reservation in the place of the old one; that it notes the area: profile
abbrev pub after_reserved : (task at width : ℕ) → Reach → Reach
after_reserved task at width r = record {
  space = record {
    mapping = r.space.mapping;
    reservations =
        reserved r.space.reservations task at width (area_of_page (map.get r.space.mapping.pages (page_number at)));
  };
  hand = reserve_mapped task (page_offset at) (map.get r.space.mapping.pages (page_number at)) r.hand;
}

-- and after a store-conditional has taken the reservation, before it stores
-- 8.2: SC ends the reservation, whether it succeeds or not
abbrev pub after_taken : (task at : ℕ) → Reach → Reach
after_taken task at r = record {
  space = record { mapping = r.space.mapping; reservations = without r.space.reservations task };
  hand = leave_mapped task (map.get r.space.mapping.pages (page_number at)) r.hand;
}

-- whether a task has the reservation of just that address and width, made in the area that its page lies in now, or in a
-- private page where it is private now; and whether it counts
-- 8.2: SC succeeds only where the reservation is still valid; that one made in an area is not valid once the page is of
-- no area, as after brk(2): profile
abbrev pub is_held_at : (task at width : ℕ) → Reach → Bool
is_held_at task at width r =
    is_held r.space.reservations task at width (area_of_page (map.get r.space.mapping.pages (page_number at)))
    && counts_mapped task (page_offset at) (map.get r.space.mapping.pages (page_number at)) r.hand
