-- Bytes put into an address space, and into the shared areas that are handed in.
use Rattle.std.specs.Prelude.{◌≡◌, Ok, ℕ, zero, suc, ◌+◌, ◌*◌, ◌/◌, ◌%◌, ◌^◌, List, [], ◌∷◌, Option, Some, None}
use Rattle.std.specs.Prelude.{if◌then◌else◌, length, slice_set}
use Rattle.std.specs.FinMap as map
use Rattle.rv_table.specs.Areas.{is_area}
use Rattle.rv_table.specs.declared.error.Area.{Area}
use Rattle.rv_table.specs.Bytes.{AllowsAs, behind, loaded}
use Rattle.rv_atomic.specs.Reservations.{after_run, after_store}
use Rattle.rv_atomic.specs.AreaReservations.{after_store_here}
use Rattle.mm_frames.specs.Frames as frames
use Rattle.mm_areas.specs.Contents as contents
use Rattle.mm_areas.specs.Mappings.{with_pages}
use Rattle.mm_areas.specs.Pages.{Held, Bytes, PageOf, Mapped}
use Rattle.mm_space.specs.Accesses.{byte_at, page_number, page_offset, writable}
use Rattle.mm_space.specs.Handed.{AreaState, InHand}
use Rattle.mm_space.specs.Spaces.{AddressSpace, Reach}

-- a shared area in which a task has put a byte at an offset of a page
-- mmap(2), MAP_SHARED; RISC-V Unprivileged ISA 20191213, 8.2: a store from another hart to the reservation set
abbrev pub put_in_area : (task number offset value : ℕ) → AreaState → AreaState
put_in_area task number offset value area = record {
  pages = frames.with_page_changed area.pages number (λ bytes. slice_set bytes offset value);
  reservations = after_store_here area.reservations task ((4096 * number + offset) % 2 ^ 64) 1;
}

-- those handed in, of which the area of a name has changed: the first of that name
-- profile
abbrev pub changed_in_hand : (AreaState → AreaState) → InHand → InHand
changed_in_hand change h = record { name = h.name; state = change h.state }

abbrev pub with_area : Area → (AreaState → AreaState) → List InHand → List InHand
with_area name change [] = []
with_area name change (h ∷ hs) =
    if is_area h.name name then changed_in_hand change h ∷ hs else h ∷ with_area name change hs

-- an address space of which the bytes of a private page have changed
-- mmap(2), MAP_PRIVATE
abbrev pub with_page : AddressSpace → (page : ℕ) → (List ℕ → List ℕ) → AddressSpace
with_page space page change = record {
  mapping = with_pages space.mapping (contents.with_change space.mapping.pages page change);
  reservations = space.reservations;
}

-- a byte that a task puts at an address, into the page that lies there
-- RISC-V Unprivileged ISA 20191213, 1.4, Memory
abbrev pub put_held : (task page offset value : ℕ) → Held → Reach → Reach
put_held task page offset value (Bytes bytes) r =
    record { space = with_page r.space page (λ bs. slice_set bs offset value); hand = r.hand }
put_held task page offset value (PageOf name number) r =
    record { space = r.space; hand = with_area name (put_in_area task number offset value) r.hand }

abbrev pub put_mapped : (task page offset value : ℕ) → Option Mapped → Reach → Reach
put_mapped task page offset value None r = r
put_mapped task page offset value (Some m) r = put_held task page offset value m.held r

abbrev pub put_byte : (task address value : ℕ) → Reach → Reach
put_byte task address value r =
    put_mapped task (page_number address) (page_offset address) value
    (map.get r.space.mapping.pages (page_number address)) r

-- so many of a number's bytes put from an address on, the lowest first
-- RISC-V Unprivileged ISA 20191213, 1.4: little-endian
unfoldable pub put_bytes : (task at count value : ℕ) → Reach → Reach
put_bytes task at zero value r = r
put_bytes task at (suc n) value r =
    put_byte task at (value % 256) (put_bytes task (behind at) n (value / 256) r)

-- what is reached after a store: the bytes stand there, and other tasks' reservations of the granules that it meets are
-- lost, in the address space by address, and in an area by the place of the byte there
-- RISC-V Unprivileged ISA 20191213, 2.6, Load and Store Instructions; 8.2: a store to the reservation set
abbrev pub ended_by_store : (task at width : ℕ) → AddressSpace → AddressSpace
ended_by_store task at width space =
    record { mapping = space.mapping; reservations = after_store space.reservations task at width }

abbrev pub after_stored : (task at width value : ℕ) → Reach → Reach
after_stored task at width value r = record {
  space = ended_by_store task at width (put_bytes task at width value r).space;
  hand = (put_bytes task at width value r).hand;
}

-- bytes put from an address on, one after another
-- read(2): what a call puts into its buffer
unfoldable pub put_run : (task at : ℕ) → List ℕ → Reach → Reach
put_run task at [] r = r
put_run task at (b ∷ bs) r = put_run task (behind at) bs (put_byte task at b r)

-- what is reached after a call has put bytes into a buffer for its task: other tasks' reservations of the granules that
-- they meet are lost
-- read(2); RISC-V Unprivileged ISA 20191213, 8.2: a store to the reservation set
abbrev pub ended_by_run : (task at count : ℕ) → AddressSpace → AddressSpace
ended_by_run task at count space =
    record { mapping = space.mapping; reservations = after_run space.reservations task at count }

abbrev pub after_run_stored : (task at : ℕ) → List ℕ → Reach → Reach
after_run_stored task at bytes r = record {
  space = ended_by_run task at (length bytes) (put_run task at bytes r).space;
  hand = (put_run task at bytes r).hand;
}

-- so many bytes may be written, whichever areas are handed in
-- profile
abbrev pub AllowsNear : AddressSpace → (at width : ℕ) → Type 0
AllowsNear space at width = (hand : List InHand) →
    AllowsAs (loaded (byte_at writable (record { space = space; hand = hand })) at width) (Ok tt)

-- a store is made, whichever areas are handed in
-- profile
abbrev pub StoresNear : (old new : AddressSpace) → (task at width value : ℕ) → Type 0
StoresNear old new task at width value = (hand : List InHand) →
    AllowsAs (loaded (byte_at writable (record { space = old; hand = hand })) at width) (Ok tt)
    × ((record { space = new; hand = hand }) ≡ after_stored task at width value (record { space = old; hand = hand }))
