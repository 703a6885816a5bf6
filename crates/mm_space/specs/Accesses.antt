-- What each byte is to an access, by the page that its address lies in.
use Rattle.std.specs.Prelude.{◌≡◌, ℕ, ◌/◌, ◌%◌, ◌^◌, List, Option, Some, None, if◌then◌else◌, slice_get}
use Rattle.std.specs.FinMap as map
use Rattle.rv_table.specs.declared.error.Area.{Area}
use Rattle.rv_table.specs.Bytes.{Byte, Barred, InArea, Value, loaded}
use Rattle.mm_frames.specs.Frames as frames
use Rattle.mm_areas.specs.declared.rights.Rights.{Rights}
use Rattle.mm_areas.specs.Pages.{Held, Bytes, PageOf, Mapped}
use Rattle.mm_areas.specs.Rights.{has}
use Rattle.mm_space.specs.Handed.{AreaState, InHand, area_in}
use Rattle.mm_space.specs.Sight.{as_byte}
use Rattle.mm_space.specs.Spaces.{AddressSpace, Reach}

-- the page of an address, and the address's place in it; addresses go round at 2^64
-- getpagesize(2): 4,096 bytes; RISC-V Unprivileged ISA 20191213, 1.4, Memory
abbrev pub page_number : ℕ → ℕ
page_number address = address % 2 ^ 64 / 4096

abbrev pub page_offset : ℕ → ℕ
page_offset address = address % 2 ^ 64 % 4096

-- a byte of a shared area: it lies in the area where that is not handed in
-- mmap(2), MAP_SHARED; areas that are not handed in: profile
abbrev pub area_byte : Area → (number offset : ℕ) → Option AreaState → Byte
area_byte name number offset None = InArea name
area_byte name number offset (Some area) = as_byte (frames.byte_of_pages area.pages number offset)

abbrev pub held_byte : List InHand → (offset : ℕ) → Held → Byte
held_byte hand offset (Bytes bytes) = as_byte (slice_get bytes offset)
held_byte hand offset (PageOf name number) = area_byte name number offset (area_in name hand)

-- a byte of a page, where the page has that right
-- mmap(2), PROT_READ, PROT_WRITE, PROT_EXEC
abbrev pub page_byte : Rights → List InHand → (offset : ℕ) → Mapped → Byte
page_byte right hand offset m = if has m.rights right then held_byte hand offset m.held else Barred

abbrev pub mapped_byte : Rights → List InHand → (offset : ℕ) → Option Mapped → Byte
mapped_byte right hand offset None = Barred
mapped_byte right hand offset (Some m) = page_byte right hand offset m

-- the byte at an address, as an access by that right sees it
-- RISC-V Unprivileged ISA 20191213, 1.4, Memory
abbrev pub byte_at : Rights → Reach → (address : ℕ) → Byte
byte_at right r address =
    mapped_byte right r.hand (page_offset address) (map.get r.space.mapping.pages (page_number address))

-- the rights that a load, a store and a fetch need
-- mmap(2), PROT_READ 1, PROT_WRITE 2, PROT_EXEC 4
abbrev pub readable : Rights
readable = record { 0 = 1 }

abbrev pub writable : Rights
writable = record { 0 = 2 }

abbrev pub executable : Rights
executable = record { 0 = 4 }

-- an access comes to a number, whichever areas are handed in
-- profile
abbrev pub LoadsNear : Rights → AddressSpace → (at width number : ℕ) → Type 0
LoadsNear right space at width number =
    (hand : List InHand) → loaded (byte_at right (record { space = space; hand = hand })) at width ≡ Value number
