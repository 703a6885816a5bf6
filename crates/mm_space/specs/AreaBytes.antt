-- Bytes of shared areas: what a futex word in shared memory is known by.
use Rattle.std.specs.Prelude.{ℕ, ◌+◌, ◌*◌, ◌%◌, ◌^◌, Option, Some, None}
use Rattle.std.specs.FinMap as map
use Rattle.mm_areas.specs.Pages.{Held, Bytes, PageOf, Mapped}
use Rattle.mm_space.specs.Accesses.{page_number, page_offset}
use Rattle.mm_space.specs.Spaces.{AddressSpace}
use Rattle.mm_space.specs.declared.area_bytes.AreaByte.{AreaByte}

-- the byte of a shared area at an offset of a page, counted from the area's first byte; none where a page is private
-- futex(2), DESCRIPTION: a futex word in memory that processes share; that the count goes round at 2^64: profile
abbrev pub held_at : (offset : ℕ) → Held → Option AreaByte
held_at offset (Bytes bytes) = None
held_at offset (PageOf name number) = Some (record { name = name; offset = (4096 * number + offset) % 2 ^ 64 })

-- the same of a page that may not be mapped
-- mmap(2), MAP_SHARED
abbrev pub area_byte_if_mapped : (offset : ℕ) → Option Mapped → Option AreaByte
area_byte_if_mapped offset None = None
area_byte_if_mapped offset (Some m) = held_at offset m.held

-- the byte of a shared area that lies at an address, whatever rights its page has
-- futex(2), DESCRIPTION: one futex word may have different addresses in different processes
abbrev pub area_byte_at : AddressSpace → (address : ℕ) → Option AreaByte
area_byte_at space address =
    area_byte_if_mapped (page_offset address) (map.get space.mapping.pages (page_number address))
