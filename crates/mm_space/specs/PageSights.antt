-- Pages as an access sees them: what each byte is, by where the page's bytes are.
use Rattle.std.specs.Prelude.{⊤, ◌≡◌, ℕ, ◌+◌, List, length, replicate, slice_get, slice_range, Option, Some, None}
use Rattle.rv_table.specs.declared.error.Area.{Area}
use Rattle.rv_table.specs.Bytes.{Byte, Barred, InArea}
use Rattle.mm_space.specs.Sight.{as_byte}
use Rattle.mm_space.specs.declared.page_sight.PageSight.{PageSight}
use Rattle.mm_space.specs.declared.page_sight.PageSight.TheVariants as sights

-- the byte at an offset of a page, as an access has seen the page
-- profile
abbrev pub sight_byte : PageSight → (offset : ℕ) → Byte
sight_byte sights.Barred offset = Barred
sight_byte (sights.InArea area) offset = InArea area
sight_byte (sights.Bytes bytes) offset = as_byte (slice_get bytes.now offset)

-- the bytes of a page are a whole page's
-- getpagesize(2): 4,096 bytes
abbrev pub IsWhole : PageSight → Type 0
IsWhole sights.Barred = ⊤
IsWhole (sights.InArea area) = ⊤
IsWhole (sights.Bytes bytes) = length bytes.now ≡ 4096

-- the area that a page lies in, where that isn't handed in
-- profile
abbrev pub sight_area : PageSight → Option Area
sight_area sights.Barred = None
sight_area (sights.InArea area) = Some area
sight_area (sights.Bytes bytes) = None

-- so many bytes of a page from an offset on, and 0 for each that may not be accessed
-- profile
abbrev pub sight_bytes : PageSight → (offset count : ℕ) → List ℕ
sight_bytes sights.Barred offset count = replicate count 0
sight_bytes (sights.InArea area) offset count = replicate count 0
sight_bytes (sights.Bytes bytes) offset count = slice_range bytes.now offset (offset + count)
