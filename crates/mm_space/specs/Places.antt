-- Where a shared area stands among those handed in, and which of its pages have their bytes for themselves.
use Rattle.std.specs.Prelude.{◌≡◌, ℕ, zero, suc, Bool, true, ◌&&◌, List, [], ◌∷◌, Option, Some, None, option_map}
use Rattle.std.specs.Prelude.{if◌then◌else◌, slice_get, unwrap_or}
use Rattle.std.specs.FinMap as map
use Rattle.rv_table.specs.Areas.{is_area}
use Rattle.rv_table.specs.declared.error.Area.{Area}
use Rattle.rv_table.specs.Bytes.{behind}
use Rattle.mm_frames.specs.declared.frames.Frames.{Frames}
use Rattle.mm_frames.specs.Frames.{owned_of}
use Rattle.mm_areas.specs.declared.page.SharedPage.{SharedPage}
use Rattle.mm_areas.specs.Mappings.{mapping}
use Rattle.mm_areas.specs.Own.{owns}
use Rattle.mm_areas.specs.Pages.{Held, Bytes, PageOf, Mapped}
use Rattle.mm_space.specs.declared.handed.HandedArea.{HandedArea}
use Rattle.mm_space.specs.declared.handed.Handed.{Handed}
use Rattle.mm_space.specs.declared.space.Space.{Space}
use Rattle.mm_space.specs.Accesses.{page_number}

-- the place of the first area of a name
-- profile
abbrev pub place_of : Area → List HandedArea → Option ℕ
place_of name [] = None
place_of name (h ∷ hs) = if is_area h.name name then Some 0 else option_map suc (place_of name hs)

-- whether a page has its bytes for itself: of one that isn't there nothing is wanted
-- fork(2), NOTES: copy-on-write pages
abbrev pub page_owned : Frames → ℕ → Bool
page_owned frames number = unwrap_or (slice_get (owned_of frames) number) true

abbrev pub owned_in : Area → ℕ → List HandedArea → Bool
owned_in name number [] = true
owned_in name number (h ∷ hs) =
    if is_area h.name name then page_owned h.area.frames number else owned_in name number hs

-- whether a page of an area that is handed in has its bytes for itself
-- profile
abbrev pub owns_shared : Handed → Area → ℕ → Bool
owns_shared handed name number = owned_in name number handed.areas.items

-- whether the page at an address has its bytes for itself, so that a store to it takes no memory: the address space's
-- own, or the area's own; of a page that isn't mapped nothing is wanted
-- fork(2), NOTES: copy-on-write pages
abbrev pub is_ready_held : Space → Handed → (page : ℕ) → Held → Bool
is_ready_held space handed page (Bytes bytes) = owns space.areas page
is_ready_held space handed page (PageOf name number) = owns_shared handed name number

abbrev pub is_ready_mapped : Space → Handed → (page : ℕ) → Option Mapped → Bool
is_ready_mapped space handed page None = true
is_ready_mapped space handed page (Some m) = is_ready_held space handed page m.held

abbrev pub is_ready_at : Space → Handed → (address : ℕ) → Bool
is_ready_at space handed address =
    is_ready_mapped space handed (page_number address) (map.get (mapping space.areas).pages (page_number address))

-- whether a store of so many bytes from an address on is sure to take no memory
-- fork(2), NOTES: copy-on-write pages
unfoldable pub takes_no_memory : Space → Handed → (at count : ℕ) → Bool
takes_no_memory space handed at zero = true
takes_no_memory space handed at (suc n) = is_ready_at space handed at && takes_no_memory space handed (behind at) n

-- the page of a shared area that a page of the address space is
-- mmap(2), MAP_SHARED
abbrev pub shared_held : Held → Option SharedPage
shared_held (Bytes bytes) = None
shared_held (PageOf name number) = Some (record { area = name; number = number })

abbrev pub shared_at : Option Mapped → Option SharedPage
shared_at None = None
shared_at (Some m) = shared_held m.held

-- the shared area that a page lies in
-- mmap(2), MAP_SHARED
abbrev pub area_of_page : Option Mapped → Option Area
area_of_page found = option_map (λ page. page.area) (shared_at found)

-- an address space and areas in hand of which the same pages have bytes for themselves as of others
-- profile
abbrev pub AreAsReady : (space other : Space) → (handed others : Handed) → Type 0
AreAsReady space other handed others =
    (address : ℕ) → is_ready_at other others address ≡ is_ready_at space handed address
