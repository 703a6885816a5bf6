-- A state that has the shared areas of what is mapped, and all of its areas in hand.
use Rattle.std.specs.Prelude.{◌≡◌, ℕ, ◌<◌, Bool, true, false, List, Option, Some, None, IsSome}
use Rattle.std.specs.FinMap as map
use Rattle.rv_table.specs.declared.error.Area.{Area}
use Rattle.rv_table.specs.Bytes.{Accessed, Value, Fault, Shared}
use Rattle.mm_frames.specs.Frames.{byte_of_pages}
use Rattle.mm_areas.specs.Pages.{Mapped, PageOf}
use Rattle.mm_space.specs.Handed.{AreaState, InHand, area_in}
use Rattle.mm_space.specs.Spaces.{AddressSpace}
use Rattle.kernel_model.specs.declared.kernel.Part.TheVariants.{OfArea}
use Rattle.kernel_model.specs.entries.Parts.{Parts}

-- an area that is there has all bytes of a page
-- mmap(2), MAP_SHARED
abbrev pub HasPage : (number : ℕ) → Option AreaState → Type 0
HasPage number None = ⊥
HasPage number (Some area) = (offset : ℕ) → offset < 4096 → IsSome (byte_of_pages area.pages number offset)

-- of each page that is mapped, where it is one of an area, the state has that area with that page
-- mmap(2), MAP_SHARED
abbrev pub HasAreas : Parts → AddressSpace → Type 0
HasAreas s space =
    (page number : ℕ) (m : Mapped) (name : Area) → map.get space.mapping.pages page ≡ Some m → m.held ≡ PageOf name number
    → HasPage number (s (OfArea name))

-- these are all areas of a state, each as the state has it, and there is no other
-- profile
abbrev pub AreAll : Parts → List InHand → Type 0
AreAll s all = (name : Area) → area_in name all ≡ s (OfArea name)

-- an access comes to a number
-- profile
abbrev pub is_value : Accessed → Bool
is_value (Value number) = true
is_value (Fault address) = false
is_value (Shared area) = false
