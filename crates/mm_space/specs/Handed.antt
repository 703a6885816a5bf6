-- Shared areas, and those that are handed in with an access.
use Rattle.std.specs.Prelude.{ℕ, List, [], ◌∷◌, map, replicate, Option, Some, None, if◌then◌else◌}
use Rattle.rv_table.specs.Areas.{is_area}
use Rattle.rv_table.specs.declared.error.Area.{Area}
use Rattle.rv_atomic.specs.declared.area_reservations.AreaReservation.{AreaReservation}
use Rattle.mm_frames.specs.Frames.{bytes_of_frames}
use Rattle.mm_space.specs.declared.handed.SharedArea.{SharedArea}
use Rattle.mm_space.specs.declared.handed.HandedArea.{HandedArea}
use Rattle.mm_space.specs.declared.handed.Handed.{Handed}

-- a shared area: the bytes of its pages, one behind another, and what tasks have reserved in it
-- mmap(2), MAP_SHARED and MAP_ANONYMOUS; that an area has such a list: profile
pub record AreaState : Type 0 where
  pub pages : List (List ℕ)
  pub reservations : List AreaReservation

abbrev pub area_state : SharedArea → AreaState
area_state area = record { pages = bytes_of_frames area.frames; reservations = area.reservations }

-- an area of so many pages that nobody has written, in which nothing is reserved
-- mmap(2), MAP_SHARED and MAP_ANONYMOUS
abbrev pub zero_area : (count : ℕ) → AreaState
zero_area count = record { pages = replicate count (replicate 4096 0); reservations = [] }

-- a shared area that is handed in, under its name
-- profile
pub record InHand : Type 0 where
  pub name : Area
  pub state : AreaState

abbrev pub in_hand : HandedArea → InHand
in_hand handed = record { name = handed.name; state = area_state handed.area }

abbrev pub hand_of : Handed → List InHand
hand_of handed = map in_hand handed.areas.items

-- the area of a name among those handed in
-- profile
abbrev pub area_in : Area → List InHand → Option AreaState
area_in name [] = None
area_in name (h ∷ hs) = if is_area h.name name then Some h.state else area_in name hs
