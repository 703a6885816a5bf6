-- An address space: what is mapped, the break, and what its tasks have reserved.
use Rattle.std.specs.Prelude.{List, []}
use Rattle.rv_atomic.specs.declared.reservations.Reservation.{Reservation}
use Rattle.mm_areas.specs.Mappings.{Mapping, mapping}
use Rattle.mm_space.specs.Handed.{InHand, hand_of}
use Rattle.mm_space.specs.declared.handed.Handed.{Handed}
use Rattle.mm_space.specs.declared.space.Space.{Space}

-- an address space
-- mmap(2), brk(2); RISC-V Unprivileged ISA 20191213, 8.2, Load-Reserved/Store-Conditional Instructions
pub record AddressSpace : Type 0 where
  pub mapping : Mapping
  pub reservations : List Reservation

abbrev pub space_of : Space → AddressSpace
space_of space = record { mapping = mapping space.areas; reservations = space.reservations }

-- what is mapped, with nothing reserved in it
-- execve(2), fork(2); that no reservation outlives them: profile
abbrev pub unreserved : Mapping → AddressSpace
unreserved m = record { mapping = m; reservations = [] }

-- what an access reaches: an address space, and the shared areas that are handed in
-- profile
pub record Reach : Type 0 where
  pub space : AddressSpace
  pub hand : List InHand

abbrev pub reach : Space → Handed → Reach
reach space handed = record { space = space_of space; hand = hand_of handed }
