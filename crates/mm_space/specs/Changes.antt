-- An address space after a range was mapped, unmapped or given other rights: reservations over the range are lost.
use Rattle.std.specs.Prelude.{ℕ, ◌*◌, ◌/◌}
use Rattle.rv_atomic.specs.Reservations.{outside_range}
use Rattle.mm_areas.specs.declared.rights.Rights.{Rights}
use Rattle.mm_areas.specs.declared.page.Backing.{Backing}
use Rattle.mm_areas.specs.Mappings.{Mapping, pages_in, mapped_at, unmapped_at, protected_in, after_brk}
use Rattle.mm_space.specs.Spaces.{AddressSpace}

-- another mapping, which has changed in so many bytes from an address on, in whole pages
-- mmap(2), munmap(2), mprotect(2); that reservations over the range are lost: profile
abbrev pub changed_in : AddressSpace → Mapping → (address length : ℕ) → AddressSpace
changed_in space after address length = record {
  mapping = after;
  reservations = outside_range space.reservations address (4096 * pages_in length);
}

abbrev pub mapped_in : AddressSpace → (address length : ℕ) → Rights → Backing → AddressSpace
mapped_in space address length rights backing =
    changed_in space (mapped_at space.mapping (address / 4096) length rights backing) address length

abbrev pub unmapped_in : AddressSpace → (address length : ℕ) → AddressSpace
unmapped_in space address length = changed_in space (unmapped_at space.mapping address length) address length

abbrev pub righted_in : AddressSpace → (address length : ℕ) → Rights → AddressSpace
righted_in space address length rights =
    changed_in space (protected_in space.mapping address length rights) address length

-- the break moved, where it may be put there; reservations stay
-- brk(2); that they stay: profile
abbrev pub broken_in : AddressSpace → ℕ → AddressSpace
broken_in space to = record { mapping = after_brk space.mapping to; reservations = space.reservations }
