-- The code of address spaces, by which proofs tell them apart.
use Rattle.std.specs.Prelude.{◌≡◌, ◌⊎◌, ℕ, List, refl}
use Rattle.std.proofs.Common.{inl, inr}
use Rattle.std.specs.Coded.{Coded, code_by, coded×, coded⊎, coded_ℕ, coded_list}
use Rattle.std.specs.Ordering.{nat_cmp}
use Rattle.std.specs.FinMap.{FinMap, code}
use Rattle.rv_table.specs.declared.error.Area.{Area}
use Rattle.rv_table.specs.contracts.error.Area as of_area
use Rattle.rv_atomic.specs.declared.reservations.Reservation.{Reservation}
use Rattle.rv_atomic.specs.contracts.reservations.Reservation as of_reservation
use Rattle.mm_areas.specs.declared.rights.Rights.{Rights}
use Rattle.mm_areas.specs.contracts.rights.Rights as of_rights
use Rattle.mm_areas.specs.Mappings.{Mapping}
use Rattle.mm_areas.specs.Pages.{Held, Bytes, PageOf, Mapped}
use Rattle.mm_space.specs.Spaces.{AddressSpace}

-- where a page's bytes are, as one of two
-- profile
abbrev pub parted : Held → List ℕ ⊎ (Area × ℕ)
parted (Bytes bytes) = inl bytes
parted (PageOf area number) = inr (area, number)

abbrev pub joined_held : List ℕ ⊎ (Area × ℕ) → Held
joined_held (inl bytes) = Bytes bytes
joined_held (inr page) = PageOf page.0 page.1

pub joined_parted : (held : Held) → joined_held (parted held) ≡ held
joined_parted (Bytes bytes) = refl
joined_parted (PageOf area number) = refl

abbrev pub coded_held : Coded Held
coded_held =
    code_by (List ℕ ⊎ (Area × ℕ)) (coded⊎ (coded_list coded_ℕ) (coded× of_area.the_row.coded coded_ℕ))
    parted joined_held joined_parted

-- an address space, as a tuple of its parts
-- profile
abbrev pub coded_page : Coded Mapped
coded_page =
    code_by (Rights × Held) (coded× of_rights.the_row.coded coded_held) (λ m. (m.rights, m.held))
    (λ p. record { rights = p.0; held = p.1 }) (λ _. refl)

abbrev pub coded_mapping : Coded Mapping
coded_mapping =
    code_by (FinMap nat_cmp Mapped × (ℕ × ℕ)) (coded× (code coded_ℕ coded_page) (coded× coded_ℕ coded_ℕ))
    (λ m. (m.pages, (m.start, m.program_break)))
    (λ p. record { pages = p.0; start = p.1.0; program_break = p.1.1 }) (λ _. refl)

abbrev pub coded_space : Coded AddressSpace
coded_space =
    code_by (Mapping × List Reservation) (coded× coded_mapping (coded_list of_reservation.the_row.coded))
    (λ s. (s.mapping, s.reservations)) (λ p. record { mapping = p.0; reservations = p.1 }) (λ _. refl)
