-- The code of shared areas, by which proofs tell them apart.
use Rattle.std.specs.Prelude.{ℕ, List, refl}
use Rattle.std.specs.Coded.{Coded, code_by, coded×, coded_ℕ, coded_list}
use Rattle.rv_atomic.specs.declared.area_reservations.AreaReservation.{AreaReservation}
use Rattle.rv_atomic.specs.contracts.area_reservations.AreaReservation as of_reservation
use Rattle.mm_space.specs.Handed.{AreaState}

-- a shared area, as a tuple of its parts
-- profile
abbrev pub coded_area : Coded AreaState
coded_area =
    code_by (List (List ℕ) × List AreaReservation)
    (coded× (coded_list (coded_list coded_ℕ)) (coded_list of_reservation.the_row.coded))
    (λ a. (a.pages, a.reservations)) (λ p. record { pages = p.0; reservations = p.1 }) (λ _. refl)
