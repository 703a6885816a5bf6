-- What an access comes to, by its first byte that is barred, its first that lies in an area, and its number.
use Rattle.std.proofs.Common.{◌≡◌, ℕ, Option, Some, None, Ok, Err, refl, ap, sym, subst, ◌∙◌}
use Rattle.rv_table.specs.declared.error.Area.{Area}
use Rattle.rv_table.specs.declared.error.MemErr.TheVariants as refusals
use Rattle.rv_table.specs.Bytes.{Byte, Accessed, Value, Fault, Shared, first_barred, first_area, number_from, by_barred}
use Rattle.rv_table.specs.Bytes.{by_area, AllowsAs, loaded}

module _ (byte : ℕ → Byte) (at count : ℕ) where
  by_both : (barred : Option ℕ) (area : Option Area) → first_barred byte at count ≡ barred
      → first_area byte at count ≡ area
      → loaded byte at count ≡ by_barred barred (by_area area (number_from byte at count))
  unfolding loaded
  by_both barred area is_barred is_area =
      ap (λ (o : Option ℕ). by_barred o (by_area (first_area byte at count) (number_from byte at count))) is_barred
      ∙ ap (λ (o : Option Area). by_barred barred (by_area o (number_from byte at count))) is_area

  pub value_there : (value : ℕ) → first_barred byte at count ≡ None → first_area byte at count ≡ None
      → value ≡ number_from byte at count → loaded byte at count ≡ Value value
  value_there value free apart is = by_both None None free apart ∙ ap Value (sym is)

  pub fault_there : (address : ℕ) → first_barred byte at count ≡ Some address → loaded byte at count ≡ Fault address
  unfolding loaded
  fault_there address barred =
      ap (λ (o : Option ℕ). by_barred o (by_area (first_area byte at count) (number_from byte at count))) barred

  pub area_there : (area : Area) → first_barred byte at count ≡ None → first_area byte at count ≡ Some area
      → loaded byte at count ≡ Shared area
  area_there area free is = by_both None (Some area) free is

  -- what an access that only tests bytes, or stores, may answer
  pub room_there : first_barred byte at count ≡ None → first_area byte at count ≡ None
      → AllowsAs (loaded byte at count) (Ok tt)
  room_there free apart =
      subst (λ (accessed : Accessed). AllowsAs accessed (Ok tt))
      (sym (value_there (number_from byte at count) free apart refl)) tt

  pub no_room_there : (address : ℕ) → first_barred byte at count ≡ Some address
      → AllowsAs (loaded byte at count) (Err (refusals.Fault address))
  no_room_there address barred =
      subst (λ (accessed : Accessed). AllowsAs accessed (Err (refusals.Fault address)))
      (sym (fault_there address barred)) refl

  pub no_area_there : (area : Area) → first_barred byte at count ≡ None → first_area byte at count ≡ Some area
      → AllowsAs (loaded byte at count) (Err (refusals.Shared area))
  no_area_there area free is =
      subst (λ (accessed : Accessed). AllowsAs accessed (Err (refusals.Shared area)))
      (sym (area_there area free is)) refl
