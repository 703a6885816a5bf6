-- Bytes after a store.
use Rattle.std.proofs.Common.{◌≡◌, ℕ, zero, suc, ◌+◌, ◌/◌, ◌%◌, ◌^◌, ◌<◌, Bool, true, false, List, Option, Some}
use Rattle.std.proofs.Common.{None, length, refl, ap, sym, ◌∙◌, arith}
use Rattle.std.specs.Prelude.{nat_eq, nat_lt, ◌&&◌, slice_index, if◌then◌else◌}
use Rattle.std.specs.Option.{option_map_or}
use Rattle.std.proofs.Math.Path.{fun_ext}
use Rattle.std.proofs.lemmas.Bool.{and_parts, ltb-true}
use Rattle.rv_table.specs.declared.error.Area.{Area}
use Rattle.rv_table.specs.Bytes.{Byte, Barred, Holds, InArea, SeenMemory, behind}
use Rattle.rv_exec.specs.Writes.{Stores, stored_byte}
use Rattle.machine_cases.specs.declared.bytes.Right.{Right}
use Rattle.machine_cases.specs.MemoryAfter.{memory_after}
use Rattle.machine_cases.specs.Places.{allows, distance, in_stretch, reached}

-- ---- what may not be accessed stays so

either_same : (test : Bool) (x y : Byte) → x ≡ y → (if test then y else x) ≡ y
either_same true x y h = refl
either_same false x y h = h

pub stored_barred : (at width value address : ℕ) → stored_byte nat_eq at width value address Barred ≡ Barred
unfolding stored_byte
stored_barred at zero value address = refl
stored_barred at (suc n) value address =
    either_same (nat_eq at address) (stored_byte nat_eq (behind at) n (value / 256) address Barred) Barred
    (stored_barred (behind at) n (value / 256) address)

pub stored_area : (area : Area) (at width value address : ℕ)
    → stored_byte nat_eq at width value address (InArea area) ≡ InArea area
unfolding stored_byte
stored_area area at zero value address = refl
stored_area area at (suc n) value address =
    either_same (nat_eq at address) (stored_byte nat_eq (behind at) n (value / 256) address (InArea area)) (InArea area)
    (stored_area area (behind at) n (value / 256) address)

-- ---- bytes of a stretch

byte_of_stretch : (test : Bool) (area : Option Area) (old new at width value address : ℕ)
    → (test ≡ true → Holds new ≡ stored_byte nat_eq at width value address (Holds old))
    → (if test then option_map_or InArea area (Holds new) else Barred)
    ≡ stored_byte nat_eq at width value address (if test then option_map_or InArea area (Holds old) else Barred)
byte_of_stretch true None old new at width value address h = h refl
byte_of_stretch true (Some area) old new at width value address h = sym (stored_area area at width value address)
byte_of_stretch false area old new at width value address h = sym (stored_barred at width value address)

behind_from : (from address : ℕ) → address < 2 ^ 64 → (from + distance from address) % 2 ^ 64 ≡ address
behind_from from address low = omega arith

pub stored_stretch : (from count : ℕ) (area : Option Area) (old new : List ℕ) (at width value : ℕ) → length old ≡ count
    → ((k : ℕ) → k < length old
    → Holds (slice_index new k) ≡ stored_byte nat_eq at width value ((from + k) % 2 ^ 64)
    (Holds (slice_index old k)))
    → in_stretch from count area new
    ≡ (λ address. stored_byte nat_eq at width value address (in_stretch from count area old address))
stored_stretch from count area old new at width value long h = fun_ext λ address.
    byte_of_stretch (nat_lt address (2 ^ 64) && nat_lt (distance from address) count) area
    (slice_index old (distance from address)) (slice_index new (distance from address)) at width value address
    (λ inside.
    let parts = and_parts (nat_lt address (2 ^ 64)) (nat_lt (distance from address) count) inside in
    h (distance from address) (rw long (ltb-true (distance from address) count parts.1))
    ∙ ap (λ to. stored_byte nat_eq at width value to (Holds (slice_index old (distance from address))))
    (behind_from from address (ltb-true address (2 ^ 64) parts.0)))

-- ---- bytes as far as there is a right to them

either_stored : (test : Bool) (before after : Byte) (at width value address : ℕ)
    → after ≡ stored_byte nat_eq at width value address before
    → (if test then after else Barred) ≡ stored_byte nat_eq at width value address (if test then before else Barred)
either_stored true before after at width value address h = h
either_stored false before after at width value address h = sym (stored_barred at width value address)

stored_reached : (at width value : ℕ) (right : Right) (before after : ℕ → Byte)
    → after ≡ (λ address. stored_byte nat_eq at width value address (before address))
    → reached right after
    ≡ (λ address. stored_byte nat_eq at width value address (reached right before address))
stored_reached at width value right before after h = fun_ext λ address.
    either_stored (allows right address) (before address) (after address) at width value address
    (ap (λ (f : ℕ → Byte). f address) h)

-- memory after a store, where the bytes to be executed and those to be read and written are those after it
pub stored_told : (at width value : ℕ) (to_execute to_read to_write : Right)
    (code_before code_after data_before data_after : ℕ → Byte) (reserves : (address width : ℕ) → Bool) →
    code_after ≡ (λ address. stored_byte nat_eq at width value address (code_before address)) →
    data_after ≡ (λ address. stored_byte nat_eq at width value address (data_before address)) →
    (let m : SeenMemory = record {
      code = reached to_execute code_after;
      data_ = reached to_read data_after;
      room = reached to_write data_after;
      reserves = reserves;
    } in m) ≡ memory_after nat_eq (Stores at width value) (record {
      code = reached to_execute code_before;
      data_ = reached to_read data_before;
      room = reached to_write data_before;
      reserves = reserves;
    })
stored_told at width value to_execute to_read to_write code_before code_after data_before data_after reserves c d =
    λ i. record {
      code = stored_reached at width value to_execute code_before code_after c i;
      data_ = stored_reached at width value to_read data_before data_after d i;
      room = stored_reached at width value to_write data_before data_after d i;
      reserves = reserves;
    }
