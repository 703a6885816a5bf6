-- Places of addresses, and the right to what lies there.
use Rattle.std.specs.Prelude.{◌≡◌, ℕ, ◌+◌, ◌-◌, ◌%◌, ◌^◌, ◌<◌, nat_eq, Bool, true, false, not, ◌&&◌, nat_lt, List, Option}
use Rattle.std.specs.Prelude.{slice_index, if◌then◌else◌}
use Rattle.std.specs.Option.{option_map_or}
use Rattle.std.proofs.Common.{refl}
use Rattle.std.proofs.lemmas.Bool.{eq-eqb}
use Rattle.rv_table.specs.declared.error.Area.{Area}
use Rattle.machine_cases.specs.declared.bytes.Right.{Right}
use Rattle.machine_cases.specs.declared.bytes.Right.TheVariants as rights
use Rattle.rv_table.specs.Bytes.{Byte, Barred, Holds, InArea}

-- how far an address lies behind another, going round at 2^64
-- RISC-V Unprivileged ISA 20191213, 1.4, Memory
abbrev pub distance : (from to : ℕ) → ℕ
distance from to = (to + (2 ^ 64 - from % 2 ^ 64)) % 2 ^ 64

-- the byte at an address, where so many lie from another address on, which hold what they hold or all lie in an area
-- mmap(2)
abbrev pub in_stretch : (from count : ℕ) → (area : Option Area) → (bytes : List ℕ) → (address : ℕ) → Byte
in_stretch from count area bytes address =
    if nat_lt address (2 ^ 64) && nat_lt (distance from address) count
    then option_map_or InArea area (Holds (slice_index bytes (distance from address)))
    else Barred

-- whether there is a right to the byte at an address
-- mmap(2), PROT_EXEC, PROT_READ, PROT_WRITE
abbrev pub allows : Right → (address : ℕ) → Bool
allows rights.Each address = true
allows rights.Nothing address = false
allows (rights.But lacking) address = not (nat_eq lacking address)
allows (rights.Word first) address = nat_lt (distance first address) 4

-- bytes, as far as there is a right to them
-- the same
abbrev pub reached : Right → (ℕ → Byte) → ℕ → Byte
reached right byte address = if allows right address then byte address else Barred

-- an address is of its own byte
-- RISC-V Unprivileged ISA 20191213, 1.4, Memory
pub itself : (address : ℕ) → address < 2 ^ 64 → nat_eq address address ≡ true
itself address below = eq-eqb address address refl
