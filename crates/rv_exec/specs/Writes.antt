-- What instructions write beside registers, and memory after it.
use Rattle.std.specs.Prelude.{◌≡◌, ℕ, zero, suc, ◌/◌, ◌%◌, ◌^◌, ◌<◌, ◌==◌, ◌&&◌, Bool, true, false, List, [], ◌∷◌}
use Rattle.std.specs.Prelude.{if◌then◌else◌}
use Rattle.rv_table.specs.Bytes.{Byte, Holds, Barred, InArea, SeenMemory, behind}

-- what an instruction writes: so many of a number's bytes, the task's reservation, or the end of it, by a
-- store-conditional at an address
-- RISC-V Unprivileged ISA 20191213, 2.6, Load and Store Instructions; 8.2, Load-Reserved/Store-Conditional Instructions
pub data Write : Type 0 where
  Stores : (address width value : ℕ) → Write
  Reserves : (address width : ℕ) → Write
  Releases : (address : ℕ) → Write

-- a byte that holds another value: what may not be accessed stays so
-- RISC-V Unprivileged ISA 20191213, 1.4, Memory
abbrev pub with_value : Byte → ℕ → Byte
with_value (Holds old) value = Holds value
with_value Barred value = Barred
with_value (InArea area) value = InArea area

-- a byte after a store of a number's bytes, the lowest first, to so many addresses: the first of them that is an
-- address of the same byte of memory gives it its value. Two addresses are of one byte where memory is mapped twice
-- RISC-V Unprivileged ISA 20191213, 1.4: little-endian; 2.6, Load and Store Instructions; mmap(2), MAP_SHARED
unfoldable pub stored_byte : (is_same : (a b : ℕ) → Bool) → (at width value address : ℕ) → Byte → Byte
stored_byte is_same at zero value address byte = byte
stored_byte is_same at (suc n) value address byte =
    if is_same at address
    then with_value byte (value % 256)
    else stored_byte is_same (behind at) n (value / 256) address byte

-- memory after a store: the bytes, for each kind of access; a task's own stores keep its reservation
-- RISC-V Unprivileged ISA 20191213, 2.6 and 5.3, Load and Store Instructions; that own stores keep it: profile
pub record Stored (is_same : (a b : ℕ) → Bool) (at width value : ℕ) (before after : SeenMemory) : Type 0 where
  pub code : (address : ℕ) → address < 2 ^ 64
      → after.code address ≡ stored_byte is_same at width value address (before.code address)
  pub data_ : (address : ℕ) → address < 2 ^ 64
      → after.data_ address ≡ stored_byte is_same at width value address (before.data_ address)
  pub room : (address : ℕ) → address < 2 ^ 64
      → after.room address ≡ stored_byte is_same at width value address (before.room address)
  pub reserves : (address size : ℕ) → after.reserves address size ≡ before.reserves address size

-- memory after a task's reservation was made or ended: the bytes are as they were
-- RISC-V Unprivileged ISA 20191213, 8.2, Load-Reserved/Store-Conditional Instructions
pub record Reserving (reserves : (address width : ℕ) → Bool) (before after : SeenMemory) : Type 0 where
  pub code : after.code ≡ before.code
  pub data_ : after.data_ ≡ before.data_
  pub room : after.room ≡ before.room
  pub reserves_ : (address size : ℕ) → after.reserves address size ≡ reserves address size

-- memory after a write, where so much is told of which addresses are of one byte; a reservation is made of an address
-- that may be read
-- RISC-V Unprivileged ISA 20191213, 2.6, Load and Store Instructions; 8.2, Load-Reserved/Store-Conditional Instructions
abbrev pub IsAfter : (is_same : (a b : ℕ) → Bool) → Write → (before after : SeenMemory) → Type 0
IsAfter is_same (Stores at width value) before after = Stored is_same at width value before after
IsAfter is_same (Reserves at width) before after =
    (value : ℕ) → before.data_ at ≡ Holds value
    → Reserving (λ address size. (address == at) && (size == width)) before after
IsAfter is_same (Releases at) before after = Reserving (λ address size. false) before after

-- what a store-conditional writes, where it finds its reservation and where it doesn't
-- RISC-V Unprivileged ISA 20191213, 8.2, SC
abbrev pub conditional_writes : (held : Bool) → (address width value : ℕ) → List Write
conditional_writes true address width value = Releases address ∷ Stores address width value ∷ []
conditional_writes false address width value = Releases address ∷ []

-- what is told of memory after some writes, one after another, by what it is after each
-- RISC-V Unprivileged ISA 20191213, 1.4, Memory
abbrev pub all_after : {State : Type 0} → (Write → State → State) → List Write → State → State
all_after after [] state = state
all_after after (w ∷ ws) state = all_after after ws (after w state)
