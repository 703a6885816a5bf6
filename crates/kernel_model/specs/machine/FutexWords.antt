-- Futex words: their names, by what they lie in, and their values.
use Rattle.std.specs.Prelude.{ℕ, Option, Some, None}
use Rattle.futex_core.specs.declared.keys.FutexKey.{FutexKey}
use Rattle.futex_core.specs.declared.keys.Owner.TheVariants.{Memory, Area}
use Rattle.mm_space.specs.declared.area_bytes.AreaByte.{AreaByte}
use Rattle.mm_space.specs.AreaBytes.{area_byte_at}
use Rattle.mm_space.specs.Spaces.{AddressSpace}
use Rattle.sn_base.specs.declared.made.Made.{Made}

-- the name of the word at an address of a memory: by its place in the shared area that lies there, or else by its
-- address there
-- futex(2), DESCRIPTION: words in shared memory, and in one process's own; what they are named by: profile
abbrev pub key_of : (memory : Made) → (address : ℕ) → Option AreaByte → FutexKey
key_of memory address None = record { owner = Memory memory.place memory.index; address = address }
key_of memory address (Some byte) = record { owner = Area byte.name.place byte.name.index; address = byte.offset }

abbrev pub key_at : (memory : Made) → AddressSpace → (address : ℕ) → FutexKey
key_at memory space address = key_of memory address (area_byte_at space address)
