-- The bytes of a ring: slots of which some are in use, from one on, and past the last slot from the first on.
use Rattle.std.specs.Prelude.{ℕ, ◌+◌, ◌%◌, List, ◌++◌, take, drop, slice_index}
use Rattle.pipe_core.specs.declared.ring.TheConstants.{CAPACITY}

-- the slots in the order in which they are gone round from one of them on
-- profile
abbrev pub slots_from : (start : ℕ) → List ℕ → List ℕ
slots_from start slots = drop start slots ++ take start slots

-- so many bytes from a slot on, going round
-- profile
abbrev pub bytes_on_ring : (start count : ℕ) → List ℕ → List ℕ
bytes_on_ring start count slots = take count (slots_from start slots)

-- the byte so many slots on from one, going round
-- profile
abbrev pub byte_on_ring : (start i : ℕ) → List ℕ → ℕ
byte_on_ring start i slots = slice_index slots ((start + i) % CAPACITY)
