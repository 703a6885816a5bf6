-- Bytes that are put over others.
use Rattle.std.specs.Prelude.{ℕ, ◌+◌, List, ◌++◌, length, take, drop}

-- bytes with a field put over those at an offset
-- memcpy(3)
unfoldable pub placed : (offset : ℕ) → (field bytes : List ℕ) → List ℕ
placed offset field bytes = take offset bytes ++ field ++ drop (offset + length field) bytes
