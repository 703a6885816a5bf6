-- Bytes as an access sees them.
use Rattle.std.specs.Prelude.{ℕ, Option, Some, None}
use Rattle.rv_table.specs.Bytes.{Byte, Holds, Barred, InArea}
use Rattle.mm_space.specs.declared.seen.Seen.{Seen}
use Rattle.mm_space.specs.declared.seen.Seen.TheVariants as seen

-- a byte as an access has seen it
-- profile
abbrev pub seen_byte : Seen → Byte
seen_byte (seen.Value value) = Holds value
seen_byte seen.Barred = Barred
seen_byte (seen.InArea area) = InArea area

-- a byte that is there, or none
-- profile
abbrev pub as_byte : Option ℕ → Byte
as_byte None = Barred
as_byte (Some value) = Holds value
