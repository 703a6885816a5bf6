-- Numbers in bytes, the lowest byte first.
use Rattle.std.specs.Prelude.{ℕ, zero, suc, ◌+◌, ◌*◌, ◌/◌, ◌%◌, nat_le, List, [], ◌∷◌, length, slice_range, Option}
use Rattle.std.specs.Prelude.{Some, None, if◌then◌else◌}

-- bytes as a number, the lowest first
-- ELF-64 Object File Format, ELFDATA2LSB
abbrev pub little : List ℕ → ℕ
little [] = 0
little (b ∷ bs) = b + 256 * little bs

-- the number in so many bytes at a place
-- ELF-64 Object File Format, Data Representation
abbrev pub field : ℕ → ℕ → List ℕ → ℕ
field width at bytes = little (slice_range bytes at (at + width))

-- the same where those bytes are inside, else None
-- ELF-64 Object File Format, Data Representation; None past the end: profile
abbrev pub field_at : ℕ → ℕ → List ℕ → Option ℕ
field_at width at bytes = if nat_le (at + width) (length bytes) then Some (field width at bytes) else None

-- the lowest so many bytes of a number, the lowest first
-- ELF-64 Object File Format, ELFDATA2LSB
unfoldable pub little_bytes : ℕ → ℕ → List ℕ
little_bytes zero n = []
little_bytes (suc width) n = n % 256 ∷ little_bytes width (n / 256)
