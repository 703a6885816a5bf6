-- Numbers and runs of bytes that lie one byte after another.
use Rattle.std.specs.Prelude.{ℕ, zero, suc, ◌+◌, ◌*◌, ◌/◌, ◌%◌, ◌≤◌, List, ◌++◌, length, take, drop, slice_index}
use Rattle.std.specs.Prelude.{slice_set}
use Rattle.rv_table.specs.Words.{IsWidth}

-- the number of so many bytes from an offset on, the lowest first
-- RISC-V Unprivileged ISA 20191213, 1.4: little-endian
abbrev pub little_number_at : List ℕ → (offset width : ℕ) → ℕ
little_number_at bytes offset zero = 0
little_number_at bytes offset (suc n) = slice_index bytes offset + 256 * little_number_at bytes (offset + 1) n

-- an access of that width lies in a page from an offset on
-- RISC-V Unprivileged ISA 20191213, 2.6 and 5.3, Load and Store Instructions; pages of 4 KiB: profile
abbrev pub IsInPage : (offset width : ℕ) → Type 0
IsInPage offset width = IsWidth width × (offset + width ≤ 4096)

-- bytes with so many of a number's bytes put in from an offset on, the lowest first
-- RISC-V Unprivileged ISA 20191213, 1.4: little-endian
unfoldable pub with_number : List ℕ → (offset width value : ℕ) → List ℕ
with_number bytes offset zero value = bytes
with_number bytes offset (suc n) value = slice_set (with_number bytes (offset + 1) n (value / 256)) offset (value % 256)

-- bytes with others put in from an offset on
-- read(2), pread(2): what a call puts into its buffer
abbrev pub with_run : List ℕ → (offset : ℕ) → List ℕ → List ℕ
with_run bytes offset run = take offset bytes ++ run ++ drop (offset + length run) bytes
