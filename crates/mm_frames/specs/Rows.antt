-- The instructions that a page's words are.
use Rattle.std.specs.Prelude.{◌≡◌, ◌⊎◌, ℕ, ◌+◌, ◌*◌, ◌<◌, ◌≤◌, List, length, map, slice_index_or}
use Rattle.std.specs.List.{range_with_len}
use Rattle.rv_table.specs.declared.instr.Instr.{Instr}
use Rattle.rv_table.specs.declared.instr.Instr.TheVariants as instr
use Rattle.rv_table.specs.Table.{instr_of}
use Rattle.mm_frames.specs.declared.row.Row.{Row}
use Rattle.mm_frames.specs.Numbers.{little_number_at}

-- the instructions that the 1,024 words of a page's bytes are, in order
-- RISC-V Unprivileged ISA 20191213, 1.5: instructions of four bytes, the lowest first
unfoldable pub decoded_row : List ℕ → List Instr
decoded_row bytes = map (λ k. instr_of (little_number_at bytes (4 * k) 4)) (range_with_len 0 1024)

-- the instructions that a row has
-- profile
abbrev pub words_of : Row → List Instr
words_of row = row.words.items

-- words are the instructions of a page's words, but for those in which so many bytes from an offset on lie
-- profile
abbrev pub AreRowOutside : List Instr → (bytes : List ℕ) → (offset count : ℕ) → Type 0
AreRowOutside words bytes offset count =
    (length words ≡ 1024)
    × ((k : ℕ) → k < 1024 → (4 * k + 4 ≤ offset) ⊎ (offset + count ≤ 4 * k)
    → slice_index_or words k instr.Illegal ≡ instr_of (little_number_at bytes (4 * k) 4))
