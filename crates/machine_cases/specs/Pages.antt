-- The instructions of a page's words, by its bytes.
use Rattle.std.specs.Prelude.{ℕ, zero, suc, ◌+◌, ◌*◌, ◌^◌, nat_lt, Bool, true, false, ◌&&◌, List, [], ◌∷◌, ◌++◌, Option}
use Rattle.std.specs.Prelude.{Some, None, if◌then◌else◌}
use Rattle.rv_table.specs.declared.instr.Instr.{Instr}
use Rattle.rv_table.specs.declared.instr.Instr.TheVariants as instr
use Rattle.rv_table.specs.Bytes.{Accessed, Byte, Value, Fault, Shared, loaded}
use Rattle.rv_table.specs.Table.{instr_of}

-- the instruction that the word is which was read, if one was
-- RISC-V Unprivileged ISA 20191213, chapter 24, RV32/64G Instruction Set Listings
abbrev pub instr_read : Accessed → Instr
instr_read (Value word) = instr_of word
instr_read (Fault address) = instr.Illegal
instr_read (Shared area) = instr.Illegal

abbrev pub is_value : Accessed → Bool
is_value (Value word) = true
is_value (Fault address) = false
is_value (Shared area) = false

-- the instructions of so many words from an address on, and whether each of these words may be executed
-- RISC-V Unprivileged ISA 20191213, 1.5
unfoldable pub instrs_from : (code : ℕ → Byte) → (at count : ℕ) → List Instr
instrs_from code at zero = []
instrs_from code at (suc n) = instrs_from code at n ++ (instr_read (loaded code (at + 4 * n) 4) ∷ [])

unfoldable pub are_words : (code : ℕ → Byte) → (at count : ℕ) → Bool
are_words code at zero = true
are_words code at (suc n) = are_words code at n && is_value (loaded code (at + 4 * n) 4)

-- the instructions of a page, each word of which may be executed
-- getpagesize(2): 4,096 bytes
abbrev pub page_instrs : (code : ℕ → Byte) → (page : ℕ) → Option (List Instr)
page_instrs code page =
    if nat_lt page (2 ^ 52) && are_words code (4096 * page) 1024
    then Some (instrs_from code (4096 * page) 1024)
    else None
