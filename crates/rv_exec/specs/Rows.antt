-- The instructions of a page's words, decoded.
use Rattle.std.specs.Prelude.{◌≡◌, ℕ, ◌+◌, ◌*◌, ◌<◌, List, length, slice_index_or}
use Rattle.rv_table.specs.declared.instr.Instr.{Instr}
use Rattle.rv_table.specs.declared.instr.Instr.TheVariants as instr
use Rattle.rv_table.specs.Bytes.{Accessed, Byte, Value, loaded}
use Rattle.rv_table.specs.Table.{instr_of}

-- an instruction is that of the four bytes at an address, each of which may be executed
-- RISC-V Unprivileged ISA 20191213, 1.5
abbrev pub IsOfWord : Accessed → Instr → Type 0
IsOfWord (Value word) told = told ≡ instr_of word
IsOfWord _ told = ⊥

-- instructions are those of a page's 1,024 words
-- RISC-V Unprivileged ISA 20191213, 1.5; getpagesize(2): 4,096 bytes
pub record AreOfPage (code : ℕ → Byte) (page : ℕ) (instrs : List Instr) : Type 0 where
  pub whole : length instrs ≡ 1024
  pub each : (k : ℕ) → k < 1024
      → IsOfWord (loaded code (4096 * page + 4 * k) 4) (slice_index_or instrs k instr.Illegal)
