-- What a task's instructions reach, as memory: its address space, and the shared areas that are handed in.
use Rattle.std.specs.Prelude.{ℕ, ◌^◌, ◌%◌, ◌==◌, ◌&&◌, nat_lt, Bool, false, List, length, Option, Some, None}
use Rattle.std.specs.Prelude.{if◌then◌else◌}
use Rattle.std.specs.FinMap as map
use Rattle.rv_table.specs.Areas.{is_area}
use Rattle.rv_table.specs.declared.instr.Instr.{Instr}
use Rattle.rv_table.specs.Bytes.{SeenMemory}
use Rattle.rv_exec.specs.Writes.{Write, Stores, Reserves, Releases}
use Rattle.mm_areas.specs.Contents.{bytes_at}
use Rattle.mm_areas.specs.DecodedWords.{row_at}
use Rattle.mm_areas.specs.Hints.{allows_at}
use Rattle.mm_areas.specs.Pages.{Held, Bytes, PageOf, Mapped, Pages}
use Rattle.mm_space.specs.Accesses.{byte_at, executable, page_number, page_offset, readable, writable}
use Rattle.mm_space.specs.Puts.{after_stored}
use Rattle.mm_space.specs.Reserves.{after_reserved, after_taken, is_held_at}
use Rattle.mm_space.specs.Spaces.{Reach}

-- a task, and what its accesses reach
-- profile
pub record Acting : Type 0 where
  pub task : ℕ
  pub reach : Reach

abbrev pub acting_on : ℕ → Reach → Acting
acting_on task reach = record { task = task; reach = reach }

-- what it reaches, as its instructions use it
-- RISC-V Unprivileged ISA 20191213, 1.4, Memory; 8.2, Load-Reserved/Store-Conditional Instructions
abbrev pub memory_of : Acting → SeenMemory
memory_of a = record {
  code = byte_at executable a.reach;
  data_ = byte_at readable a.reach;
  room = byte_at writable a.reach;
  reserves = λ address width. is_held_at a.task address width a.reach;
}

-- what it reaches after one of its instructions has written
-- RISC-V Unprivileged ISA 20191213, 2.6, Load and Store Instructions; 8.2, Load-Reserved/Store-Conditional Instructions
abbrev pub acting_after_write : Write → Acting → Acting
acting_after_write (Stores at width value) a = acting_on a.task (after_stored a.task at width value a.reach)
acting_after_write (Reserves at width) a = acting_on a.task (after_reserved a.task at width a.reach)
acting_after_write (Releases at) a = acting_on a.task (after_taken a.task at a.reach)

-- whether two addresses are of one byte: the same address, or the same byte of a shared area that is mapped twice
-- mmap(2), MAP_SHARED; RISC-V Unprivileged ISA 20191213, 1.4: addresses go round at 2^64
abbrev pub is_same_held : (a b : ℕ) → Held → Held → Bool
is_same_held a b (PageOf name number) (PageOf other place) =
    is_area name other && ((number == place) && (page_offset a == page_offset b))
is_same_held a b (PageOf name number) (Bytes bytes) = (a % 2 ^ 64) == (b % 2 ^ 64)
is_same_held a b (Bytes bytes) held = (a % 2 ^ 64) == (b % 2 ^ 64)

abbrev pub is_same_mapped : (a b : ℕ) → Option Mapped → Option Mapped → Bool
is_same_mapped a b (Some m) (Some n) = is_same_held a b m.held n.held
is_same_mapped a b (Some m) None = (a % 2 ^ 64) == (b % 2 ^ 64)
is_same_mapped a b None n = (a % 2 ^ 64) == (b % 2 ^ 64)

abbrev pub is_same : Acting → (a b : ℕ) → Bool
is_same acting a b =
    is_same_mapped a b
    (map.get acting.reach.space.mapping.pages (page_number a))
    (map.get acting.reach.space.mapping.pages (page_number b))

-- whether bytes are a whole page's: those of a private page always are
-- getpagesize(2): 4,096 bytes
abbrev pub is_whole_page : Option (List ℕ) → Bool
is_whole_page None = false
is_whole_page (Some bytes) = length bytes == 4096

-- whether a page is a private one that may be executed
-- mmap(2), MAP_PRIVATE and PROT_EXEC
abbrev pub has_instrs : Pages → (page : ℕ) → Bool
has_instrs pages page = nat_lt page (2 ^ 52) && (allows_at pages page executable && is_whole_page (bytes_at pages page))

-- the instructions of such a page's words
-- RISC-V Unprivileged ISA 20191213, 1.5
abbrev pub instrs_of : Acting → (page : ℕ) → Option (List Instr)
instrs_of a page =
    if has_instrs a.reach.space.mapping.pages page then row_at a.reach.space.mapping.pages page else None
