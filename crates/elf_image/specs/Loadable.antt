-- What an executable image is seen as.
use Rattle.std.specs.Prelude.{◌≡◌, ℕ, ◌+◌, ◌-◌, ◌/◌, ◌%◌, ◌^◌, ◌<◌, ◌≤◌, List, length, All, Any, IsTrue, sum_by}
use Rattle.elf_image.specs.declared.header.TheConstants.{MOST_HEADERS}
use Rattle.elf_image.specs.declared.image.Segment.{Segment}

-- where the image starts, its loadable segments in the file's order, and where in memory the table of its program
-- headers stands, of how many headers
-- ELF-64 Object File Format, e_entry, PT_LOAD; e_phoff, e_phnum
pub record Loadable : Type 0 where
  pub entry : ℕ
  pub segments : List Segment
  pub headers : ℕ
  pub header_count : ℕ

-- the number of the first page of a segment
-- getpagesize(2): 4,096 bytes
abbrev pub first_page : Segment → ℕ
first_page segment = segment.address / 4096

-- how many pages a segment meets
-- getpagesize(2): 4,096 bytes
abbrev pub page_count : Segment → ℕ
page_count segment = (segment.address + segment.size - 1) / 4096 + 1 - first_page segment

-- where a segment lies, and how much of it the file has
-- ELF-64 Object File Format, p_vaddr, p_memsz, p_filesz; addresses from 4,096 to 2^37: profile
pub record IsPlaced (segment : Segment) : Type 0 where
  -- it has a byte
  pub some : 0 < segment.size
  -- the file has no more of it than it has bytes
  pub held : length segment.bytes ≤ segment.size
  -- it lies where programs may
  pub above : 4096 ≤ segment.address
  pub below : segment.address + segment.size ≤ 2 ^ 37

-- the segments are those of an image: few, each placed, and with 64 pages of stack fewer than 2^64 pages
-- ELF-64 Object File Format, Program Loading; getrlimit(2), RLIMIT_STACK; the numbers: profile
pub record AreLoadable (segments : List Segment) : Type 0 where
  pub few : length segments ≤ MOST_HEADERS
  pub placed : All IsPlaced segments
  pub pages : sum_by page_count segments + 64 < 2 ^ 64

-- an address is in a segment
-- ELF-64 Object File Format, p_vaddr, p_memsz
abbrev pub IsInSegment : ℕ → Segment → Type 0
IsInSegment address segment = (segment.address ≤ address) × (address < segment.address + segment.size)

-- two segments have no address in common
-- ELF-64 Object File Format, Program Loading
abbrev pub AreApart : Segment → Segment → Type 0
AreApart s t = (address : ℕ) → IsInSegment address s → IsInSegment address t → ⊥

-- the image starts at an instruction's place, in a segment that may be executed
-- ELF-64 Object File Format, e_entry, PF_X; RISC-V Unprivileged ISA 20191213, Base Instruction-Length Encoding
pub record StartsInCode (image : Loadable) : Type 0 where
  pub aligned : image.entry % 4 ≡ 0
  pub there : Any (λ segment. IsInSegment image.entry segment × IsTrue segment.rights.execute) image.segments
