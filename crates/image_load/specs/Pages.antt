-- The pages that a program begins with: those that its image's segments meet, and those of its stack.
use Rattle.std.specs.Prelude.{ℕ, ◌+◌, ◌-◌, ◌*◌, ◌^◌, List, [], ◌∷◌, length, map, slice_index, Bool, true, false}
use Rattle.std.specs.Prelude.{if◌then◌else◌}
use Rattle.std.specs.List.{list_any, range_with_len}
use Rattle.std.specs.FinMap as fin
use Rattle.elf_image.specs.declared.image.SegmentRights.{SegmentRights as ImageRights}
use Rattle.elf_image.specs.declared.image.Segment.{Segment}
use Rattle.elf_image.specs.Loadable.{Loadable, first_page, page_count}
use Rattle.mm_areas.specs.Rights.{rights_with}
use Rattle.mm_areas.specs.Pages.{Mapped, Pages, is_within, laid}
use Rattle.mm_areas.specs.Pages.Held.{Bytes}
use Rattle.image_load.specs.PageRights.{joined, page_rights}
use Rattle.image_load.specs.Stacks.{ProgramStart, stack_bytes, stack_pointer}

-- ---- bytes by their addresses

-- the byte at an address: that of the bytes which stand from one address on, where they reach, and another elsewhere
-- memcpy(3)
abbrev pub byte_over : (first : ℕ) → List ℕ → (address other : ℕ) → ℕ
byte_over first bytes address other =
    if is_within first (length bytes) address then slice_index bytes (address - first) else other

-- the byte of an image at an address: what the file has there of a segment, and 0 elsewhere
-- ELF-64 Object File Format, p_filesz and p_memsz
abbrev pub image_byte : List Segment → (address : ℕ) → ℕ
image_byte [] address = 0
image_byte (s ∷ ss) address = byte_over s.address s.bytes address (image_byte ss address)

-- the byte of a stack at an address: what stands there from the stack pointer up, and 0 below
-- execve(2); mmap(2), MAP_ANONYMOUS: the bytes are zeros
abbrev pub stack_byte : (sp : ℕ) → List ℕ → (address : ℕ) → ℕ
stack_byte sp bytes address = byte_over sp bytes address 0

-- what a function tells of so many numbers, one after another, from the first on
-- profile
unfoldable pub run_of : {A : Type 0} → (ℕ → A) → (first count : ℕ) → List A
run_of tells first count = map tells (range_with_len first count)

-- the bytes of a page by its number, of which each is told by its address
-- getpagesize(2): 4,096 bytes
abbrev pub page_bytes : (ℕ → ℕ) → (page : ℕ) → List ℕ
page_bytes byte page = run_of byte (4096 * page) 4096

-- ---- pages by their numbers

-- a segment meets a page
-- ELF-64 Object File Format, p_vaddr and p_memsz; getpagesize(2)
abbrev pub is_met : Segment → (page : ℕ) → Bool
is_met segment page = is_within (first_page segment) (page_count segment) page

-- one of these segments meets a page
-- ELF-64 Object File Format, p_vaddr and p_memsz; getpagesize(2)
abbrev pub is_met_by : List Segment → (page : ℕ) → Bool
is_met_by segments page = list_any (λ segment. is_met segment page) segments

-- what the segments that meet a page want of it, all together
-- ELF-64 Object File Format, p_flags; that a page has the rights of each: profile
abbrev pub rights_at : List Segment → (page : ℕ) → ImageRights
rights_at [] page = record { read = false; write = false; execute = false }
rights_at (s ∷ ss) page = if is_met s page then joined s.rights (rights_at ss page) else rights_at ss page

-- a page of an image
-- ELF-64 Object File Format, Program Loading
abbrev pub image_page : List Segment → (page : ℕ) → Mapped
image_page segments page =
    record { rights = page_rights (rights_at segments page); held = Bytes (page_bytes (image_byte segments) page) }

-- a page of the stack, to be read and written
-- execve(2); System V ABI, Process Initialization
abbrev pub stack_page : (sp : ℕ) → List ℕ → (page : ℕ) → Mapped
stack_page sp bytes page =
    record { rights = rights_with true true false; held = Bytes (page_bytes (stack_byte sp bytes) page) }

-- ---- the pages of an address space

-- the pages that segments meet, each as it is in an image of all segments
-- ELF-64 Object File Format, Program Loading
abbrev pub segments_laid : (all segments : List Segment) → Pages
segments_laid all [] = fin.empty
segments_laid all (s ∷ ss) =
    laid (first_page s) (run_of (image_page all) (first_page s) (page_count s)) (segments_laid all ss)

-- the pages of an image
-- ELF-64 Object File Format, Program Loading
abbrev pub image_pages : Loadable → Pages
image_pages image = segments_laid image.segments image.segments

-- how many pages the stack has, which end at 2^38
-- getrlimit(2), RLIMIT_STACK; 64, and the place: profile
abbrev pub stack_count : ℕ
stack_count = 64

-- the first of them
-- profile
abbrev pub stack_first : ℕ
stack_first = 2 ^ 26 - stack_count

-- the pages that a program begins with: its image's, and its stack's
-- execve(2)
unfoldable pub opening_pages : Loadable → ProgramStart → Pages
opening_pages image start =
    let pages = run_of (stack_page (stack_pointer start) (stack_bytes start)) stack_first stack_count in
    laid stack_first pages (image_pages image)

-- how many pages a program begins with: those of its image, each of them once, and those of its stack
-- getrlimit(2), RLIMIT_AS and RLIMIT_STACK
unfoldable pub pages_mapped : Loadable → ℕ
pages_mapped image = fin.len (image_pages image) + stack_count
