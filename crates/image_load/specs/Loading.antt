-- The address space and the registers that a program begins with, and why it can't be loaded.
use Rattle.std.specs.Prelude.{ℕ, ◌+◌, ◌*◌, ◌<◌, ◌≤◌, max, List, [], ◌∷◌, replicate}
use Rattle.elf_image.specs.declared.image.Segment.{Segment}
use Rattle.elf_image.specs.Loadable.{Loadable}
use Rattle.mm_areas.specs.declared.places.TheConstants.{MOST_PAGES}
use Rattle.mm_areas.specs.Mappings.{pages_in}
use Rattle.mm_space.specs.Spaces.{AddressSpace, unreserved}
use Rattle.rv_table.specs.declared.registers.Regs.{Regs}
use Rattle.image_load.specs.declared.stack.Auxiliary.{Auxiliary}
use Rattle.image_load.specs.declared.stack.LoadErr.{LoadErr}
use Rattle.image_load.specs.declared.stack.LoadErr.TheVariants.{TooBig, Limit, Memory}
use Rattle.image_load.specs.Stacks.{ProgramStart, IsTooBig, AreShort, stack_pointer}
use Rattle.image_load.specs.Pages.{opening_pages, pages_mapped}

-- what the auxiliary vector tells of an image
-- getauxval(3), AT_PHDR, AT_PHNUM and AT_ENTRY
abbrev pub auxiliary_of : Loadable → Auxiliary
auxiliary_of image = record { headers = image.headers; header_count = image.header_count; entry = image.entry }

-- what a program of an image is started with
-- execve(2); getauxval(3)
abbrev pub start_of : Loadable → (args env : List (List ℕ)) → (random : List ℕ) → ProgramStart
start_of image args env random =
    record { args = args; env = env; random = random; auxiliary = auxiliary_of image }

-- the highest end of segments
-- ELF-64 Object File Format, p_vaddr and p_memsz
abbrev pub highest_end : List Segment → ℕ
highest_end [] = 0
highest_end (s ∷ ss) = max (s.address + s.size) (highest_end ss)

-- where the break begins: the first page boundary at or behind the highest end of a segment
-- brk(2): the first location behind the end of the uninitialized data segment; at a page's boundary: profile
unfoldable pub opening_break : Loadable → ℕ
opening_break image = 4096 * pages_in (highest_end image.segments)

-- the address space that a program begins with: its pages, the break at its start, and nothing reserved
-- execve(2); ELF-64 Object File Format, Program Loading; that nothing is reserved: profile
abbrev pub opening_space : Loadable → (args env : List (List ℕ)) → (random : List ℕ) → AddressSpace
opening_space image args env random =
    unreserved (record {
      pages = opening_pages image (start_of image args env random);
      start = opening_break image;
      program_break = opening_break image;
    })

-- the registers that a program begins with: at its entry, with the stack pointer in x2, the others 0
-- RISC-V ELF psABI, Integer Register Convention: sp is x2; that the others are 0: profile
abbrev pub opening_registers : Loadable → (args env : List (List ℕ)) → (random : List ℕ) → Regs
opening_registers image args env random =
    record { pc = image.entry; x = 0 ∷ 0 ∷ stack_pointer (start_of image args env random) ∷ replicate 29 0 }

-- what a refusal may tell of a program: that its strings are too big; that they aren't, but its pages are too many; or
-- want of memory where neither is so
-- execve(2), E2BIG and ENOMEM; order of the errors: profile
abbrev pub IsLoadFaultOf : Loadable → (args env : List (List ℕ)) → LoadErr → Type 0
IsLoadFaultOf image args env TooBig = IsTooBig args env
IsLoadFaultOf image args env Limit = AreShort args env × (MOST_PAGES < pages_mapped image)
IsLoadFaultOf image args env Memory = AreShort args env × (pages_mapped image ≤ MOST_PAGES)
