-- Why bytes are no image. `fault_rows` has them in the order in which they are told.
use Rattle.std.specs.Prelude.{◌≡◌, ℕ, ◌+◌, ◌*◌, ◌%◌, ◌^◌, min, max, nat_le, nat_lt, List, [], ◌∷◌, ◌++◌, length, map}
use Rattle.std.specs.Prelude.{filter, slice_range, Bool, not, ◌==◌, ◌&&◌, ◌||◌, Option, Some, None, if◌then◌else◌}
use Rattle.std.specs.List.{list_any}
use Rattle.std.specs.Str.{bytes_eq}
use Rattle.elf_image.specs.declared.fault.ImageFault.{ImageFault}
use Rattle.elf_image.specs.declared.fault.ImageFault.TheVariants.{Short, Magic, Class, Machine, Kind, Flags, Headers}
use Rattle.elf_image.specs.declared.fault.ImageFault.TheVariants.{Interp, Range, Overlap, Entry, Memory}
use Rattle.elf_image.specs.declared.header.FileHeader.{FileHeader}
use Rattle.elf_image.specs.declared.header.ProgramHeader.{ProgramHeader}
use Rattle.elf_image.specs.declared.header.TheConstants.{FILE_HEADER_SIZE, MOST_HEADERS, PROGRAM_HEADER_SIZE}
use Rattle.elf_image.specs.Headers.{file_header, program_headers, is_interpreter, is_load, is_loaded}

-- there is no room for the file's own header
-- ELF-64 Object File Format, File Header
abbrev pub is_short : List ℕ → Bool
is_short bytes = nat_lt (length bytes) FILE_HEADER_SIZE

-- the file doesn't begin with 7f and 'ELF'
-- ELF-64 Object File Format, ELF Identification, EI_MAG0 to EI_MAG3
abbrev pub has_other_magic : List ℕ → Bool
has_other_magic bytes = not (bytes_eq (slice_range bytes 0 4) (127 ∷ 69 ∷ 76 ∷ 70 ∷ []))

-- the file isn't one of 64 bits, little-endian, version 1
-- ELF-64 Object File Format, ELF Identification, ELFCLASS64, ELFDATA2LSB, EV_CURRENT
abbrev pub has_other_class : List ℕ → Bool
has_other_class bytes = not (bytes_eq (slice_range bytes 4 7) (2 ∷ 1 ∷ 1 ∷ []))

-- the file isn't for RISC-V
-- RISC-V ELF psABI, File Header: EM_RISCV is 243
abbrev pub has_other_machine : FileHeader → Bool
has_other_machine file = not (file.e_machine == 243)

-- the file isn't an executable with fixed addresses
-- ELF-64 Object File Format, e_type, ET_EXEC
abbrev pub has_other_kind : FileHeader → Bool
has_other_kind file = not (file.e_type == 2)

-- the file wants compressed instructions, registers for floating point, or the small register file
-- RISC-V ELF psABI, File Header, e_flags: EF_RISCV_RVC 1, EF_RISCV_FLOAT_ABI 6, EF_RISCV_RVE 8; others pass: profile
abbrev pub has_other_flags : FileHeader → Bool
has_other_flags file = not (file.e_flags % 16 == 0)

-- the program header table has headers of another size, none, more than a file may have, or isn't inside the file
-- ELF-64 Object File Format, e_phentsize, e_phnum, e_phoff; how many: profile
abbrev pub has_no_table : ℕ → FileHeader → Bool
has_no_table size file =
    not (file.e_phentsize == PROGRAM_HEADER_SIZE) || (file.e_phnum == 0) || nat_lt MOST_HEADERS file.e_phnum
    || nat_lt size (file.e_phoff + PROGRAM_HEADER_SIZE * file.e_phnum)

-- the file wants an interpreter
-- ELF-64 Object File Format, PT_INTERP
abbrev pub has_interpreter : List ProgramHeader → Bool
has_interpreter headers = list_any is_interpreter headers

-- a loadable segment has more bytes of the file than of memory, isn't inside the file, or isn't where programs may lie
-- ELF-64 Object File Format, p_filesz, p_memsz, p_offset, p_vaddr; addresses from 4,096 to 2^37: profile
abbrev pub is_misplaced : ℕ → ProgramHeader → Bool
is_misplaced size header =
    is_load header
    && (nat_lt header.p_memsz header.p_filesz || nat_lt size (header.p_offset + header.p_filesz)
    || nat_lt header.p_vaddr 4096 || nat_lt (2 ^ 37) (header.p_vaddr + header.p_memsz))

-- there is nothing to load, or a loadable segment is misplaced in a file of this size
-- ELF-64 Object File Format, PT_LOAD; something to load: profile
abbrev pub has_misplaced : ℕ → List ProgramHeader → Bool
has_misplaced size headers = not (list_any is_loaded headers) || list_any (is_misplaced size) headers

-- the pairs of a list's items, each item with each that comes later
-- profile
abbrev pub pairs : {A : Type 0} → List A → List (A × A)
pairs [] = []
pairs (x ∷ xs) = map (λ y. (x, y)) xs ++ pairs xs

-- two segments have an address in common
-- ELF-64 Object File Format, p_vaddr, p_memsz
abbrev pub meet : ProgramHeader × ProgramHeader → Bool
meet p = nat_lt (max p.0.p_vaddr p.1.p_vaddr) (min (p.0.p_vaddr + p.0.p_memsz) (p.1.p_vaddr + p.1.p_memsz))

-- two loadable segments have an address in common
-- ELF-64 Object File Format, PT_LOAD; refused: profile
unfoldable pub has_overlap : List ProgramHeader → Bool
has_overlap headers = list_any meet (pairs (filter is_load headers))

-- an address is in a loadable segment that may be executed
-- ELF-64 Object File Format, PT_LOAD, PF_X
abbrev pub is_executed : ℕ → ProgramHeader → Bool
is_executed address header =
    is_load header && (header.p_flags % 2 == 1) && nat_le header.p_vaddr address
    && nat_lt address (header.p_vaddr + header.p_memsz)

-- no instruction can stand where the program starts
-- ELF-64 Object File Format, e_entry; RISC-V Unprivileged ISA 20191213, Base Instruction-Length Encoding: 4 bytes each
abbrev pub has_no_entry : ℕ → List ProgramHeader → Bool
has_no_entry entry headers = not (list_any (is_executed entry) headers) || not (entry % 4 == 0)

-- the fault of the first row that holds
-- profile
abbrev pub first_fault : List (Bool × ImageFault) → Option ImageFault
first_fault [] = None
first_fault (row ∷ rows) = if row.0 then Some row.1 else first_fault rows

-- what may be wrong with the bytes, in order: a row is whether it is so, and the fault that tells it
-- ELF-64 Object File Format; RISC-V ELF psABI; order of the faults: profile
abbrev pub fault_rows : List ℕ → List (Bool × ImageFault)
fault_rows bytes =
    let size = length bytes in
    let file = file_header bytes in
    let headers = program_headers bytes in
    (is_short bytes, Short)
    ∷ (has_other_magic bytes, Magic)
    ∷ (has_other_class bytes, Class)
    ∷ (has_other_machine file, Machine)
    ∷ (has_other_kind file, Kind)
    ∷ (has_other_flags file, Flags)
    ∷ (has_no_table size file, Headers)
    ∷ (has_interpreter headers, Interp)
    ∷ (has_misplaced size headers, Range)
    ∷ (has_overlap headers, Overlap)
    ∷ (has_no_entry file.e_entry headers, Entry)
    ∷ []

-- the first fault of bytes that are no image, or None for an image
-- ELF-64 Object File Format; RISC-V ELF psABI; order of the faults: profile
unfoldable pub image_fault : List ℕ → Option ImageFault
image_fault bytes = first_fault (fault_rows bytes)

-- what a refusal may tell of these bytes: their first fault, or want of memory where they are an image
-- malloc(3), ENOMEM; order of the faults: profile
abbrev pub IsImageFaultOf : List ℕ → ImageFault → Type 0
IsImageFaultOf bytes Memory = image_fault bytes ≡ None
IsImageFaultOf bytes fault = image_fault bytes ≡ Some fault
