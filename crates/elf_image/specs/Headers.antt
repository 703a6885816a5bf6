-- The headers of an ELF file, as they stand in its bytes.
use Rattle.std.specs.Prelude.{ℕ, ◌+◌, ◌*◌, List, map, Bool, ◌==◌, ◌&&◌, nat_lt}
use Rattle.std.specs.List.{range_with_len}
use Rattle.sn_bytes.specs.Fields.{field}
use Rattle.elf_image.specs.declared.header.FileHeader.{FileHeader}
use Rattle.elf_image.specs.declared.header.ProgramHeader.{ProgramHeader}
use Rattle.elf_image.specs.declared.header.TheConstants.{PROGRAM_HEADER_SIZE}

-- what stands in the file's own header
-- ELF-64 Object File Format, File Header
unfoldable pub file_header : List ℕ → FileHeader
file_header bytes = record {
  e_type = field 2 16 bytes;
  e_machine = field 2 18 bytes;
  e_entry = field 8 24 bytes;
  e_phoff = field 8 32 bytes;
  e_flags = field 4 48 bytes;
  e_phentsize = field 2 54 bytes;
  e_phnum = field 2 56 bytes;
}

-- the program header at an offset
-- ELF-64 Object File Format, Program Header Table
unfoldable pub program_header : List ℕ → ℕ → ProgramHeader
program_header bytes offset = record {
  p_type = field 4 offset bytes;
  p_flags = field 4 (offset + 4) bytes;
  p_offset = field 8 (offset + 8) bytes;
  p_vaddr = field 8 (offset + 16) bytes;
  p_filesz = field 8 (offset + 32) bytes;
  p_memsz = field 8 (offset + 40) bytes;
}

-- so many program headers of the table at an offset, from the one with a number on
-- ELF-64 Object File Format, Program Header Table
abbrev pub headers_from : List ℕ → ℕ → ℕ → ℕ → List ProgramHeader
headers_from bytes offset first count =
    map (λ k. program_header bytes (offset + PROGRAM_HEADER_SIZE * k)) (range_with_len first count)

-- the program headers, in the file's order
-- ELF-64 Object File Format, e_phoff, e_phnum
unfoldable pub program_headers : List ℕ → List ProgramHeader
program_headers bytes = headers_from bytes (file_header bytes).e_phoff 0 (file_header bytes).e_phnum

-- the header is of a loadable segment
-- ELF-64 Object File Format, PT_LOAD
abbrev pub is_load : ProgramHeader → Bool
is_load header = header.p_type == 1

-- the header names an interpreter
-- ELF-64 Object File Format, PT_INTERP
abbrev pub is_interpreter : ProgramHeader → Bool
is_interpreter header = header.p_type == 3

-- the header is of a loadable segment that has a byte of memory
-- ELF-64 Object File Format, PT_LOAD, p_memsz
abbrev pub is_loaded : ProgramHeader → Bool
is_loaded header = is_load header && nat_lt 0 header.p_memsz
