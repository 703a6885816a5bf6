-- The image that a file is.
use Rattle.std.specs.Prelude.{ℕ, ◌+◌, ◌-◌, ◌*◌, ◌/◌, ◌%◌, List, [], ◌∷◌, map, filter, slice_range, Bool, ◌==◌, ◌&&◌}
use Rattle.std.specs.Prelude.{nat_le, if◌then◌else◌}
use Rattle.elf_image.specs.declared.header.FileHeader.{FileHeader}
use Rattle.elf_image.specs.declared.header.ProgramHeader.{ProgramHeader}
use Rattle.elf_image.specs.declared.header.TheConstants.{PROGRAM_HEADER_SIZE}
use Rattle.elf_image.specs.declared.image.Image.{Image}
use Rattle.elf_image.specs.declared.image.SegmentRights.{SegmentRights}
use Rattle.elf_image.specs.declared.image.Segment.{Segment}
use Rattle.elf_image.specs.Headers.{file_header, program_headers, is_load, is_loaded}

-- the rights of a segment
-- ELF-64 Object File Format, PF_X 1, PF_W 2, PF_R 4
abbrev pub rights_of : ℕ → SegmentRights
rights_of flags = record { read = flags / 4 % 2 == 1; write = flags / 2 % 2 == 1; execute = flags % 2 == 1 }

-- the segment of a program header
-- ELF-64 Object File Format, Program Header Table
abbrev pub segment_of : List ℕ → ProgramHeader → Segment
segment_of bytes header = record {
  address = header.p_vaddr;
  size = header.p_memsz;
  bytes = slice_range bytes header.p_offset (header.p_offset + header.p_filesz);
  rights = rights_of header.p_flags;
}

-- the segments to load, in the file's order
-- ELF-64 Object File Format, PT_LOAD
abbrev pub segments_of : List ℕ → List ProgramHeader → List Segment
segments_of bytes headers = map (segment_of bytes) (filter is_loaded headers)

-- what a loadable segment has of the file holds the whole program header table
-- ELF-64 Object File Format, PT_LOAD, p_offset, p_filesz; e_phoff, e_phnum
abbrev pub holds_table : FileHeader → ProgramHeader → Bool
holds_table file header =
    is_load header && nat_le header.p_offset file.e_phoff
    && nat_le (file.e_phoff + PROGRAM_HEADER_SIZE * file.e_phnum) (header.p_offset + header.p_filesz)

-- where a segment has the byte at an offset of the file
-- ELF-64 Object File Format, p_offset, p_vaddr
abbrev pub address_of_offset : ProgramHeader → (offset : ℕ) → ℕ
address_of_offset header offset = header.p_vaddr + (offset - header.p_offset)

-- where the program header table stands in memory: in the first segment that holds all of it, or 0 where none does
-- getauxval(3), AT_PHDR; ELF-64 Object File Format, e_phoff; the first, and 0: profile
abbrev pub headers_in_memory : FileHeader → List ProgramHeader → ℕ
headers_in_memory file [] = 0
headers_in_memory file (h ∷ hs) =
    if holds_table file h then address_of_offset h file.e_phoff else headers_in_memory file hs

-- the image that a file without a fault is
-- ELF-64 Object File Format, Program Loading
unfoldable pub image_in : List ℕ → Image
image_in bytes = record {
  entry = (file_header bytes).e_entry;
  segments = segments_of bytes (program_headers bytes);
  headers = headers_in_memory (file_header bytes) (program_headers bytes);
  header_count = (file_header bytes).e_phnum;
}
