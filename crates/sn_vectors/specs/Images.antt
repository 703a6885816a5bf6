-- Files of programs: an ELF header, one program header, and the words of the program.
use Rattle.std.specs.Prelude.{ℕ, ◌+◌, ◌*◌, List, [], ◌∷◌, ◌++◌, length}
use Rattle.std.specs.Int.{bytes_low_first}

-- a number in so many bytes, the lowest first
-- ELF-64 Object File Format, Data Representation, ELFDATA2LSB
abbrev pub number : ℕ → ℕ → List ℕ
number width n = bytes_low_first 0 width n

-- the words of a program, each in four bytes, the lowest first
-- RISC-V Unprivileged ISA 20191213, 1.5, Base Instruction-Length Encoding
abbrev pub code : List ℕ → List ℕ
code [] = []
code (word ∷ words) = number 4 word ++ code words

-- a class of 64 bits, the lowest byte first, version 1, for the system of no name, and nine bytes of zero
-- ELF-64 Object File Format, File Header, e_ident
abbrev pub identification : List ℕ
identification =
    0x7f ∷ 0x45 ∷ 0x4c ∷ 0x46 ∷ 2 ∷ 1 ∷ 1 ∷ 0 ∷ 0 ∷ 0 ∷ 0 ∷ 0 ∷ 0 ∷ 0 ∷ 0 ∷ 0 ∷ []

-- e_type ET_EXEC, e_machine EM_RISCV, e_version, e_entry behind the headers, e_phoff, e_shoff, e_flags, e_ehsize,
-- e_phentsize, e_phnum, e_shentsize, e_shnum, e_shstrndx
-- ELF-64 Object File Format, File Header; RISC-V ELF psABI, File Header
abbrev pub file_header_bytes : List ℕ
file_header_bytes =
    identification ++ number 2 2 ++ number 2 243 ++ number 4 1 ++
    number 8 (65536 + 120) ++ number 8 64 ++ number 8 0 ++ number 4 0 ++
    number 2 64 ++ number 2 56 ++ number 2 1 ++ number 2 0 ++ number 2 0 ++ number 2 0

-- p_type PT_LOAD, p_flags PF_R and PF_X, p_offset, p_vaddr, p_paddr, p_filesz, p_memsz, p_align: a file of that size
-- is loaded whole at 65,536
-- ELF-64 Object File Format, Program Header
abbrev pub program_header_bytes : ℕ → List ℕ
program_header_bytes size =
    number 4 1 ++ number 4 5 ++ number 8 0 ++ number 8 65536 ++ number 8 65536 ++ number 8 size ++ number 8 size ++
    number 8 4096

-- the file of a program: headers and words, and nothing else
-- ELF-64 Object File Format, Overview of an ELF file
abbrev pub image : List ℕ → List ℕ
image words = file_header_bytes ++ program_header_bytes (120 + 4 * length words) ++ code words
