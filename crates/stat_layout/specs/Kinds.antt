-- The type of a node, as a mode and as an entry of a directory tell it.
use Rattle.std.specs.Prelude.{ℕ}
use Rattle.stat_layout.specs.declared.kind.FileKind.{FileKind}
use Rattle.stat_layout.specs.declared.kind.FileKind.TheVariants.{Directory, File, Link, Pipe, Console}

-- the type as bits of a mode
-- inode(7), S_IFMT: S_IFDIR 0040000, S_IFREG 0100000, S_IFLNK 0120000, S_IFIFO 0010000, S_IFCHR 0020000, all octal
abbrev pub type_bits : FileKind → ℕ
type_bits Directory = 0x4000
type_bits File = 0x8000
type_bits Link = 0xa000
type_bits Pipe = 0x1000
type_bits Console = 0x2000

-- the type as d_type
-- readdir(3), d_type; Linux's fs_types.h: DT_DIR, DT_REG, DT_LNK, DT_FIFO, DT_CHR
abbrev pub entry_type : FileKind → ℕ
entry_type Directory = 4
entry_type File = 8
entry_type Link = 10
entry_type Pipe = 1
entry_type Console = 2
