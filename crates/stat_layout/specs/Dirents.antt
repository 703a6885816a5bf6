-- What a call tells of an entry of a directory: struct linux_dirent64, byte by byte.
use Rattle.std.specs.Prelude.{◌≡◌, ℕ, ◌+◌, ◌-◌, ◌*◌, ◌/◌, List, ◌++◌, length, replicate, slice_get, slice_range, Some}
use Rattle.sn_bytes.specs.Fields.{field, little_bytes}
use Rattle.stat_layout.specs.declared.kind.FileKind.{FileKind}
use Rattle.stat_layout.specs.Kinds.{entry_type}

-- an entry of a directory: its node's number and type, its name, and the position of the entry behind it
-- getdents64(2), struct linux_dirent64
pub record DirEntry : Type 0 where
  pub ino : ℕ
  pub next : ℕ
  pub kind : FileKind
  pub name : List ℕ

-- how many bytes the record of a name takes: 19 before the name, the name, its NUL, and up to a multiple of 8
-- getdents64(2), d_reclen; Linux's fs/readdir.c, filldir64
abbrev pub dirent_length : (name_length : ℕ) → ℕ
dirent_length name_length = (19 + name_length + 1 + 7) / 8 * 8

-- the bytes that tell of an entry, a field a line, in the order of the struct
-- getdents64(2), struct linux_dirent64; zeros to the end: profile
unfoldable pub dirent_record : DirEntry → List ℕ
dirent_record entry =
    let reclen = dirent_length (length entry.name) in
    little_bytes 8 entry.ino  -- d_ino, at 0
    ++ little_bytes 8 entry.next  -- d_off, at 8
    ++ little_bytes 2 reclen  -- d_reclen, at 16
    ++ little_bytes 1 (entry_type entry.kind)  -- d_type, at 18
    ++ entry.name  -- d_name, at 19
    ++ replicate (reclen - 19 - length entry.name) 0  -- its NUL, and zeros to the end

-- what a program finds that reads the fields where the struct has them
-- getdents64(2), struct linux_dirent64
pub record HasDirentFields (entry : DirEntry) (bytes : List ℕ) : Type 0 where
  pub d_ino : field 8 0 bytes ≡ entry.ino
  pub d_off : field 8 8 bytes ≡ entry.next
  -- the next record begins where this one ends
  pub d_reclen : field 2 16 bytes ≡ length bytes
  pub d_type : field 1 18 bytes ≡ entry_type entry.kind
  pub d_name : slice_range bytes 19 (19 + length entry.name) ≡ entry.name
  -- the name's NUL
  pub ends : slice_get bytes (19 + length entry.name) ≡ Some 0
