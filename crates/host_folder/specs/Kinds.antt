-- The kinds of files that there are for us, and what a node tells of its file.
use Rattle.std.specs.Prelude.{⊤, ℕ, Bool, false, Option, Some, None, ◌≡◌}
use Rattle.std.specs.Fs.{file_type, IsDir, IsFile, IsSymlink}
use Rattle.std.specs.declared.fs.attrs.Metadata.{Metadata}
use Rattle.host_node.specs.declared.kind.Kind.{Kind}
use Rattle.host_node.specs.declared.kind.Kind.TheVariants.{Dir, File, Link}
use Rattle.host_node.specs.declared.kind.Attr.{Attr}

-- the kind that a file's type is
-- inode(7), The file type and mode
abbrev pub IsOfKind : Kind → Metadata → Type 0
IsOfKind Dir metadata = IsDir (file_type metadata)
IsOfKind File metadata = IsFile (file_type metadata)
IsOfKind Link metadata = IsSymlink (file_type metadata)

-- a file is a device, a socket or a pipe
-- inode(7), The file type and mode
pub record IsOfNoKind (metadata : Metadata) : Type 0 where
  pub no_directory : ¬ (IsDir (file_type metadata))
  pub no_file : ¬ (IsFile (file_type metadata))
  pub no_link : ¬ (IsSymlink (file_type metadata))

-- what a file is for us: of a kind, or hidden
-- inode(7), The file type and mode; that others are hidden: profile
abbrev pub IsKindOf : Metadata → Option Kind → Type 0
IsKindOf metadata (Some kind) = IsOfKind kind metadata
IsKindOf metadata None = IsOfNoKind metadata

-- what a node tells of its file: the permission bits are 0o755, or 0o777 of a link
-- stat(2), symlink(7); the bits: profile
abbrev pub attr_by : Kind → ℕ → Attr
attr_by Dir len = record { kind = Dir; mode = 0o755; size = 0 }
attr_by File len = record { kind = File; mode = 0o755; size = len }
attr_by Link len = record { kind = Link; mode = 0o777; size = len }

-- a node of this kind may be opened so: a file, or a directory that is not to be written
-- open(2), EISDIR and O_NOFOLLOW, ELOOP
abbrev pub CanOpenKind : Kind → Bool → Type 0
CanOpenKind Dir write = write ≡ false
CanOpenKind File write = ⊤
CanOpenKind Link write = ⊥
