-- What a source holds and what was read of it, where that is told.
use Rattle.std.specs.Prelude.{◌≡◌, ℕ, ◌+◌, ◌≤◌, List, [], ◌++◌, length, take, drop, find, Option, Some, None, unwrap_or}
use Rattle.std.specs.Prelude.{option_map, IsSome, ⊤}
use Rattle.std.specs.Str.{bytes_eq}

-- A directory of files, and how far one of them was read.
-- open(2) and read(2), for one file at a time
pub record Shelf : Type 0 where
  -- each name's bytes with the content; the first of a name counts
  pub files : List (List ℕ × List ℕ)
  -- what is left of the file last opened, or nothing where none is
  pub rest : List ℕ
  -- how many reads there were so far
  pub reads : ℕ
  -- how many bytes they took so far
  pub taken : ℕ

-- The files, where they are told.
-- profile: what is told may be nothing
abbrev pub files_told : Option Shelf → Option (List (List ℕ × List ℕ))
files_told None = None
files_told (Some shelf) = Some shelf.files

-- How many reads there were, or 0 where that isn't told.
-- profile: what is told may be nothing
abbrev pub reads_told : Option Shelf → ℕ
reads_told None = 0
reads_told (Some shelf) = shelf.reads

-- How many bytes they took, or 0 where that isn't told.
-- profile: what is told may be nothing
abbrev pub taken_told : Option Shelf → ℕ
taken_told None = 0
taken_told (Some shelf) = shelf.taken

-- The content of the first file of that name.
-- open(2), NAME
abbrev pub content_at : List (List ℕ × List ℕ) → List ℕ → Option (List ℕ)
content_at files name = option_map (λ file. file.1) (find (λ file. bytes_eq file.0 name) files)

-- There is a file of that name, where files are told.
-- open(2), ENOENT
abbrev pub HasFile : Option Shelf → List ℕ → Type 0
HasFile None name = ⊤
HasFile (Some shelf) name = IsSome (content_at shelf.files name)

-- What is told once a file was opened: all of it is left.
-- open(2), DESCRIPTION
abbrev pub after_open : Option Shelf → List ℕ → Option Shelf
after_open None name = None
after_open (Some shelf) name = Some (record shelf { rest = unwrap_or (content_at shelf.files name) [] })

-- What is told once a read took n bytes from the front of what was left.
-- read(2), RETURN VALUE
abbrev pub left_after_read : Option Shelf → ℕ → Option Shelf
left_after_read None n = None
left_after_read (Some shelf) n =
    Some (record shelf { rest = drop n shelf.rest; reads = shelf.reads + 1; taken = shelf.taken + n })

-- What is told once a read gave an error: it counts as a read.
-- read(2), RETURN VALUE
abbrev pub after_failed_read : Option Shelf → Option Shelf
after_failed_read None = None
after_failed_read (Some shelf) = Some (record shelf { reads = shelf.reads + 1 })

-- A buffer got n bytes from the front of what was left, where that is told, and kept its own behind them.
-- read(2), DESCRIPTION
abbrev pub Gets : Option Shelf → ℕ → List ℕ → List ℕ → Type 0
Gets None n before now = ⊤
Gets (Some shelf) n before now = (n ≤ length shelf.rest) × (now ≡ take n shelf.rest ++ drop n before)

-- Nothing is left, where that is told.
-- read(2), RETURN VALUE, of zero
abbrev pub IsAtEnd : Option Shelf → Type 0
IsAtEnd None = ⊤
IsAtEnd (Some shelf) = shelf.rest ≡ []
