-- Reads one after another, and the whole of a file.
use Rattle.std.specs.Prelude.{◌≡◌, ℕ, ◌+◌, ◌-◌, ◌≤◌, List, [], ◌++◌, length, take, drop, Option, Some, None, unwrap_or}
use Rattle.std.specs.Prelude.{⊤}
use Rattle.sn_edge.specs.Shelf.{Shelf, files_told, reads_told, taken_told, content_at}

-- What is told once a number of reads took n bytes together.
-- read(2), RETURN VALUE
abbrev pub after_reads : Option Shelf → ℕ → ℕ → Option Shelf
after_reads None n reads = None
after_reads (Some shelf) n reads =
    Some (record shelf { rest = drop n shelf.rest; reads = shelf.reads + reads; taken = shelf.taken + n })

-- The bytes are the first n of the file of that name, or all where it has fewer, where files are told.
-- profile: a file is read from its front, up to a limit
abbrev pub IsFrontOfFile : Option Shelf → List ℕ → ℕ → List ℕ → Type 0
IsFrontOfFile None name n bytes = ⊤
IsFrontOfFile (Some shelf) name n bytes = bytes ≡ take n (unwrap_or (content_at shelf.files name) [])

-- A list of bytes got n more from the front of what was left, where that is told.
-- read(2), DESCRIPTION
abbrev pub Gains : Option Shelf → ℕ → List ℕ → List ℕ → Type 0
Gains None n before now = ⊤
Gains (Some shelf) n before now = (n ≤ length shelf.rest) × (now ≡ before ++ take n shelf.rest)

-- n bytes were taken, in at most one read more than bytes.
-- profile: each read but the last takes a byte
abbrev pub TakesInFew : Option Shelf → Option Shelf → ℕ → Type 0
TakesInFew before now n = (reads : ℕ) × (reads ≤ n + 1) × (now ≡ after_reads before n reads)

-- From one moment to the other the files stay, at most so many bytes were taken, and in at most one read more
-- than bytes, where that is told.
-- profile: each read but the last takes a byte
pub record ReadsWithin (before now : Option Shelf) (most : ℕ) : Type 0 where
  pub files : files_told now ≡ files_told before
  pub taken : taken_told before ≤ taken_told now
  pub within : taken_told now ≤ taken_told before + most
  pub read : reads_told before ≤ reads_told now
  pub reads : reads_told now ≤ reads_told before + (taken_told now - taken_told before) + 1
