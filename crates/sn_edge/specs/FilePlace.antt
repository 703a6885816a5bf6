-- Where a source is in its files.
use Rattle.std.specs.Prelude.{◌≡◌, ℕ, List, [], drop, Option, Some, None, Result, IfOk, slice_index_or}
use Rattle.std.specs.Io.KnownBytes.{ReadConsumes}

-- The content of the file at a place.
-- open(2), for files that are kept in a list
abbrev pub content_of : List (List ℕ × List ℕ) → ℕ → List ℕ
content_of files place = (slice_index_or files place ([], [])).1

-- What is left of the open file, from how many of its bytes were read.
-- read(2), file offset
abbrev pub rest_of : List (List ℕ × List ℕ) → Option ℕ → ℕ → List ℕ
rest_of files None done = []
rest_of files (Some place) done = drop done (content_of files place)

-- A read of the open file gave what that file gives, and 0 where none is open. Which file is open stays.
-- read(2), RETURN VALUE
abbrev pub ReadsOpenFile : {F E : Type 0} → (F → Option (List ℕ)) → Option F → Option F → Result ℕ E
    → List ℕ → Type 0
ReadsOpenFile remaining None None result buffer = IfOk result (λ n. n ≡ 0)
ReadsOpenFile remaining None (Some file) result buffer = ⊥
ReadsOpenFile remaining (Some file) None result buffer = ⊥
ReadsOpenFile remaining (Some before) (Some now) result buffer =
    ReadConsumes (remaining before) (remaining now) result buffer
