-- A frame as its bytes, and frames as pages of bytes.
use Rattle.std.specs.Prelude.{ℕ, List, [], Bool, Option, is_some, map, option_and_then, slice_get, slice_index_or}
use Rattle.std.specs.Prelude.{slice_set}
use Rattle.mm_frames.specs.declared.frame.Frame.{Frame}
use Rattle.mm_frames.specs.declared.frames.Frames.{Frames}
use Rattle.mm_frames.specs.Bytes.{bytes_in, is_own_in}

-- a frame's 4,096 bytes
-- RISC-V Privileged ISA 20211203, 4.4, Sv39: pages of 4 KiB
abbrev pub bytes_of : Frame → List ℕ
bytes_of frame = bytes_in frame.bytes

-- whether a frame has its bytes for itself, so that a store to them takes no memory
-- fork(2), NOTES: copy-on-write pages
abbrev pub is_own : Frame → Bool
is_own frame = is_own_in frame.bytes

-- whether a frame's words are there decoded
-- profile
abbrev pub has_row : Frame → Bool
has_row frame = is_some frame.row

-- the bytes of frames, a page after another
-- mmap(2): a region is so many pages, one behind another
abbrev pub bytes_of_frames : Frames → List (List ℕ)
bytes_of_frames frames = map bytes_of frames.frames.items

-- which of them have their bytes for themselves
-- fork(2), NOTES: copy-on-write pages
abbrev pub owned_of : Frames → List Bool
owned_of frames = map is_own frames.frames.items

-- the bytes of a page, and none past the last page
-- profile
abbrev pub page_at : List (List ℕ) → (page : ℕ) → List ℕ
page_at pages page = slice_index_or pages page []

-- the byte at an offset of a page, or none past the page's end and past the last page
-- profile
abbrev pub byte_of_pages : List (List ℕ) → (page offset : ℕ) → Option ℕ
byte_of_pages pages page offset = option_and_then (λ bytes. slice_get bytes offset) (slice_get pages page)

-- pages of which one has changed, and the others are as before
-- profile
abbrev pub with_page_changed : List (List ℕ) → (page : ℕ) → (List ℕ → List ℕ) → List (List ℕ)
with_page_changed pages page change = slice_set pages page (change (page_at pages page))
