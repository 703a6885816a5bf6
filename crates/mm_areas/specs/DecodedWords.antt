-- Which pages have their words there, decoded.
use Rattle.std.specs.Prelude.{◌≡◌, ℕ, Bool, false, List, Option, Some, None, option_map, slice_get}
use Rattle.rv_table.specs.declared.instr.Instr.{Instr}
use Rattle.mm_frames.specs.Frames.{has_row}
use Rattle.mm_frames.specs.Rows.{decoded_row}
use Rattle.mm_areas.specs.declared.page.Content.{Content}
use Rattle.mm_areas.specs.declared.page.Content.TheVariants.{Private, Shared}
use Rattle.mm_areas.specs.declared.page.Page.{Page}
use Rattle.mm_areas.specs.declared.areas.Areas.{Areas}
use Rattle.mm_areas.specs.Pages.{Mapped, Pages}
use Rattle.mm_areas.specs.Contents.{bytes_mapped, bytes_at}
use Rattle.mm_areas.specs.Own.{page_of}

-- whether a page's words are there, decoded: those of a page of a shared area never are
-- profile
abbrev pub has_row_content : Content → Bool
has_row_content (Private frame) = has_row frame
has_row_content (Shared page) = false

-- the same of a page that may not be there
-- profile
abbrev pub has_row_in : Option Page → Bool
has_row_in None = false
has_row_in (Some page) = has_row_content page.content

-- the same of a page by its number in an address space
-- profile
abbrev pub has_row_at : Areas → (page : ℕ) → Bool
has_row_at areas page = has_row_in (page_of areas page)

-- none of some pages has its words there, decoded
-- profile
abbrev pub AreUndecoded : List Page → Type 0
AreUndecoded pages = (index : ℕ) → has_row_in (slice_get pages index) ≡ false

-- the instructions that a page's words are, of a page that has its own bytes
-- RISC-V Unprivileged ISA 20191213, 1.5: instructions of four bytes, the lowest first
abbrev pub row_mapped : Option Mapped → Option (List Instr)
row_mapped page = option_map decoded_row (bytes_mapped page)

-- the same of a page by its number
-- RISC-V Unprivileged ISA 20191213, 1.5: instructions of four bytes, the lowest first
abbrev pub row_at : Pages → (page : ℕ) → Option (List Instr)
row_at pages page = option_map decoded_row (bytes_at pages page)
