-- A mapped page, and the pages of an address space as a finite map by their numbers (an address by 4,096).
use Rattle.std.specs.Prelude.{ℕ, zero, suc, ◌+◌, nat_le, nat_lt, Bool, true, ◌&&◌, not, List, [], ◌∷◌, replicate}
use Rattle.std.specs.Prelude.{Option, Some, None, is_none}
use Rattle.std.specs.Ordering.{nat_cmp}
use Rattle.std.specs.FinMap as map
use Rattle.rv_table.specs.declared.error.Area.{Area}
use Rattle.mm_frames.specs.Frames.{bytes_of}
use Rattle.mm_areas.specs.declared.rights.Rights.{Rights}
use Rattle.mm_areas.specs.declared.page.Content.{Content}
use Rattle.mm_areas.specs.declared.page.Content.TheVariants.{Private, Shared}
use Rattle.mm_areas.specs.declared.page.Page.{Page}
use Rattle.mm_areas.specs.declared.page.Backing.{Backing}
use Rattle.mm_areas.specs.declared.page.Backing.TheVariants.{Zeros, Of}

-- where a page's bytes are: 4,096 bytes of its own, or a page of a shared area, counted from 0
-- mmap(2), MAP_PRIVATE and MAP_SHARED
pub data Held : Type 0 where
  Bytes : List ℕ → Held
  PageOf : Area → ℕ → Held

-- a mapped page: what may be done with its bytes, and where they are
-- mmap(2)
pub record Mapped : Type 0 where
  pub rights : Rights
  pub held : Held

-- the pages of an address space, by their numbers
-- mmap(2); getpagesize(2): 4,096 bytes
abbrev pub Pages : Type 0
Pages = map.FinMap nat_cmp Mapped

-- what a page holds, by its content
-- mmap(2), MAP_PRIVATE and MAP_SHARED
abbrev pub held_in : Content → Held
held_in (Private frame) = Bytes (bytes_of frame)
held_in (Shared page) = PageOf page.area page.number

-- a page as contracts see it: whether its frame is shared with others doesn't show
-- fork(2): copy-on-write pages
abbrev pub mapped_by : Page → Mapped
mapped_by page = record { rights = page.rights; held = held_in page.content }

-- pages with others laid from a page on, in the places of those that are there
-- mmap(2), MAP_FIXED
abbrev pub laid : ℕ → List Mapped → Pages → Pages
laid first [] pages = pages
laid first (m ∷ ms) pages = map.insert (laid (suc first) ms pages) first m

-- whether a page is one of so many from the first on
-- profile
abbrev pub is_within : (first count page : ℕ) → Bool
is_within first count page = nat_le first page && nat_lt page (first + count)

-- pages without so many from the first on
-- munmap(2)
abbrev pub unmapped : (first count : ℕ) → Pages → Pages
unmapped first count pages = map.retain_keys pages (λ page. not (is_within first count page))

-- a page with other rights
-- mprotect(2)
abbrev pub with_rights : Rights → Mapped → Mapped
with_rights rights m = record { rights = rights; held = m.held }

-- pages of which one has other rights, if it is there
-- mprotect(2)
abbrev pub protected_at : Rights → ℕ → Option Mapped → Pages → Pages
protected_at rights page None pages = pages
protected_at rights page (Some m) pages = map.insert pages page (with_rights rights m)

-- pages with other rights of so many from the first on
-- mprotect(2)
unfoldable pub protected : Rights → (first count : ℕ) → Pages → Pages
protected rights first zero pages = pages
protected rights first (suc n) pages =
    protected_at rights first (map.get pages first) (protected rights (suc first) n pages)

-- whether none of so many pages from the first on is mapped
-- mmap(2), NOTES: addresses that the kernel picks
unfoldable pub is_free : Pages → (first count : ℕ) → Bool
is_free pages first zero = true
is_free pages first (suc n) = is_none (map.get pages first) && is_free pages (suc first) n

-- whether each of so many pages from the first on is mapped
-- mprotect(2), ENOMEM
unfoldable pub is_covered : Pages → (first count : ℕ) → Bool
is_covered pages first zero = true
is_covered pages first (suc n) = map.contains_key pages first && is_covered pages (suc first) n

-- the bytes of a page that nobody has written
-- mmap(2), MAP_ANONYMOUS
abbrev pub zeros : List ℕ
zeros = replicate 4096 0

-- so many pages of a shared area, from one of them on
-- mmap(2), MAP_SHARED
abbrev pub shared_from : Area → Rights → (number count : ℕ) → List Mapped
shared_from area rights number zero = []
shared_from area rights number (suc n) =
    (record { rights = rights; held = PageOf area number }) ∷ shared_from area rights (suc number) n

-- so many new pages
-- mmap(2), MAP_ANONYMOUS
abbrev pub new_pages : Backing → Rights → ℕ → List Mapped
new_pages Zeros rights count = replicate count (record { rights = rights; held = Bytes zeros })
new_pages (Of area) rights count = shared_from area rights 0 count

-- the page of that number among new ones, counted from 0
-- mmap(2), MAP_ANONYMOUS and MAP_SHARED
abbrev pub mapped_new : Backing → Rights → (number : ℕ) → Mapped
mapped_new Zeros rights number = record { rights = rights; held = Bytes zeros }
mapped_new (Of area) rights number = record { rights = rights; held = PageOf area number }
