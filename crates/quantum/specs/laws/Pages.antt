-- Pages of which one has other bytes: which are of shared areas, and of which, stays as it was.
use Rattle.std.proofs.Common.{◌≡◌, ℕ, ◌%◌, ◌^◌, ◌==◌, Bool, ◌&&◌, List, Option, Some, None, refl, ap, ap₂, sym, ◌∙◌}
use Rattle.std.proofs.Common.{◌⊎◌, inl, inr}
use Rattle.std.specs.Prelude.{option_map}
use Rattle.std.specs.FinMap as map
use Rattle.std.proofs.lemmas.Bool.{cases_eq}
use Rattle.sn_base.proofs.Maps.{get-insert_same, get-insert_other}
use Rattle.rv_table.specs.Areas.{is_area}
use Rattle.mm_areas.specs.declared.page.SharedPage.{SharedPage}
use Rattle.mm_areas.specs.Contents.{with_bytes_changed, bytes_changed_at, changed_held, with_change}
use Rattle.mm_areas.specs.Pages.{Held, Bytes, PageOf, Mapped, Pages}
use Rattle.mm_space.specs.Accesses.{page_number, page_offset}
use Rattle.mm_space.specs.Places.{shared_at, shared_held}
use Rattle.mm_space.specs.Puts.{put_byte, put_held, put_mapped}
use Rattle.mm_space.specs.Spaces.{Reach}
use Rattle.quantum.specs.Acting.{is_same_held, is_same_mapped}

-- ---- a page, and the others

pub changed_here : (pages : Pages) (page : ℕ) (change : List ℕ → List ℕ)
    → map.get (with_change pages page change) page ≡ option_map (with_bytes_changed change) (map.get pages page)
changed_here pages page change = by (map.get pages page) refl
  where
    by : (found : Option Mapped) → map.get pages page ≡ found
        → map.get (bytes_changed_at change page found pages) page ≡ option_map (with_bytes_changed change) found
    by None is = is
    by (Some m) is = get-insert_same pages page (with_bytes_changed change m)

pub changed_apart : (pages : Pages) (page : ℕ) (change : List ℕ → List ℕ) (other : ℕ) → (page ≡ other → ⊥)
    → map.get (with_change pages page change) other ≡ map.get pages other
changed_apart pages page change other apart = by (map.get pages page)
  where
    by : (found : Option Mapped) → map.get (bytes_changed_at change page found pages) other ≡ map.get pages other
    by None = refl
    by (Some m) = get-insert_other pages page other (with_bytes_changed change m) apart

-- ---- which pages are of areas

shared_held_stays : (change : List ℕ → List ℕ) (held : Held)
    → shared_held (changed_held change held) ≡ shared_held held
shared_held_stays change (Bytes bytes) = refl
shared_held_stays change (PageOf name number) = refl

shared_stays : (change : List ℕ → List ℕ) (found : Option Mapped)
    → shared_at (option_map (with_bytes_changed change) found) ≡ shared_at found
shared_stays change None = refl
shared_stays change (Some m) = shared_held_stays change m.held

shared_in_changed : (pages : Pages) (page : ℕ) (change : List ℕ → List ℕ) (other : ℕ)
    → shared_at (map.get (with_change pages page change) other) ≡ shared_at (map.get pages other)
shared_in_changed pages page change other = by (cases_eq page other)
  where
    by : (page ≡ other) ⊎ (page ≡ other → ⊥)
        → shared_at (map.get (with_change pages page change) other) ≡ shared_at (map.get pages other)
    by (inl same) =
        ap (λ n. shared_at (map.get (with_change pages page change) n)) (sym same)
        ∙ ap shared_at (changed_here pages page change) ∙ shared_stays change (map.get pages page)
        ∙ ap (λ n. shared_at (map.get pages n)) same
    by (inr apart) = ap shared_at (changed_apart pages page change other apart)

-- a byte that is put leaves it so
pub shared_put : (task address value : ℕ) (r : Reach) (page : ℕ)
    → shared_at (map.get (put_byte task address value r).space.mapping.pages page)
    ≡ shared_at (map.get r.space.mapping.pages page)
shared_put task address value r page = by (map.get r.space.mapping.pages (page_number address))
  where
    shared_of : Reach → Option SharedPage
    shared_of after = shared_at (map.get after.space.mapping.pages page)

    by_held : (held : Held)
        → shared_of (put_held task (page_number address) (page_offset address) value held r) ≡ shared_of r
    by_held (Bytes bytes) = shared_in_changed r.space.mapping.pages (page_number address) _ page
    by_held (PageOf name number) = refl

    by : (found : Option Mapped)
        → shared_of (put_mapped task (page_number address) (page_offset address) value found r) ≡ shared_of r
    by None = refl
    by (Some m) = by_held m.held

-- ---- which addresses are of one byte

abbrev same_shared : (a b : ℕ) → Option SharedPage → Option SharedPage → Bool
same_shared a b (Some p) (Some q) =
    is_area p.area q.area && ((p.number == q.number) && (page_offset a == page_offset b))
same_shared a b (Some p) None = (a % 2 ^ 64) == (b % 2 ^ 64)
same_shared a b None q = (a % 2 ^ 64) == (b % 2 ^ 64)

same_held : (a b : ℕ) (m n : Held) → is_same_held a b m n ≡ same_shared a b (shared_held m) (shared_held n)
same_held a b (PageOf name number) (PageOf other place) = refl
same_held a b (PageOf name number) (Bytes bytes) = refl
same_held a b (Bytes bytes) n = refl

same_mapped : (a b : ℕ) (m n : Option Mapped) → is_same_mapped a b m n ≡ same_shared a b (shared_at m) (shared_at n)
same_mapped a b (Some m) (Some n) = same_held a b m.held n.held
same_mapped a b (Some m) None = by m.held
  where
    by : (held : Held) → ((a % 2 ^ 64) == (b % 2 ^ 64)) ≡ same_shared a b (shared_held held) None
    by (Bytes bytes) = refl
    by (PageOf name number) = refl
same_mapped a b None n = refl

-- whether two addresses are of one byte of some pages
-- mmap(2), MAP_SHARED
abbrev pub same_in : Pages → (a b : ℕ) → Bool
same_in pages a b = is_same_mapped a b (map.get pages (page_number a)) (map.get pages (page_number b))

pub same_put : (task address value : ℕ) (r : Reach) (a b : ℕ)
    → same_in (put_byte task address value r).space.mapping.pages a b ≡ same_in r.space.mapping.pages a b
same_put task address value r a b =
    same_mapped a b (after a) (after b)
    ∙ ap₂ (same_shared a b)
    (shared_put task address value r (page_number a)) (shared_put task address value r (page_number b))
    ∙ sym (same_mapped a b (before a) (before b))
  where
    before : ℕ → Option Mapped
    before at = map.get r.space.mapping.pages (page_number at)

    after : ℕ → Option Mapped
    after at = map.get (put_byte task address value r).space.mapping.pages (page_number at)
