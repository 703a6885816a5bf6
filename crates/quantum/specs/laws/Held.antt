-- A task's reservation in the address space and in the area counts after its own store as it did before.
use Rattle.std.proofs.Common.{◌≡◌, ℕ, zero, suc, ◌/◌, ◌%◌, ◌^◌, ◌+◌, ◌*◌, Bool, true, false, ◌&&◌, List, Option, Some}
use Rattle.std.proofs.Common.{None, refl, ap, ap₂, sym, ◌∙◌}
use Rattle.std.specs.Prelude.{option_map}
use Rattle.std.specs.FinMap as map
use Rattle.rv_table.specs.Areas.{is_area}
use Rattle.rv_table.specs.declared.error.Area.{Area}
use Rattle.rv_table.specs.Bytes.{behind}
use Rattle.rv_atomic.specs.declared.reservations.Reservation.{Reservation}
use Rattle.rv_atomic.specs.Reservations.{is_held}
use Rattle.mm_areas.specs.declared.page.SharedPage.{SharedPage}
use Rattle.mm_areas.specs.Pages.{Held, Bytes, PageOf, Mapped}
use Rattle.mm_space.specs.Accesses.{page_number, page_offset}
use Rattle.mm_space.specs.Handed.{AreaState, InHand, area_in}
use Rattle.mm_space.specs.Places.{area_of_page, shared_at, shared_held}
use Rattle.mm_space.specs.Puts.{after_stored, put_byte, put_bytes, put_held, put_in_area, put_mapped}
use Rattle.mm_space.specs.Reserves.{area_granule, counts_held, counts_mapped, is_held_at, is_held_in_area}
use Rattle.mm_space.specs.Spaces.{Reach}
use Rattle.quantum.specs.laws.Hands.{area_in_changed, changed_if}
use Rattle.quantum.specs.laws.Pages.{shared_put}
use Rattle.quantum.specs.laws.Reservations.{store_keeps, store_keeps_here}

-- ---- what counts, by the page of the area that an address lies in

abbrev counts_shared : (task offset : ℕ) → Option SharedPage → List InHand → Bool
counts_shared task offset None hand = true
counts_shared task offset (Some page) hand = is_held_in_area task page.number offset (area_in page.area hand)

counts_by_held : (task offset : ℕ) (held : Held) (hand : List InHand)
    → counts_held task offset held hand ≡ counts_shared task offset (shared_held held) hand
counts_by_held task offset (Bytes bytes) hand = refl
counts_by_held task offset (PageOf name number) hand = refl

counts_by_page : (task offset : ℕ) (found : Option Mapped) (hand : List InHand)
    → counts_mapped task offset found hand ≡ counts_shared task offset (shared_at found) hand
counts_by_page task offset None hand = refl
counts_by_page task offset (Some m) hand = counts_by_held task offset m.held hand

-- ---- a byte that the task puts

module _ (task address value : ℕ) (r : Reach) where
  -- what is reached then
  abbrev after : Reach
  after = put_byte task address value r

  abbrev after_held : Held → Reach
  after_held held = put_held task (page_number address) (page_offset address) value held r

  abbrev after_mapped : Option Mapped → Reach
  after_mapped found = put_mapped task (page_number address) (page_offset address) value found r

  held_after : (number offset page place : ℕ) (same : Bool) (state : Option AreaState)
      → is_held_in_area task page place (changed_if same (put_in_area task number offset value) state)
      ≡ is_held_in_area task page place state
  held_after number offset page place false state = refl
  held_after number offset page place true None = refl
  held_after number offset page place true (Some area) =
      store_keeps_here area.reservations task ((4096 * number + offset) % 2 ^ 64) 1 (area_granule page place)

  -- a reservation in an area
  area_keeps : (page place : ℕ) (name : Area)
      → is_held_in_area task page place (area_in name after.hand)
      ≡ is_held_in_area task page place (area_in name r.hand)
  area_keeps page place name = by (map.get r.space.mapping.pages (page_number address))
    where
      held_in : Reach → Bool
      held_in reach = is_held_in_area task page place (area_in name reach.hand)

      by_held : (held : Held) → held_in (after_held held) ≡ held_in r
      by_held (Bytes bytes) = refl
      by_held (PageOf other number) =
          ap (is_held_in_area task page place)
          (area_in_changed other name (put_in_area task number (page_offset address) value) r.hand)
          ∙ held_after number (page_offset address) page place (is_area other name) (area_in name r.hand)

      by : (found : Option Mapped) → held_in (after_mapped found) ≡ held_in r
      by None = refl
      by (Some m) = by_held m.held

  shared_counts : (offset : ℕ) (page : Option SharedPage)
      → counts_shared task offset page after.hand ≡ counts_shared task offset page r.hand
  shared_counts offset None = refl
  shared_counts offset (Some page) = area_keeps page.number offset page.area

  counts_put : (offset number : ℕ)
      → counts_mapped task offset (map.get after.space.mapping.pages number) after.hand
      ≡ counts_mapped task offset (map.get r.space.mapping.pages number) r.hand
  counts_put offset number =
      counts_by_page task offset (map.get after.space.mapping.pages number) after.hand
      ∙ ap (λ (page : Option SharedPage). counts_shared task offset page after.hand)
      (shared_put task address value r number)
      ∙ shared_counts offset (shared_at (map.get r.space.mapping.pages number))
      ∙ sym (counts_by_page task offset (map.get r.space.mapping.pages number) r.hand)

  -- those in the address space stay as they are
  put_leaves : after.space.reservations ≡ r.space.reservations
  put_leaves = by (map.get r.space.mapping.pages (page_number address))
    where
      by_held : (held : Held) → (after_held held).space.reservations ≡ r.space.reservations
      by_held (Bytes bytes) = refl
      by_held (PageOf name number) = refl

      by : (found : Option Mapped) → (after_mapped found).space.reservations ≡ r.space.reservations
      by None = refl
      by (Some m) = by_held m.held

-- ---- so many of a number's bytes

counts_stored : (task at width value : ℕ) (r : Reach) (offset number : ℕ)
    → counts_mapped task offset
    (map.get (put_bytes task at width value r).space.mapping.pages number) (put_bytes task at width value r).hand
    ≡ counts_mapped task offset (map.get r.space.mapping.pages number) r.hand
unfolding put_bytes
counts_stored task at zero value r offset number = refl
counts_stored task at (suc n) value r offset number =
    counts_put task at (value % 256) (put_bytes task (behind at) n (value / 256) r) offset number
    ∙ counts_stored task (behind at) n (value / 256) r offset number

store_leaves : (task at width value : ℕ) (r : Reach)
    → (put_bytes task at width value r).space.reservations ≡ r.space.reservations
unfolding put_bytes
store_leaves task at zero value r = refl
store_leaves task at (suc n) value r =
    put_leaves task at (value % 256) (put_bytes task (behind at) n (value / 256) r)
    ∙ store_leaves task (behind at) n (value / 256) r

-- and the area that a page lies in is the same
areas_stay : (task at width value : ℕ) (r : Reach) (number : ℕ)
    → area_of_page (map.get (put_bytes task at width value r).space.mapping.pages number)
    ≡ area_of_page (map.get r.space.mapping.pages number)
unfolding put_bytes
areas_stay task at zero value r number = refl
areas_stay task at (suc n) value r number =
    ap (λ (page : Option SharedPage). option_map (λ p. p.area) page)
    (shared_put task at (value % 256) (put_bytes task (behind at) n (value / 256) r) number)
    ∙ areas_stay task (behind at) n (value / 256) r number

-- a store
pub held_stored : (task at width value : ℕ) (r : Reach) (address size : ℕ)
    → is_held_at task address size (after_stored task at width value r) ≡ is_held_at task address size r
held_stored task at width value r address size =
    ap₂ (λ held counts. held && counts)
    (store_keeps (put_bytes task at width value r).space.reservations task at width address size
    (area_of_page (map.get (put_bytes task at width value r).space.mapping.pages (page_number address)))
    ∙ ap₂ (λ (rs : List Reservation) (area : Option Area). is_held rs task address size area)
    (store_leaves task at width value r) (areas_stay task at width value r (page_number address)))
    (counts_stored task at width value r (page_offset address) (page_number address))
