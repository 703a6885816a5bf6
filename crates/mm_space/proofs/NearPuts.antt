-- Stores whose bytes lie in one page that has its bytes for itself.
use Rattle.std.proofs.Common.{◌≡◌, ℕ, zero, suc, ◌+◌, ◌*◌, ◌/◌, ◌%◌, ◌^◌, ◌<◌, ◌≤◌, ◌↔◌, Bool, true, false, List, []}
use Rattle.std.proofs.Common.{length, Option, Some, None, Ok, refl, ap, sym, ◌∙◌, arith}
use Rattle.std.specs.Prelude.{IfSome, IsTrue, is_some, slice_set, option_map, unwrap_or}
use Rattle.std.specs.Option.{SomeIff}
use Rattle.std.specs.Bool.{OnTrue}
use Rattle.std.specs.FinMap as map
use Rattle.std.proofs.lemmas.Bool.{false≢true}
use Rattle.sn_base.proofs.Maps.{get-insert_same, insert_same, insert-insert}
use Rattle.rv_table.specs.Bytes.{AllowsAs, behind, loaded}
use Rattle.rv_atomic.specs.Reservations.{after_store}
use Rattle.rv_atomic.specs.declared.reservations.Reservation.{Reservation}
use Rattle.mm_frames.specs.Frames.{bytes_of}
use Rattle.mm_frames.specs.Numbers.{IsInPage, little_number_at, with_number}
use Rattle.mm_areas.specs.declared.areas.Areas.{Areas}
use Rattle.mm_areas.specs.declared.page.Content.{Content}
use Rattle.mm_areas.specs.declared.page.Content.TheVariants.{Private, Shared}
use Rattle.mm_areas.specs.declared.page.Page.{Page}
use Rattle.mm_areas.specs.declared.rights.Rights.{Rights}
use Rattle.mm_areas.specs.Contents.{bytes_at, bytes_mapped, bytes_changed_at, with_change}
use Rattle.mm_areas.specs.Hints.{allows_at, allows_mapped}
use Rattle.mm_areas.specs.Mappings.{Mapping, mapping, with_pages}
use Rattle.mm_areas.specs.Own.{is_own_at, is_own_content, owns, page_in}
use Rattle.mm_areas.specs.Pages.{Bytes, Mapped, Pages, held_in, mapped_by}
use Rattle.mm_areas.proofs.ChangeLaws.{get_page}
use Rattle.mm_areas.proofs.RegionLaws.{order_from_test}
use Rattle.mm_space.specs.Accesses.{LoadsNear, byte_at, page_number, page_offset, writable}
use Rattle.mm_space.specs.Handed.{InHand}
use Rattle.mm_space.specs.Puts.{StoresNear, after_stored, ended_by_store, put_byte, put_bytes, put_mapped}
use Rattle.mm_space.specs.Spaces.{Reach}
use Rattle.mm_space.proofs.Accessed.{room_there}
use Rattle.mm_space.proofs.Near.{IsPrivate, near_apart, near_free, near_value}

-- a private page is mapped, and has 4,096 bytes
pub record IsPrivatePage (areas : Areas) (page : ℕ) : Type 0 where
  pub rights : Rights
  pub bytes : List ℕ
  pub there : map.get (mapping areas).pages page ≡ Some (record { rights = rights; held = Bytes bytes })
  pub whole : length bytes ≡ 4096

-- what a page by its number is
found : (areas : Areas) (page : ℕ) (o : Option Page) → page_in areas.regions.items page ≡ o
    → map.get (mapping areas).pages page ≡ option_map mapped_by o
found areas page o is = get_page 0 areas.regions.items page (order_from_test 0 areas.regions.items areas.in_order)
    ∙ ap (option_map mapped_by) is

-- a page whose bytes are its own is private
pub own_page : (areas : Areas) (page : ℕ) → owns areas page ≡ true → IsPrivatePage areas page
own_page areas page own = by (page_in areas.regions.items page) refl own
  where
    by_content : (rights : Rights) (content : Content) → map.get (mapping areas).pages page
        ≡ Some (record { rights = rights; held = held_in content }) → is_own_content content ≡ true
        → IsPrivatePage areas page
    by_content rights (Private frame) there is_own =
        record { rights = rights; bytes = bytes_of frame; there = there; whole = frame.whole }
    by_content rights (Shared shared) there is_own = absurd (false≢true is_own)

    by : (o : Option Page) → page_in areas.regions.items page ≡ o → is_own_at o ≡ true → IsPrivatePage areas page
    by None is is_own = absurd (false≢true is_own)
    by (Some p) is is_own = by_content p.rights p.content (found areas page (Some p) is) is_own

-- and so is one that has bytes
pub bytes_page : (areas : Areas) (page : ℕ) → is_some (bytes_at (mapping areas).pages page) ≡ true
    → IsPrivatePage areas page
bytes_page areas page has_bytes = by (page_in areas.regions.items page) refl has_bytes
  where
    by_content : (rights : Rights) (content : Content) → map.get (mapping areas).pages page
        ≡ Some (record { rights = rights; held = held_in content }) → is_some (bytes_at (mapping areas).pages page)
        ≡ true → IsPrivatePage areas page
    by_content rights (Private frame) there some =
        record { rights = rights; bytes = bytes_of frame; there = there; whole = frame.whole }
    by_content rights (Shared shared) there some =
        absurd (false≢true (sym (ap (λ (o : Option Mapped). is_some (bytes_mapped o)) there) ∙ some))

    by : (o : Option Page) → page_in areas.regions.items page ≡ o → is_some (bytes_at (mapping areas).pages page) ≡ true
        → IsPrivatePage areas page
    by None is some =
        absurd (false≢true
        (sym (ap (λ (o : Option Mapped). is_some (bytes_mapped o)) (found areas page None is)) ∙ some))
    by (Some p) is some = by_content p.rights p.content (found areas page (Some p) is) some

-- a number that a page gives by its right is what an access comes to
pub load_done : (areas : Areas) (reservations : List Reservation) (right : Rights) (near : Bool) (at width : ℕ)
    (answer : Option ℕ) → at < 2 ^ 64
    → SomeIff answer ((near ≡ true) × (allows_at (mapping areas).pages (at / 4096) right ≡ true)
    × (is_some (bytes_at (mapping areas).pages (at / 4096)) ≡ true) × IsInPage (at % 4096) width)
    (little_number_at (unwrap_or (bytes_at (mapping areas).pages (at / 4096)) []) (at % 4096) width)
    → IfSome answer (LoadsNear right (record { mapping = mapping areas; reservations = reservations }) at width)
load_done areas reservations right near at width None small is = tt
load_done areas reservations right near at width (Some value) small is = λ hand.
    near_value right (record { space = record { mapping = mapping areas; reservations = reservations }; hand = hand })
    page.bytes at width value small
    (record {
      rights = page.rights;
      there = page.there;
      allowed = ap (λ (m : Option Mapped). allows_mapped m right) (sym page.there) ∙ is.0.1;
      whole = page.whole;
    })
    is.0.3.1
    (is.1 ∙ ap (λ (o : Option Mapped). little_number_at (unwrap_or (bytes_mapped o) []) (at % 4096) width) page.there)
  where
    page : IsPrivatePage areas (at / 4096)
    page = bytes_page areas (at / 4096) is.0.2

module _ (task number : ℕ) (rights : Rights) (r : Reach) (low : number < 2 ^ 52) where
  abbrev pages : Pages
  pages = r.space.mapping.pages

  -- the page with other bytes
  abbrev private_of : List ℕ → Mapped
  private_of bytes = record { rights = rights; held = Bytes bytes }

  abbrev with_space : Pages → Reach
  with_space ps =
      record {
        space = record { mapping = with_pages r.space.mapping ps; reservations = r.space.reservations };
        hand = r.hand;
      }

  abbrev with_bytes : List ℕ → Reach
  with_bytes bytes = with_space (map.insert pages number (private_of bytes))

  pub byte_put : (at offset value : ℕ) (bytes : List ℕ) → at ≡ (number * 4096 + offset) % 2 ^ 64 → offset < 4096
      → put_byte task at value (with_bytes bytes) ≡ with_bytes (slice_set bytes offset value)
  byte_put at offset value bytes is inside =
      let page_is : page_number at ≡ number = omega (arith, is, inside, low) in
      let offset_is : page_offset at ≡ offset = omega (arith, is, inside, low) in
      let change : List ℕ → List ℕ = λ bs. slice_set bs offset value in
      let ps : Pages = map.insert pages number (private_of bytes) in
      ap (λ n. put_mapped task n (page_offset at) value (map.get ps n) (with_bytes bytes)) page_is
      ∙ ap (λ o. put_mapped task number o value (map.get ps number) (with_bytes bytes)) offset_is
      ∙ ap (λ (m : Option Mapped). put_mapped task number offset value m (with_bytes bytes))
      (get-insert_same pages number (private_of bytes))
      ∙ ap (λ (m : Option Mapped). with_space (bytes_changed_at change number m ps))
      (get-insert_same pages number (private_of bytes))
      ∙ ap with_space (insert-insert pages number (private_of bytes) (private_of (change bytes)))

  pub bytes_put : (bytes : List ℕ) → map.get pages number ≡ Some (private_of bytes) → (at offset count value : ℕ)
      → at ≡ (number * 4096 + offset) % 2 ^ 64 → offset + count ≤ 4096
      → put_bytes task at count value r ≡ with_bytes (with_number bytes offset count value)
  unfolding put_bytes with_number
  bytes_put bytes there at offset zero value is inside =
      sym (ap with_space (insert_same pages number (private_of bytes) there))
  bytes_put bytes there at offset (suc n) value is inside =
      ap (put_byte task at (value % 256))
      (bytes_put bytes there (behind at) (offset + 1) n (value / 256) (omega (arith, is)) (omega (arith, inside)))
      ∙ byte_put at offset (value % 256) (with_number bytes (offset + 1) n (value / 256)) is (omega (arith, inside))

-- a store into such a page
pub store_done : (areas news : Areas) (was is : List Reservation) (done near : Bool) (task at width value : ℕ)
    → at < 2 ^ 64
    → (IsTrue done ↔ ((near ≡ true) × (owns areas (at / 4096) ≡ true)
    × (allows_at (mapping areas).pages (at / 4096) writable ≡ true) × IsInPage (at % 4096) width))
    → OnTrue done
    (mapping news
    ≡ with_pages (mapping areas)
    (with_change (mapping areas).pages (at / 4096) (λ bytes. with_number bytes (at % 4096) width value)))
    → is ≡ after_store was task at width
    → OnTrue done
    (StoresNear (record { mapping = mapping areas; reservations = was })
    (record { mapping = mapping news; reservations = is }) task at width value)
store_done areas news was is false near task at width value small fits changed ended = tt
store_done areas news was is true near task at width value small fits changed ended = λ hand. (allows hand, made hand)
  where
    page : ℕ
    page = at / 4096

    pages : Pages
    pages = (mapping areas).pages

    own : IsPrivatePage areas page
    own = own_page areas page (fits.0 refl).1

    old : List InHand → Reach
    old hand = record { space = record { mapping = mapping areas; reservations = was }; hand = hand }

    is_private : (hand : List InHand) → IsPrivate writable (old hand) page own.bytes
    is_private hand = record {
      rights = own.rights;
      there = own.there;
      allowed = ap (λ (m : Option Mapped). allows_mapped m writable) (sym own.there) ∙ (fits.0 refl).2;
      whole = own.whole;
    }

    inside : at % 4096 + width ≤ 4096
    inside = (fits.0 refl).3.1

    allows : (hand : List InHand) → AllowsAs (loaded (byte_at writable (old hand)) at width) (Ok tt)
    allows hand =
        room_there (byte_at writable (old hand)) at width
        (near_free writable (old hand) own.bytes at width small (is_private hand) inside)
        (near_apart writable (old hand) own.bytes at width small (is_private hand) inside)

    change : List ℕ → List ℕ
    change bytes = with_number bytes (at % 4096) width value

    with_mapping : List InHand → List Reservation → Mapping → Reach
    with_mapping hand rs m = record { space = record { mapping = m; reservations = rs }; hand = hand }

    made : (hand : List InHand) → with_mapping hand is (mapping news) ≡ after_stored task at width value (old hand)
    made hand =
        ap (with_mapping hand is) changed
        ∙ ap (λ (rs : List Reservation).
        with_mapping hand rs (with_pages (mapping areas) (with_change pages page change))) ended
        ∙ ap (λ (o : Option Mapped).
        with_mapping hand (after_store was task at width)
        (with_pages (mapping areas) (bytes_changed_at change page o pages))) own.there
        ∙ sym (ap (λ (put : Reach).
        (let after : Reach = record { space = ended_by_store task at width put.space; hand = put.hand } in after))
        (bytes_put task page own.rights (old hand) (omega (arith, small)) own.bytes own.there at (at % 4096) width value
        (omega (arith, small)) inside))
