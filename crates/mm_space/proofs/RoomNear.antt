-- Bytes that lie in one page that may be written and has its bytes for itself.
use Rattle.std.proofs.Common.{◌≡◌, ℕ, ◌+◌, ◌/◌, ◌%◌, ◌^◌, ◌<◌, ◌≤◌, ◌↔◌, Bool, true, false, Option, refl, ap, sym, ◌∙◌}
use Rattle.std.proofs.Common.{arith}
use Rattle.std.specs.Prelude.{IsTrue}
use Rattle.std.specs.Bool.{OnTrue}
use Rattle.std.specs.FinMap as map
use Rattle.mm_frames.specs.Numbers.{IsInPage}
use Rattle.mm_areas.specs.Hints.{allows_at, allows_mapped}
use Rattle.mm_areas.specs.Mappings.{mapping}
use Rattle.mm_areas.specs.Own.{owns}
use Rattle.mm_areas.specs.Pages.{Mapped, Pages}
use Rattle.mm_space.specs.declared.handed.Handed.{Handed}
use Rattle.mm_space.specs.declared.space.Space.{Space}
use Rattle.mm_space.specs.Accesses.{byte_at, page_number, writable}
use Rattle.mm_space.specs.Places.{takes_no_memory, is_ready_mapped}
use Rattle.mm_space.specs.Puts.{AllowsNear}
use Rattle.mm_space.specs.Spaces.{Reach, space_of}
use Rattle.mm_space.proofs.Accessed.{room_there}
use Rattle.mm_space.proofs.Near.{IsPrivate, near_apart, near_free}
use Rattle.mm_space.proofs.NearPuts.{IsPrivatePage, own_page}
use Rattle.mm_space.proofs.ReadyRuns.{piece_ready}

-- there is room for so many bytes, by a guess at the page
abbrev pub HasRoom : Space → (near : Bool) → (at width : ℕ) → Type 0
HasRoom space near at width =
    (near ≡ true) × (owns space.areas (at / 4096) ≡ true)
    × (allows_at (mapping space.areas).pages (at / 4096) writable ≡ true) × IsInPage (at % 4096) width

-- they may be written
pub room_allows : (done near : Bool) (space : Space) (at width : ℕ) → at < 2 ^ 64
    → (IsTrue done ↔ HasRoom space near at width) → OnTrue done (AllowsNear (space_of space) at width)
room_allows false near space at width small fits = tt
room_allows true near space at width small fits = λ hand.
    let page : IsPrivatePage space.areas (at / 4096) = own_page space.areas (at / 4096) (fits.0 refl).1 in
    let r : Reach = record { space = space_of space; hand = hand } in
    let private : IsPrivate writable r (at / 4096) page.bytes = record {
      rights = page.rights;
      there = page.there;
      allowed = ap (λ (m : Option Mapped). allows_mapped m writable) (sym page.there) ∙ (fits.0 refl).2;
      whole = page.whole;
    } in
    let inside : at % 4096 + width ≤ 4096 = (fits.0 refl).3.1 in
    room_there (byte_at writable r) at width (near_free writable r page.bytes at width small private inside)
    (near_apart writable r page.bytes at width small private inside)

-- and their page has its bytes for itself
pub room_ready : (done near : Bool) (space : Space) (at width : ℕ) → at < 2 ^ 64
    → (IsTrue done ↔ HasRoom space near at width)
    → OnTrue done ((handed : Handed) → takes_no_memory space handed at width ≡ true)
room_ready false near space at width small fits = tt
room_ready true near space at width small fits = λ handed.
    let page : IsPrivatePage space.areas (at / 4096) = own_page space.areas (at / 4096) (fits.0 refl).1 in
    let pages : Pages = (mapping space.areas).pages in
    let number : page_number at ≡ at / 4096 = omega (arith, small) in
    piece_ready space handed at width small (fits.0 refl).3.1
    (ap (λ n. is_ready_mapped space handed n (map.get pages n)) number
    ∙ ap (is_ready_mapped space handed (at / 4096)) page.there
    ∙ (fits.0 refl).1)
