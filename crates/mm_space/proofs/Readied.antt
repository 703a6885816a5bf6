-- Pages that have their bytes for themselves, and bytes put into them.
use Rattle.std.proofs.Common.{◌≡◌, ℕ, zero, suc, ◌-◌, ◌/◌, ◌%◌, ◌^◌, ◌<◌, ◌↔◌, ◌&&◌, Bool, true, false, List, Option}
use Rattle.std.proofs.Common.{Some, None, Result, Ok, Err, refl, ap, sym, ◌∙◌, inl, inr, subst, arith}
use native.Mathlib.Numerals.{unary_clauses}
use Rattle.std.specs.Prelude.{IsTrue, OnErr, slice_set}
use Rattle.std.specs.Bool.{OnTrue, OnFalse}
use Rattle.std.specs.FinMap as map
use Rattle.std.proofs.lemmas.Bool.{cases_eq, false≢true}
use Rattle.sn_base.proofs.Maps.{get-insert_same, get-insert_other}
use Rattle.rv_table.specs.Bytes.{behind}
use Rattle.rv_atomic.specs.declared.reservations.Reservation.{Reservation}
use Rattle.mm_frames.specs.Numbers.{IsInPage, with_number}
use Rattle.mm_areas.specs.declared.areas.Areas.{Areas}
use Rattle.mm_areas.specs.declared.rights.Rights.{Rights}
use Rattle.mm_areas.specs.Contents.{with_bytes_changed, bytes_changed_at, changed_held, with_change}
use Rattle.mm_areas.specs.Mappings.{Mapping, mapping, with_pages}
use Rattle.mm_areas.specs.Own.{owns}
use Rattle.mm_areas.specs.Pages.{Held, Bytes, PageOf, Mapped, Pages}
use Rattle.mm_space.specs.declared.caches.Caches.{Caches}
use Rattle.mm_space.specs.declared.handed.Handed.{Handed}
use Rattle.mm_space.specs.declared.space.Space.{Space}
use Rattle.mm_space.specs.Accesses.{page_number, page_offset}
use Rattle.mm_space.specs.Handed.{hand_of}
use Rattle.mm_space.specs.Places.{AreAsReady, takes_no_memory, is_ready_at, is_ready_held, is_ready_mapped, shared_at}
use Rattle.mm_space.specs.Places.{shared_held}
use Rattle.mm_space.specs.Puts.{put_byte, put_mapped}
use Rattle.mm_space.specs.Spaces.{Reach, reach}
use Rattle.mm_space.proofs.AreaPuts.{one_byte}

-- where not all are ready after pages have become own, not all were before
pub unready_before : (space other : Space) (handed others : Handed)
    → ((address : ℕ) → is_ready_at space handed address ≡ true → is_ready_at other others address ≡ true)
    → (at count : ℕ) → takes_no_memory other others at count ≡ false → takes_no_memory space handed at count ≡ false
unfolding takes_no_memory
unready_before space other handed others still at zero unready = unready
unready_before space other handed others still at (suc n) unready =
    by (is_ready_at space handed at) (still at) (is_ready_at other others at) refl
    (takes_no_memory other others (behind at) n)
    refl (unready_before space other handed others still (behind at) n) unready
  where
    by : (was : Bool) → (was ≡ true → is_ready_at other others at ≡ true) → (is : Bool)
        → is_ready_at other others at ≡ is → (rest : Bool) → takes_no_memory other others (behind at) n ≡ rest
        → (takes_no_memory other others (behind at) n ≡ false → takes_no_memory space handed (behind at) n ≡ false)
        → (is && rest) ≡ false → (was && takes_no_memory space handed (behind at) n) ≡ false
    by false own is here rest there before un = refl
    by true own false here rest there before un = absurd (false≢true (sym here ∙ own refl))
    by true own true here rest there before un = before (there ∙ un)

-- pages that are as ready as before leave a store as ready
pub ready_same : (space other : Space) (handed others : Handed) → AreAsReady space other handed others → (at count : ℕ)
    → takes_no_memory other others at count ≡ takes_no_memory space handed at count
unfolding takes_no_memory
ready_same space other handed others alike at zero = refl
ready_same space other handed others alike at (suc n) =
    ap (λ (b : Bool). b && takes_no_memory other others (behind at) n) (alike at)
    ∙ ap (λ (b : Bool). is_ready_at space handed at && b) (ready_same space other handed others alike (behind at) n)

pub lacking_all : {E : Type 0} (answer : Result Unit E) (space other : Space) (handed others : Handed) (at count : ℕ)
    → (count ≡ 0 → ⊥)
    → ((address : ℕ) → is_ready_at space handed address ≡ true → is_ready_at other others address ≡ true)
    → OnErr answer (takes_no_memory other others (behind at) (count - 1) ≡ false)
    → OnErr answer (takes_no_memory space handed at count ≡ false)
unfolding takes_no_memory
lacking_all (Ok done) space other handed others at count some still unready = tt
lacking_all (Err e) space other handed others at zero some still unready = absurd (some refl)
lacking_all (Err e) space other handed others at (suc n) some still unready =
    by (is_ready_at space handed at)
    (unready_before space other handed others still (behind at) n
    (subst (λ (k : ℕ). takes_no_memory other others (behind at) k ≡ false) (let one_less : suc n - 1
    ≡ n = simp unary_clauses in one_less) unready))
  where
    by : (was : Bool) → takes_no_memory space handed (behind at) n ≡ false
        → (was && takes_no_memory space handed (behind at) n) ≡ false
    by true un = un
    by false un = refl

-- pages of which one has other bytes are private where they were
module _ (old new : Areas) (handed : Handed) (reservations others : List Reservation)
    (kept : Caches) (alike : (page : ℕ) → owns new page ≡ owns old page) where
  abbrev space : Space
  space = record { areas = old; reservations = reservations; caches = kept }

  abbrev other : Space
  other = record { areas = new; reservations = others; caches = kept }

  held_alike : (page : ℕ) (change : List ℕ → List ℕ) (held : Held)
      → is_ready_held other handed page (changed_held change held) ≡ is_ready_held space handed page held
  held_alike page change (Bytes bytes) = alike page
  held_alike page change (PageOf name number) = refl

  held_same : (page : ℕ) (held : Held) → is_ready_held other handed page held ≡ is_ready_held space handed page held
  held_same page (Bytes bytes) = alike page
  held_same page (PageOf name number) = refl

  mapped_same : (page : ℕ) (m : Option Mapped) → is_ready_mapped other handed page m
      ≡ is_ready_mapped space handed page m
  mapped_same page None = refl
  mapped_same page (Some m) = held_same page m.held

  mapped_changed : (pages : Pages) (page : ℕ) (change : List ℕ → List ℕ) (q : ℕ) (at : Option Mapped)
      → map.get pages page ≡ at
      → is_ready_mapped other handed q (map.get (bytes_changed_at change page at pages) q)
      ≡ is_ready_mapped space handed q (map.get pages q)
  mapped_changed pages page change q None there = mapped_same q (map.get pages q)
  mapped_changed pages page change q (Some m) there = elim (cases_eq page q) [
    | inl same ↦
        ap (λ n. is_ready_mapped other handed q (map.get (map.insert pages n (with_bytes_changed change m)) q)) same
        ∙ ap (is_ready_mapped other handed q) (get-insert_same pages q (with_bytes_changed change m))
        ∙ held_alike q change m.held
        ∙ ap (is_ready_mapped space handed q) (sym there ∙ ap (map.get pages) same)
    | inr apart ↦
        ap (is_ready_mapped other handed q) (get-insert_other pages page q (with_bytes_changed change m) apart)
        ∙ mapped_same q (map.get pages q)
  ]

  pub ready_alike : (done : Bool) (page : ℕ) (change : List ℕ → List ℕ)
      → OnTrue done (mapping new ≡ with_pages (mapping old) (with_change (mapping old).pages page change))
      → OnFalse done (mapping new ≡ mapping old)
      → AreAsReady space other handed handed
  ready_alike true page change is same = λ address.
      ap (λ (m : Mapping).
      is_ready_mapped other handed (page_number address) (map.get m.pages (page_number address))) is
      ∙ mapped_changed (mapping old).pages page change (page_number address) (map.get (mapping old).pages page) refl
  ready_alike false page change is same = λ address.
      ap (λ (m : Mapping).
      is_ready_mapped other handed (page_number address) (map.get m.pages (page_number address))) same
      ∙ mapped_same (page_number address) (map.get (mapping old).pages (page_number address))

-- a byte put into a page that is ready, and isn't one of a shared area
pub put_page : (done : Bool) (space : Space) (news : Mapping) (handed : Handed) (task address value wide : ℕ)
    → wide ≡ value → value < 256 → address < 2 ^ 64
    → shared_at (map.get (mapping space.areas).pages (address / 4096)) ≡ None → is_ready_at space handed address ≡ true
    → (IsTrue done ↔ ((owns space.areas (address / 4096) ≡ true) × IsInPage (address % 4096) 1))
    → OnTrue done
    (news ≡ with_pages (mapping space.areas)
    (with_change (mapping space.areas).pages (address / 4096) (λ bytes. with_number bytes (address % 4096) 1 wide)))
    → OnFalse done (news ≡ mapping space.areas)
    → (let r : Reach = record {
      space = record { mapping = news; reservations = space.reservations };
      hand = hand_of handed;
    } in r) ≡ put_byte task address value (reach space handed)
put_page done space news handed task address value wide widened small inside apart ready fits changed_ same =
    by (map.get pages (address / 4096)) refl apart
    (ap (λ n. is_ready_mapped space handed n (map.get pages n)) number_is ∙ ready)
    ∙ ap (λ n. put_mapped task n (address % 4096) value (map.get pages n) (reach space handed)) number_is
    ∙ ap (λ o. put_mapped task (page_number address) o value (map.get pages (page_number address))
    (reach space handed)) offset_is
  where
    pages : Pages
    pages = (mapping space.areas).pages

    number_is : address / 4096 ≡ page_number address
    number_is = omega (arith, inside)

    offset_is : address % 4096 ≡ page_offset address
    offset_is = omega (arith, inside)

    with_mapping : Mapping → Reach
    with_mapping m = record { space = record { mapping = m; reservations = space.reservations }; hand = hand_of handed }

    change : List ℕ → List ℕ
    change bytes = with_number bytes (address % 4096) 1 wide

    set_one : List ℕ → List ℕ
    set_one bytes = slice_set bytes (address % 4096) value

    one_is : (bytes : List ℕ) → change bytes ≡ set_one bytes
    one_is bytes = ap (with_number bytes (address % 4096) 1) widened ∙ one_byte bytes (address % 4096) value small

    written : (d : Bool) → done ≡ d → d ≡ true
        → news ≡ with_pages (mapping space.areas) (with_change pages (address / 4096) change)
    written true is now =
        subst (λ (b : Bool).
        OnTrue b (news ≡ with_pages (mapping space.areas) (with_change pages (address / 4096) change))) is changed_
    written false is now = absurd (false≢true now)

    unwritten : (d : Bool) → done ≡ d → map.get pages (address / 4096) ≡ None → news ≡ mapping space.areas
    unwritten true is none_there =
        written true is refl
        ∙ ap (λ (o : Option Mapped).
        with_pages (mapping space.areas) (bytes_changed_at change (address / 4096) o pages)) none_there
    unwritten false is none_there = subst (λ (b : Bool). OnFalse b (news ≡ mapping space.areas)) is same

    by_held : (rights : Rights) (held : Held)
        → map.get pages (address / 4096) ≡ Some (record { rights = rights; held = held }) → shared_held held ≡ None
        → is_ready_held space handed (address / 4096) held ≡ true
        → with_mapping news ≡ put_mapped task (address / 4096) (address % 4096) value
        (map.get pages (address / 4096)) (reach space handed)
    by_held rights (Bytes bytes) there is_private own =
        ap with_mapping (written done refl (fits.1 (own, (inl refl, omega arith))))
        ∙ ap (λ (o : Option Mapped).
        with_mapping (with_pages (mapping space.areas) (bytes_changed_at change (address / 4096) o pages))) there
        ∙ ap (λ (bs : List ℕ). (let m : Mapped = record { rights = rights; held = Bytes bs } in
        with_mapping (with_pages (mapping space.areas) (map.insert pages (address / 4096) m)))) (one_is bytes)
        ∙ sym (ap (λ (o : Option Mapped).
        with_mapping (with_pages (mapping space.areas) (bytes_changed_at set_one (address / 4096) o pages))) there)
        ∙ sym (ap (λ (m : Option Mapped). put_mapped task (address / 4096) (address % 4096) value m
        (reach space handed)) there)
    by_held rights (PageOf name number) there is_private own = absurd (cc is_private)

    by : (o : Option Mapped) → map.get pages (address / 4096) ≡ o → shared_at o ≡ None
        → is_ready_mapped space handed (address / 4096) o ≡ true
        → with_mapping news ≡ put_mapped task (address / 4096) (address % 4096) value
        (map.get pages (address / 4096)) (reach space handed)
    by None there is_private own =
        ap with_mapping (unwritten done refl there)
        ∙ sym (ap (λ (m : Option Mapped). put_mapped task (address / 4096) (address % 4096) value m
        (reach space handed)) there)
    by (Some m) there is_private own = by_held m.rights m.held there is_private own
