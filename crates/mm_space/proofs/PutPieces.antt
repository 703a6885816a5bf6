-- A piece of a run put into the page that it lies in.
use Rattle.std.proofs.Common.{◌≡◌, ℕ, ◌+◌, ◌/◌, ◌%◌, ◌^◌, ◌<◌, ◌≤◌, ◌↔◌, Bool, true, false, List, length, Option, Some}
use Rattle.std.proofs.Common.{None, refl, ap, sym, ◌∙◌, arith}
use Rattle.std.specs.Prelude.{IsTrue}
use Rattle.std.specs.FinMap as map
use Rattle.std.proofs.lemmas.Bool.{false≢true}
use Rattle.rv_atomic.specs.declared.reservations.Reservation.{Reservation}
use Rattle.mm_frames.specs.Numbers.{with_run}
use Rattle.mm_areas.specs.declared.areas.Areas.{Areas}
use Rattle.mm_areas.specs.declared.page.SharedPage.{SharedPage}
use Rattle.mm_areas.specs.declared.rights.Rights.{Rights}
use Rattle.mm_areas.specs.Contents.{bytes_changed_at, with_change}
use Rattle.mm_areas.specs.Mappings.{Mapping, mapping, with_pages}
use Rattle.mm_areas.specs.Own.{owns}
use Rattle.mm_areas.specs.Pages.{Held, Bytes, PageOf, Mapped}
use Rattle.mm_space.specs.declared.handed.Handed.{Handed}
use Rattle.mm_space.specs.declared.space.Space.{Space}
use Rattle.mm_space.specs.Accesses.{page_number}
use Rattle.mm_space.specs.Handed.{InHand, hand_of}
use Rattle.mm_space.specs.Places.{is_ready_at, is_ready_held, is_ready_mapped, shared_at, shared_held}
use Rattle.mm_space.specs.Puts.{put_run, with_area}
use Rattle.mm_space.specs.Runs.{put_run_in_area}
use Rattle.mm_space.specs.Spaces.{AddressSpace, Reach, reach}
use Rattle.mm_space.proofs.NearPuts.{IsPrivatePage, own_page}
use Rattle.mm_space.proofs.PageRuns.{area_run, private_run, unmapped_run}

-- a piece lies in the page of its first address
-- getpagesize(2): 4,096 bytes
pub record Lies (at : ℕ) (run : List ℕ) : Type 0 where
  pub small : at < 2 ^ 64
  pub inside : at % 4096 + length run ≤ 4096

module _ (task at : ℕ) (run : List ℕ) (lies : Lies at run) where
  -- into a page whose bytes are its own
  pub put_own : (areas : Areas) (news : Mapping) (reservations : List Reservation) (hand : List InHand)
      → owns areas (at / 4096) ≡ true
      → news ≡ with_pages (mapping areas)
      (with_change (mapping areas).pages (at / 4096) (λ bytes. with_run bytes (at % 4096) run))
      → (let r : Reach = record { space = record { mapping = news; reservations = reservations }; hand = hand } in r)
      ≡ put_run task at run
      (record { space = record { mapping = mapping areas; reservations = reservations }; hand = hand })
  put_own areas news reservations hand owned changed =
      let page : IsPrivatePage areas (at / 4096) = own_page areas (at / 4096) owned in
      let with_mapping : Mapping → Reach =
      λ m. record { space = record { mapping = m; reservations = reservations }; hand = hand } in
      let with : List ℕ → List ℕ = λ bytes. with_run bytes (at % 4096) run in
      ap with_mapping changed
      ∙ ap (λ (o : Option Mapped).
      with_mapping (with_pages (mapping areas) (bytes_changed_at with (at / 4096) o (mapping areas).pages))) page.there
      ∙ sym (private_run task (at / 4096) page.rights (with_mapping (mapping areas))
      (omega (arith, lies.small)) run page.bytes at (at % 4096) page.there page.whole
      (omega (arith, lies.small)) lies.inside)

  -- into a page of a shared area
  into_shared : (space : AddressSpace) (hand : List InHand) (page : SharedPage)
      → shared_at (map.get space.mapping.pages (at / 4096)) ≡ Some page
      → (let r : Reach =
      record {
        space = space;
        hand = with_area page.area (put_run_in_area task page.number (at % 4096) run) hand;
      } in r)
      ≡ put_run task at run (record { space = space; hand = hand })
  into_shared space hand page shared = by (map.get space.mapping.pages (at / 4096)) refl shared
    where
      after : SharedPage → Reach
      after p = record { space = space; hand = with_area p.area (put_run_in_area task p.number (at % 4096) run) hand }

      before : Reach
      before = record { space = space; hand = hand }

      by_held : (rights : Rights) (held : Held) → map.get space.mapping.pages (at / 4096)
          ≡ Some (record { rights = rights; held = held }) → shared_held held ≡ Some page
          → after page ≡ put_run task at run before
      by_held rights (Bytes bytes) there is = absurd (cc is)
      by_held rights (PageOf name number) there is =
          let p : SharedPage = record { area = name; number = number } in
          let same : page ≡ p = cc is in
          ap after same
          ∙ sym (area_run task (at / 4096) number name rights space (omega (arith, lies.small)) there run at
          (at % 4096) hand (omega (arith, lies.small)) lies.inside)

      by : (o : Option Mapped) → map.get space.mapping.pages (at / 4096) ≡ o → shared_at o ≡ Some page
          → after page ≡ put_run task at run before
      by None there is = absurd (cc is)
      by (Some m) there is = by_held m.rights m.held there is

  pub put_shared : (was is : Mapping) (reservations : List Reservation) (hand hands : List InHand) (page : SharedPage)
      → is ≡ was → shared_at (map.get is.pages (at / 4096)) ≡ Some page
      → hands ≡ with_area page.area (put_run_in_area task page.number (at % 4096) run) hand
      → (let r : Reach = record { space = record { mapping = is; reservations = reservations }; hand = hands } in r)
      ≡ put_run task at run (record { space = record { mapping = was; reservations = reservations }; hand = hand })
  put_shared was is reservations hand hands page same shared put =
      ap (λ (h : List InHand).
      (let r : Reach = record { space = record { mapping = is; reservations = reservations }; hand = h } in r)) put
      ∙ into_shared (record { mapping = is; reservations = reservations }) hand page shared
      ∙ ap (λ (m : Mapping).
      put_run task at run (record { space = record { mapping = m; reservations = reservations }; hand = hand }))
      same

  -- where there is neither, no page is mapped
  into_none : (space : Space) (handed : Handed) → shared_at (map.get (mapping space.areas).pages (at / 4096)) ≡ None
      → is_ready_at space handed at ≡ true → (owns space.areas (at / 4096) ≡ true → ⊥)
      → reach space handed ≡ put_run task at run (reach space handed)
  into_none space handed apart ready unowned = by (map.get (mapping space.areas).pages (at / 4096)) refl apart at_page
    where
      page_is : page_number at ≡ at / 4096
      page_is = omega (arith, lies.small)

      at_page : is_ready_mapped space handed (at / 4096) (map.get (mapping space.areas).pages (at / 4096)) ≡ true
      at_page = sym (ap (λ n. is_ready_mapped space handed n (map.get (mapping space.areas).pages n)) page_is) ∙ ready

      by_held : (held : Held) → shared_held held ≡ None → is_ready_held space handed (at / 4096) held ≡ true
          → reach space handed ≡ put_run task at run (reach space handed)
      by_held (Bytes bytes) is own = absurd (unowned own)
      by_held (PageOf name number) is own = absurd (cc is)

      by : (o : Option Mapped) → map.get (mapping space.areas).pages (at / 4096) ≡ o → shared_at o ≡ None
          → is_ready_mapped space handed (at / 4096) o ≡ true
          → reach space handed ≡ put_run task at run (reach space handed)
      by None there is own =
          sym (unmapped_run task (at / 4096) (reach space handed) (omega (arith, lies.small)) there run at (at % 4096)
          (omega (arith, lies.small)) lies.inside)
      by (Some m) there is own = by_held m.held is own

  pub put_nowhere : (space : Space) (handed : Handed) (is : Mapping) (done : Bool) → is ≡ mapping space.areas
      → shared_at (map.get is.pages (at / 4096)) ≡ None → is_ready_at space handed at ≡ true
      → done ≡ false → (IsTrue done ↔ ((owns space.areas (at / 4096) ≡ true) × (at % 4096 + length run ≤ 4096)))
      → (let r : Reach = record {
        space = record { mapping = is; reservations = space.reservations };
        hand = hand_of handed;
      } in r) ≡ put_run task at run (reach space handed)
  put_nowhere space handed is done same apart ready undone fits =
      ap (λ (m : Mapping).
      (let r : Reach = record {
        space = record { mapping = m; reservations = space.reservations };
        hand = hand_of handed;
      } in r)) same
      ∙ into_none space handed (ap (λ (m : Mapping). shared_at (map.get m.pages (at / 4096))) (sym same) ∙ apart) ready
      (λ own. false≢true (sym undone ∙ fits.1 (own, lies.inside)))
