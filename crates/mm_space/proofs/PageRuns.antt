-- A run of bytes put into one page, and a run in two parts.
use Rattle.std.proofs.Common.{◌≡◌, ℕ, ◌+◌, ◌*◌, ◌%◌, ◌^◌, ◌<◌, ◌≤◌, List, [], ◌∷◌, ◌++◌, length, slice_set, Option}
use Rattle.std.proofs.Common.{Some, None, refl, ap, sym, ◌∙◌, arith}
use Rattle.std.specs.FinMap as map
use Rattle.sn_base.proofs.Maps.{insert_same}
use Rattle.rv_table.specs.declared.error.Area.{Area}
use Rattle.rv_table.specs.Bytes.{behind}
use Rattle.mm_frames.specs.Numbers.{with_run}
use Rattle.mm_areas.specs.declared.rights.Rights.{Rights}
use Rattle.mm_areas.specs.Mappings.{with_pages}
use Rattle.mm_areas.specs.Pages.{Bytes, PageOf, Mapped}
use Rattle.mm_space.specs.Accesses.{page_number, page_offset}
use Rattle.mm_space.specs.Handed.{InHand}
use Rattle.mm_space.specs.Puts.{put_byte, put_mapped, put_in_area, put_run, with_area}
use Rattle.mm_space.specs.Runs.{put_run_in_area}
use Rattle.mm_space.specs.Spaces.{AddressSpace, Reach}
use Rattle.mm_space.proofs.AreaRuns.{changed_twice, unchanged_in}
use Rattle.mm_space.proofs.NearPuts.{byte_put}
use Rattle.mm_space.proofs.SetRuns.{set_run, set_run_is}

-- the first part is put before the rest
pub put_split : (task at : ℕ) (first rest : List ℕ) (r : Reach) → at < 2 ^ 64 → put_run task at (first ++ rest) r
    ≡ put_run task ((at + length first) % 2 ^ 64) rest (put_run task at first r)
unfolding put_run
put_split task at [] rest r small = ap (λ a. put_run task a rest r) (omega (arith, small))
put_split task at (b ∷ bs) rest r small =
    put_split task (behind at) bs rest (put_byte task at b r) (omega arith)
    ∙ ap (λ a. put_run task a rest (put_run task (behind at) bs (put_byte task at b r))) (omega arith)

-- into a private page
module _ (task page : ℕ) (rights : Rights) (r : Reach) (low : page < 2 ^ 52) where
  abbrev private_of : List ℕ → Mapped
  private_of bytes = record { rights = rights; held = Bytes bytes }

  abbrev with_bytes : List ℕ → Reach
  with_bytes bytes = record {
    space = record {
      mapping = with_pages r.space.mapping (map.insert r.space.mapping.pages page (private_of bytes));
      reservations = r.space.reservations;
    };
    hand = r.hand;
  }

  bytes_set : (run bytes : List ℕ) (at offset : ℕ) → at ≡ (page * 4096 + offset) % 2 ^ 64 → offset + length run ≤ 4096
      → put_run task at run (with_bytes bytes) ≡ with_bytes (set_run bytes offset run)
  unfolding put_run
  bytes_set [] bytes at offset is inside = refl
  bytes_set (b ∷ bs) bytes at offset is inside =
      ap (put_run task (behind at) bs) (byte_put task page rights r low at offset b bytes is (omega (arith, inside)))
      ∙ bytes_set bs (slice_set bytes offset b) (behind at) (offset + 1) (omega (arith, is)) (omega (arith, inside))

  pub private_run : (run bytes : List ℕ) (at offset : ℕ) → map.get r.space.mapping.pages page ≡ Some (private_of bytes)
      → length bytes ≡ 4096 → at ≡ (page * 4096 + offset) % 2 ^ 64 → offset + length run ≤ 4096
      → put_run task at run r ≡ with_bytes (with_run bytes offset run)
  private_run run bytes at offset there whole is inside =
      ap (λ ps. put_run task at run
      (record {
        space = record { mapping = with_pages r.space.mapping ps; reservations = r.space.reservations };
        hand = r.hand;
      })) (sym (insert_same r.space.mapping.pages page (private_of bytes) there))
      ∙ bytes_set run bytes at offset is inside
      ∙ ap with_bytes (set_run_is run bytes offset (omega (arith, inside, whole)))

-- into a page of a shared area
module _ (task page number : ℕ) (name : Area) (rights : Rights) (space : AddressSpace) (low : page < 2 ^ 52)
    (there : map.get space.mapping.pages page ≡ Some (record { rights = rights; held = PageOf name number })) where
  abbrev with_hand : List InHand → Reach
  with_hand hand = record { space = space; hand = hand }

  area_byte_put : (at offset value : ℕ) (hand : List InHand) → at ≡ (page * 4096 + offset) % 2 ^ 64 → offset < 4096
      → put_byte task at value (with_hand hand) ≡ with_hand (with_area name (put_in_area task number offset value) hand)
  area_byte_put at offset value hand is inside =
      let page_is : page_number at ≡ page = omega (arith, is, inside, low) in
      let offset_is : page_offset at ≡ offset = omega (arith, is, inside, low) in
      ap (λ n. put_mapped task n (page_offset at) value (map.get space.mapping.pages n) (with_hand hand)) page_is
      ∙ ap (λ o. put_mapped task page o value (map.get space.mapping.pages page) (with_hand hand)) offset_is
      ∙ ap (λ (m : Option Mapped). put_mapped task page offset value m (with_hand hand)) there

  pub area_run : (run : List ℕ) (at offset : ℕ) (hand : List InHand) → at ≡ (page * 4096 + offset) % 2 ^ 64
      → offset + length run ≤ 4096 → put_run task at run (with_hand hand)
      ≡ with_hand (with_area name (put_run_in_area task number offset run) hand)
  unfolding put_run put_run_in_area
  area_run [] at offset hand is inside = ap with_hand (sym (unchanged_in name hand))
  area_run (b ∷ bs) at offset hand is inside =
      ap (put_run task (behind at) bs) (area_byte_put at offset b hand is (omega (arith, inside)))
      ∙ area_run bs (behind at) (offset + 1) (with_area name (put_in_area task number offset b) hand)
      (omega (arith, is)) (omega (arith, inside))
      ∙ ap with_hand
      (changed_twice name (put_in_area task number offset b) (put_run_in_area task number (offset + 1) bs) hand)

-- where no page is mapped nothing is put
module _ (task page : ℕ) (r : Reach) (low : page < 2 ^ 52) (there : map.get r.space.mapping.pages page ≡ None) where
  unmapped_byte : (at offset value : ℕ) → at ≡ (page * 4096 + offset) % 2 ^ 64 → offset < 4096
      → put_byte task at value r ≡ r
  unmapped_byte at offset value is inside =
      let page_is : page_number at ≡ page = omega (arith, is, inside, low) in
      ap (λ n. put_mapped task n (page_offset at) value (map.get r.space.mapping.pages n) r) page_is
      ∙ ap (λ (m : Option Mapped). put_mapped task page (page_offset at) value m r) there

  pub unmapped_run : (run : List ℕ) (at offset : ℕ) → at ≡ (page * 4096 + offset) % 2 ^ 64 → offset + length run ≤ 4096
      → put_run task at run r ≡ r
  unfolding put_run
  unmapped_run [] at offset is inside = refl
  unmapped_run (b ∷ bs) at offset is inside =
      ap (put_run task (behind at) bs) (unmapped_byte at offset b is (omega (arith, inside)))
      ∙ unmapped_run bs (behind at) (offset + 1) (omega (arith, is)) (omega (arith, inside))

pub put_none : (task at : ℕ) (r : Reach) → put_run task at [] r ≡ r
unfolding put_run
put_none task at r = refl
