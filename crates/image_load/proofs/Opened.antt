-- The address space that a program begins with, from what is laid one after another.
use Rattle.std.proofs.Common.{◌≡◌, ℕ, ◌+◌, ◌*◌, ◌≤◌, List, length, ap, ◌∙◌, arith}
use Rattle.std.specs.Prelude.{All}
use Rattle.std.specs.FinMap.{len}
use Rattle.elf_image.specs.declared.image.Segment.{Segment}
use Rattle.elf_image.specs.Loadable.{Loadable, IsPlaced}
use Rattle.mm_areas.specs.declared.places.TheConstants.{MOST_PAGES}
use Rattle.mm_areas.specs.Mappings.{Mapping, pages_in, unmapped_from, with_pages}
use Rattle.mm_areas.specs.Pages.{Mapped, Pages, laid}
use Rattle.mm_areas.proofs.PageLaws.{len-laid_free}
use Rattle.mm_areas.proofs.PlaceLaws.{len_laid_few}
use Rattle.image_load.specs.Stacks.{ProgramStart, stack_bytes, stack_pointer}
use Rattle.image_load.specs.Pages.{image_pages, opening_pages, pages_mapped, run_of, segments_laid, stack_count}
use Rattle.image_load.specs.Pages.{stack_first, stack_page}
use Rattle.image_load.specs.Loading.{highest_end, opening_break}
use Rattle.image_load.proofs.Runs.{length-run}
use Rattle.image_load.proofs.PageCounts.{none_above}

-- without the stack's pages there's room for them
pub few_pages : (image : Loadable) (ss : List Segment) → ss ≡ image.segments → pages_mapped image ≤ MOST_PAGES
    → len (segments_laid ss ss) ≤ 16320
unfolding pages_mapped
few_pages image ss same few = omega (arith, few, ap (λ xs. len (segments_laid xs xs)) same)

-- and with them they're no more than there may be
pub few_with_stack : (ms : List Mapped) (pages : Pages) → length ms ≡ 64 → len pages ≤ 16320
    → len (laid stack_first ms pages) ≤ MOST_PAGES
few_with_stack ms pages long few = omega (arith, long, few, len_laid_few stack_first ms pages)

-- the pages are those of the image, and the stack's
pub pages_counted : (image : Loadable) (start : ProgramStart) → All IsPlaced image.segments
    → len (opening_pages image start) ≡ pages_mapped image
unfolding opening_pages pages_mapped
pages_counted image start placed =
    let page = stack_page (stack_pointer start) (stack_bytes start) in
    let all = image.segments in
    len-laid_free stack_first (run_of page stack_first stack_count) (image_pages image)
    (λ q low high. none_above all all q placed (omega (arith, low)))
    ∙ ap (λ n. len (image_pages image) + n) (length-run page stack_first stack_count)

-- the mapping that is made of the image's pages and the stack's
pub mapping_made : (image : Loadable) (start : ProgramStart) (ss : List Segment) (sp at : ℕ) (bytes : List ℕ)
    (ms : List Mapped) (old new : Mapping) →
    ss ≡ image.segments → sp ≡ stack_pointer start → bytes ≡ stack_bytes start → at ≡ 4096 * pages_in (highest_end ss) →
    ms ≡ run_of (stack_page sp bytes) stack_first stack_count →
    old ≡ with_pages (unmapped_from at) (segments_laid ss ss) → new ≡ with_pages old (laid stack_first ms old.pages) →
    new ≡ record { pages = opening_pages image start; start = opening_break image; program_break = opening_break image }
unfolding opening_pages opening_break
mapping_made image start ss sp at bytes ms old new same is_sp is_bytes is_at are made done =
    let break : at ≡ 4096 * pages_in (highest_end image.segments) =
    is_at ∙ ap (λ xs. 4096 * pages_in (highest_end xs)) same in
    let stack : ms ≡ run_of (stack_page (stack_pointer start) (stack_bytes start)) stack_first stack_count =
    are ∙ ap (λ p. run_of (stack_page p bytes) stack_first stack_count) is_sp
    ∙ ap (λ bs. run_of (stack_page (stack_pointer start) bs) stack_first stack_count) is_bytes in
    let below : old ≡ with_pages (unmapped_from (4096 * pages_in (highest_end image.segments))) (image_pages image) =
    made ∙ ap (λ n. with_pages (unmapped_from n) (segments_laid ss ss)) break
    ∙ ap (λ xs. with_pages (unmapped_from (4096 * pages_in (highest_end image.segments))) (segments_laid xs xs)) same in
    done ∙ ap (λ xs. with_pages old (laid stack_first xs old.pages)) stack
    ∙ ap
    (λ (m : Mapping). with_pages m
    (laid stack_first (run_of (stack_page (stack_pointer start) (stack_bytes start)) stack_first stack_count)
    m.pages)) below
