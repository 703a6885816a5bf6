-- Segments of which the first is looked at, and the others after it.
use Rattle.std.proofs.Common.{◌≡◌, ℕ, suc, ◌+◌, ◌-◌, ◌^◌, ◌<◌, ◌≤◌, List, [], ◌∷◌, length, take, drop, take_all, get_or}
use Rattle.std.proofs.Common.{refl, sym, ap, subst, arith}
use Rattle.std.specs.Prelude.{All}
use Rattle.std.specs.FinMap.{len}
use Rattle.elf_image.specs.declared.image.Segment.{Segment}
use Rattle.elf_image.specs.Loadable.{first_page, page_count, IsPlaced}
use Rattle.image_load.specs.Pages.{image_page, run_of, segments_laid}
use Rattle.image_load.proofs.PageCounts.{laid_grows}

-- a list with no item, and one with a first item
pub no_items : {A : Type 0} (xs : List A) → length xs < 1 → xs ≡ []
no_items [] none = refl
no_items (x ∷ xs) none = absurd (omega arith)

pub first_and_rest : {A : Type 0} (xs : List A) (first : A) → 1 ≤ length xs → first ≡ get_or xs 0 first →
    xs ≡ first ∷ take (length xs - 1) (drop 1 xs)
first_and_rest [] first some is = absurd (omega arith)
first_and_rest (x ∷ xs) first some is =
    let whole : take (suc (length xs) - 1) xs ≡ xs = take_all (suc (length xs) - 1) xs (omega arith) in
    λ i. sym is i ∷ sym whole i

pub rest_placed : (ss : List Segment) (first : Segment) → 1 ≤ length ss → first ≡ get_or ss 0 first → All IsPlaced ss →
    All IsPlaced (take (length ss - 1) (drop 1 ss))
rest_placed ss first some is placed =
    let both = subst (All IsPlaced) (first_and_rest ss first some is) placed in
    λ k d below. both (suc k) d (omega arith)

pub first_placed : (ss : List Segment) (first : Segment) → 1 ≤ length ss → first ≡ get_or ss 0 first → All IsPlaced ss
    → IsPlaced first
first_placed ss first some is placed = subst IsPlaced (sym is) (placed 0 first (omega arith))

pub first_ends : (ss : List Segment) (first : Segment) → 1 ≤ length ss → first ≡ get_or ss 0 first → All IsPlaced ss →
    first_page first + page_count first ≤ 2 ^ 26
first_ends ss first some is placed = let here = first_placed ss first some is placed in omega (arith, here)

pub rest_few : (all ss : List Segment) (first : Segment) (most : ℕ) → 1 ≤ length ss → first ≡ get_or ss 0 first →
    len (segments_laid all ss) ≤ most → len (segments_laid all (take (length ss - 1) (drop 1 ss))) ≤ most
rest_few all ss first most some is few =
    let rest = take (length ss - 1) (drop 1 ss) in
    omega (
      arith,
      few,
      ap (λ xs. len (segments_laid all xs)) (first_and_rest ss first some is),
      laid_grows (first_page first) (run_of (image_page all) (first_page first) (page_count first))
          (segments_laid all rest),
    )
