-- Laws of pages and regions that are copied one after another, and that stand for the same.
use Rattle.std.proofs.Common.{◌≡◌, ℕ, ◌+◌, ◌<◌, ◌≤◌, true, List, [], ◌∷◌, ◌++◌, length, get_or, map, set, take, refl}
use Rattle.std.proofs.Common.{ap, sym, ◌∙◌, subst, arith}
use Rattle.std.proofs.lemmas.List.{map-append, get_or-map, length-map, take_more}
use Rattle.std.proofs.Math.Seq.{map-set_same}
use Rattle.mm_areas.specs.declared.areas.Region.{Region}
use Rattle.mm_areas.specs.Pages.{laid}
use Rattle.mm_areas.specs.Regions.{pages_of}
use Rattle.mm_areas.specs.Order.{AreFrom, are_from}
use Rattle.mm_areas.specs.Shares.{Seen, seen_by}
use Rattle.mm_areas.proofs.RegionLaws.{end_of, mapped_in, length-mapped_in, order_from_test, test_from_order}

-- ---- lists that are copied

-- an item in its place that stands for what it did leaves the list so
pub kept_more : {X Y : Type 0} (word : X → Y) (olds news : List X) (index : ℕ) (old new : X)
    → map word news ≡ map word olds → old ≡ get_or news index old → word new ≡ word old
    → map word (set news index new) ≡ map word olds
kept_more word olds news index old new are was same = map-set_same word news index new old (same ∙ ap word was) ∙ are

-- one more copy, of the next item
pub copied_more : {X Y : Type 0} (word : X → Y) (olds news copies : List X) (index : ℕ) (old copy : X)
    → index < length news → map word news ≡ map word olds → map word copies ≡ take index (map word olds)
    → old ≡ get_or news index old → word copy ≡ word old
    → map word (copies ++ copy ∷ []) ≡ take (index + 1) (map word olds)
copied_more word olds news copies index old copy within are copied was same =
    let size : length news ≡ length (map word olds) = sym (length-map news word) ∙ ap length are in
    let next : get_or (map word olds) index (word old) ≡ word copy =
    ap (λ (ws : List _). get_or ws index (word old)) (sym are) ∙ get_or-map word news index old (word old) within
    ∙ ap word (sym was) ∙ sym same in
    map-append word copies (copy ∷ [])
    ∙ ap (λ (ws : List _). ws ++ word copy ∷ []) copied
    ∙ ap (λ w. take index (map word olds) ++ w ∷ []) (sym next)
    ∙ sym (take_more (map word olds) index (word old) (omega (arith, size)))

-- ---- regions that stand for the same

seen_here : (x y : Region) (xs ys : List Region) → map seen_by (x ∷ xs) ≡ map seen_by (y ∷ ys) → (seen_by x ≡ seen_by y)
    × (map seen_by xs ≡ map seen_by ys)
seen_here x y xs ys same = (cc same, cc same)

pub seen_pages : (xs ys : List Region) → map seen_by xs ≡ map seen_by ys → pages_of xs ≡ pages_of ys
seen_pages [] [] same = refl
seen_pages [] (y ∷ ys) same = absurd (omega (arith, ap length same))
seen_pages (x ∷ xs) [] same = absurd (omega (arith, ap length same))
seen_pages (x ∷ xs) (y ∷ ys) same =
    let parts = seen_here x y xs ys same in
    ap (λ (s : Seen). laid s.first s.pages (pages_of xs)) parts.0
    ∙ ap (laid y.first (mapped_in y)) (seen_pages xs ys parts.1)

order_seen : (from : ℕ) (xs ys : List Region) → map seen_by xs ≡ map seen_by ys → AreFrom from ys → AreFrom from xs
order_seen from [] [] same h = h
order_seen from [] (y ∷ ys) same h = absurd (omega (arith, ap length same))
order_seen from (x ∷ xs) [] same h = absurd (omega (arith, ap length same))
order_seen from (x ∷ xs) (y ∷ ys) same h =
    let parts = seen_here x y xs ys same in
    let first = ap (λ (s : Seen). s.first) parts.0 in
    let size : length x.pages.items ≡ length y.pages.items =
    sym (length-mapped_in x) ∙ ap (λ (s : Seen). length s.pages) parts.0 ∙ length-mapped_in y in
    let ends : end_of y ≡ end_of x = omega (arith, first, size) in (
      (let low : from ≤ x.first = omega (arith, h.0, first) in low),
      (let some : 0 < length x.pages.items = omega (arith, h.1, size) in some),
      subst (λ (m : ℕ). AreFrom m xs) ends (order_seen (end_of y) xs ys parts.1 h.2),
    )

pub seen_order : (xs ys : List Region) → map seen_by xs ≡ map seen_by ys → are_from 0 ys ≡ true → are_from 0 xs ≡ true
seen_order xs ys same h = test_from_order 0 xs (order_seen 0 xs ys same (order_from_test 0 ys h))
