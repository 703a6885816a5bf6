-- The bytes of a page into which bytes are put that stand from an address on.
use Rattle.std.proofs.Common.{◌≡◌, ℕ, ◌+◌, ◌-◌, ◌<◌, ◌≤◌, List, ◌++◌, length, get_or, take, drop, replicate, min, max}
use Rattle.std.proofs.Common.{sym, ap, ◌∙◌, inl, inr, arith, length-append, length-drop, ◌⊎◌}
use Rattle.std.specs.Prelude.{slice_range}
use Rattle.std.proofs.lemmas.Bool.{cases_lt, cond-true, cond-false}
use Rattle.std.proofs.lemmas.List.{get_or-replicate, length-replicate, get_or_append_left, get_or-append_right}
use Rattle.std.proofs.lemmas.List.{get_or-take, get_or-drop, length-take-le}
use Rattle.mm_frames.specs.Numbers.{with_run}
use Rattle.mm_areas.specs.Pages.{is_within}
use Rattle.mm_areas.proofs.PageLaws.{within_range, apart_below, apart_behind}
use Rattle.image_load.specs.Pages.{byte_over, run_of}
use Rattle.image_load.proofs.Runs.{length-run, get_or-run, run_all}

-- bytes that are all 0
pub zeros_run : (byte : ℕ → ℕ) (first count : ℕ) → ((at : ℕ) → byte at ≡ 0)
    → replicate count 0 ≡ run_of byte first count
zeros_run byte first count none =
    run_all 0 byte first count (replicate count 0) (length-replicate count 0)
    (λ k below. get_or-replicate count k 0 0 below ∙ sym (none (first + k)))

-- the byte at an address that the bytes reach, and at one that they don't
over_in : (first : ℕ) (bytes : List ℕ) (at other : ℕ) → first ≤ at → at < first + length bytes
    → byte_over first bytes at other ≡ get_or bytes (at - first) 0
over_in first bytes at other low high =
    cond-true (is_within first (length bytes) at) (get_or bytes (at - first) 0) other
    (within_range first (length bytes) at low high)

over_below : (first : ℕ) (bytes : List ℕ) (at other : ℕ) → at < first → byte_over first bytes at other ≡ other
over_below first bytes at other low =
    cond-false (is_within first (length bytes) at) (get_or bytes (at - first) 0) other
    (apart_below first (length bytes) at low)

over_behind : (first : ℕ) (bytes : List ℕ) (at other : ℕ) → first + length bytes ≤ at → byte_over first bytes at other
    ≡ other
over_behind first bytes at other high =
    cond-false (is_within first (length bytes) at) (get_or bytes (at - first) 0) other
    (apart_behind first (length bytes) at high)

-- bytes that reach no address of the run
pub none_put : (address first count : ℕ) (bytes old : List ℕ) (byte : ℕ → ℕ) →
    min (address + length bytes) (first + count) ≤ max address first → old ≡ run_of byte first count →
    old ≡ run_of (λ at. byte_over address bytes at (byte at)) first count
none_put address first count bytes old byte apart is =
    run_all 0 (λ at. byte_over address bytes at (byte at)) first count old (ap length is ∙ length-run byte first count)
    (λ k below. ap (λ xs. get_or xs k 0) is ∙ get_or-run byte first count k 0 below
    ∙ sym (by k below (cases_lt (first + k) address)))
  where
    by : (k : ℕ) → k < count → (first + k < address) ⊎ (address ≤ first + k)
        → byte_over address bytes (first + k) (byte (first + k)) ≡ byte (first + k)
    by k below (inl low) = over_below address bytes (first + k) (byte (first + k)) low
    by k below (inr high) = over_behind address bytes (first + k) (byte (first + k)) (omega arith)

-- a read before, in and behind a run that was put in
read_before : (a k : ℕ) (old part : List ℕ) → a ≤ length old → k < a → get_or (with_run old a part) k 0 ≡ get_or old k 0
read_before a k old part fits below =
    let front : k < length (take a old ++ part) =
    omega (arith, length-append (take a old) part, length-take-le a old fits) in
    get_or_append_left (take a old ++ part) (drop (a + length part) old) 0 k front
    ∙ get_or_append_left (take a old) part 0 k (omega (arith, length-take-le a old fits)) ∙ get_or-take a old k 0 below

read_in : (a k : ℕ) (old part : List ℕ) → a ≤ length old → a ≤ k → k < a + length part
    → get_or (with_run old a part) k 0 ≡ get_or part (k - a) 0
read_in a k old part fits above below =
    let front : k < length (take a old ++ part) =
    omega (arith, length-append (take a old) part, length-take-le a old fits) in
    get_or_append_left (take a old ++ part) (drop (a + length part) old) 0 k front
    ∙ get_or-append_right (take a old) part a k 0 (length-take-le a old fits) above

read_behind : (a k : ℕ) (old part : List ℕ) → a ≤ length old → a + length part ≤ k
    → get_or (with_run old a part) k 0 ≡ get_or old k 0
read_behind a k old part fits above =
    let front : length (take a old ++ part) ≡ a + length part =
    omega (arith, length-append (take a old) part, length-take-le a old fits) in
    let there : a + length part + (k - (a + length part)) ≡ k = omega arith in
    get_or-append_right (take a old ++ part) (drop (a + length part) old) (a + length part) k 0 front above
    ∙ get_or-drop (a + length part) old (k - (a + length part)) 0
    ∙ ap (λ j. get_or old j 0) there

length-put : (a : ℕ) (old part : List ℕ) → a + length part ≤ length old → length (with_run old a part) ≡ length old
length-put a old part fits =
    omega (
      arith,
      length-append (take a old ++ part) (drop (a + length part) old),
      length-append (take a old) part,
      length-take-le a old (omega arith),
      length-drop (a + length part) old,
    )

-- bytes of which a part is put into the run
pub part_put : (address first count from end : ℕ) (bytes old part : List ℕ) (byte : ℕ → ℕ) →
    from ≡ max address first → end ≡ min (address + length bytes) (first + count) → from < end →
    part ≡ slice_range bytes (from - address) (end - address) → old ≡ run_of byte first count →
    with_run old (from - first) part ≡ run_of (λ at. byte_over address bytes at (byte at)) first count
part_put address first count from end bytes old part byte is_from is_end meets is_part is =
    run_all 0 over first count (with_run old a part) (length-put a old part (omega (arith, part_long, old_long))
    ∙ old_long) (λ k below. by k below (cases_lt k a) (cases_lt k (a + length part)))
  where
    over : ℕ → ℕ
    over at = byte_over address bytes at (byte at)

    a : ℕ
    a = from - first

    old_long : length old ≡ count
    old_long = ap length is ∙ length-run byte first count

    part_long : length part ≡ end - from
    part_long =
        let room : end - address - (from - address) ≤ length (drop (from - address) bytes) =
        omega (arith, length-drop (from - address) bytes) in
        ap length is_part ∙ length-take-le (end - address - (from - address)) (drop (from - address) bytes) room
        ∙ omega arith

    old_at : (k : ℕ) → k < count → get_or old k 0 ≡ byte (first + k)
    old_at k below = ap (λ xs. get_or xs k 0) is ∙ get_or-run byte first count k 0 below

    part_at : (k : ℕ) → a ≤ k → k < a + length part → get_or part (k - a) 0 ≡ get_or bytes (first + k - address) 0
    part_at k low high =
        let place : from - address + (k - a) ≡ first + k - address = omega arith in
        ap (λ xs. get_or xs (k - a) 0) is_part
        ∙ get_or-take (end - address - (from - address)) (drop (from - address) bytes) (k - a) 0
        (omega (arith, part_long))
        ∙ get_or-drop (from - address) bytes (k - a) 0
        ∙ ap (λ j. get_or bytes j 0) place

    by : (k : ℕ) → k < count → (k < a) ⊎ (a ≤ k) → (k < a + length part) ⊎ (a + length part ≤ k)
        → get_or (with_run old a part) k 0 ≡ over (first + k)
    by k below (inl low) which =
        read_before a k old part (omega (arith, old_long)) low ∙ old_at k below
        ∙ sym (over_below address bytes (first + k) (byte (first + k)) (omega arith))
    by k below (inr from_a) (inl inside) =
        read_in a k old part (omega (arith, old_long)) from_a inside ∙ part_at k from_a inside
        ∙ sym (over_in address bytes (first + k) (byte (first + k)) (omega arith) (omega (arith, part_long)))
    by k below (inr from_a) (inr behind) =
        read_behind a k old part (omega (arith, old_long)) behind ∙ old_at k below
        ∙ sym (over_behind address bytes (first + k) (byte (first + k)) (omega (arith, part_long)))
