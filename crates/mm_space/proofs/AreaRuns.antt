-- A run of bytes put into a page of a shared area.
use Rattle.std.proofs.Common.{◌≡◌, ℕ, suc, ◌+◌, ◌*◌, ◌%◌, ◌^◌, ◌<◌, ◌≤◌, ◌==◌, ◌&&◌, ◌||◌, ◌↔◌, Bool, true, false, not}
use Rattle.std.proofs.Common.{cond, List, [], ◌∷◌, length, set, Option, Some, refl, ap, sym, ◌∙◌, arith, inl, inr}
use Rattle.std.proofs.Common.{subst}
use Rattle.std.specs.Prelude.{IsTrue, filter, if◌then◌else◌, slice_get, slice_set, unwrap_or}
use Rattle.std.specs.Bool.{OnTrue, OnFalse}
use Rattle.std.proofs.lemmas.Bool.{cases_lt, false≢true}
use Rattle.std.proofs.lemmas.Option.{slice_get_cases}
use Rattle.std.proofs.lemmas.Bool.Decides.{nat_tests}
use Rattle.std.proofs.lemmas.List.{get_or_past, get_or-set_same, set-get_or, set_past, set-set}
use Rattle.rv_table.specs.Areas.{is_area}
use Rattle.rv_table.specs.declared.error.Area.{Area}
use Rattle.rv_atomic.specs.declared.area_reservations.AreaReservation.{AreaReservation}
use Rattle.rv_atomic.specs.AreaReservations.{after_run_here}
use Rattle.rv_atomic.specs.Reservations.{granule, lies_over, meets}
use Rattle.mm_frames.specs.Frames.{page_at, with_page_changed}
use Rattle.mm_frames.specs.Numbers.{with_run}
use Rattle.mm_space.specs.Handed.{AreaState, InHand}
use Rattle.mm_space.specs.Puts.{changed_in_hand, put_in_area, with_area}
use Rattle.mm_space.specs.Runs.{put_run_in_area}
use Rattle.mm_space.proofs.SetRuns.{set_run, set_run_is}

-- ---- the pages

page_set : (pages : List (List ℕ)) (number offset b : ℕ)
    → page_at (set pages number (slice_set (page_at pages number) offset b)) number
    ≡ slice_set (page_at pages number) offset b
page_set pages number offset b = elim (cases_lt number (length pages)) [
  | inl within ↦ get_or-set_same pages number (slice_set (page_at pages number) offset b) [] within
  | inr past ↦
      let none : page_at pages number ≡ [] = get_or_past pages number [] past in
      ap (λ ps. page_at ps number) (set_past pages number (slice_set (page_at pages number) offset b) past) ∙ none
      ∙ sym (ap (λ p. slice_set p offset b) none)
]

pages_set : (task number : ℕ) (run : List ℕ) (offset : ℕ) (area : AreaState)
    → (put_run_in_area task number offset run area).pages
    ≡ set area.pages number (set_run (page_at area.pages number) offset run)
unfolding put_run_in_area
pages_set task number [] offset area = sym (set-get_or area.pages number [])
pages_set task number (b ∷ bs) offset area =
    let page : List ℕ = page_at area.pages number in
    let first : AreaState = put_in_area task number offset b area in
    pages_set task number bs (offset + 1) first
    ∙ ap (λ p. set first.pages number (set_run p (offset + 1) bs)) (page_set area.pages number offset b)
    ∙ set-set area.pages number (slice_set page offset b) (set_run (slice_set page offset b) (offset + 1) bs)

-- a page that is there has 4,096 bytes
pub pages_put : (task number : ℕ) (run : List ℕ) (offset : ℕ) (area : AreaState)
    → (number < length area.pages → length (page_at area.pages number) ≡ 4096) → offset + length run ≤ 4096
    → (put_run_in_area task number offset run area).pages
    ≡ with_page_changed area.pages number (λ bytes. with_run bytes offset run)
pages_put task number run offset area whole fits =
    let page : List ℕ = page_at area.pages number in
    pages_set task number run offset area
    ∙ elim (cases_lt number (length area.pages)) [
      | inl within ↦ ap (set area.pages number) (set_run_is run page offset (omega (arith, fits, whole within)))
      | inr past ↦
          set_past area.pages number (set_run page offset run) past
          ∙ sym (set_past area.pages number (with_run page offset run) past)
    ]

-- ---- the reservations

filter_all : {A : Type 0} (p : A → Bool) → ((x : A) → p x ≡ true) → (xs : List A) → filter p xs ≡ xs
filter_all p all [] = refl
filter_all p all (x ∷ xs) =
    ap (λ b. cond b (x ∷ filter p xs) (filter p xs)) (all x) ∙ ap (λ rest. x ∷ rest) (filter_all p all xs)

filter_twice : {A : Type 0} (p q s : A → Bool) → ((x : A) → (q x && p x) ≡ s x) → (xs : List A)
    → filter p (filter q xs) ≡ filter s xs
filter_twice p q s both [] = refl
filter_twice p q s both (x ∷ xs) =
    by (q x) (p x) refl (both x) ∙ ap (λ rest. cond (s x) (x ∷ rest) rest) (filter_twice p q s both xs)
  where
    by : (first second : Bool) → p x ≡ second → (first && second) ≡ s x
        → filter p (cond first (x ∷ filter q xs) (filter q xs))
        ≡ cond (s x) (x ∷ filter p (filter q xs)) (filter p (filter q xs))
    by true second is joined = ap (λ b. cond b (x ∷ filter p (filter q xs)) (filter p (filter q xs))) (is ∙ joined)
    by false second is joined = ap (λ b. cond b (x ∷ filter p (filter q xs)) (filter p (filter q xs))) joined

either_ends : (own first rest : Bool) → ((own || not first) && (own || not rest)) ≡ (own || not (first || rest))
either_ends true first rest = refl
either_ends false true rest = refl
either_ends false false rest = refl

lies_nowhere : (number at : ℕ) → lies_over number at 0 ≡ false
lies_nowhere number at = grind (arith, nat_tests)

lies_first : (number at n : ℕ) → at < 2 ^ 64 → (meets number at 1 || lies_over number (at + 1) n)
    ≡ lies_over number at (suc n)
unfolding meets
lies_first number at n small =
    let place : (at + 0) % 2 ^ 64 ≡ at = omega (arith, small) in
    ap (λ a. ((granule a == number) || false) || lies_over number (at + 1) n) place
    ∙ grind (arith, nat_tests)

-- a byte that is put ends what its granule has, and the bytes behind it end the rest
ended_first : (own : Bool) (number at place behind n : ℕ) → place < 2 ^ 64 → at ≡ place → behind ≡ place + 1
    → ((own || not (meets number at 1)) && (own || not (lies_over number behind n)))
    ≡ (own || not (lies_over number place (suc n)))
ended_first own number at place behind n small is next =
    either_ends own (meets number at 1) (lies_over number behind n)
    ∙ ap (λ a. own || not (meets number a 1 || lies_over number behind n)) is
    ∙ ap (λ b. own || not (meets number place 1 || lies_over number b n)) next
    ∙ ap (λ b. own || not b) (lies_first number place n small)

kept_nowhere : (own : Bool) → (own || not false) ≡ true
kept_nowhere true = refl
kept_nowhere false = refl

pub reservations_put : (task number : ℕ) (run : List ℕ) (offset : ℕ) (area : AreaState) → offset + length run ≤ 4096
    → (put_run_in_area task number offset run area).reservations
    ≡ after_run_here area.reservations task ((4096 * number) % 2 ^ 64 + offset) (length run)
unfolding put_run_in_area
reservations_put task number [] offset area fits =
    let all : (r : AreaReservation)
    → ((r.task == task) || not (lies_over r.granule ((4096 * number) % 2 ^ 64 + offset) 0)) ≡ true = λ r.
    ap (λ b. (r.task == task) || not b) (lies_nowhere r.granule ((4096 * number) % 2 ^ 64 + offset))
    ∙ kept_nowhere (r.task == task) in
    sym (filter_all (λ r. (r.task == task)
    || not (lies_over r.granule ((4096 * number) % 2 ^ 64 + offset) 0)) all area.reservations)
reservations_put task number (b ∷ bs) offset area fits =
    let base : ℕ = (4096 * number) % 2 ^ 64 in
    let at : ℕ = (4096 * number + offset) % 2 ^ 64 in
    reservations_put task number bs (offset + 1) (put_in_area task number offset b area) (omega (arith, fits))
    ∙ filter_twice (λ r. (r.task == task) || not (lies_over r.granule (base + (offset + 1)) (length bs)))
    (λ r. (r.task == task) || not (meets r.granule at 1))
    (λ r. (r.task == task) || not (lies_over r.granule (base + offset) (suc (length bs))))
    (λ r. ended_first (r.task == task) r.granule at (base + offset) (base + (offset + 1)) (length bs)
    (omega (arith, fits)) (omega (arith, fits)) (omega arith))
    area.reservations

-- ---- the areas in hand

-- what hasn't changed
pub unchanged_in : (name : Area) (hand : List InHand) → with_area name (λ area. area) hand ≡ hand
unchanged_in name [] = refl
unchanged_in name (h ∷ hs) = by (is_area h.name name) (unchanged_in name hs)
  where
    by : (own : Bool) → with_area name (λ area. area) hs ≡ hs
        → (if own then changed_in_hand (λ area. area) h ∷ hs else h ∷ with_area name (λ area. area) hs) ≡ h ∷ hs
    by true rest = refl
    by false rest = ap (λ is. h ∷ is) rest

-- and what has changed twice
pub changed_twice : (name : Area) (first second : AreaState → AreaState) (hand : List InHand)
    → with_area name second (with_area name first hand) ≡ with_area name (λ area. second (first area)) hand
changed_twice name first second [] = refl
changed_twice name first second (h ∷ hs) = by (is_area h.name name) refl (changed_twice name first second hs)
  where
    by : (own : Bool) → is_area h.name name ≡ own → with_area name second (with_area name first hs)
        ≡ with_area name (λ area. second (first area)) hs
        → with_area name second (if own then changed_in_hand first h ∷ hs else h ∷ with_area name first hs)
        ≡ (if own then changed_in_hand (λ area. second (first area)) h ∷ hs
        else h ∷ with_area name (λ area. second (first area)) hs)
    by true own rest =
        ap (λ b. if b then changed_in_hand second (changed_in_hand first h) ∷ hs
        else changed_in_hand first h ∷ with_area name second hs) own
    by false own rest =
        ap (λ b. if b then changed_in_hand second h ∷ with_area name first hs
        else h ∷ with_area name second (with_area name first hs)) own
        ∙ ap (λ is. h ∷ is) rest

-- ---- a run that the frames have taken

pub run_done : (done : Bool) (pages news : List (List ℕ)) (owned : List Bool) (number offset : ℕ) (run : List ℕ)
    → offset + length run ≤ 4096 → length owned ≡ length pages
    → unwrap_or (slice_get owned number) true ≡ true
    → (IsTrue done ↔ ((slice_get owned number ≡ Some true) × (offset + length run ≤ 4096)))
    → OnTrue done (news ≡ with_page_changed pages number (λ bytes. with_run bytes offset run))
    → OnFalse done (news ≡ pages)
    → news ≡ with_page_changed pages number (λ bytes. with_run bytes offset run)
run_done true pages news owned number offset run inside alike own fits changed same = changed
run_done false pages news owned number offset run inside alike own fits changed same =
    elim (slice_get_cases owned number).1 [
      | inl there ↦
          absurd (false≢true
          (fits.1 (there.2 ∙ ap Some (ap (λ (o : Option Bool). unwrap_or o true) (sym there.2) ∙ own), inside)))
      | inr past ↦ same ∙ sym (set_past pages number _ (subst (λ n. n ≤ number) alike past.0))
    ]

pub area_put : (task number offset : ℕ) (run : List ℕ) (area : AreaState) (pages : List (List ℕ))
    (reservations : List AreaReservation) → (number < length area.pages → length (page_at area.pages number) ≡ 4096)
    → offset + length run ≤ 4096 → pages ≡ with_page_changed area.pages number (λ bytes. with_run bytes offset run)
    → reservations ≡ after_run_here area.reservations task ((number * 4096) % 2 ^ 64 + offset) (length run)
    → (let s : AreaState = record { pages = pages; reservations = reservations } in s)
    ≡ put_run_in_area task number offset run area
area_put task number offset run area pages reservations whole fits changed ended =
    ap (λ (ps : List (List ℕ)). (let s : AreaState = record { pages = ps; reservations = reservations } in s)) (changed
    ∙ sym (pages_put task number run offset area whole fits))
    ∙ ap (λ (rs : List AreaReservation).
    (let s : AreaState =
    record { pages = (put_run_in_area task number offset run area).pages; reservations = rs } in s))
    (ended ∙ ap (λ at. after_run_here area.reservations task at (length run)) (omega arith)
    ∙ sym (reservations_put task number run offset area fits))
