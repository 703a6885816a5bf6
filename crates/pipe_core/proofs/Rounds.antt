-- Bytes in a ring of 65,536 slots: which slot each lies in, and what two moves put there.
use Rattle.std.proofs.Common.{◌≡◌, ℕ, ◌+◌, ◌-◌, ◌%◌, ◌<◌, ◌≤◌, ◌⊎◌, List, ◌++◌, length, get_or, take, drop, min, ap}
use Rattle.std.proofs.Common.{sym, ◌∙◌, inl, inr, mod-eq_of_lt, arith, append-nil, length-append, length-drop}
use Rattle.std.proofs.Common.{length-take-le, get_or-drop, get_or-take}
use native.Mathlib.Nat.{mod-eq-sub-mod}
use Rattle.std.proofs.lemmas.List.{same_lists, get_or_append_left, get_or-append_right, take-append-le}
use Rattle.std.proofs.lemmas.List.{take-append-drop, take_all}
use Rattle.std.proofs.Math.Seq.{take-append-add}
use Rattle.std.proofs.lemmas.Bool.{cases_lt}
use Rattle.std.proofs.lemmas.Grind.{same_number_lists}
use Rattle.pipe_core.specs.Rings.{bytes_on_ring}

-- a place less than two rounds on lies in the first round or in the second
pub within_two_rounds : (j : ℕ) → j < 131072 → ((j < 65536) × (j % 65536 ≡ j)) ⊎ ((65536 ≤ j) × (j % 65536 ≡ j - 65536))
within_two_rounds j below = elim (cases_lt j 65536) [
  | inl first ↦ inl (first, mod-eq_of_lt first)
  | inr second ↦ inr (second, mod-eq-sub-mod second ∙ mod-eq_of_lt (omega arith))
]

module _ (start count : ℕ) (slots : List ℕ) (begins : start < 65536) (fits : count ≤ 65536)
    (whole : length slots ≡ 65536) where
  pub length-bytes_from : length (bytes_on_ring start count slots) ≡ count
  length-bytes_from =
      length-take-le count _
      (simp (length-append, length-drop) (omega (arith, length-take-le start slots (omega arith))))

  -- byte i lies i slots on
  pub get_or-bytes_from : (i d : ℕ) → i < count → get_or (bytes_on_ring start count slots) i d
      ≡ get_or slots ((start + i) % 65536) d
  get_or-bytes_from i d in_range =
      let length_tail = length-drop start slots in
      get_or-take count _ i d in_range ∙ elim (within_two_rounds (start + i) (omega arith)) [
        | inl first ↦
            get_or_append_left _ _ d i (omega arith) ∙ get_or-drop start slots i d
            ∙ ap (λ j. get_or slots j d) (omega arith)
        | inr second ↦
            get_or-append_right _ _ (65536 - start) i d (omega arith) (omega arith)
            ∙ get_or-take start slots _ d (omega arith) ∙ ap (λ j. get_or slots j d) (omega arith)
      ]

-- without its first bytes the ring has the others, from so many slots on
pub rest_from : (start count gone : ℕ) (slots : List ℕ) → start < 65536 → count ≤ 65536 → length slots ≡ 65536
    → gone ≤ count → bytes_on_ring ((start + gone) % 65536) (count - gone) slots
    ≡ drop gone (bytes_on_ring start count slots)
rest_from start count gone slots begins fits whole within =
    same_lists _ _
    (omega (arith, length_left, length-drop gone (bytes_on_ring start count slots), length_all)) (λ i d in_range.
    get_or-bytes_from next (count - gone) slots next_begins (omega arith) whole i d (omega (arith, length_left))
    ∙ ap (λ j. get_or slots j d) (omega arith)
    ∙ sym (get_or-bytes_from start count slots begins fits whole (gone + i) d (omega (arith, length_left)))
    ∙ sym (get_or-drop gone (bytes_on_ring start count slots) i d))
  where
    next : ℕ
    next = (start + gone) % 65536

    next_begins : next < 65536
    next_begins = omega arith

    length_all : length (bytes_on_ring start count slots) ≡ count
    length_all = length-bytes_from start count slots begins fits whole

    length_left : length (bytes_on_ring next (count - gone) slots) ≡ count - gone
    length_left = length-bytes_from next (count - gone) slots next_begins (omega arith) whole

-- bytes that were put into the slots behind the others stand behind them
pub put_behind : (start count : ℕ) (slots slots' bytes : List ℕ) → start < 65536 → length slots ≡ 65536
    → length slots' ≡ 65536 → count + length bytes ≤ 65536 →
    ((i : ℕ) → i < length bytes → get_or slots' (((start + count) % 65536 + i) % 65536) 0 ≡ get_or bytes i 0) →
    ((i : ℕ) → length bytes ≤ i → i < 65536 → get_or slots' (((start + count) % 65536 + i) % 65536) 0
    ≡ get_or slots (((start + count) % 65536 + i) % 65536) 0) →
    bytes_on_ring start (count + length bytes) slots' ≡ bytes_on_ring start count slots ++ bytes
put_behind start count slots slots' bytes begins whole whole' fits put others =
    same_number_lists _ _ (omega (arith, length_new, length_old, length-append (bytes_on_ring start count slots) bytes))
    (λ i in_range. at i (omega (arith, length_new)))
  where
    length_old : length (bytes_on_ring start count slots) ≡ count
    length_old = length-bytes_from start count slots begins (omega arith) whole

    length_new : length (bytes_on_ring start (count + length bytes) slots') ≡ count + length bytes
    length_new = length-bytes_from start (count + length bytes) slots' begins fits whole'

    at : (i : ℕ) → i < count + length bytes → get_or (bytes_on_ring start (count + length bytes) slots') i 0
        ≡ get_or (bytes_on_ring start count slots ++ bytes) i 0
    at i in_range = get_or-bytes_from start (count + length bytes) slots' begins fits whole' i 0 in_range
        ∙ elim (cases_lt i count) [
          | inl old ↦
              ap (λ j. get_or slots' j 0) (omega arith)
              ∙ others (65536 - count + i) (omega arith) (omega arith)
              ∙ ap (λ j. get_or slots j 0) (omega arith)
              ∙ sym (get_or-bytes_from start count slots begins (omega arith) whole i 0 old)
              ∙ sym (get_or_append_left (bytes_on_ring start count slots) bytes 0 i (omega (arith, length_old)))
          | inr new ↦
              ap (λ j. get_or slots' j 0) (omega arith)
              ∙ put (i - count) (omega arith)
              ∙ sym (get_or-append_right (bytes_on_ring start count slots) bytes count i 0 length_old new)
        ]

-- slots into which bytes were moved from one on, so many of them up to the last slot and the others to the first slots
abbrev pub moved_in : (start first : ℕ) → (slots bytes : List ℕ) → List ℕ
moved_in start first slots bytes =
    drop first bytes
    ++ drop (length bytes - first) (take start slots ++ (take first bytes ++ drop first (drop start slots)))

module _ (start first : ℕ) (slots bytes : List ℕ) (begins : start < 65536) (whole : length slots ≡ 65536)
    (fits : length bytes ≤ 65536) (cut : first ≡ min (length bytes) (65536 - start)) where
  front_long : length (take first bytes) ≡ first
  front_long = length-take-le first bytes (omega arith)

  back_long : length (drop first bytes) ≡ length bytes - first
  back_long = length-drop first bytes

  before_long : length (take start slots) ≡ start
  before_long = length-take-le start slots (omega arith)

  -- past the bytes that went to the first slots there is what the first move left
  past_back : (j : ℕ) → length bytes - first ≤ j → get_or (moved_in start first slots bytes) j 0
      ≡ get_or (take start slots ++ (take first bytes ++ drop first (drop start slots))) j 0
  past_back j past =
      get_or-append_right (drop first bytes) _ (length bytes - first) j 0 back_long past
      ∙ get_or-drop (length bytes - first) _ (j - (length bytes - first)) 0
      ∙ ap (λ k. get_or (take start slots ++ (take first bytes ++ drop first (drop start slots))) k 0) (omega arith)

  pub moved_put : (i : ℕ) → i < length bytes
      → get_or (moved_in start first slots bytes) ((start + i) % 65536) 0 ≡ get_or bytes i 0
  moved_put i in_range = elim (cases_lt i first) [
    | inl front ↦
        ap (λ j. get_or (moved_in start first slots bytes) j 0) (omega arith)
        ∙ past_back (start + i) (omega arith)
        ∙ get_or-append_right (take start slots) _ start (start + i) 0 before_long (omega arith)
        ∙ get_or_append_left (take first bytes) _ 0 (start + i - start) (omega (arith, front_long))
        ∙ get_or-take first bytes (start + i - start) 0 (omega arith)
        ∙ ap (λ j. get_or bytes j 0) (omega arith)
    | inr back ↦
        ap (λ j. get_or (moved_in start first slots bytes) j 0) (omega arith)
        ∙ get_or_append_left (drop first bytes) _ 0 (i - first) (omega (arith, back_long))
        ∙ get_or-drop first bytes (i - first) 0
        ∙ ap (λ j. get_or bytes j 0) (omega arith)
  ]

  pub moved_others : (i : ℕ) → length bytes ≤ i → i < 65536
      → get_or (moved_in start first slots bytes) ((start + i) % 65536) 0 ≡ get_or slots ((start + i) % 65536) 0
  moved_others i past in_range = past_back at (omega arith) ∙ elim (cases_lt at start) [
    | inl before ↦
        get_or_append_left (take start slots) _ 0 at (omega (arith, before_long)) ∙ get_or-take start slots at 0 before
    | inr behind ↦
        get_or-append_right (take start slots) _ start at 0 before_long behind
        ∙ get_or-append_right (take first bytes) _ first (at - start) 0 front_long (omega (arith, behind))
        ∙ get_or-drop first (drop start slots) (at - start - first) 0
        ∙ get_or-drop start slots (first + (at - start - first)) 0
        ∙ ap (λ j. get_or slots j 0) (omega (arith, behind))
  ]
    where
      at : ℕ
      at = (start + i) % 65536

-- the two runs of slots in which the bytes lie, the first up to the last slot
pub two_runs : (start count first : ℕ) (slots : List ℕ) → start < 65536 → count ≤ 65536 → length slots ≡ 65536
    → first ≡ min count (65536 - start)
    → take first (drop start slots) ++ take (count - first) slots ≡ bytes_on_ring start count slots
two_runs start count first slots begins fits whole cut = elim (cases_lt (65536 - start) count) [
  | inr one ↦
      let all : first ≡ count = omega arith in
      let none : count - first ≡ 0 = omega arith in
      ap (λ n. take first (drop start slots) ++ take n slots) none
      ∙ append-nil (take first (drop start slots))
      ∙ ap (λ n. take n (drop start slots)) all
      ∙ sym (take-append-le count (drop start slots) (take start slots) (omega (arith, long)))
  | inl two ↦
      let left : count ≡ length (drop start slots) + (count - first) = omega (arith, long) in
      ap (λ xs. xs ++ take (count - first) slots) (take_all first (drop start slots) (omega (arith, long)))
      ∙ ap (λ ys. drop start slots ++ ys) (front_of (count - first) (omega arith))
      ∙ sym (ap (λ n. take n (drop start slots ++ take start slots)) left
      ∙ take-append-add (drop start slots) (take start slots) (count - first))
]
  where
    long : length (drop start slots) ≡ 65536 - start
    long = length-drop start slots ∙ ap (λ n. n - start) whole

    front_of : (n : ℕ) → n ≤ start → take n slots ≡ take n (take start slots)
    front_of n within =
        ap (take n) (sym (take-append-drop start slots))
        ∙ take-append-le n (take start slots) (drop start slots)
        (omega (arith, length-take-le start slots (omega arith)))
