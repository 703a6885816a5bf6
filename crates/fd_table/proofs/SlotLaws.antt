-- Laws of slots and of the tables that they stand for.
use Rattle.std.proofs.Common.{◌≡◌, ◌≢◌, ℕ, zero, suc, ◌+◌, ◌<◌, ◌≤◌, List, [], ◌∷◌, length, Option, Some, None, refl}
use Rattle.std.proofs.Common.{ap, sym, ◌∙◌, inl, inr, set, get_or, replicate, arith}
use Rattle.std.specs.List.{slice_get}
use Rattle.std.specs.Option.{option_flatten}
use Rattle.std.specs.FinMap.{get, insert, remove, empty, from_entries}
use Rattle.std.proofs.lemmas.Bool.{cases_eq, cases_lt}
use Rattle.std.proofs.lemmas.Option.{slice_get_read, slice_get_past}
use Rattle.sn_base.proofs.Maps.{same_by_get, get_of_empty, get-insert_same, get-insert_other, get-remove_same}
use Rattle.sn_base.proofs.Maps.{get-remove_other}
use Rattle.fd_table.specs.declared.descriptor.Descriptor.{Descriptor}
use Rattle.fd_table.specs.Tables.{Table, IsWithinLimit}
use Rattle.fd_table.specs.Slots.{entries_from, table_of}

-- the table of slots whose first has that number
abbrev table_from : ℕ → List (Option Descriptor) → Table
table_from first slots = from_entries (entries_from first slots)

-- ---- what a table has at a number

get-below : (first : ℕ) (slots : List (Option Descriptor)) (q : ℕ) → q < first → get (table_from first slots) q ≡ None
get-below first [] q below = get_of_empty q
get-below first (None ∷ slots) q below = get-below (first + 1) slots q (omega arith)
get-below first (Some d ∷ slots) q below =
    let other : first ≢ q = omega arith in
    get-insert_other (table_from (first + 1) slots) first q d other ∙ get-below (first + 1) slots q (omega arith)

get-from : (first : ℕ) (slots : List (Option Descriptor)) (k q : ℕ) → q ≡ first + k
    → get (table_from first slots) q ≡ option_flatten (slice_get slots k)
get-from first [] k q at = get_of_empty q
get-from first (None ∷ slots) zero q at = get-below (first + 1) slots q (omega arith)
get-from first (None ∷ slots) (suc k) q at = get-from (first + 1) slots k q (omega arith)
get-from first (Some d ∷ slots) zero q at =
    let same : q ≡ first = omega arith in
    ap (get (insert (table_from (first + 1) slots) first d)) same
    ∙ get-insert_same (table_from (first + 1) slots) first d
get-from first (Some d ∷ slots) (suc k) q at =
    let other : first ≢ q = omega arith in
    get-insert_other (table_from (first + 1) slots) first q d other ∙ get-from (first + 1) slots k q (omega arith)

-- what a table has at a number is what is in the slot of that place
pub get_at : (slots : List (Option Descriptor)) (q : ℕ) → get (table_of slots) q ≡ option_flatten (slice_get slots q)
unfolding table_of
get_at slots q = get-from 0 slots q q (omega arith)

pub get_read : (slots : List (Option Descriptor)) (q : ℕ) (o : Option Descriptor) → q < length slots
    → o ≡ get_or slots q o → get (table_of slots) q ≡ o
get_read slots q o within is =
    get_at slots q ∙ ap option_flatten (slice_get_read slots (length slots) q o refl within is)

pub get_past : (slots : List (Option Descriptor)) (q : ℕ) → length slots ≤ q → get (table_of slots) q ≡ None
get_past slots q past = get_at slots q ∙ ap option_flatten (slice_get_past slots q past)

-- ---- a slot that is set

slice_get-set_same : (slots : List (Option Descriptor)) (k : ℕ) (o : Option Descriptor) → k < length slots
    → slice_get (set slots k o) k ≡ Some o
slice_get-set_same [] k o within = absurd (omega arith)
slice_get-set_same (s ∷ slots) zero o within = refl
slice_get-set_same (s ∷ slots) (suc k) o within = slice_get-set_same slots k o (omega arith)

slice_get-set_other : (slots : List (Option Descriptor)) (k j : ℕ) (o : Option Descriptor) → k ≢ j
    → slice_get (set slots k o) j ≡ slice_get slots j
slice_get-set_other [] k j o other = refl
slice_get-set_other (s ∷ slots) zero zero o other = absurd (other refl)
slice_get-set_other (s ∷ slots) zero (suc j) o other = refl
slice_get-set_other (s ∷ slots) (suc k) zero o other = refl
slice_get-set_other (s ∷ slots) (suc k) (suc j) o other = slice_get-set_other slots k j o (omega arith)

pub get-set_same : (slots : List (Option Descriptor)) (k : ℕ) (o : Option Descriptor) → k < length slots
    → get (table_of (set slots k o)) k ≡ o
get-set_same slots k o within = get_at (set slots k o) k ∙ ap option_flatten (slice_get-set_same slots k o within)

pub get-set_other : (slots : List (Option Descriptor)) (k j : ℕ) (o : Option Descriptor) → k ≢ j
    → get (table_of (set slots k o)) j ≡ get (table_of slots) j
get-set_other slots k j o other =
    get_at (set slots k o) j ∙ ap option_flatten (slice_get-set_other slots k j o other) ∙ sym (get_at slots j)

-- a slot that is filled
pub table_filled : (slots : List (Option Descriptor)) (k : ℕ) (d : Descriptor) → k < length slots
    → table_of (set slots k (Some d)) ≡ insert (table_of slots) k d
table_filled slots k d within = same_by_get _ _ (λ q. elim (cases_eq k q) [
  | inl same ↦
      ap (get (table_of (set slots k (Some d)))) (sym same)
      ∙ get-set_same slots k (Some d) within
      ∙ sym (ap (get (insert (table_of slots) k d)) (sym same) ∙ get-insert_same (table_of slots) k d)
  | inr other ↦ get-set_other slots k q (Some d) other ∙ sym (get-insert_other (table_of slots) k q d other)
])

-- a slot that is vacated
pub table_vacated : (slots : List (Option Descriptor)) (k : ℕ) → k < length slots
    → table_of (set slots k None) ≡ remove (table_of slots) k
table_vacated slots k within = same_by_get _ _ (λ q. elim (cases_eq k q) [
  | inl same ↦
      ap (get (table_of (set slots k None))) (sym same)
      ∙ get-set_same slots k None within
      ∙ sym (ap (get (remove (table_of slots) k)) (sym same) ∙ get-remove_same (table_of slots) k)
  | inr other ↦ get-set_other slots k q None other ∙ sym (get-remove_other (table_of slots) k q other)
])

-- ---- tables within the limit

-- slots that are all free make the empty table
free_slots : (first count : ℕ) → table_from first (replicate count None) ≡ empty
free_slots first zero = refl
free_slots first (suc n) = free_slots (first + 1) n

pub table_of_free : (count : ℕ) → table_of (replicate count None) ≡ empty
unfolding table_of
table_of_free count = free_slots 0 count

-- no number is open past the last slot
pub within_slots : (slots : List (Option Descriptor)) → length slots ≡ 256 → IsWithinLimit (table_of slots)
within_slots slots whole q there = elim (cases_lt q 256) [
  | inl below ↦ below
  | inr past ↦ absurd (cc (there, get_past slots q (omega arith)))
]
