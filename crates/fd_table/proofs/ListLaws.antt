-- Laws of the numbers that slots have descriptors at: which they are, in which order, and how many.
use Rattle.std.proofs.Common.{◌≡◌, ℕ, zero, suc, ◌+◌, ◌<◌, ◌≤◌, Bool, true, false, cond, List, [], ◌∷◌, length, Option}
use Rattle.std.proofs.Common.{Some, None, refl, ap, sym, ◌∙◌, arith}
use Rattle.std.specs.Prelude.{filter, map, is_some, IsSome}
use Rattle.std.specs.List.{slice_get, range_with_len, AllByRecursion}
use Rattle.std.specs.List.Sorted.{IsStrictlySortedBy}
use Rattle.std.specs.Map.{keys_of}
use Rattle.std.specs.Option.{option_flatten}
use Rattle.std.specs.Ordering.{nat_cmp}
use Rattle.std.specs.declared.cmp.Ordering.TheVariants.{Less}
use Rattle.std.specs.FinMap.{get, keys, len}
use Rattle.std.proofs.lemmas.Bool.Decides.{nat_tests}
use Rattle.sn_base.proofs.Maps.{entries-from_entries, len-from_entries}
use Rattle.fd_table.specs.declared.descriptor.Descriptor.{Descriptor}
use Rattle.fd_table.specs.Tables.{IsFullFrom}
use Rattle.fd_table.specs.Slots.{entries_from, table_of}
use Rattle.fd_table.proofs.SlotLaws.{get_at}

-- ---- the numbers ascend

below_is_less : (a b : ℕ) → a < b → nat_cmp a b ≡ Less
below_is_less a b below = grind (arith, nat_tests)

all_above : (q first : ℕ) (slots : List (Option Descriptor)) → q < first
    → AllByRecursion (λ y. nat_cmp q y ≡ Less) (keys_of (entries_from first slots))
all_above q first [] below = tt
all_above q first (None ∷ slots) below = all_above q (first + 1) slots (omega arith)
all_above q first (Some d ∷ slots) below = (below_is_less q first below, all_above q (first + 1) slots (omega arith))

ascending : (first : ℕ) (slots : List (Option Descriptor))
    → IsStrictlySortedBy nat_cmp (keys_of (entries_from first slots))
unfolding IsStrictlySortedBy
ascending first [] = tt
ascending first (None ∷ slots) = ascending (first + 1) slots
ascending first (Some d ∷ slots) = (all_above first (first + 1) slots (omega arith), ascending (first + 1) slots)

-- ---- which they are

listed : (test : ℕ → Bool) (first : ℕ) (slots : List (Option Descriptor))
    → ((k : ℕ) → k < length slots → test (first + k) ≡ is_some (option_flatten (slice_get slots k)))
    → keys_of (entries_from first slots) ≡ filter test (range_with_len first (length slots))
listed test first [] is = refl
listed test first (None ∷ slots) is =
    let here : test first ≡ false = ap test (omega arith) ∙ is 0 (omega arith) in
    listed test (first + 1) slots (λ k within. ap test (omega arith) ∙ is (suc k) (omega arith))
    ∙ sym (ap (λ b. cond b (first ∷ filter test (range_with_len (first + 1) (length slots)))
    (filter test (range_with_len (first + 1) (length slots)))) here)
listed test first (Some d ∷ slots) is =
    let here : test first ≡ true = ap test (omega arith) ∙ is 0 (omega arith) in
    ap (λ (ns : List ℕ). first ∷ ns)
    (listed test (first + 1) slots (λ k within. ap test (omega arith) ∙ is (suc k) (omega arith)))
    ∙ sym (ap (λ b. cond b (first ∷ filter test (range_with_len (first + 1) (length slots)))
    (filter test (range_with_len (first + 1) (length slots)))) here)

-- a table's numbers are those of all places whose slots are taken
pub keys_listed : (slots : List (Option Descriptor))
    → filter (λ n. is_some (get (table_of slots) n)) (range_with_len 0 (length slots)) ≡ keys (table_of slots)
unfolding table_of
keys_listed slots =
    sym (listed (λ n. is_some (get (table_of slots) n)) 0 slots
    (λ k within. ap is_some (ap (get (table_of slots)) (omega arith) ∙ get_at slots k)))
    ∙ sym (ap (map (λ (e : ℕ × Descriptor). e.0)) (entries-from_entries (entries_from 0 slots) (ascending 0 slots)))

-- ---- how many they are

entries_counted : (first : ℕ) (slots : List (Option Descriptor)) → length (entries_from first slots)
    ≡ length (filter is_some slots)
entries_counted first [] = refl
entries_counted first (None ∷ slots) = entries_counted (first + 1) slots
entries_counted first (Some d ∷ slots) = ap suc (entries_counted (first + 1) slots)

pub len_counted : (slots : List (Option Descriptor)) → length (filter is_some slots) ≡ len (table_of slots)
unfolding table_of
len_counted slots = sym (len-from_entries (entries_from 0 slots) (ascending 0 slots) ∙ entries_counted 0 slots)

-- no more than there are slots
pub counted_within : (slots : List (Option Descriptor)) → length (filter is_some slots) ≤ length slots
counted_within [] = omega arith
counted_within (None ∷ slots) = omega (arith, counted_within slots)
counted_within (Some d ∷ slots) = omega (arith, counted_within slots)

-- as many as there are slots, where each is taken
all_counted : (slots : List (Option Descriptor))
    → ((k : ℕ) → k < length slots → is_some (option_flatten (slice_get slots k)) ≡ true)
    → length (filter is_some slots) ≡ length slots
all_counted [] taken = refl
all_counted (None ∷ slots) taken = absurd (cc (taken 0 (omega arith)))
all_counted (Some d ∷ slots) taken = ap suc (all_counted slots (λ k within. taken (suc k) (omega arith)))

-- and only there
counted_all : (slots : List (Option Descriptor)) → length (filter is_some slots) ≡ length slots → (k : ℕ)
    → k < length slots → is_some (option_flatten (slice_get slots k)) ≡ true
counted_all [] all k within = absurd (omega arith)
counted_all (None ∷ slots) all k within = absurd (omega (arith, counted_within slots))
counted_all (Some d ∷ slots) all zero within = refl
counted_all (Some d ∷ slots) all (suc k) within = counted_all slots (omega arith) k (omega arith)

-- ---- a table with no free number

some_from : {X : Type 0} (o : Option X) → is_some o ≡ true → IsSome o
some_from None h = absurd (cc h)
some_from (Some x) h = refl

pub some_is : {X : Type 0} (o : Option X) → IsSome o → is_some o ≡ true
some_is None h = absurd (cc h)
some_is (Some x) h = refl

-- each number is open where there are as many as the limit
pub full_from_len : (slots : List (Option Descriptor)) → length slots ≡ 256 → len (table_of slots) ≡ 256
    → IsFullFrom (table_of slots) 0
full_from_len slots whole all n _ below =
    some_from (get (table_of slots) n) (ap is_some (get_at slots n)
    ∙ counted_all slots (len_counted slots ∙ all ∙ sym whole) n (omega arith))

-- and only there
pub len_from_full : (slots : List (Option Descriptor)) → length slots ≡ 256 → IsFullFrom (table_of slots) 0
    → len (table_of slots) ≡ 256
len_from_full slots whole full =
    sym (len_counted slots)
    ∙ all_counted slots (λ k within. sym (ap is_some (get_at slots k))
    ∙ some_is (get (table_of slots) k) (full k (omega arith) (omega arith)))
    ∙ whole
