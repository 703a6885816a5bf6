-- The lowest free number of a table, from another on.
use Rattle.std.proofs.Common.{◌≡◌, ◌≢◌, ℕ, zero, suc, ◌+◌, ◌-◌, ◌<◌, ◌≤◌, Bool, true, false, cond, Option, Some, None}
use Rattle.std.proofs.Common.{refl, ap, sym, ◌∙◌, arith}
use Rattle.std.specs.Prelude.{find, is_some, not}
use Rattle.std.specs.List.{range_with_len}
use Rattle.std.specs.FinMap as map
use Rattle.std.proofs.lemmas.Bool.Decides.{nat_tests}
use Rattle.fd_table.specs.Tables.{Table, dup3_fault}
use Rattle.fd_table.specs.declared.descriptor.Descriptor.{Descriptor}
use Rattle.kernel_model.specs.calls.Lookups.{lowest_free}

-- it is this number where that is free, and else it is looked for above,
pub one_on : (table : Table) (n : ℕ) → n < 256
    → lowest_free table n ≡ cond (not (map.contains_key table n)) (Some n) (lowest_free table (n + 1))
one_on table n below =
    let more : 256 - n ≡ suc (256 - (n + 1)) = omega arith in
    ap (λ m. find (λ q. not (map.contains_key table q)) (range_with_len n m)) more

-- and from the end on there is none
pub none_on : (table : Table) (n : ℕ) → 256 ≤ n → lowest_free table n ≡ None
none_on table n beyond =
    let over : 256 - n ≡ 0 = omega arith in
    ap (λ m. find (λ q. not (map.contains_key table q)) (range_with_len n m)) over

-- ---- it is free, and a number that a table may have

module _ (test : ℕ → Bool) (number : ℕ) where
  found_at : (from len : ℕ) → (find test (range_with_len (from + 1) len) ≡ Some number
      → (test number ≡ true) × (number < from + suc len)) → (b : Bool) → test from ≡ b
      → cond b (Some from) (find test (range_with_len (from + 1) len)) ≡ Some number
      → (test number ≡ true) × (number < from + suc len)
  found_at from len rest true passes found =
      let e : from ≡ number = cc found in
      (ap test (sym e) ∙ passes, omega (arith, e))
  found_at from len rest false passes found = rest found

  found_in : (from len : ℕ) → find test (range_with_len from len) ≡ Some number
      → (test number ≡ true) × (number < from + len)
  found_in from zero is = absurd (cc is)
  found_in from (suc len) is =
      found_at from len
      (λ found.
      let rest = found_in (from + 1) len found in
      (rest.0, omega (arith, rest.1))) (test from) refl is

  some_at : (from len : ℕ) → find test (range_with_len from len) ≡ Some number → 0 < len
  some_at from zero is = absurd (cc is)
  some_at from (suc len) is = omega arith

  above_at : (from len : ℕ) → (find test (range_with_len (from + 1) len) ≡ Some number → from + 1 ≤ number)
      → (b : Bool) → test from ≡ b
      → cond b (Some from) (find test (range_with_len (from + 1) len)) ≡ Some number → from ≤ number
  above_at from len rest true passes found = let e : from ≡ number = cc found in omega (arith, e)
  above_at from len rest false passes found = omega (arith, rest found)

  above_in : (from len : ℕ) → find test (range_with_len from len) ≡ Some number → from ≤ number
  above_in from zero is = absurd (cc is)
  above_in from (suc len) is = above_at from len (above_in (from + 1) len) (test from) refl is

not_there : (o : Option Descriptor) → not (is_some o) ≡ true → o ≡ None
not_there None is = refl
not_there (Some d) is = absurd (cc is)

-- what is found is free, from there on, and a number that a table may have
pub free_there : (table : Table) (from number : ℕ) → Some number ≡ lowest_free table from
    → (map.get table number ≡ None) × (from ≤ number) × (number < 256)
free_there table from number is =
    let test : ℕ → Bool = λ q. not (map.contains_key table q) in
    let at = found_in test number from (256 - from) (sym is) in
    let some = some_at test number from (256 - from) (sym is) in (
      not_there (map.get table number) at.0,
      above_in test number from (256 - from) (sym is),
      omega (arith, at.1, some),
    )

pub possible : (table : Table) (old number : ℕ) (d : Descriptor) → map.get table old ≡ Some d → old ≢ number
    → number < 256 → dup3_fault table old number ≡ None
possible table old number d has apart below =
    let there : map.contains_key table old ≡ true = ap is_some has in
    grind (arith, nat_tests)

pub not_refused : (table : Table) (from old number : ℕ) (d : Descriptor) → map.get table old ≡ Some d
    → Some number ≡ lowest_free table from → dup3_fault table old number ≡ None
not_refused table from old number d has is =
    let at = found_in (λ q. not (map.contains_key table q)) number from (256 - from) (sym is) in
    let some = some_at (λ q. not (map.contains_key table q)) number from (256 - from) (sym is) in
    let apart : old ≢ number = λ e. absurd (cc (e, has, at.0)) in
    possible table old number d has apart (omega (arith, at.1, some))
