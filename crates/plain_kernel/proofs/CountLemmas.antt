-- Numbers that ascend by one.
use Rattle.std.proofs.Common.{◌≡◌, ℕ, zero, suc, ◌+◌, ◌-◌, ◌<◌, ◌≤◌, ◌≢◌, length, take, drop, take_all, length-drop}
use Rattle.std.proofs.Common.{false, List, [], ◌∷◌, refl, ap, sym, ◌∙◌, arith, nat_eq}
use Rattle.std.specs.Prelude.{◌&&◌, slice_index}
use Rattle.std.proofs.lemmas.Bool.{eq-eqb, ne_eqb}
use Rattle.kernel_model.specs.files.Numbers.{count_up}
use lib.Pointwise.{pointwise}

-- the first of so many, and the others
one_up : (first n : ℕ) → 0 < n → count_up first n ≡ first ∷ count_up (first + 1) (n - 1)
unfolding count_up
one_up first zero some = absurd (omega arith)
one_up first (suc n) some =
    let less : suc n - 1 ≡ n = omega arith in ap (λ m. first ∷ count_up (first + 1) m) (sym less)

none_up : (first n : ℕ) → n ≡ 0 → count_up first n ≡ []
unfolding count_up
none_up first n none = ap (count_up first) none

-- so many numbers are none where that is none,
pub no_numbers : (numbers : List ℕ) (first n : ℕ) → length numbers < 1
    → nat_eq n 0 ≡ pointwise nat_eq numbers (count_up first n)
no_numbers [] first zero short = ap (λ ns. pointwise nat_eq [] ns) (sym (none_up first 0 refl))
no_numbers [] first (suc n) short =
    let some : 0 < suc n = omega arith in
    ne_eqb (suc n) 0 (λ e. omega arith) ∙ ap (λ ns. pointwise nat_eq [] ns) (sym (one_up first (suc n) some))
no_numbers (x ∷ xs) first n short = absurd (omega arith)

-- none are some,
pub some_for_none : (numbers : List ℕ) (first n : ℕ) → 1 ≤ length numbers → n ≡ 0
    → pointwise nat_eq numbers (count_up first n) ≡ false
some_for_none [] first n long none = absurd (omega arith)
some_for_none (x ∷ xs) first n long none = ap (pointwise nat_eq (x ∷ xs)) (none_up first n none)

-- the first of them is the first,
pub other_first : (numbers : List ℕ) (first n : ℕ) → 1 ≤ length numbers → 0 < n → slice_index numbers 0 ≢ first
    → pointwise nat_eq numbers (count_up first n) ≡ false
other_first [] first n long some apart = absurd (omega arith)
other_first (x ∷ xs) first n long some apart =
    ap (pointwise nat_eq (x ∷ xs)) (one_up first n some)
    ∙ ap (λ b. b && pointwise nat_eq xs (count_up (first + 1) (n - 1))) (ne_eqb x first apart)

-- and the others are the others
pub then_others : (numbers : List ℕ) (first n : ℕ) → 1 ≤ length numbers → 0 < n → slice_index numbers 0 ≡ first
    → pointwise nat_eq numbers (count_up first n) ≡ pointwise nat_eq (drop 1 numbers) (count_up (first + 1) (n - 1))
then_others [] first n long some same = absurd (omega arith)
then_others (x ∷ xs) first n long some same =
    ap (pointwise nat_eq (x ∷ xs)) (one_up first n some)
    ∙ ap (λ b. b && pointwise nat_eq xs (count_up (first + 1) (n - 1))) (eq-eqb x first same)

-- what a pattern calls the rest behind the first item
pub rest_of : {A : Type 0} (xs : List A) → take (length xs - 1) (drop 1 xs) ≡ drop 1 xs
rest_of xs = take_all (length xs - 1) (drop 1 xs) (omega (arith, length-drop 1 xs))
