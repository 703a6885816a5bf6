-- Laws of sums that stop at the greatest number of 64 bits.
use Rattle.std.proofs.Common.{◌≡◌, ℕ, ◌+◌, ◌<◌, ◌^◌, List, [], ◌∷◌, ◌++◌, sum, ap, sym, ◌∙◌, arith}
use Rattle.std.proofs.lemmas.List.Sums.{sum_by_push}
use Rattle.sn_base.specs.Sums.{capped, capped_sum}

-- to cap early changes nothing
pub capped-add : (a b : ℕ) → capped (capped a + b) ≡ capped (a + b)
capped-add a b = omega arith

pub capped-add_right : (a b : ℕ) → capped (a + capped b) ≡ capped (a + b)
capped-add_right a b = omega arith

-- what fits is not changed
pub capped-fits : (n : ℕ) → n < 2 ^ 64 → capped n ≡ n
capped-fits n h = omega arith

pub capped-bound : (n : ℕ) → capped n < 2 ^ 64
capped-bound n = omega arith

sum_push : (xs : List ℕ) (x : ℕ) → sum (xs ++ x ∷ []) ≡ sum xs + x
sum_push xs x = sum_by_push (λ n. n) xs x

-- one more number at the end
pub capped_sum-append : (xs : List ℕ) (x : ℕ) → capped_sum (xs ++ x ∷ []) ≡ capped (capped_sum xs + x)
capped_sum-append xs x = ap capped (sum_push xs x) ∙ sym (capped-add (sum xs) x)
