-- How the last byte tells whether bytes end with a newline.
use Rattle.std.proofs.Common.{◌≡◌, ℕ, suc, ◌-◌, List, [], ◌∷◌, length, refl, true, ◌==◌, arith}
use Rattle.std.specs.Prelude.{Some, None, slice_get}
use Rattle.kernel_model.specs.printed.Printed.{is_closed}

one_less : (n : ℕ) → suc (suc n) - 1 ≡ suc (suc n - 1)
one_less n = omega arith

pub closed_last : (bytes : List ℕ) (last : ℕ) → slice_get bytes (length bytes - 1) ≡ Some last
    → is_closed bytes ≡ (last == 10)
closed_last [] last h = absurd (cc h)
closed_last (c ∷ []) last h = cc h
closed_last (c ∷ d ∷ cs) last h = closed_last (d ∷ cs) last (rw (one_less (length cs)) at h)

pub closed_empty : (bytes : List ℕ) → slice_get bytes (length bytes - 1) ≡ None → is_closed bytes ≡ true
closed_empty [] h = refl
closed_empty (c ∷ []) h = absurd (cc h)
closed_empty (c ∷ d ∷ cs) h = closed_empty (d ∷ cs) (rw (one_less (length cs)) at h)
