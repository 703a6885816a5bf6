-- A run of bytes in two parts: the first part, and the rest behind it.
use Rattle.std.proofs.Common.{◌≡◌, ℕ, zero, suc, ◌+◌, ◌%◌, ◌^◌, ◌<◌, List, [], ◌∷◌, ◌++◌, Option, refl, ap, sym, ◌∙◌}
use Rattle.std.proofs.Common.{arith, zero-add}
use Rattle.std.specs.Option.{option_or}
use Rattle.rv_table.specs.declared.error.Area.{Area}
use Rattle.rv_table.specs.Bytes.{Byte, Holds, Barred, InArea, behind, or_barred, or_area, value_in, first_barred}
use Rattle.rv_table.specs.Bytes.{first_area}
use Rattle.mm_space.specs.Runs.{bytes_from}

or_barred_or : (b : Byte) (at : ℕ) (first rest : Option ℕ) → or_barred b at (option_or first rest)
    ≡ option_or (or_barred b at first) rest
or_barred_or (Holds value) at first rest = refl
or_barred_or Barred at first rest = refl
or_barred_or (InArea area) at first rest = refl

or_area_or : (b : Byte) (first rest : Option Area) → or_area b (option_or first rest) ≡ option_or (or_area b first) rest
or_area_or (Holds value) first rest = refl
or_area_or Barred first rest = refl
or_area_or (InArea area) first rest = refl

suc_plus : (m n : ℕ) → suc m + n ≡ suc (m + n)
suc_plus m n = omega arith

here : (at : ℕ) → at < 2 ^ 64 → at ≡ (at + 0) % 2 ^ 64
here at small = omega arith

further : (at m : ℕ) → (behind at + m) % 2 ^ 64 ≡ (at + suc m) % 2 ^ 64
further at m = omega arith

module _ (byte : ℕ → Byte) where
  pub barred_split : (at m n : ℕ) → at < 2 ^ 64
      → first_barred byte at (m + n) ≡ option_or (first_barred byte at m) (first_barred byte ((at + m) % 2 ^ 64) n)
  unfolding first_barred
  barred_split at zero n small = rw zero-add (ap (λ a. first_barred byte a n) (here at small))
  barred_split at (suc m) n small =
      ap (first_barred byte at) (suc_plus m n)
      ∙ ap (or_barred (byte at) at) (barred_split (behind at) m n (omega arith))
      ∙ or_barred_or (byte at) at (first_barred byte (behind at) m) (first_barred byte ((behind at + m) % 2 ^ 64) n)
      ∙ ap (λ a. option_or (first_barred byte at (suc m)) (first_barred byte a n)) (further at m)

  pub area_split : (at m n : ℕ) → at < 2 ^ 64
      → first_area byte at (m + n) ≡ option_or (first_area byte at m) (first_area byte ((at + m) % 2 ^ 64) n)
  unfolding first_area
  area_split at zero n small = rw zero-add (ap (λ a. first_area byte a n) (here at small))
  area_split at (suc m) n small =
      ap (first_area byte at) (suc_plus m n)
      ∙ ap (or_area (byte at)) (area_split (behind at) m n (omega arith))
      ∙ or_area_or (byte at) (first_area byte (behind at) m) (first_area byte ((behind at + m) % 2 ^ 64) n)
      ∙ ap (λ a. option_or (first_area byte at (suc m)) (first_area byte a n)) (further at m)

  pub bytes_split : (at m n : ℕ) → at < 2 ^ 64
      → bytes_from byte at (m + n) ≡ bytes_from byte at m ++ bytes_from byte ((at + m) % 2 ^ 64) n
  unfolding bytes_from
  bytes_split at zero n small = rw zero-add (ap (λ a. bytes_from byte a n) (here at small))
  bytes_split at (suc m) n small =
      ap (bytes_from byte at) (suc_plus m n)
      ∙ ap (λ bs. value_in (byte at) ∷ bs) (bytes_split (behind at) m n (omega arith))
      ∙ ap (λ a. bytes_from byte at (suc m) ++ bytes_from byte a n) (further at m)

-- bytes taken so far, and a piece more
pub bytes_more : (byte : ℕ → Byte) (at done piece : ℕ) (taken more : List ℕ) → at < 2 ^ 64
    → taken ≡ bytes_from byte at done → more ≡ bytes_from byte ((at + done) % 2 ^ 64) piece
    → taken ++ more ≡ bytes_from byte at (done + piece)
bytes_more byte at done piece taken more small before is =
    ap (λ bs. bs ++ more) before ∙ ap (λ bs. bytes_from byte at done ++ bs) is
    ∙ sym (bytes_split byte at done piece small)

pub bytes_none : (byte : ℕ → Byte) (at : ℕ) → [] ≡ bytes_from byte at 0
unfolding bytes_from
bytes_none byte at = refl
