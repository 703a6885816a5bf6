-- Fresh numbers given in turn, and taken back in turn from the last.
use Rattle.std.proofs.Common.{◌≡◌, ℕ, ◌+◌, ◌-◌, ◌<◌, ◌≤◌, List, [], ◌∷◌, ◌++◌, length, take, drop, get_or, Option, Some}
use Rattle.std.proofs.Common.{None, Bool, true, false, refl, ap, sym, ◌∙◌, arith, is_some, unwrap_or}
use Rattle.std.specs.Prelude.{option_and_then}
use Rattle.std.proofs.lemmas.List.{take_more, take-append-drop}
use Rattle.kernel_model.specs.declared.kernel.Kernel.{Kernel}
use Rattle.kernel_model.specs.declared.opening.Fresh.{Fresh}
use Rattle.kernel_model.specs.laws.InPlace.{numbered}
use Rattle.node_numbers.proofs.NodesSoFar.{numbered_none, numbered-append}

module _ (fresh : List Fresh) (i : ℕ) (f : Fresh) (inside : i < length fresh) (item : f ≡ get_or fresh i f)
    (before : Kernel) where
  one_further : numbered (take (i + 1) fresh) before
      ≡ option_and_then (numbered (f ∷ [])) (numbered (take i fresh) before)
  one_further =
      ap (λ fs. numbered fs before) (take_more fresh i f inside ∙ ap (λ g. take i fresh ++ g ∷ []) (sym item))
      ∙ numbered-append (take i fresh) (f ∷ []) before

  -- one number more is given behind the others
  pub numbered_step : (k : Kernel) → numbered (take i fresh) before ≡ Some k
      → numbered (take (i + 1) fresh) before ≡ numbered (f ∷ []) k
  numbered_step k e = one_further ∙ ap (option_and_then (numbered (f ∷ []))) e

  -- where it is refused, so are all
  pub numbered_refused : (k : Kernel) → numbered (take i fresh) before ≡ Some k → numbered (f ∷ []) k ≡ None
      → numbered fresh before ≡ None
  numbered_refused k e none =
      ap (λ fs. numbered fs before) (sym (take-append-drop (i + 1) fresh))
      ∙ numbered-append (take (i + 1) fresh) (drop (i + 1) fresh) before
      ∙ ap (option_and_then (numbered (drop (i + 1) fresh))) (numbered_step k e ∙ none)

  -- the last number was given to the kernel of the others
  pub numbered_last : (k : Kernel) → numbered (take (i + 1) fresh) before ≡ Some k
      → (m : Kernel) × (numbered (take i fresh) before ≡ Some m) × (numbered (f ∷ []) m ≡ Some k)
  numbered_last k e = by (numbered (take i fresh) before) refl (sym one_further ∙ e)
    where
      by : (o : Option Kernel) → numbered (take i fresh) before ≡ o → option_and_then (numbered (f ∷ [])) o ≡ Some k
          → (m : Kernel) × (numbered (take i fresh) before ≡ Some m) × (numbered (f ∷ []) m ≡ Some k)
      by None g h = absurd (cc h)
      by (Some m) g h = (m, g, h)

-- what a number that is given leaves, by what the call answers
pub taken_by : (o : Option Kernel) (b : Bool) (k left : Kernel) → b ≡ is_some o → left ≡ unwrap_or o k
    → b ≡ true → o ≡ Some left
taken_by None b k left fits ok is = absurd (cc (fits, is))
taken_by (Some m) b k left fits ok is = ap (λ n. Some n) (sym ok)

pub refused_by : (o : Option Kernel) (b : Bool) (k left : Kernel) → b ≡ is_some o → left ≡ unwrap_or o k
    → b ≡ false → (o ≡ None) × (left ≡ k)
refused_by None b k left fits ok is = (refl, ok)
refused_by (Some m) b k left fits ok is = absurd (cc (fits, is))

-- the last of so many numbers, on the way back
pub last_of : (fresh : List Fresh) (n : ℕ) (f : Fresh) → 0 < n → n ≤ length fresh → f ≡ get_or fresh (n - 1) f
    → (before k : Kernel) → numbered (take n fresh) before ≡ Some k
    → (m : Kernel) × (numbered (take (n - 1) fresh) before ≡ Some m) × (numbered (f ∷ []) m ≡ Some k)
last_of fresh n f some within item before k e =
    let same : n - 1 + 1 ≡ n = omega arith in
    numbered_last fresh (n - 1) f (omega arith) item before k (ap (λ i. numbered (take i fresh) before) same ∙ e)

-- with none left to take back, all is as it was
pub none_left : (fresh : List Fresh) (n : ℕ) → n ≤ 0 → (before k : Kernel) → numbered (take n fresh) before ≡ Some k
    → k ≡ before
none_left fresh n none before k e =
    let nothing : n ≡ 0 = omega arith in
    let start : numbered (take n fresh) before ≡ Some before =
    ap (λ i. numbered (take i fresh) before) nothing ∙ numbered_none before in
    cc
