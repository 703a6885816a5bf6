-- The granules that a store meets are those of its first byte and of its last.
use Rattle.std.proofs.Common.{◌≡◌, ◌≢◌, ◌⊎◌, refl, sym, ◌∙◌, inl, inr, ℕ, ◌+◌, ◌-◌, ◌%◌, ◌^◌, ◌<◌, ◌≤◌, ◌==◌, ◌&&◌, not}
use Rattle.std.proofs.Common.{arith}
use Rattle.std.proofs.lemmas.Bool.{cases_lt}
use Rattle.std.proofs.lemmas.Bool.Decides.{same_from_decides, Decides-eqb, Decides-not, Decides-and, Decides-like}
use Rattle.std.proofs.lemmas.Bool.Decides.{Decides-below_or}
use Rattle.std.specs.Bool.{Decides}
use Rattle.rv_table.specs.Words.{IsWidth}
use Rattle.rv_atomic.specs.Reservations.{granule, meets}

-- the granule of a byte of a store
abbrev granule_at : (at k : ℕ) → ℕ
granule_at at k = granule ((at + k) % 2 ^ 64)

is_some_bytes : (width : ℕ) → IsWidth width → (0 < width) × (width ≤ 8)
is_some_bytes width h = (grind arith, grind arith)

-- a byte of a store lies in the granule of the first byte, or in that of the last
at_an_end : (at width k : ℕ) → at < 2 ^ 64 → width ≤ 8 → k < width → (granule_at at k ≡ granule at)
    ⊎ (granule_at at k ≡ granule_at at (width - 1))
at_an_end at width k fits small within =
    elim (cases_lt (at % 8 + k) 8) [ inl low ↦ inl (omega arith) | inr high ↦ inr (omega arith) ]

-- some byte of a store lies in a granule
abbrev Meets : (number at width : ℕ) → Type 0
Meets number at width = (k : ℕ) × (k < width) × (granule_at at k ≡ number)

decides_meets : (number at width : ℕ) → Decides (meets number at width) (Meets number at width)
unfolding meets
decides_meets number at width =
    Decides-below_or (λ k. granule_at at k == number) (λ k. granule_at at k ≡ number) (meets number at)
    (λ k. Decides-eqb (granule_at at k) number) refl (λ _. refl) width

-- a granule that is neither is met by no byte
pub missed_at_ends : (number at width : ℕ) → at < 2 ^ 64 → IsWidth width
    → (not (number == granule at) && not (number == granule_at at (width - 1))) ≡ not (meets number at width)
missed_at_ends number at width fits h =
    same_from_decides _ _
    (Decides-and _ _ (Decides-not _ (Decides-eqb number (granule at)))
    (Decides-not _ (Decides-eqb number (granule_at at (width - 1)))))
    (Decides-like _ ends unmet_by (Decides-not _ (decides_meets number at width)))
  where
    bytes : (0 < width) × (width ≤ 8)
    bytes = is_some_bytes width h

    -- a granule that no byte meets is neither end's
    ends : ¬ (Meets number at width) → (number ≢ granule at) × (number ≢ granule_at at (width - 1))
    ends unmet =
        (λ e. unmet (0, bytes.0, omega (arith, fits, e)), λ e. unmet (width - 1, omega (arith, bytes.0), sym e))

    unmet_by : (number ≢ granule at) × (number ≢ granule_at at (width - 1)) → ¬ (Meets number at width)
    unmet_by other m =
        elim (at_an_end at width m.0 fits bytes.1 m.1) [ inl e ↦ other.0 (sym m.2 ∙ e) | inr e ↦ other.1 (sym m.2 ∙ e) ]
