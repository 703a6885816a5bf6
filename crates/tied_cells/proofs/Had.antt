-- Which pages a knot has.
use Rattle.std.proofs.Common.{◌≡◌, ◌≢◌, ⊎_elim, ℕ, ◌^◌, ◌<◌, ◌≤◌, ◌==◌, List, [], ◌∷◌, ◌++◌, Bool, true, false, refl, sym, ap, ◌∙◌, subst, arith}
use Rattle.std.specs.Prelude.{Some, None, Option, if◌then◌else◌}
use Rattle.std.proofs.lemmas.Bool.Decides.{eqb_tells}
use Rattle.sn_ties.specs.Tied.{value_at}
use Rattle.tied_cells.specs.Machines.{Rules, times}
use Rattle.tied_cells.specs.Rounds.{AreHad}
use Rattle.tied_cells.proofs.Runs.{times-next}

module _ {P E : Type 0} (r : Rules P E) where
  -- a page that an entry touches gets a value, or what is no page does
  pub had_set : (free : ℕ) (now : List E) (knot : List (ℕ × ℕ)) (key version : ℕ)
      → (key < 2 ^ 63 → 0 < times r key now) → AreHad r free now knot → AreHad r free now ((key, version) ∷ knot)
  had_set free now knot key version touched had k x low small at =
      ⊎_elim
      (λ (t : ((key == k) ≡ true) × (key ≡ k)).
      subst (λ (j : ℕ). 0 < times r j now) t.1 (touched (subst (λ (j : ℕ). j < 2 ^ 63) (sym t.1) small)))
      (λ (t : ((key == k) ≡ false) × (key ≢ k)).
      had k x low small (sym (ap (λ (b : Bool). if b then Some version else value_at k knot) t.0) ∙ at))
      (eqb_tells key k)

  -- an entry more is appended
  pub had_next : (free : ℕ) (now : List E) (e : E) (knot : List (ℕ × ℕ)) → AreHad r free now knot
      → AreHad r free (now ++ e ∷ []) knot
  had_next free now e knot had k x low small at =
      let n = times-next r k now e in
      let before = had k x low small at in
      omega (arith, n, before)

  -- a key above the first pages' that no entry touches has no page
  pub had_none : (free : ℕ) (now : List E) (knot : List (ℕ × ℕ)) (key : ℕ) → AreHad r free now knot → free ≤ key
      → key < 2 ^ 63 → times r key now ≡ 0 → value_at key knot ≡ None
  had_none free now knot key had low small zero = of (value_at key knot) refl
    where
      of : (o : Option ℕ) → value_at key knot ≡ o → value_at key knot ≡ None
      of None e = e
      of (Some x) e = let touched = had key x low small e in absurd (omega (arith, touched, zero))
