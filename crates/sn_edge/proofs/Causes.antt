-- Laws of counts of faults, over several calls.
use Rattle.std.proofs.Common.{◌≡◌, ℕ, ◌≤◌, Bool, subst, inl, inr, arith}
use Rattle.std.proofs.lemmas.Bool.Decides.{nat_tests}
use Rattle.sn_base.specs.Faults.{Rose, rise, HasCause}

-- what rose is no lower
pub le-from_Rose : {before now : ℕ} → Rose before now → before ≤ now
le-from_Rose (inl less) = omega arith
le-from_Rose (inr ends) = omega (arith, ends.0, ends.1)

-- a rise between two moments is one between an earlier and a later moment
pub Rose-wider : (before early late now : ℕ) → before ≤ early → Rose early late → late ≤ now → Rose before now
Rose-wider before early late now before_le (inl less) late_le = inl (omega arith)
Rose-wider before early late now before_le (inr ends) late_le = grind (arith, ends.0, ends.1)

-- a rise counts at least one
pub one_le-rise : (before now : ℕ) → Rose before now → 1 ≤ rise before now
one_le-rise before now (inl less) = grind (arith, nat_tests)
one_le-rise before now (inr ends) = grind (arith, nat_tests, ends.0, ends.1)

-- a call after others that left the count
pub HasCause-after : (failed : Bool) (before early now : ℕ) → early ≡ before → HasCause failed early now
    → HasCause failed before now
HasCause-after failed before early now same cause = subst (λ (n : ℕ). HasCause failed n now) same cause
