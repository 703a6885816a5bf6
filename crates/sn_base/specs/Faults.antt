-- A count of failed calls, and what a call may do to it.
use Rattle.std.specs.Prelude.{◌≡◌, ◌⊎◌, ℕ, ◌-◌, ◌^◌, ◌<◌, ◌≤◌, Bool, IsTrue, IsFalse, if◌then◌else◌, nat_lt}

-- the count rose; at the end of its type, where it stays, a failure counts all the same
-- profile: a count is a 64-bit number that stays at its largest value
abbrev pub Rose : ℕ → ℕ → Type 0
Rose before now = (before < now) ⊎ ((before ≡ 2 ^ 64 - 1) × (now ≡ 2 ^ 64 - 1))

-- by how much the count rose, or 1 where it stood at the end of its type
-- profile: a count is a 64-bit number that stays at its largest value
abbrev pub rise : ℕ → ℕ → ℕ
rise before now = if nat_lt before (2 ^ 64 - 1) then now - before else 1

-- what a call does to the count, from whether it answered that it failed
-- profile: no failure without a rise, and no rise without a failure
pub record HasCause (has_failed : Bool) (before now : ℕ) : Type 0 where
  -- the count never falls
  pub later : before ≤ now
  -- it rose in a failed call
  pub failed : IsTrue has_failed → Rose before now
  -- and in no other
  pub still : IsFalse has_failed → now ≡ before
