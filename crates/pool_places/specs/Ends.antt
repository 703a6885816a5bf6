-- How a pool ended, and which tasks come back.
use Rattle.std.specs.Prelude.{ℕ, List, []}
use Rattle.pool_places.specs.declared.ends.Tried.{Tried}
use Rattle.pool_places.specs.declared.ends.PoolEnd.{PoolEnd}
use Rattle.pool_places.specs.declared.ends.PoolEnd.TheVariants.{AllEnded, Stuck, Full, Memory}

-- the tasks that come back and aren't over
-- profile
abbrev pub left_of : {K : Type 0} → PoolEnd K → List (Tried K)
left_of (AllEnded es) = []
left_of (Stuck ts es n) = ts.items
left_of (Full ts es) = ts.items
left_of Memory = []

-- the tasks that come back and are over
-- profile
abbrev pub over_of : {K : Type 0} → PoolEnd K → List K
over_of (AllEnded es) = es.items
over_of (Stuck ts es n) = es.items
over_of (Full ts es) = es.items
over_of Memory = []

-- each task is over
-- profile
abbrev pub IsAllEnded : {K : Type 0} → PoolEnd K → Type 0
IsAllEnded (AllEnded es) = Unit {0}
IsAllEnded (Stuck ts es n) = ⊥
IsAllEnded (Full ts es) = ⊥
IsAllEnded Memory = ⊥

-- what holds of the count of turns at which all were parked
-- profile
abbrev pub IfStuck : {K : Type 0} → PoolEnd K → (ℕ → Type 0) → Type 0
IfStuck (AllEnded es) P = Unit {0}
IfStuck (Stuck ts es n) P = P n
IfStuck (Full ts es) P = Unit {0}
IfStuck Memory P = Unit {0}

-- what holds where a turn answered Full
-- profile
abbrev pub OnFull : {K : Type 0} → PoolEnd K → Type 0 → Type 0
OnFull (AllEnded es) P = Unit {0}
OnFull (Stuck ts es n) P = Unit {0}
OnFull (Full ts es) P = P
OnFull Memory P = Unit {0}

-- what holds where memory didn't run out
-- profile
abbrev pub IfKept : {K : Type 0} → PoolEnd K → Type 0 → Type 0
IfKept (AllEnded es) P = P
IfKept (Stuck ts es n) P = P
IfKept (Full ts es) P = P
IfKept Memory P = Unit {0}
