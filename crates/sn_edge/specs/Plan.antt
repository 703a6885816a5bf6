-- Which calls of an object in memory are to fail.
use Rattle.std.specs.Prelude.{ℕ, ◌+◌, ◌==◌, [], ◌∷◌, ◌++◌, Bool, nat_lt, if◌then◌else◌}
use Rattle.std.specs.List.{list_any, list_all}
use Rattle.sn_base.specs.Sums.{capped}
use Rattle.sn_edge.specs.declared.plan.EdgePlan.{EdgePlan}

-- No call so far, no fault, and no call is to fail.
-- profile: an object in memory fails where its maker says so
abbrev pub no_plan : EdgePlan
no_plan = record { calls = 0; failing = []; faults = 0 }

-- The number of the call that comes next, from 1 on.
-- profile: a count of calls stays at its largest value
abbrev pub next_call : EdgePlan → ℕ
next_call plan = capped (plan.calls + 1)

-- The call that comes next is to fail.
-- profile: calls that fail are named by their numbers
abbrev pub fails_next : EdgePlan → Bool
fails_next plan = list_any (λ call. call == next_call plan) plan.failing

-- No call from here on is to fail.
-- profile: calls that fail are named by their numbers
abbrev pub fails_no_more : EdgePlan → Bool
fails_no_more plan = list_all (λ call. nat_lt call (next_call plan)) plan.failing

-- One more call is to fail.
-- profile: calls that fail are named by their numbers
abbrev pub with_failing : EdgePlan → ℕ → EdgePlan
with_failing plan call = record plan { failing = plan.failing ++ call ∷ [] }

-- A call was made, and failed or didn't.
-- profile: both counts stay at their largest value
abbrev pub plan_after : EdgePlan → Bool → EdgePlan
plan_after plan failed =
    record plan { calls = next_call plan; faults = if failed then capped (plan.faults + 1) else plan.faults }
