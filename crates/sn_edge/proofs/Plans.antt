-- Laws of plans: a call that is past doesn't fail again.
use Rattle.std.proofs.Common.{◌≡◌, ℕ, ◌+◌, ◌≤◌, List, [], ◌∷◌, true, false, ltb, eqb, refl, arith}
use Rattle.std.specs.List.{list_any, list_all}
use Rattle.std.proofs.lemmas.Bool.{and_parts, and_from, or_from, ltb-true, lt-ltb, ne_eqb}
use Rattle.sn_base.specs.Sums.{capped}
use Rattle.sn_edge.specs.declared.plan.EdgePlan.{EdgePlan}
use Rattle.sn_edge.specs.Plan.{next_call, fails_next, fails_no_more}

-- what is below m is below n
all_below-more : (calls : List ℕ) (m n : ℕ) → m ≤ n → list_all (λ call. ltb call m) calls ≡ true
    → list_all (λ call. ltb call n) calls ≡ true
all_below-more [] m n le h = refl
all_below-more (call ∷ calls) m n le h =
    let parts = and_parts (ltb call m) (list_all (λ call. ltb call m) calls) h in
    and_from _ _ (lt-ltb call n (omega (arith, ltb-true call m parts.0))) (all_below-more calls m n le parts.1)

-- what is below n isn't n
all_below-absent : (calls : List ℕ) (n : ℕ) → list_all (λ call. ltb call n) calls ≡ true
    → list_any (λ call. eqb call n) calls ≡ false
all_below-absent [] n h = refl
all_below-absent (call ∷ calls) n h =
    let parts = and_parts (ltb call n) (list_all (λ call. ltb call n) calls) h in
    or_from _ _ (ne_eqb call n (λ e. omega (arith, ltb-true call n parts.0, e))) (all_below-absent calls n parts.1)

-- where no call fails from here on, the next one doesn't
pub fails_next-fails_no_more : (plan : EdgePlan) → fails_no_more plan ≡ true → fails_next plan ≡ false
fails_next-fails_no_more plan h = all_below-absent plan.failing (next_call plan) h

-- and after it none does
pub fails_no_more-step : (plan : EdgePlan) (faults : ℕ) → fails_no_more plan ≡ true
    → fails_no_more (record plan { calls = next_call plan; faults = faults }) ≡ true
fails_no_more-step plan faults h =
    all_below-more plan.failing (next_call plan) (capped (next_call plan + 1)) (omega arith) h

pub ruleset begin_steps = (fails_next-fails_no_more, fails_no_more-step)
