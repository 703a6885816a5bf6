use Rattle.std.proofs.Common.{◌≡◌, false, arith}
use Rattle.std.proofs.lemmas.Grind.{common_steps}
use Rattle.sn_edge.specs.Plan.{fails_next}
use Rattle.sn_edge.proofs.Plans.{fails_next-fails_no_more}
use Rattle.sn_edge.proofs.plan.EdgePlan.begin.Goals as goal

pub returns-then-is_planned-clause-succeeds : goal.returns-then-is_planned-clause-succeeds
returns-then-is_planned-clause-succeeds c =
    λ h. let absent : fails_next c.args.self.now ≡ false = fails_next-fails_no_more c.args.self.now h in
    grind (arith, common_steps)
