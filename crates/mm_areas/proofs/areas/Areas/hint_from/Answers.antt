use Rattle.std.proofs.Common.{sym, ◌∙◌}
use Rattle.std.proofs.lemmas.Bool.{false≢true}
use Rattle.mm_areas.proofs.HintLaws.{near_mapped}
use Rattle.mm_areas.proofs.areas.Areas.hint_from.Goals as goal

pub returns-then-is_near-clause-none : goal.returns-then-is_near-clause-none
returns-then-is_near-clause-none c = λ absent.
    absurd (false≢true (sym absent
    ∙ near_mapped c.args.self.now.regions.items c.args.hint c.args.page c.args.self.now.in_order
    (sym c.if-is_near.ensures)))
