use Rattle.std.proofs.Common.{sym}
use Rattle.mm_areas.proofs.HintLaws.{near_within, near_held, near_mapped}
use Rattle.mm_areas.proofs.areas.Areas.index_near.Goals as goal

pub returns-then-is_near-clause-within : goal.returns-then-is_near-clause-within
returns-then-is_near-clause-within c =
    near_within c.args.self.now.regions.items c.args.hint c.args.page (sym c.if-is_near.ensures)

pub returns-then-is_near-clause-held : goal.returns-then-is_near-clause-held
returns-then-is_near-clause-held c =
    near_held c.args.self.now.regions.items c.args.hint c.args.page (sym c.if-is_near.ensures)

pub returns-then-is_near-clause-mapped : goal.returns-then-is_near-clause-mapped
returns-then-is_near-clause-mapped c =
    sym (near_mapped c.args.self.now.regions.items c.args.hint c.args.page c.args.self.now.in_order
    (sym c.if-is_near.ensures))
