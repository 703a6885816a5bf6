use Rattle.std.proofs.Common.{ap, sym, ◌∙◌}
use Rattle.mm_areas.specs.Own.{is_own_at}
use Rattle.mm_areas.proofs.WriteLaws.{not_found, found_at}
use Rattle.mm_areas.proofs.areas.Areas.is_own.Goals as goal

pub returns-in-Some : goal.returns-in-Some
returns-in-Some c =
    c.is_own.ensures
    ∙ sym (ap is_own_at
    (found_at c.as_slice.result.now c.args.self.now.regions.items c.in-Some.index c.index-region.result.now
    c.args.page c.index.result.now c.as_slice.ensures.value c.args.self.now.in_order c.in-Some.ensures.within
    c.in-Some.ensures.held c.index-region.ensures c.index.ensures))

pub returns-in-None : goal.returns-in-None
returns-in-None c =
    sym (ap is_own_at
    (not_found c.as_slice.result.now c.args.self.now.regions.items c.args.page c.as_slice.ensures.value
    c.args.self.now.in_order c.in-None.ensures.mapped))
