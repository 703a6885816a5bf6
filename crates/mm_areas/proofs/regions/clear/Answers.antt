use Rattle.mm_areas.proofs.regions.clear.Goals as goal

pub take_out-requires-clause-cut_first : goal.take_out-requires-clause-cut_first
take_out-requires-clause-cut_first c = c.cut-2.ensures.others c.args.first c.in_ok-cut.ensures.ok
