use Rattle.mm_space.proofs.space.Space.+first_area.Given as goal

abbrev pub decreases-first_area : goal.decreases-first_area
decreases-first_area l = l.count
