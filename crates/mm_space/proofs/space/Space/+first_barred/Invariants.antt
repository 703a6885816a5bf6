use Rattle.mm_space.proofs.space.Space.+first_barred.Given as goal

abbrev pub decreases-first_barred : goal.decreases-first_barred
decreases-first_barred l = l.count
