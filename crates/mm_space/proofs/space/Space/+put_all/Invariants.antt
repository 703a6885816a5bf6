use Rattle.mm_space.proofs.space.Space.+put_all.Given as goal

abbrev pub decreases-put_all : goal.decreases-put_all
decreases-put_all l = l.count
