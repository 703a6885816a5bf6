use Rattle.mm_space.proofs.space.Space.+own_all.Given as goal

abbrev pub decreases-own_all : goal.decreases-own_all
decreases-own_all l = l.count
