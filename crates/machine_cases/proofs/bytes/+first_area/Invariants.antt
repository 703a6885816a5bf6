use Rattle.machine_cases.proofs.bytes.+first_area.Given as goal

abbrev pub decreases-first_area : goal.decreases-first_area
decreases-first_area g l = l.count
