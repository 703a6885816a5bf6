use Rattle.machine_cases.proofs.bytes.+number.Given as goal

abbrev pub decreases-number : goal.decreases-number
decreases-number g l = l.count
