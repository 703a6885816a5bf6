use Rattle.machine_cases.proofs.bytes.+first_barred.Given as goal

abbrev pub decreases-first_barred : goal.decreases-first_barred
decreases-first_barred g l = l.count
