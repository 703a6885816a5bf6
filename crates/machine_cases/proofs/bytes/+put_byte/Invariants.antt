use Rattle.machine_cases.proofs.bytes.+put_byte.Given as goal

abbrev pub decreases-put_byte : goal.decreases-put_byte
decreases-put_byte l = l.width
