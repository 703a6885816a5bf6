-- Rights as bits.
use Rattle.std.specs.Prelude.{◌+◌, ◌==◌, Bool, if◌then◌else◌}
use Rattle.std.specs.Int.RustNames.{bit_and}
use Rattle.mm_areas.specs.declared.rights.Rights.{Rights}

-- the rights of which each is there or not
-- mmap(2), PROT_READ 1, PROT_WRITE 2, PROT_EXEC 4
abbrev pub rights_with : (read write execute : Bool) → Rights
rights_with read write execute =
    record { 0 = (if read then 1 else 0) + (if write then 2 else 0) + (if execute then 4 else 0) }

-- whether rights have all of a right's bits
-- mmap(2), PROT_READ 1, PROT_WRITE 2, PROT_EXEC 4
abbrev pub has : Rights → Rights → Bool
has rights right = bit_and rights.0 right.0 == right.0
