use Rattle.std.proofs.Common.{◌≡◌}
use Rattle.elf_image.specs.Faults.{has_overlap}
use Rattle.elf_image.proofs.fault.has_overlap.Given as goal

abbrev pub invariant-loop-header : goal.invariant-loop-header
invariant-loop-header l = has_overlap l.later ≡ has_overlap l.initial.later
