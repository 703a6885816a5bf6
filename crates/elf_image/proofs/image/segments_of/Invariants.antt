use Rattle.std.proofs.Common.{◌≡◌, ◌++◌, false, length}
use Rattle.std.specs.List.{list_any}
use Rattle.elf_image.specs.Faults.{is_misplaced}
use Rattle.elf_image.specs.Images.{segments_of}
use Rattle.elf_image.proofs.image.segments_of.Given as goal

abbrev pub invariant-loop-header : goal.invariant-loop-header
invariant-loop-header l = record {
  can_next : (goal.iterator-loop-header).can_next l.header-iterator;
  is_finite : (goal.iterator-loop-header).is_finite l.header-iterator;
  made : l.segments ++ segments_of l.bytes l.header-iterator ≡ segments_of l.bytes l.fn.headers;
  placed : list_any (is_misplaced (length l.bytes)) l.header-iterator ≡ false;
}
