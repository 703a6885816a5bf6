use Rattle.std.proofs.Common.{◌≡◌, false, length}
use Rattle.std.specs.List.{list_any}
use Rattle.elf_image.specs.Faults.{is_misplaced}
use Rattle.elf_image.specs.Headers.{program_headers}
use Rattle.elf_image.specs.Images.{headers_in_memory}
use Rattle.elf_image.proofs.image.headers_in_memory.Given as goal

-- no header so far holds the table, and the rest is placed in the file
abbrev pub invariant-loop-header : goal.invariant-loop-header
invariant-loop-header l = record {
  can_next : (goal.iterator-loop-header).can_next l.header-iterator;
  is_finite : (goal.iterator-loop-header).is_finite l.header-iterator;
  first : headers_in_memory l.file l.header-iterator ≡ headers_in_memory l.file (program_headers l.bytes);
  placed : list_any (is_misplaced (length l.bytes)) l.header-iterator ≡ false;
}
