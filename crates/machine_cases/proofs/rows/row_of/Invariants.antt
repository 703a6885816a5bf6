use Rattle.std.proofs.Common.{◌≡◌, ◌*◌, true, ℕ}
use Rattle.rv_table.specs.Bytes.{Byte}
use Rattle.machine_cases.specs.declared.bytes.Reached.{Reached}
use Rattle.machine_cases.specs.Pages.{are_words, instrs_from}
use Rattle.machine_cases.specs.Places.{in_stretch, reached}
use Rattle.machine_cases.proofs.rows.row_of.Given as goal

abbrev byte_of : Reached 4096 → ℕ → Byte
byte_of code = reached code.right (in_stretch code.stretch.from 4096 code.stretch.area code.stretch.bytes)

abbrev pub invariant-loop-place : goal.invariant-loop-place
invariant-loop-place l = record {
  words : are_words (byte_of l.fn.code) (4096 * l.fn.page) l.place ≡ true;
  row : l.row.items ≡ instrs_from (byte_of l.fn.code) (4096 * l.fn.page) l.place;
  code : l.code ≡ l.fn.code;
  page : l.page ≡ l.fn.page;
}
