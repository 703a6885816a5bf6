-- Words of a page whose bytes haven't changed.
use Rattle.std.proofs.Common.{◌≡◌, ℕ, ◌*◌, List, Option, length, get_or, set, ap, sym, ◌∙◌, subst, arith}
use Rattle.std.specs.Option.{ForSome}
use Rattle.std.proofs.lemmas.List.FromFn.{length-map-range_with_len, get_or-map-range_with_len}
use Rattle.rv_table.specs.declared.instr.Instr.{Instr}
use Rattle.rv_table.specs.declared.instr.Instr.TheVariants as instr
use Rattle.rv_table.specs.Table.{instr_of}
use Rattle.mm_frames.specs.declared.row.Row.{Row}
use Rattle.mm_frames.specs.Numbers.{little_number_at, with_number}
use Rattle.mm_frames.proofs.NumberLemmas.{SameOutside, same_number, same_set, same_with_number}
use Rattle.mm_frames.specs.Rows.{decoded_row, words_of, AreRowOutside}

-- so a row of the bytes before has all words but those that have changed
others : (old new : List ℕ) (offset count : ℕ) (words : List Instr) → SameOutside old new offset count
    → words ≡ decoded_row old → AreRowOutside words new offset count
unfolding decoded_row
others old new offset count words same is = (
  ap length is ∙ length-map-range_with_len (λ k. instr_of (little_number_at old (4 * k) 4)) 0 1024,
  λ k within side.
      ap (λ ws. get_or ws k instr.Illegal) is
      ∙ get_or-map-range_with_len (λ k. instr_of (little_number_at old (4 * k) 4)) 0 1024 k k
      instr.Illegal within (omega arith)
      ∙ ap instr_of (sym (same_number old new offset count same (4 * k) 4 side)),
)

pub others_set : (row : Option Row) (old new : List ℕ) (offset value : ℕ)
    → ForSome row (λ r. words_of r ≡ decoded_row old)
    → new ≡ set old offset value → ForSome row (λ r. AreRowOutside (words_of r) new offset 1)
others_set row old new offset value decoded is r there =
    others old new offset 1 (words_of r) (λ k side. ap (λ bytes. get_or bytes k 0) is
    ∙ same_set old offset value k side) (decoded r there)

pub others_number : (row : Option Row) (old new : List ℕ) (offset width value count : ℕ)
    → ForSome row (λ r. words_of r ≡ decoded_row old) → new ≡ with_number old offset width value → count ≡ width
    → ForSome row (λ r. AreRowOutside (words_of r) new offset count)
others_number row old new offset width value count decoded is so_many r there =
    let P : ℕ → Type 0 = λ n. AreRowOutside (words_of r) new offset n in
    subst P (sym so_many) (others old new offset width (words_of r) (λ k side. ap (λ bytes. get_or bytes k 0) is
    ∙ same_with_number old offset width value k side) (decoded r there))
