-- The decoded words of a page, one more at a time.
use Rattle.std.proofs.Common.{◌≡◌, ℕ, suc, ◌+◌, ◌*◌, ◌^◌, ◌<◌, true, List, [], ◌∷◌, ◌++◌, Some, None, refl, ap}
use Rattle.std.proofs.Common.{sym, ◌∙◌, add-one}
use Rattle.std.specs.Prelude.{nat_lt, ◌&&◌, if◌then◌else◌}
use Rattle.std.proofs.lemmas.Bool.{and_from, lt-ltb}
use Rattle.rv_table.specs.declared.instr.Instr.{Instr}
use Rattle.rv_table.specs.Bytes.{Byte, Value, loaded}
use Rattle.rv_table.specs.Table.{instr_of}
use Rattle.machine_cases.specs.Pages.{are_words, instr_read, instrs_from, page_instrs, is_value}

words_suc : (code : ℕ → Byte) (at n : ℕ)
    → are_words code at (suc n) ≡ (are_words code at n && is_value (loaded code (at + 4 * n) 4))
unfolding are_words
words_suc code at n = refl

instrs_suc : (code : ℕ → Byte) (at n : ℕ)
    → instrs_from code at (suc n) ≡ instrs_from code at n ++ (instr_read (loaded code (at + 4 * n) 4) ∷ [])
unfolding instrs_from
instrs_suc code at n = refl

pub no_words : (code : ℕ → Byte) (at : ℕ) → are_words code at 0 ≡ true
unfolding are_words
no_words code at = refl

pub no_instrs : (code : ℕ → Byte) (at : ℕ) → [] ≡ instrs_from code at 0
unfolding instrs_from
no_instrs code at = refl

pub next_word : (code : ℕ → Byte) (at n word : ℕ) → loaded code (at + 4 * n) 4 ≡ Value word → are_words code at n ≡ true
    → are_words code at (n + 1) ≡ true
next_word code at n word is before =
    ap (are_words code at) (add-one n) ∙ words_suc code at n
    ∙ and_from (are_words code at n) (is_value (loaded code (at + 4 * n) 4)) before (ap is_value is)

pub next_instr : (code : ℕ → Byte) (at n word : ℕ) (row : List Instr) (told : Instr)
    → loaded code (at + 4 * n) 4 ≡ Value word → told ≡ instr_of word → row ≡ instrs_from code at n
    → row ++ (told ∷ []) ≡ instrs_from code at (n + 1)
next_instr code at n word row told is of_word before =
    let last : instr_read (loaded code (at + 4 * n) 4) ≡ told = ap instr_read is ∙ sym of_word in
    sym (ap (instrs_from code at) (add-one n) ∙ instrs_suc code at n ∙ (λ i. sym before i ++ (last i ∷ [])))

pub whole_page : (code : ℕ → Byte) (page : ℕ) (row : List Instr) → page < 2 ^ 52
    → are_words code (4096 * page) 1024 ≡ true
    → row ≡ instrs_from code (4096 * page) 1024 → page_instrs code page ≡ Some row
whole_page code page row low words is =
    ap (λ test. if test then Some (instrs_from code (4096 * page) 1024) else None)
    (and_from (nat_lt page (2 ^ 52)) (are_words code (4096 * page) 1024) (lt-ltb page (2 ^ 52) low) words)
    ∙ ap Some (sym is)
