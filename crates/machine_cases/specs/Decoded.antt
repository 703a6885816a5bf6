-- A page's instructions are those of its words.
use Rattle.std.specs.Prelude.{◌≡◌, ℕ, zero, suc, ◌+◌, ◌*◌, ◌<◌, ◌^◌, nat_lt, Bool, true, ◌&&◌, List, [], ◌∷◌}
use Rattle.std.specs.Prelude.{◌++◌, Some, length, slice_index_or}
use Rattle.std.proofs.Common.{refl, ap, sym, ◌∙◌, subst, ◌⊎◌, inl, inr, arith, add-one}
use Rattle.std.proofs.Math.Seq.{get_or-append_seam}
use Rattle.std.proofs.lemmas.Bool.{and_parts, cases_eq, false≢true}
use Rattle.std.proofs.lemmas.List.{get_or_append_left, length-append}
use Rattle.std.proofs.lemmas.Option.{cond_some}
use Rattle.rv_table.specs.declared.instr.Instr.{Instr}
use Rattle.rv_table.specs.declared.instr.Instr.TheVariants as instr
use Rattle.rv_table.specs.Bytes.{Accessed, Byte, Value, Fault, Shared, loaded}
use Rattle.rv_exec.specs.Rows.{AreOfPage, IsOfWord}
use Rattle.machine_cases.specs.Pages.{are_words, instr_read, instrs_from, page_instrs, is_value}

-- ---- one word

of_word : (a : Accessed) → is_value a ≡ true → IsOfWord a (instr_read a)
of_word (Value word) h = refl
of_word (Fault address) h = absurd (false≢true h)
of_word (Shared area) h = absurd (false≢true h)

-- ---- so many words

length_from : (code : ℕ → Byte) (at n : ℕ) → length (instrs_from code at n) ≡ n
unfolding instrs_from
length_from code at zero = refl
length_from code at (suc n) =
    length-append (instrs_from code at n) (instr_read (loaded code (at + 4 * n) 4) ∷ [])
    ∙ ap (λ m. m + 1) (length_from code at n)
    ∙ add-one n

at_place : (l : List Instr) (x : Instr) (n k : ℕ) → length l ≡ n → k < suc n
    → (told : ℕ → Instr) → told n ≡ x → (k < n → slice_index_or l k instr.Illegal ≡ told k)
    → (k ≡ n) ⊎ (k ≡ n → ⊥) → slice_index_or (l ++ x ∷ []) k instr.Illegal ≡ told k
at_place l x n k long below told last before (inl same) =
    ap (λ j. slice_index_or (l ++ x ∷ []) j instr.Illegal) (same ∙ sym long)
    ∙ get_or-append_seam l x [] instr.Illegal
    ∙ sym last
    ∙ ap told (sym same)
at_place l x n k long below told last before (inr apart) =
    get_or_append_left l (x ∷ []) instr.Illegal k (rw long (omega (arith, apart))) ∙ before (omega (arith, apart))

each_from : (code : ℕ → Byte) (at n k : ℕ) → k < n
    → slice_index_or (instrs_from code at n) k instr.Illegal ≡ instr_read (loaded code (at + 4 * k) 4)
unfolding instrs_from
each_from code at zero k below = absurd (omega arith)
each_from code at (suc n) k below =
    at_place (instrs_from code at n) (instr_read (loaded code (at + 4 * n) 4)) n k (length_from code at n) below
    (λ j. instr_read (loaded code (at + 4 * j) 4)) refl (each_from code at n k) (cases_eq k n)

word_at_place : (test last : Bool) (n k : ℕ) → k < suc n → (told : ℕ → Bool) → told n ≡ last
    → (test && last) ≡ true → (test ≡ true → k < n → told k ≡ true) → (k ≡ n) ⊎ (k ≡ n → ⊥)
    → told k ≡ true
word_at_place test last n k below told is h before (inl same) = ap told same ∙ is ∙ (and_parts test last h).1
word_at_place test last n k below told is h before (inr apart) = before (and_parts test last h).0 (omega (arith, apart))

word_from : (code : ℕ → Byte) (at n k : ℕ) → are_words code at n ≡ true → k < n
    → is_value (loaded code (at + 4 * k) 4) ≡ true
unfolding are_words
word_from code at zero k h below = absurd (omega arith)
word_from code at (suc n) k h below =
    word_at_place (are_words code at n) (is_value (loaded code (at + 4 * n) 4)) n k below
    (λ j. is_value (loaded code (at + 4 * j) 4)) refl h
    (word_from code at n k) (cases_eq k n)

-- ---- a page

of_page : (code : ℕ → Byte) (page : ℕ) → are_words code (4096 * page) 1024 ≡ true
    → AreOfPage code page (instrs_from code (4096 * page) 1024)
of_page code page h = record {
  whole = length_from code (4096 * page) 1024;
  each = λ k below.
      subst (IsOfWord (loaded code (4096 * page + 4 * k) 4)) (sym (each_from code (4096 * page) 1024 k below))
      (of_word (loaded code (4096 * page + 4 * k) 4) (word_from code (4096 * page) 1024 k h below));
}

pub decoded : (code : ℕ → Byte) (page : ℕ) (words : List Instr) → page_instrs code page ≡ Some words
    → AreOfPage code page words
decoded code page words h =
    let parts = cond_some (nat_lt page (2 ^ 52) && are_words code (4096 * page) 1024)
    (instrs_from code (4096 * page) 1024) words h
    in
    subst (AreOfPage code page) parts.1
    (of_page code page (and_parts (nat_lt page (2 ^ 52)) (are_words code (4096 * page) 1024) parts.0).1)
