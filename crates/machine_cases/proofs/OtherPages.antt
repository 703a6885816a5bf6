-- A store inside one page leaves the instructions of the others.
use Rattle.std.proofs.Common.{◌≡◌, ℕ, zero, suc, ◌+◌, ◌*◌, ◌/◌, ◌%◌, ◌^◌, ◌<◌, ◌≤◌, Bool, true, false, [], ◌∷◌}
use Rattle.std.proofs.Common.{◌++◌, Some, None, refl, ap, sym, ◌∙◌, arith}
use Rattle.std.specs.Prelude.{nat_eq, nat_lt, ◌&&◌, if◌then◌else◌}
use Rattle.std.proofs.lemmas.Bool.{ltb-true, ne_eqb}
use Rattle.rv_table.specs.Bytes.{Accessed, Byte, behind, by_area, by_barred, first_area, first_barred, loaded}
use Rattle.rv_table.specs.Bytes.{number_from, or_area, or_barred, value_in}
use Rattle.rv_exec.specs.Writes.{stored_byte, with_value}
use Rattle.machine_cases.specs.Pages.{are_words, instr_read, instrs_from, page_instrs, is_value}

-- ---- a byte of another page

one_apart : (at address value : ℕ) (byte rest : Byte) → (address / 4096 ≡ at / 4096 → ⊥)
    → (if nat_eq at address then with_value byte value else rest) ≡ rest
one_apart at address value byte rest apart =
    ap (λ test. if test then with_value byte value else rest)
    (ne_eqb at address (λ same. apart (ap (λ a. a / 4096) (sym same))))

byte_apart : (at width value address : ℕ) (byte : Byte) → at < 2 ^ 64 → at % 4096 + width ≤ 4096
    → (address / 4096 ≡ at / 4096 → ⊥)
    → stored_byte nat_eq at width value address byte ≡ byte
unfolding stored_byte
byte_apart at zero value address byte low inside apart = refl
byte_apart at (suc zero) value address byte low inside apart = one_apart at address (value % 256) byte byte apart
byte_apart at (suc (suc n)) value address byte low inside apart =
    one_apart at address (value % 256) byte (stored_byte nat_eq (behind at) (suc n) (value / 256) address byte) apart
    ∙ byte_apart (behind at) (suc n) (value / 256) address byte (omega arith) (omega arith)
    (λ same. apart (same ∙ omega arith))

-- ---- a word of a page, by its bytes

of_four : (a b c d : Byte) (at : ℕ) → Accessed
of_four a b c d at =
    by_barred (or_barred a at
    (or_barred b (behind at) (or_barred c (behind (behind at)) (or_barred d (behind (behind (behind at))) None))))
    (by_area (or_area a (or_area b (or_area c (or_area d None))))
    (value_in a + 256 * (value_in b + 256 * (value_in c + 256 * (value_in d + 256 * 0)))))

four : (f : ℕ → Byte) (at : ℕ)
    → loaded f at 4 ≡ of_four (f at) (f (behind at)) (f (behind (behind at))) (f (behind (behind (behind at)))) at
unfolding loaded first_barred first_area number_from of_four
four f at = refl

same_four : (a b c d e f g h : Byte) (at : ℕ) → a ≡ e → b ≡ f → c ≡ g → d ≡ h → of_four a b c d at ≡ of_four e f g h at
same_four a b c d e f g h at p q r s = λ i. of_four (p i) (q i) (r i) (s i) at

word_same : (f g : ℕ → Byte) (page : ℕ) → page < 2 ^ 52 → ((a : ℕ) → a / 4096 ≡ page → f a ≡ g a) → (k : ℕ) → k < 1024
    → loaded f (4096 * page + 4 * k) 4 ≡ loaded g (4096 * page + 4 * k) 4
word_same f g page low same k below =
    let at : ℕ = 4096 * page + 4 * k in
    four f at
    ∙ same_four (f at) (f (behind at)) (f (behind (behind at))) (f (behind (behind (behind at)))) (g at) (g (behind at))
    (g (behind (behind at))) (g (behind (behind (behind at)))) at
    (same at (omega arith)) (same (behind at) (omega arith)) (same (behind (behind at)) (omega arith))
    (same (behind (behind (behind at))) (omega arith))
    ∙ sym (four g at)

-- ---- a page

instrs_same : (f g : ℕ → Byte) (page : ℕ) → page < 2 ^ 52 → ((a : ℕ) → a / 4096 ≡ page → f a ≡ g a) → (n : ℕ) → n ≤ 1024
    → instrs_from f (4096 * page) n ≡ instrs_from g (4096 * page) n
unfolding instrs_from
instrs_same f g page low same zero few = refl
instrs_same f g page low same (suc n) few = λ i.
    instrs_same f g page low same n (omega arith) i ++ (instr_read (word_same f g page low same n (omega arith) i) ∷ [])

words_same : (f g : ℕ → Byte) (page : ℕ) → page < 2 ^ 52 → ((a : ℕ) → a / 4096 ≡ page → f a ≡ g a) → (n : ℕ) → n ≤ 1024
    → are_words f (4096 * page) n ≡ are_words g (4096 * page) n
unfolding are_words
words_same f g page low same zero few = refl
words_same f g page low same (suc n) few = λ i.
    words_same f g page low same n (omega arith) i && is_value (word_same f g page low same n (omega arith) i)

choice_same : {A : Type 0} (low test other : Bool) (x y : A) → (low ≡ true → test ≡ other) → (low ≡ true → x ≡ y)
    → (if low && test then Some x else None) ≡ (if low && other then Some y else None)
choice_same true test other x y p q = λ i. if p refl i then Some (q refl i) else None
choice_same false test other x y p q = refl

page_same : (f g : ℕ → Byte) (page : ℕ) → ((a : ℕ) → a / 4096 ≡ page → f a ≡ g a) → page_instrs f page
    ≡ page_instrs g page
page_same f g page same =
    choice_same (nat_lt page (2 ^ 52)) (are_words f (4096 * page) 1024) (are_words g (4096 * page) 1024)
    (instrs_from f (4096 * page) 1024) (instrs_from g (4096 * page) 1024)
    (λ low. words_same f g page (ltb-true page (2 ^ 52) low) same 1024 (omega arith))
    (λ low. instrs_same f g page (ltb-true page (2 ^ 52) low) same 1024 (omega arith))

pub page_apart : (code : ℕ → Byte) (at width value page : ℕ) → at < 2 ^ 64 → at % 4096 + width ≤ 4096
    → (page ≡ at / 4096 → ⊥)
    → page_instrs (λ address. stored_byte nat_eq at width value address (code address)) page ≡ page_instrs code page
page_apart code at width value page low inside apart =
    page_same (λ address. stored_byte nat_eq at width value address (code address)) code page
    (λ a here. byte_apart at width value a (code a) low inside (λ same. apart (sym here ∙ same)))
