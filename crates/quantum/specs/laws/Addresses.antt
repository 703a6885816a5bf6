-- Addresses of one page, and of two.
use Rattle.std.proofs.Common.{◌≡◌, ℕ, ◌/◌, ◌%◌, ◌^◌, ◌==◌, Bool, false, List, Option, Some, None, refl, ap, sym, ◌∙◌}
use Rattle.std.proofs.Common.{◌⊎◌, inl, inr, arith, eq-eqb, ne_eqb}
use Rattle.std.proofs.lemmas.Bool.{cases_eq}
use Rattle.mm_areas.specs.declared.rights.Rights.{Rights}
use Rattle.mm_areas.specs.Pages.{Held, Bytes, Mapped}
use Rattle.mm_space.specs.Accesses.{page_number, page_offset}
use Rattle.quantum.specs.Acting.{is_same_mapped}

-- whether two addresses are the same; they go round at 2^64
-- RISC-V Unprivileged ISA 20191213, 1.4, Memory
abbrev pub is_at : (a b : ℕ) → Bool
is_at a b = (a % 2 ^ 64) == (b % 2 ^ 64)

pub same_page : (a b : ℕ) → page_number a ≡ page_number b → is_at a b ≡ (page_offset a == page_offset b)
same_page a b same = by (cases_eq (page_offset a) (page_offset b))
  where
    by : (page_offset a ≡ page_offset b) ⊎ (page_offset a ≡ page_offset b → ⊥)
        → is_at a b ≡ (page_offset a == page_offset b)
    by (inl at) =
        eq-eqb (a % 2 ^ 64) (b % 2 ^ 64) (omega (arith, same, at)) ∙ sym (eq-eqb (page_offset a) (page_offset b) at)
    by (inr apart) =
        ne_eqb (a % 2 ^ 64) (b % 2 ^ 64) (λ at. apart (ap (λ n. n % 4096) at))
        ∙ sym (ne_eqb (page_offset a) (page_offset b) apart)

pub other_page : (a b : ℕ) → (page_number a ≡ page_number b → ⊥) → is_at a b ≡ false
other_page a b apart = ne_eqb (a % 2 ^ 64) (b % 2 ^ 64) (λ same. apart (ap (λ n. n / 4096) same))

-- a page with rights, by where its bytes are
-- mmap(2)
abbrev pub mapped_as : Rights → Held → Option Mapped
mapped_as rights held = Some (record { rights = rights; held = held })

-- of a byte of a private page no other address is
pub private_same : (a b : ℕ) (rights : Rights) (bytes : List ℕ) (other : Option Mapped)
    → is_same_mapped a b (mapped_as rights (Bytes bytes)) other ≡ is_at a b
private_same a b rights bytes None = refl
private_same a b rights bytes (Some other) = refl
