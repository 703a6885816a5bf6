-- A row whose words are decoded anew, one after another.
use Rattle.std.proofs.Common.{◌≡◌, ◌≢◌, ◌⊎◌, ℕ, ◌+◌, ◌*◌, ◌/◌, ◌<◌, ◌≤◌, List, length, get_or, set, inl, inr, ap, sym}
use Rattle.std.proofs.Common.{◌∙◌, arith}
use Rattle.std.proofs.lemmas.List.{length-set, get_or-set_same, get_or-set_other}
use Rattle.std.proofs.lemmas.Bool.{cases_lt, cases_eq}
use Rattle.std.proofs.lemmas.List.FromFn.{fill_by_all}
use Rattle.rv_table.specs.declared.instr.Instr.{Instr}
use Rattle.rv_table.specs.declared.instr.Instr.TheVariants as instr
use Rattle.rv_table.specs.Table.{instr_of}
use Rattle.mm_frames.specs.Numbers.{little_number_at}
use Rattle.mm_frames.specs.Rows.{decoded_row, AreRowOutside}

-- a word of a row is the instruction of that word of a page
abbrev IsWord : List Instr → List ℕ → ℕ → Type 0
IsWord words bytes k = get_or words k instr.Illegal ≡ instr_of (little_number_at bytes (4 * k) 4)

-- the words below one place and from another on are those of a page
pub record Mended (words : List Instr) (bytes : List ℕ) (low high : ℕ) : Type 0 where
  pub long : length words ≡ 1024
  pub below : (k : ℕ) → k < 1024 → k < low → get_or words k instr.Illegal ≡ instr_of (little_number_at bytes (4 * k) 4)
  pub above : (k : ℕ) → k < 1024 → high ≤ k → get_or words k instr.Illegal ≡ instr_of (little_number_at bytes (4 * k) 4)

-- at the start the others are
pub mended_none : (words : List Instr) (bytes : List ℕ) (offset count : ℕ) → AreRowOutside words bytes offset count
    → Mended words bytes (offset / 4) ((offset + count + 3) / 4)
mended_none words bytes offset count others = record {
  long = others.0;
  below = λ k small low. others.1 k small (inl (omega arith));
  above = λ k small high. others.1 k small (inr (omega arith));
}

-- one more
pub mended_more : (words : List Instr) (bytes : List ℕ) (low high : ℕ) (told : Instr) → low < 1024
    → Mended words bytes low high → told ≡ instr_of (little_number_at bytes (4 * low) 4)
    → Mended (set words low told) bytes (low + 1) high
mended_more words bytes low high told small mended is = record {
  long = length-set words low told ∙ mended.long;
  below = λ k within under. place k within (inl under);
  above = λ k within over. place k within (inr over);
}
  where
    inside : low < length words
    inside = omega (arith, mended.long)

    other : (k : ℕ) → k < 1024 → (k < low + 1) ⊎ (high ≤ k) → k ≢ low → IsWord words bytes k
    other k within (inl under) apart = mended.below k within (omega (arith, apart))
    other k within (inr over) apart = mended.above k within over

    by : (k : ℕ) → k < 1024 → (k < low + 1) ⊎ (high ≤ k) → (k ≡ low) ⊎ (k ≢ low) → IsWord (set words low told) bytes k
    by k within side (inl at) =
        ap (λ n. get_or (set words low told) n instr.Illegal) at ∙ get_or-set_same words low told instr.Illegal inside
        ∙ is ∙ ap (λ n. instr_of (little_number_at bytes (4 * n) 4)) (sym at)
    by k within side (inr apart) = get_or-set_other words low k told instr.Illegal apart ∙ other k within side apart

    place : (k : ℕ) → k < 1024 → (k < low + 1) ⊎ (high ≤ k) → IsWord (set words low told) bytes k
    place k within side = by k within side (cases_eq k low)

-- at the end all are
pub mended_all : (words : List Instr) (bytes : List ℕ) (low high : ℕ) → high ≤ low
    → Mended words bytes low high → words ≡ decoded_row bytes
unfolding decoded_row
mended_all words bytes low high met mended =
    fill_by_all (λ k. instr_of (little_number_at bytes (4 * k) 4)) words 1024 instr.Illegal mended.long
    (λ k within. each k within (cases_lt k low))
  where
    each : (k : ℕ) → k < 1024 → (k < low) ⊎ (low ≤ k) → IsWord words bytes k
    each k within (inl under) = mended.below k within under
    each k within (inr over) = mended.above k within (omega arith)
