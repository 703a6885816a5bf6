-- The instructions of a page's words are those of the bytes that a fetch gets there.
use Rattle.std.proofs.Common.{◌≡◌, ℕ, ◌+◌, ◌*◌, ◌/◌, ◌%◌, ◌^◌, ◌<◌, nat_lt, Bool, true, false, ◌&&◌, List}
use Rattle.std.proofs.Common.{length, Option, Some, None, refl, ap, sym, subst, subst₂, arith, eqb-true, ltb-true}
use Rattle.std.specs.Prelude.{if◌then◌else◌, slice_index_or}
use Rattle.std.specs.FinMap as map
use Rattle.std.proofs.lemmas.Bool.{and_parts, false≢true}
use Rattle.std.proofs.lemmas.List.FromFn.{get_or-map-range_with_len, length-map-range_with_len}
use Rattle.rv_table.specs.declared.instr.Instr.{Instr}
use Rattle.rv_table.specs.declared.instr.Instr.TheVariants as instr
use Rattle.rv_table.specs.Bytes.{Value, loaded}
use Rattle.rv_table.specs.Table.{instr_of}
use Rattle.rv_exec.specs.Rows.{AreOfPage, IsOfWord}
use Rattle.mm_frames.specs.Numbers.{little_number_at}
use Rattle.mm_frames.specs.Rows.{decoded_row}
use Rattle.mm_areas.specs.Contents.{bytes_at, bytes_mapped}
use Rattle.mm_areas.specs.DecodedWords.{row_mapped}
use Rattle.mm_areas.specs.Hints.{allows_at, allows_mapped}
use Rattle.mm_areas.specs.Pages.{Held, Bytes, PageOf, Mapped, Pages}
use Rattle.mm_areas.specs.declared.rights.Rights.{Rights}
use Rattle.mm_space.specs.Accesses.{byte_at, executable}
use Rattle.mm_space.specs.Spaces.{Reach}
use Rattle.mm_space.proofs.Near.{IsPrivate, near_value}
use Rattle.quantum.specs.Acting.{Acting, has_instrs, instrs_of, is_whole_page, memory_of}

-- ---- the row of a page's bytes

abbrev word_in : List ℕ → (word : ℕ) → Instr
word_in bytes k = instr_of (little_number_at bytes (4 * k) 4)

row_length : (bytes : List ℕ) → length (decoded_row bytes) ≡ 1024
unfolding decoded_row
row_length bytes = length-map-range_with_len (word_in bytes) 0 1024

row_word : (bytes : List ℕ) (k : ℕ) → k < 1024 → slice_index_or (decoded_row bytes) k instr.Illegal ≡ word_in bytes k
unfolding decoded_row
row_word bytes k small = get_or-map-range_with_len (word_in bytes) 0 1024 k k instr.Illegal small (omega arith)

module _ (r : Reach) (page : ℕ) (bytes : List ℕ) (low : page < 2 ^ 52) where
  word_there : IsPrivate executable r page bytes → (k : ℕ) → k < 1024
      → loaded (byte_at executable r) (4096 * page + 4 * k) 4 ≡ Value (little_number_at bytes (4 * k) 4)
  word_there private k small =
      let at_page : page ≡ (4096 * page + 4 * k) / 4096 = omega arith in
      let at_place : 4 * k ≡ (4096 * page + 4 * k) % 4096 = omega arith in
      near_value executable r bytes (4096 * page + 4 * k) 4 (little_number_at bytes (4 * k) 4)
      (omega (arith, low, small))
      (subst (λ (n : ℕ). IsPrivate executable r n bytes) at_page private)
      (omega (arith, small))
      (ap (λ (offset : ℕ). little_number_at bytes offset 4) at_place)

  row_there : IsPrivate executable r page bytes → AreOfPage (byte_at executable r) page (decoded_row bytes)
  row_there private = record {
    whole = row_length bytes;
    each = λ k small.
        subst₂ IsOfWord (sym (word_there private k small)) (sym (row_word bytes k small)) refl;
  }

-- ---- the instructions of a page

module _ (r : Reach) (page : ℕ) (words : List Instr) where
  abbrev pages : Pages
  pages = r.space.mapping.pages

  held_words : (rights : Rights) (held : Held) → page < 2 ^ 52
      → map.get pages page ≡ Some (record { rights = rights; held = held })
      → allows_mapped (Some (record { rights = rights; held = held })) executable ≡ true
      → is_whole_page (bytes_mapped (Some (record { rights = rights; held = held }))) ≡ true
      → row_mapped (Some (record { rights = rights; held = held })) ≡ Some words
      → AreOfPage (byte_at executable r) page words
  held_words rights (Bytes bytes) low there allowed long row =
      let same : decoded_row bytes ≡ words = cc row in
      subst (AreOfPage (byte_at executable r) page) same
      (row_there r page bytes low
      (record { rights = rights; there = there; allowed = allowed; whole = eqb-true (length bytes) 4096 long }))
  held_words rights (PageOf name number) low there allowed long row = absurd (false≢true long)

  mapped_words : (found : Option Mapped) → page < 2 ^ 52 → map.get pages page ≡ found
      → allows_mapped found executable ≡ true → is_whole_page (bytes_mapped found) ≡ true
      → row_mapped found ≡ Some words
      → AreOfPage (byte_at executable r) page words
  mapped_words None low there allowed long row = absurd (false≢true allowed)
  mapped_words (Some m) low there allowed long row = held_words m.rights m.held low there allowed long row

  tested : (test : Bool) → has_instrs pages page ≡ test
      → (if test then row_mapped (map.get pages page) else None) ≡ Some words
      → AreOfPage (byte_at executable r) page words
  tested false has row = absurd (cc row)
  tested true has row =
      let low
      = and_parts (nat_lt page (2 ^ 52)) (allows_at pages page executable && is_whole_page (bytes_at pages page)) has in
      let right = and_parts (allows_at pages page executable) (is_whole_page (bytes_at pages page)) low.1 in
      mapped_words (map.get pages page) (ltb-true page (2 ^ 52) low.0) refl right.0 right.1 row

pub decoded : (acting : Acting) (page : ℕ) (words : List Instr)
    → instrs_of acting page ≡ Some words → AreOfPage (memory_of acting).code page words
decoded acting page words is =
    tested acting.reach page words (has_instrs acting.reach.space.mapping.pages page) refl is
