-- A page's decoded words in an address space, as a run of its instructions takes them, and gives them back.
use Rattle.std.proofs.Common.{◌≡◌, ℕ, ◌^◌, ◌<◌, nat_lt, Bool, true, false, ◌&&◌, List, length, Option, Some, None, refl}
use Rattle.std.proofs.Common.{ap, ◌∙◌, eq-eqb, lt-ltb}
use Rattle.std.specs.Prelude.{if◌then◌else◌, is_some, option_map}
use Rattle.std.proofs.lemmas.Bool.{and_from}
use Rattle.rv_table.specs.declared.instr.Instr.{Instr}
use Rattle.mm_frames.specs.Rows.{decoded_row}
use Rattle.mm_areas.specs.Contents.{bytes_at, bytes_mapped}
use Rattle.mm_areas.specs.DecodedWords.{row_at}
use Rattle.mm_areas.specs.Hints.{allows_at}
use Rattle.mm_areas.specs.Mappings.{mapping}
use Rattle.mm_areas.specs.Pages.{Mapped, Pages}
use Rattle.mm_space.specs.declared.handed.Handed.{Handed}
use Rattle.mm_space.specs.declared.space.Space.{Space}
use Rattle.mm_space.specs.Accesses.{executable}
use Rattle.mm_space.specs.Spaces.{reach}
use Rattle.mm_space.proofs.NearPuts.{IsPrivatePage, bytes_page}
use Rattle.quantum.specs.Acting.{Acting, acting_on, has_instrs, instrs_of, is_whole_page}

has_bytes : (bytes : Option (List ℕ)) (words : List Instr)
    → option_map decoded_row bytes ≡ Some words → is_some bytes ≡ true
has_bytes None words row = absurd (cc row)
has_bytes (Some bytes) words row = refl

module _ (task page : ℕ) (space : Space) (handed : Handed) (words : List Instr) where
  abbrev pages : Pages
  pages = (mapping space.areas).pages

  whole_page : row_at pages page ≡ Some words → is_whole_page (bytes_at pages page) ≡ true
  whole_page row =
      let private : IsPrivatePage space.areas page
      = bytes_page space.areas page (has_bytes (bytes_at pages page) words row) in
      ap (λ (found : Option Mapped). is_whole_page (bytes_mapped found)) private.there
      ∙ eq-eqb (length private.bytes) 4096 private.whole

  -- the words of a page that may be executed are its instructions
  pub instrs_there : page < 2 ^ 52 → allows_at pages page executable ≡ true → row_at pages page ≡ Some words
      → instrs_of (acting_on task (reach space handed)) page ≡ Some words
  instrs_there low allowed row =
      ap (λ (test : Bool). if test then row_at pages page else None)
      (and_from (nat_lt page (2 ^ 52)) (allows_at pages page executable && is_whole_page (bytes_at pages page))
      (lt-ltb page (2 ^ 52) low)
      (and_from (allows_at pages page executable) (is_whole_page (bytes_at pages page)) allowed (whole_page row)))
      ∙ row

chosen : {X : Type 0} → (test : Bool) (found : Option X) (value : X)
    → (if test then found else None) ≡ Some value → found ≡ Some value
chosen true found value is = is
chosen false found value is = absurd (cc is)

-- and a page's instructions are the words that it has
pub row_from : (acting : Acting) (page : ℕ) (words : List Instr)
    → instrs_of acting page ≡ Some words → row_at acting.reach.space.mapping.pages page ≡ Some words
row_from acting page words is =
    chosen (has_instrs acting.reach.space.mapping.pages page) (row_at acting.reach.space.mapping.pages page) words is
