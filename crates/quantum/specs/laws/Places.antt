-- An address is of its own byte.
use Rattle.std.proofs.Common.{◌≡◌, ℕ, ◌<◌, ◌%◌, ◌^◌, ◌==◌, ◌&&◌, true, Option, Some, None, refl, eq-eqb}
use Rattle.std.specs.FinMap as map
use Rattle.std.proofs.lemmas.Bool.{and_from}
use Rattle.rv_table.specs.Areas.{is_area}
use Rattle.mm_areas.specs.Pages.{Held, Bytes, PageOf, Mapped}
use Rattle.mm_space.specs.Accesses.{page_number, page_offset}
use Rattle.quantum.specs.Acting.{Acting, is_same, is_same_held, is_same_mapped}
use Rattle.quantum.specs.laws.Hands.{area_itself}

held_itself : (address : ℕ) (held : Held) → is_same_held address address held held ≡ true
held_itself address (Bytes bytes) = eq-eqb (address % 2 ^ 64) (address % 2 ^ 64) refl
held_itself address (PageOf name number) =
    and_from (is_area name name) ((number == number) && (page_offset address == page_offset address)) (area_itself name)
    (and_from (number == number) (page_offset address == page_offset address)
    (eq-eqb number number refl) (eq-eqb (page_offset address) (page_offset address) refl))

mapped_itself : (address : ℕ) (found : Option Mapped) → is_same_mapped address address found found ≡ true
mapped_itself address None = eq-eqb (address % 2 ^ 64) (address % 2 ^ 64) refl
mapped_itself address (Some m) = held_itself address m.held

pub itself : (acting : Acting) (address : ℕ) → address < 2 ^ 64 → is_same acting address address ≡ true
itself acting address small = mapped_itself address (map.get acting.reach.space.mapping.pages (page_number address))
