-- Laws of the decoded words of a page that is written in its place among regions.
use Rattle.std.proofs.Common.{◌≡◌, ℕ, Bool, true, false, List, Option, Some, None, Result, Ok, Err, option_map, refl}
use Rattle.std.proofs.Common.{ap, sym, ◌∙◌, subst}
use Rattle.std.specs.Prelude.{◌↔◌, IfSome, OnOk, OnErr}
use Rattle.std.specs.Bool.{OnTrue, OnFalse}
use Rattle.std.specs.Option.{is_some, ForSome}
use Rattle.std.specs.FinMap.{get}
use Rattle.std.proofs.lemmas.Bool.{false≢true}
use Rattle.rv_table.specs.declared.instr.Instr.{Instr}
use Rattle.mm_frames.specs.declared.row.Row.{Row}
use Rattle.mm_frames.specs.Rows.{words_of}
use Rattle.mm_areas.specs.declared.page.Page.{Page}
use Rattle.mm_areas.specs.declared.areas.Region.{Region}
use Rattle.mm_areas.specs.declared.rights.Rights.{Rights}
use Rattle.mm_areas.specs.Rights.{has}
use Rattle.mm_areas.specs.Hints.{allows_mapped, allows_at}
use Rattle.mm_areas.specs.Pages.{Mapped, mapped_by}
use Rattle.mm_areas.specs.Regions.{pages_of}
use Rattle.mm_areas.specs.Order.{are_from}
use Rattle.mm_areas.specs.Own.{page_in}
use Rattle.mm_areas.specs.DecodedWords.{has_row_content, has_row_in, row_mapped, row_at}
use Rattle.mm_areas.proofs.RegionLaws.{order_from_test}
use Rattle.mm_areas.proofs.ChangeLaws.{get_page}
use Rattle.mm_areas.proofs.WriteLaws.{AreWritten, same_word}

-- where the page that is written has its words there as before, all pages have
pub rows_same : (page : ℕ) (old new : Page) (olds news : List Region) → AreWritten page old new olds news
    → has_row_content new.content ≡ has_row_content old.content → (q : ℕ)
    → has_row_in (page_in news q) ≡ has_row_in (page_in olds q)
rows_same page old new olds news are same = same_word has_row_in page old new olds news are same

-- the other pages have at any rate
pub rows_others : (page : ℕ) (old new : Page) (olds news : List Region) → AreWritten page old new olds news → (q : ℕ)
    → (q ≡ page → ⊥) → has_row_in (page_in news q) ≡ has_row_in (page_in olds q)
rows_others page old new olds news are q other = ap has_row_in (are.others q other)

-- a page is decoded where its words are there and it has the right
pub decoded_where : {P : Type 0} (page : ℕ) (old new : Page) (olds news : List Region) (right : Rights)
    → AreWritten page old new olds news → P ↔ ((has_row_content new.content ≡ true) × (has old.rights right ≡ true))
    → P ↔ ((has_row_in (page_in news page) ≡ true) × (allows_at (pages_of olds) page right ≡ true))
decoded_where page old new olds news right are is =
    let allowed : allows_at (pages_of olds) page right ≡ has old.rights right =
    ap (λ (o : Option Mapped). allows_mapped o right) are.mapped in (
      (λ h. let f = is.0 h in (ap has_row_in are.here ∙ f.0, allowed ∙ f.1)),
      (λ h. is.1 (sym (ap has_row_in are.here) ∙ h.0, sym allowed ∙ h.1)),
    )

-- ---- a run of bytes, which gives the words up

pub write_drops : {X E : Type 0} (answer : Result X E) (page : ℕ) (old new : Page) (olds news : List Region)
    → AreWritten page old new olds news → OnOk answer (has_row_content new.content ≡ false)
    → OnOk answer (has_row_in (page_in news page) ≡ false)
write_drops (Ok x) page old new olds news are is = ap has_row_in are.here ∙ is
write_drops (Err e) page old new olds news are is = tt

pub write_keeps : {X E : Type 0} (answer : Result X E) (page : ℕ) (old new : Page) (olds news : List Region)
    → AreWritten page old new olds news → OnErr answer (new ≡ old)
    → OnErr answer (has_row_in (page_in news page) ≡ has_row_in (page_in olds page))
write_keeps (Ok x) page old new olds news are same = tt
write_keeps (Err e) page old new olds news are same =
    ap has_row_in are.here ∙ ap (λ (p : Page). has_row_content p.content) same ∙ sym (ap has_row_in are.there)

pub put_drops : (done : Bool) (page : ℕ) (old new : Page) (olds news : List Region) → AreWritten page old new olds news
    → OnTrue done (has_row_content new.content ≡ false) → OnTrue done (has_row_in (page_in news page) ≡ false)
put_drops true page old new olds news are is = ap has_row_in are.here ∙ is
put_drops false page old new olds news are is = tt

pub put_keeps : (done : Bool) (page : ℕ) (old new : Page) (olds news : List Region) → AreWritten page old new olds news
    → OnFalse done (new ≡ old) → OnFalse done (has_row_in (page_in news page) ≡ has_row_in (page_in olds page))
put_keeps true page old new olds news are same = tt
put_keeps false page old new olds news are same =
    write_keeps {X = Unit {0}} {E = ℕ} (Err 0) page old new olds news are same

-- ---- words that are read, taken out and put in

-- the words of a page that is there are those of its bytes
pub words_there : {X : Type 0} (found : Option X) (view : X → List Instr) (page : ℕ) (old new : Page)
    (olds news : List Region) → AreWritten page old new olds news
    → IfSome found (λ x. row_mapped (Some (mapped_by old)) ≡ Some (view x))
    → IfSome found (λ x. row_at (pages_of olds) page ≡ Some (view x))
words_there found view page old new olds news are is =
    subst (λ (m : Option Mapped). IfSome found (λ x. row_mapped m ≡ Some (view x))) (sym are.mapped) is

-- the same of words that are put in
pub words_given : (row : Option Row) (page : ℕ) (old new : Page) (olds news : List Region)
    → AreWritten page old new olds news → ForSome row (λ r. row_at (pages_of olds) page ≡ Some (words_of r))
    → ForSome row (λ r. row_mapped (Some (mapped_by old)) ≡ Some (words_of r))
words_given row page old new olds news are given =
    subst (λ (m : Option Mapped). ForSome row (λ r. row_mapped m ≡ Some (words_of r))) are.mapped given

-- a page that isn't there has no words to put in
pub none_given : (row : Option Row) (page : ℕ) (olds : List Region) → are_from 0 olds ≡ true → page_in olds page ≡ None
    → ForSome row (λ r. row_at (pages_of olds) page ≡ Some (words_of r)) → has_row_in (page_in olds page) ≡ is_some row
none_given None page olds order none given = ap has_row_in none
none_given (Some r) page olds order none given =
    let absent : get (pages_of olds) page ≡ None =
    get_page 0 olds page (order_from_test 0 olds order) ∙ ap (option_map mapped_by) none in
    absurd (false≢true (ap is_some (sym (ap row_mapped absent) ∙ given r refl)))
