-- Laws of a page whose bytes are made its own.
use Rattle.std.proofs.Common.{◌≡◌, ℕ, true, false, List, Option, Some, None, Result, Ok, Err, refl, ap, sym, ◌∙◌, inl}
use Rattle.std.proofs.Common.{inr}
use Rattle.std.specs.Prelude.{OnOk, OnErr}
use Rattle.std.specs.FinMap.{get, contains_key}
use Rattle.std.specs.Option.{is_some}
use Rattle.std.proofs.lemmas.Bool.{cases_eq, false≢true}
use Rattle.mm_areas.specs.declared.page.Page.{Page}
use Rattle.mm_areas.specs.declared.areas.Region.{Region}
use Rattle.mm_areas.specs.Pages.{Mapped, mapped_by}
use Rattle.mm_areas.specs.Contents.{bytes_mapped, bytes_at}
use Rattle.mm_areas.specs.Regions.{pages_of}
use Rattle.mm_areas.specs.Own.{page_in, is_own_at, is_own_content}
use Rattle.mm_areas.proofs.WriteLaws.{AreWritten}

private : (page : ℕ) (old new : Page) (olds news : List Region) → AreWritten page old new olds news
    → is_some (bytes_at (pages_of olds) page) ≡ is_some (bytes_mapped (Some (mapped_by old)))
private page old new olds news are = ap (λ (m : Option Mapped). is_some (bytes_mapped m)) are.mapped

-- a private page's bytes are its own then
pub own_ok : {X E : Type 0} (answer : Result X E) (page : ℕ) (old new : Page) (olds news : List Region)
    → AreWritten page old new olds news
    → OnOk answer (is_some (bytes_mapped (Some (mapped_by old))) ≡ true → is_own_content new.content ≡ true)
    → OnOk answer (is_some (bytes_at (pages_of olds) page) ≡ true → is_own_at (page_in news page) ≡ true)
own_ok (Ok x) page old new olds news are is =
    λ h. ap is_own_at are.here ∙ is (sym (private page old new olds news are) ∙ h)
own_ok (Err e) page old new olds news are is = tt

-- memory is wanting for a private page alone
pub own_private : {X E : Type 0} (answer : Result X E) (page : ℕ) (old new : Page) (olds news : List Region)
    → AreWritten page old new olds news → OnErr answer (is_some (bytes_mapped (Some (mapped_by old))) ≡ true)
    → OnErr answer (is_some (bytes_at (pages_of olds) page) ≡ true)
own_private (Ok x) page old new olds news are is = tt
own_private (Err e) page old new olds news are is = private page old new olds news are ∙ is

-- a page whose bytes were its own has them still
pub own_still : (page : ℕ) (old new : Page) (olds news : List Region) → AreWritten page old new olds news
    → (is_own_content old.content ≡ true → is_own_content new.content ≡ true) → (q : ℕ)
    → is_own_at (page_in olds q) ≡ true → is_own_at (page_in news q) ≡ true
own_still page old new olds news are still q was = elim (cases_eq q page) [
  | inl here ↦
      ap (λ (n : ℕ). is_own_at (page_in news n)) here ∙ ap is_own_at are.here
      ∙ still (sym (ap (λ (n : ℕ). is_own_at (page_in olds n)) here ∙ ap is_own_at are.there) ∙ was)
  | inr other ↦ ap is_own_at (are.others q other) ∙ was
]

-- a page that isn't mapped is not private
pub not_private : (slice olds : List Region) (page : ℕ) → slice ≡ olds → false ≡ contains_key (pages_of slice) page
    → is_some (bytes_at (pages_of olds) page) ≡ false
not_private slice olds page same absent =
    of_none (get (pages_of olds) page)
    (ap (λ (rs : List Region). contains_key (pages_of rs) page) (sym same) ∙ sym absent)
  where
    of_none : (o : Option Mapped) → is_some o ≡ false → is_some (bytes_mapped o) ≡ false
    of_none None is = refl
    of_none (Some m) is = absurd (false≢true (sym is))
