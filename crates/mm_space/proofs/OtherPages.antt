-- Pages beside one that has other bytes.
use Rattle.std.proofs.Common.{◌≡◌, ℕ, Bool, true, false, List, Option, Some, None, refl, ap, sym, ◌∙◌}
use Rattle.std.specs.Bool.{OnTrue}
use Rattle.std.specs.FinMap as map
use Rattle.sn_base.proofs.Maps.{get-insert_other}
use Rattle.mm_areas.specs.Contents.{with_bytes_changed, bytes_changed_at, with_change}
use Rattle.mm_areas.specs.Mappings.{Mapping, with_pages}
use Rattle.mm_areas.specs.Pages.{Mapped, Pages}

-- another page is as before
changed_apart : (pages : Pages) (page other : ℕ) (change : List ℕ → List ℕ) (at : Option Mapped) → (other ≡ page → ⊥)
    → map.get (bytes_changed_at change page at pages) other ≡ map.get pages other
changed_apart pages page other change None apart = refl
changed_apart pages page other change (Some m) apart =
    get-insert_other pages page other (with_bytes_changed change m) (λ same. apart (sym same))

pub others_same : (old new : Mapping) (done : Bool) (page : ℕ) (change : List ℕ → List ℕ)
    → OnTrue done (new ≡ with_pages old (with_change old.pages page change))
    → OnTrue done ((other : ℕ) → (other ≡ page → ⊥) → map.get new.pages other ≡ map.get old.pages other)
others_same old new false page change is = tt
others_same old new true page change is = λ other apart.
    ap (λ (m : Mapping). map.get m.pages other) is
    ∙ changed_apart old.pages page other change (map.get old.pages page) apart
