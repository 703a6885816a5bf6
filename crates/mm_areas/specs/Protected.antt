-- Pages of a list, and of a region, once those of a range have other rights.
use Rattle.std.specs.Prelude.{◌≡◌, ℕ, suc, List, [], ◌∷◌, map, Option, option_map, if◌then◌else◌}
use Rattle.mm_areas.specs.declared.rights.Rights.{Rights}
use Rattle.mm_areas.specs.declared.page.Content.{Content}
use Rattle.mm_areas.specs.declared.page.Page.{Page}
use Rattle.mm_areas.specs.declared.areas.Region.{Region}
use Rattle.mm_areas.specs.Pages.{Mapped, mapped_by, is_within, with_rights}

-- pages one behind another from a page on: those of a range with other rights
-- mprotect(2)
abbrev pub protected_from : Rights → (first count page : ℕ) → List Mapped → List Mapped
protected_from rights first count page [] = []
protected_from rights first count page (m ∷ ms) =
    (if is_within first count page then with_rights rights m else m) ∷ protected_from rights first count (suc page) ms

-- what a page has, and none of one that isn't there
-- mprotect(2)
abbrev pub content_in : Option Page → Option Content
content_in page = option_map (λ p. p.content) page

-- a region where it was, its pages of a range with other rights, and what they have as before
-- mprotect(2)
pub record IsProtected (rights : Rights) (first count : ℕ) (old new : Region) : Type 0 where
  pub place : new.first ≡ old.first
  pub pages : map mapped_by new.pages.items
      ≡ protected_from rights first count old.first (map mapped_by old.pages.items)
  pub contents : map (λ p. p.content) new.pages.items ≡ map (λ p. p.content) old.pages.items
