-- Regions of pages as the finite map that they stand for.
use Rattle.std.specs.Prelude.{List, [], ◌∷◌, map}
use Rattle.std.specs.FinMap as fin
use Rattle.mm_areas.specs.declared.areas.Region.{Region}
use Rattle.mm_areas.specs.Pages.{Pages, mapped_by, laid}

-- the pages of regions: those of each, from its first page on
-- mmap(2)
abbrev pub pages_of : List Region → Pages
pages_of [] = fin.empty
pages_of (r ∷ rs) = laid r.first (map mapped_by r.pages.items) (pages_of rs)
