-- Laws of new pages: one more, and how many there are.
use Rattle.std.proofs.Common.{◌≡◌, ℕ, zero, suc, ◌+◌, List, [], ◌∷◌, ◌++◌, length, map, refl, ap, sym, ◌∙◌, arith}
use Rattle.std.proofs.lemmas.List.{length-map, length-replicate, replicate_more}
use Rattle.rv_table.specs.declared.error.Area.{Area}
use Rattle.mm_areas.specs.declared.rights.Rights.{Rights}
use Rattle.mm_areas.specs.declared.page.Page.{Page}
use Rattle.mm_areas.specs.declared.page.Backing.{Backing}
use Rattle.mm_areas.specs.declared.page.Backing.TheVariants.{Zeros, Of}
use Rattle.mm_areas.specs.Pages.{Mapped, Bytes, PageOf, mapped_by, zeros, shared_from, new_pages, mapped_new}

shared_more : (area : Area) (rights : Rights) (number count : ℕ) → shared_from area rights number (suc count)
    ≡ shared_from area rights number count ++ (record { rights = rights; held = PageOf area (number + count) }) ∷ []
shared_more area rights number zero = let same : number ≡ number + 0 =
    omega arith in ap (λ (n : ℕ). (record { rights = rights; held = PageOf area n }) ∷ []) same
shared_more area rights number (suc n) =
    let one : suc number + n ≡ number + suc n = omega arith in
    ap (λ (ms : List Mapped). (record { rights = rights; held = PageOf area number }) ∷ ms)
    (shared_more area rights (suc number) n
    ∙ ap (λ (k : ℕ). shared_from area rights (suc number) n
    ++ (record { rights = rights; held = PageOf area k }) ∷ []) one)

pub new_pages_more : (backing : Backing) (rights : Rights) (count : ℕ) → new_pages backing rights (count + 1)
    ≡ new_pages backing rights count ++ mapped_new backing rights count ∷ []
new_pages_more Zeros rights count = sym (replicate_more count (record { rights = rights; held = Bytes zeros }))
new_pages_more (Of area) rights count =
    let next : count + 1 ≡ suc count = omega arith in
    let same : 0 + count ≡ count = omega arith in
    ap (λ (n : ℕ). shared_from area rights 0 n) next ∙ shared_more area rights 0 count
    ∙ ap (λ (n : ℕ). shared_from area rights 0 count
    ++ (record { rights = rights; held = PageOf area n }) ∷ []) same

map_push : (pages : List Page) (page : Page) → map mapped_by (pages ++ page ∷ [])
    ≡ map mapped_by pages ++ mapped_by page ∷ []
map_push [] page = refl
map_push (p ∷ pages) page = ap (λ (ms : List Mapped). mapped_by p ∷ ms) (map_push pages page)

-- a step of the loop that makes them
pub one_more : (backing : Backing) (rights : Rights) (count : ℕ) (before after : List Page) (page : Page)
    → map mapped_by before ≡ new_pages backing rights count → after ≡ before ++ page ∷ []
    → mapped_by page ≡ mapped_new backing rights count → map mapped_by after ≡ new_pages backing rights (count + 1)
one_more backing rights count before after page so_far is made =
    ap (map mapped_by) is ∙ map_push before page ∙ ap (λ (ms : List Mapped). ms ++ mapped_by page ∷ []) so_far
    ∙ ap (λ (m : Mapped). new_pages backing rights count ++ m ∷ []) made
    ∙ sym (new_pages_more backing rights count)

pub none_yet : (backing : Backing) (rights : Rights) → [] ≡ new_pages backing rights 0
none_yet Zeros rights = refl
none_yet (Of area) rights = refl

length-shared : (area : Area) (rights : Rights) (number count : ℕ)
    → length (shared_from area rights number count) ≡ count
length-shared area rights number zero = refl
length-shared area rights number (suc n) = ap suc (length-shared area rights (suc number) n)

pub length-new_pages : (backing : Backing) (rights : Rights) (count : ℕ)
    → length (new_pages backing rights count) ≡ count
length-new_pages Zeros rights count = length-replicate count (record { rights = rights; held = Bytes zeros })
length-new_pages (Of area) rights count = length-shared area rights 0 count

pub length_of_new : (backing : Backing) (rights : Rights) (count : ℕ) (pages : List Page)
    → map mapped_by pages ≡ new_pages backing rights count → length pages ≡ count
length_of_new backing rights count pages is =
    sym (length-map pages mapped_by) ∙ ap length is ∙ length-new_pages backing rights count
