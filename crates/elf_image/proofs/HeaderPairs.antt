-- Pairs of program headers.
use Rattle.std.proofs.Common.{◌≡◌, List, [], ◌∷◌, map, Bool, true, false, cond, ◌&&◌, ◌||◌, refl, ap, ◌∙◌}
use Rattle.std.specs.Prelude.{filter}
use Rattle.std.specs.List.{list_any}
use Rattle.std.proofs.lemmas.List.Folds.{list_any-append}
use Rattle.elf_image.specs.declared.header.ProgramHeader.{ProgramHeader}
use Rattle.elf_image.specs.Headers.{is_load}
use Rattle.elf_image.specs.Faults.{pairs, meet, has_overlap}

list_any-map : {A B : Type 0} (p : B → Bool) (f : A → B) (xs : List A)
    → list_any p (map f xs) ≡ list_any (λ x. p (f x)) xs
list_any-map p f [] = refl
list_any-map p f (x ∷ xs) = ap (λ b. p (f x) || b) (list_any-map p f xs)

-- a test of those that pass another is a test by both
any_kept : {A : Type 0} (p q : A → Bool) (x : A) (b : Bool) (xs : List A) → list_any p (cond b (x ∷ xs) xs)
    ≡ ((b && p x) || list_any p xs)
any_kept p q x true xs = refl
any_kept p q x false xs = refl

list_any-filter : {A : Type 0} (p q : A → Bool) (xs : List A) → list_any p (filter q xs) ≡ list_any (λ x. q x && p x) xs
list_any-filter p q [] = refl
list_any-filter p q (x ∷ xs) = any_kept p q x (q x) (filter q xs) ∙ ap (λ b. (q x && p x) || b) (list_any-filter p q xs)

-- no headers overlap
pub overlap_none : has_overlap [] ≡ false
unfolding has_overlap
overlap_none = refl

one_more : (h : ProgramHeader) (b : Bool) (hs : List ProgramHeader) →
    list_any meet (pairs (cond b (h ∷ hs) hs))
    ≡ ((b && list_any (λ other. meet (h, other)) hs) || list_any meet (pairs hs))
one_more h true hs =
    list_any-append meet (map (λ other. (h, other)) hs) (pairs hs)
    ∙ ap (λ b. b || list_any meet (pairs hs)) (list_any-map meet (λ other. (h, other)) hs)
one_more h false hs = refl

-- headers overlap where the first meets a later one, or the later ones overlap
pub overlap_more : (h : ProgramHeader) (hs : List ProgramHeader) →
    has_overlap (h ∷ hs) ≡ ((is_load h && list_any (λ other. is_load other && meet (h, other)) hs) || has_overlap hs)
unfolding has_overlap
overlap_more h hs =
    one_more h (is_load h) (filter is_load hs)
    ∙ ap (λ b. (is_load h && b) || has_overlap hs) (list_any-filter (λ other. meet (h, other)) is_load hs)
