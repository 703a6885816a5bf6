-- What a function tells of numbers one after another, as a list.
use Rattle.std.proofs.Common.{◌≡◌, ℕ, suc, ◌+◌, ◌<◌, List, [], ◌∷◌, ◌++◌, length, get_or, refl, sym, ap, ◌∙◌, add-one}
use Rattle.std.proofs.Common.{arith}
use Rattle.std.specs.Prelude.{map, slice_get, Some}
use Rattle.std.proofs.lemmas.Option.{slice_get-get_or}
use Rattle.std.proofs.lemmas.List.{ext_get_or, map_push}
use Rattle.std.proofs.lemmas.List.FromFn.{length-map-range_with_len, get_or-map-range_with_len, map-range_with_len_more}
use Rattle.image_load.specs.Pages.{run_of}

pub length-run : {A : Type 0} (tells : ℕ → A) (first count : ℕ) → length (run_of tells first count) ≡ count
unfolding run_of
length-run tells first count = length-map-range_with_len tells first count

pub get_or-run : {A : Type 0} (tells : ℕ → A) (first count k : ℕ) (d : A) → k < count
    → get_or (run_of tells first count) k d ≡ tells (first + k)
unfolding run_of
get_or-run tells first count k d below = get_or-map-range_with_len tells first count k (first + k) d below refl

pub get-run : {A : Type 0} (tells : ℕ → A) (first count k : ℕ) → k < count
    → slice_get (run_of tells first count) k ≡ Some (tells (first + k))
get-run tells first count k below =
    slice_get-get_or (run_of tells first count) k (tells first) (omega (arith, length-run tells first count))
    ∙ ap Some (get_or-run tells first count k (tells first) below)

-- a list that has at each place what the function tells of it
pub run_all : {A : Type 0} (d : A) (tells : ℕ → A) (first count : ℕ) (xs : List A) → length xs ≡ count →
    ((k : ℕ) → k < count → get_or xs k d ≡ tells (first + k)) → xs ≡ run_of tells first count
run_all d tells first count xs long each =
    ext_get_or d xs (run_of tells first count) (long ∙ sym (length-run tells first count))
    (λ k below. each k (omega arith) ∙ sym (get_or-run tells first count k d (omega arith)))

-- none, one more in front, and one more behind
pub run_none : {A : Type 0} (tells : ℕ → A) (first : ℕ) → run_of tells first 0 ≡ []
unfolding run_of
run_none tells first = refl

pub run_next : {A : Type 0} (tells : ℕ → A) (first count : ℕ)
    → run_of tells first (suc count) ≡ tells first ∷ run_of tells (suc first) count
unfolding run_of
run_next tells first count = ap (λ n. tells first ∷ run_of tells n count) (add-one first)

pub run_more : {A : Type 0} (tells : ℕ → A) (first count : ℕ)
    → run_of tells first (count + 1) ≡ run_of tells first count ++ tells (first + count) ∷ []
unfolding run_of
run_more tells first count = map-range_with_len_more tells first count (first + count) refl

-- a list of what is seen as a run, with one more behind
pub run_pushed : {A B : Type 0} (seen : B → A) (tells : ℕ → A) (first count : ℕ) (before after : List B) (x : B) →
    map seen before ≡ run_of tells first count → after ≡ before ++ x ∷ [] → seen x ≡ tells (first + count) →
    map seen after ≡ run_of tells first (count + 1)
run_pushed seen tells first count before after x so_far is made =
    ap (map seen) is ∙ map_push seen before x ∙ ap (λ ys. ys ++ seen x ∷ []) so_far
    ∙ ap (λ y. run_of tells first count ++ y ∷ []) made ∙ sym (run_more tells first count)
