-- Pages of which one frame has changed.
use Rattle.std.proofs.Common.{◌≡◌, ℕ, ◌+◌, ◌<◌, ◌↔◌, Bool, true, false, List, [], ◌∷◌, ◌++◌, length, get_or, set, take}
use Rattle.std.proofs.Common.{replicate, map, Result, Ok, Err, Some, ap, sym, ◌∙◌, subst}
use Rattle.std.specs.Prelude.{OnOk, OnErr, slice_get}
use Rattle.std.specs.Bool.{IsTrue, OnTrue}
use Rattle.std.proofs.lemmas.List.{map-set, map-append, get_or-map, length-map, replicate_more, take_more}
use Rattle.std.proofs.lemmas.List.{take_more_set}
use Rattle.std.proofs.Math.Seq.{map-set_same}
use Rattle.std.proofs.lemmas.Bool.{false≢true}
use Rattle.std.proofs.lemmas.Option.{slice_get-get_or, slice_get_within}
use Rattle.mm_frames.specs.declared.frame.Frame.{Frame}
use Rattle.mm_frames.specs.Frames.{bytes_of, is_own, with_page_changed, page_at}

-- the frame at a page that there is
inside : (frames : List Frame) (page : ℕ) → page < length (map bytes_of frames) → page < length frames
inside frames page within = subst (λ n. page < n) (length-map frames bytes_of) within

page_is : (frames : List Frame) (page : ℕ) (old : Frame) → page < length (map bytes_of frames)
    → old ≡ get_or frames page old → bytes_of old ≡ page_at (map bytes_of frames) page
page_is frames page old within was =
    ap bytes_of was ∙ sym (get_or-map bytes_of frames page old [] (inside frames page within))

-- where its bytes are changed, its page is
pub page_changed : {E : Type 0} (answer : Result Unit E) (frames : List Frame) (page : ℕ) (old new : Frame)
    (change : List ℕ → List ℕ) → page < length (map bytes_of frames) → old ≡ get_or frames page old
    → OnOk answer (bytes_of new ≡ change (bytes_of old))
    → OnOk answer (map bytes_of (set frames page new) ≡ with_page_changed (map bytes_of frames) page change)
page_changed (Ok done) frames page old new change within was changed =
    map-set bytes_of frames page new
    ∙ ap (set (map bytes_of frames) page) (changed ∙ ap change (page_is frames page old within was))
page_changed (Err e) frames page old new change within was changed = tt

-- where it has become own, or shared, so has its page
pub page_owned : {E X : Type 0} (answer : Result X E) (frames : List Frame) (page : ℕ) (new : Frame) (own : Bool)
    → OnOk answer (is_own new ≡ own) → OnOk answer (map is_own (set frames page new) ≡ set (map is_own frames) page own)
page_owned (Ok done) frames page new own is = map-set is_own frames page new ∙ ap (set (map is_own frames) page) is
page_owned (Err e) frames page new own is = tt

-- the same where it is told by a test
pub page_put : (done : Bool) (frames : List Frame) (page : ℕ) (old new : Frame) (change : List ℕ → List ℕ)
    → page < length frames → old ≡ get_or frames page old
    → OnTrue done (bytes_of new ≡ change (bytes_of old))
    → OnTrue done (map bytes_of (set frames page new) ≡ with_page_changed (map bytes_of frames) page change)
page_put true frames page old new change within was changed =
    map-set bytes_of frames page new
    ∙ ap (set (map bytes_of frames) page) (changed
    ∙ ap change (ap bytes_of was ∙ sym (get_or-map bytes_of frames page old [] within)))
page_put false frames page old new change within was changed = tt

-- where it is as own as before, all pages are
pub owned_kept : (frames : List Frame) (page : ℕ) (old new : Frame) → old ≡ get_or frames page old
    → is_own new ≡ is_own old → map is_own (set frames page new) ≡ map is_own frames
owned_kept frames page old new was same = map-set_same is_own frames page new old (same ∙ ap is_own was)

-- past the last page none is own
own_past : (frames : List Frame) (page : ℕ) → (page < length frames → ⊥)
    → slice_get (map is_own frames) page ≡ Some true → ⊥
own_past frames page past own =
    past (subst (λ n. page < n) (length-map frames is_own) (slice_get_within (map is_own frames) page true own))

-- so that nothing is put there
pub put_past : {P : Type 0} (frames : List Frame) (page : ℕ) → (page < length frames → false ≡ true)
    → IsTrue false ↔ ((slice_get (map is_own frames) page ≡ Some true) × P)
put_past frames page past =
    (λ done. absurd (false≢true done), λ met. absurd (own_past frames page (λ within. false≢true (past within)) met.0))

-- where its bytes stay, all pages do
pub pages_kept : (frames : List Frame) (page : ℕ) (old new : Frame) → old ≡ get_or frames page old
    → bytes_of new ≡ bytes_of old → map bytes_of (set frames page new) ≡ map bytes_of frames
pages_kept frames page old new was same = map-set_same bytes_of frames page new old (same ∙ ap bytes_of was)

-- where it wasn't own, its page wasn't
pub page_shared : {E : Type 0} (answer : Result Unit E) (frames : List Frame) (page : ℕ) (old : Frame)
    → page < length (map bytes_of frames) → old ≡ get_or frames page old
    → OnErr answer (is_own old ≡ false) → OnErr answer (slice_get (map is_own frames) page ≡ Some false)
page_shared (Ok done) frames page old within was shared = tt
page_shared (Err e) frames page old within was shared =
    slice_get-get_or (map is_own frames) page false
    (subst (λ n. page < n) (sym (length-map frames is_own)) (inside frames page within))
    ∙ ap (λ (b : Bool). Some b) (get_or-map is_own frames page old false (inside frames page within)
    ∙ ap is_own (sym was) ∙ shared)

-- one more frame, of which a word is that of all before it
pub alike_more : {X : Type 0} (word : Frame → X) (frames : List Frame) (count : ℕ) (x : X) (frame : Frame)
    → map word frames ≡ replicate count x → word frame ≡ x → map word (frames ++ frame ∷ []) ≡ replicate (count + 1) x
alike_more word frames count x frame are is =
    map-append word frames (frame ∷ [])
    ∙ ap (λ words. words ++ word frame ∷ []) are
    ∙ ap (λ y. replicate count x ++ y ∷ []) is
    ∙ replicate_more count x

-- one more page, which is the next of some
pub copied_more : (frames : List Frame) (pages : List (List ℕ)) (page : ℕ) (frame : Frame) → page < length pages
    → map bytes_of frames ≡ take page pages → bytes_of frame ≡ page_at pages page
    → map bytes_of (frames ++ frame ∷ []) ≡ take (page + 1) pages
copied_more frames pages page frame within are is =
    map-append bytes_of frames (frame ∷ [])
    ∙ ap (λ words. words ++ bytes_of frame ∷ []) are
    ∙ ap (λ y. take page pages ++ y ∷ []) is
    ∙ sym (take_more pages page [] within)

-- one more page that is shared
pub lost_more : (before after : List Bool) (page : ℕ) → page < length before → take page before ≡ replicate page false
    → after ≡ set before page false → take (page + 1) after ≡ replicate (page + 1) false
lost_more before after page within were is =
    ap (take (page + 1)) is
    ∙ take_more_set before page false within
    ∙ ap (λ owned. owned ++ false ∷ []) were
    ∙ replicate_more page false
