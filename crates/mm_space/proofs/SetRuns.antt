-- Bytes set one after another.
use Rattle.std.proofs.Common.{◌≡◌, ℕ, ◌+◌, ◌<◌, ◌≤◌, List, [], ◌∷◌, ◌++◌, length, take, drop, ap, sym, ◌∙◌, arith}
use Rattle.std.specs.Prelude.{slice_set}
use Rattle.std.proofs.lemmas.List.{append-nil, append_assoc, length-set, take-append-drop, take_more_set, drop-set-lt}
use Rattle.mm_frames.specs.Numbers.{with_run}

-- bytes of which so many from an offset on are set, one after another
-- read(2): what a call puts into its buffer
abbrev pub set_run : List ℕ → (offset : ℕ) → List ℕ → List ℕ
set_run bytes offset [] = bytes
set_run bytes offset (b ∷ bs) = set_run (slice_set bytes offset b) (offset + 1) bs

pub set_run_is : (run bytes : List ℕ) (offset : ℕ) → offset + length run ≤ length bytes
    → set_run bytes offset run ≡ with_run bytes offset run
set_run_is [] bytes offset fits =
    sym
    (ap (λ xs. xs ++ drop (offset + 0) bytes) (append-nil (take offset bytes))
    ∙ ap (λ n. take offset bytes ++ drop n bytes) (omega arith)
    ∙ take-append-drop offset bytes)
set_run_is (b ∷ bs) bytes offset fits =
    let within : offset < length bytes = omega (arith, fits) in
    set_run_is bs (slice_set bytes offset b) (offset + 1) (omega (arith, fits, length-set bytes offset b))
    ∙ ap (λ xs. (xs ++ bs) ++ drop (offset + 1 + length bs) (slice_set bytes offset b))
    (take_more_set bytes offset b within)
    ∙ ap (λ xs. ((take offset bytes ++ b ∷ []) ++ bs) ++ xs)
    (drop-set-lt (offset + 1 + length bs) bytes offset b (omega arith))
    ∙ ap (λ xs. xs ++ drop (offset + 1 + length bs) bytes) (append_assoc (take offset bytes) (b ∷ []) bs)
    ∙ ap (λ n. (take offset bytes ++ b ∷ bs) ++ drop n bytes) (omega arith)
