-- Text that grows by a piece for each item.
use Rattle.std.proofs.Common.{◌≡◌, ℕ, ◌+◌, ◌<◌, List, [], ◌∷◌, ◌++◌, take, length, get_or, ap, sym, ◌∙◌, arith}
use Rattle.std.proofs.Common.{append_assoc, length-take, zero-add}
use Rattle.std.proofs.lemmas.List.{take_more, append-nil}
use Rattle.std.proofs.lemmas.Grind.{flat_map-append}
use Rattle.std.specs.List.{flat_map}
use Rattle.kernel_model.specs.printed.Printed.{entry_text, trace_text}
use Rattle.kernel_model.specs.declared.entry.Entry.{Entry}

-- a piece more behind what was there at first, and the pieces so far
pub grown : (old pieces more piece text next : List ℕ) → next ≡ text ++ piece → text ≡ old ++ pieces
    → more ≡ pieces ++ piece → next ≡ old ++ more
grown old pieces more piece text next here before all =
    here ∙ ap (λ t. t ++ piece) before ∙ append_assoc old pieces piece ∙ ap (λ t. old ++ t) (sym all)

-- the text of one more item
pub flat_map_next : {A : Type 0} (f : A → List ℕ) (xs : List A) (i : ℕ) (d : A) → i < length xs
    → flat_map f (take (i + 1) xs) ≡ flat_map f (take i xs) ++ f (get_or xs i d)
flat_map_next f xs i d h =
    ap (flat_map f) (take_more xs i d h) ∙ flat_map-append f (take i xs) _
    ∙ ap (λ t. flat_map f (take i xs) ++ t) (append-nil _)

trace_text_behind : (place : ℕ) (xs : List Entry) (x : Entry)
    → trace_text place (xs ++ x ∷ []) ≡ trace_text place xs ++ entry_text (length xs + place) x
trace_text_behind place [] x = append-nil (entry_text place x) ∙ ap (λ n. entry_text n x) (sym (zero-add place))
trace_text_behind place (y ∷ xs) x =
    let next : length xs + (place + 1) ≡ length (y ∷ xs) + place = omega arith in
    ap (λ t. entry_text place y ++ t) (trace_text_behind (place + 1) xs x
    ∙ ap (λ n. trace_text (place + 1) xs ++ entry_text n x) next)
    ∙ sym (append_assoc (entry_text place y) _ _)

-- the lines of one more entry
pub trace_text_next : (place : ℕ) (xs : List Entry) (i : ℕ) (x : Entry) → i < length xs → x ≡ get_or xs i x
    → trace_text place (take (i + 1) xs) ≡ trace_text place (take i xs) ++ entry_text (i + place) x
trace_text_next place xs i x h e =
    let here : length (take i xs) ≡ i = omega (arith, length-take i xs) in
    ap (trace_text place) (take_more xs i x h ∙ ap (λ y. take i xs ++ y ∷ []) (sym e))
    ∙ trace_text_behind place (take i xs) x
    ∙ ap (λ n. trace_text place (take i xs) ++ entry_text (n + place) x) here
