-- Paths below a folder, as names are added to them.
use Rattle.std.proofs.Common.{◌≡◌, ℕ, List, [], ◌∷◌, ◌++◌, ap, append_assoc, ◌∙◌, sym, ◌+◌, ◌<◌, get_or, length, take}
use Rattle.std.proofs.lemmas.List.{append-nil, take_more}
use Rattle.host_folder.specs.Paths.{slashed}

-- one name more at the end is one more behind a slash
pub slashed_push : (names : List (List ℕ)) (name : List ℕ) → slashed (names ++ name ∷ []) ≡ slashed names ++ (47 ∷ name)
slashed_push [] name = ap (λ l. 47 ∷ l) (append-nil name)
slashed_push (x ∷ xs) name =
    ap (λ l. 47 ∷ (x ++ l)) (slashed_push xs name) ∙ ap (λ l. 47 ∷ l) (sym (append_assoc x (slashed xs) (47 ∷ name)))

-- a path that names have been added to is one name longer
pub path_push : (start : List ℕ) (names : List (List ℕ)) (i : ℕ) (name path new : List ℕ) → i < length names
    → name ≡ get_or names i name
    → path ≡ start ++ slashed (take i names) → new ≡ path ++ (47 ∷ name) → new ≡ start ++ slashed (take (i + 1) names)
path_push start names i name path new within here before after =
    let more : take (i + 1) names ≡ take i names ++ get_or names i name ∷ [] = take_more names i name within in
    let last : slashed (take i names ++ name ∷ []) ≡ slashed (take i names) ++ (47 ∷ name) =
    slashed_push (take i names) name in
    let apart : (start ++ slashed (take i names)) ++ (47 ∷ name) ≡ start ++ (slashed (take i names) ++ (47 ∷ name)) =
    append_assoc start (slashed (take i names)) (47 ∷ name) in
    cc
