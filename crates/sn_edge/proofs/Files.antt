-- Laws of files by name.
use Rattle.std.proofs.Common.{◌≡◌, ℕ, ◌+◌, ◌<◌, Bool, true, false, cond, List, [], length, get_or, drop, Option, Some}
use Rattle.std.proofs.Common.{option_map, find, sym, ap, ◌∙◌}
use Rattle.std.specs.Str.{bytes_eq}
use Rattle.std.proofs.lemmas.List.{at_drop_more}
use Rattle.sn_edge.specs.Shelf.{content_at}
use Rattle.sn_edge.specs.FilePlace.{content_of}

abbrev chosen : List (List ℕ × List ℕ) → List ℕ → ℕ → Bool → Option (List ℕ)
chosen files name place b =
    option_map (λ file. file.1)
    (cond b (Some (get_or files place ([], []))) (find (λ file. bytes_eq file.0 name) (drop (place + 1) files)))

content_at-drop : (files : List (List ℕ × List ℕ)) (name : List ℕ) (place : ℕ) → place < length files
    → content_at (drop place files) name ≡ chosen files name place (bytes_eq (get_or files place ([], [])).0 name)
content_at-drop files name place h = at_drop_more (λ left. content_at left name) files place ([], []) h

-- a file of another name doesn't count
pub content_at-skip : (files : List (List ℕ × List ℕ)) (name : List ℕ) (place : ℕ) → place < length files
    → bytes_eq (get_or files place ([], [])).0 name ≡ false → content_at (drop (place + 1) files) name
    ≡ content_at (drop place files) name
content_at-skip files name place h other = sym (content_at-drop files name place h ∙ ap (chosen files name place) other)

-- the first of that name counts
pub content_at-found : (files : List (List ℕ × List ℕ)) (name : List ℕ) (place : ℕ) → place < length files
    → bytes_eq (get_or files place ([], [])).0 name ≡ true → content_at (drop place files) name
    ≡ Some (content_of files place)
content_at-found files name place h same = content_at-drop files name place h ∙ ap (chosen files name place) same

pub ruleset search_steps = (content_at-skip, content_at-found)
