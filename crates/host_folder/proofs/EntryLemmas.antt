-- Entries, as one more is seen.
use Rattle.std.proofs.Common.{◌≡◌, ℕ, List, [], ◌∷◌, ◌++◌, ◌+◌, ◌<◌, get_or, length, take}
use Rattle.std.proofs.lemmas.List.{take_more}
use Rattle.std.proofs.lemmas.List.Elements.{filter_map-append}
use Rattle.std.specs.List.{AllZip}
use Rattle.host_node.specs.declared.listing.Listed.{Listed}
use Rattle.host_folder.specs.declared.seen.SeenEntry.{SeenEntry}
use Rattle.host_folder.specs.Entries.{entries_of, listed_as}

-- the entries of those so far and of one more are those of all
pub entries_push : (seen : List SeenEntry) (i : ℕ) (one : SeenEntry) (old new : List Listed) → i < length seen
    → one ≡ get_or seen i one → old ≡ entries_of (take i seen) → new ≡ old ++ entries_of (one ∷ [])
    → new ≡ entries_of (take (i + 1) seen)
entries_push seen i one old new within here before after =
    let more : take (i + 1) seen ≡ take i seen ++ get_or seen i one ∷ [] = take_more seen i one within in
    let last : entries_of (take i seen ++ one ∷ []) ≡ entries_of (take i seen) ++ entries_of (one ∷ []) =
    filter_map-append listed_as (take i seen) (one ∷ []) in
    cc

-- what holds at each place of two lists, and of one more of each, holds at each place of both with those
pub zip_push : {A B : Type 0} (P : A → B → Type 0) (xs : List A) (ys : List B) (x : A) (y : B) → AllZip P xs ys → P x y
    → AllZip P (xs ++ x ∷ []) (ys ++ y ∷ [])
zip_push P [] [] x y h p = (p, tt)
zip_push P [] (b ∷ ys) x y h p = absurd h
zip_push P (a ∷ xs) [] x y h p = absurd h
zip_push P (a ∷ xs) (b ∷ ys) x y h p = (h.0, zip_push P xs ys x y h.1 p)
