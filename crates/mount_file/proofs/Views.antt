-- How the tables and arrays of toml look to the definition of a mount file.
use Rattle.std.proofs.Common.{◌≡◌, ℕ, List, [], ◌∷◌, map, Bool, String, Global, string_bytes, refl, Bor, arith}
use Rattle.std.proofs.lemmas.Iterator.{YieldsList}
use Rattle.std.proofs.lemmas.Iterator.Consumers.{YieldsList-from_shown}
use Rattle.std.specs.List.{list_any, list_all}
use Rattle.std.specs.Map.{keys_of}
use Rattle.std.specs.Map.Iter.{TakesFirst, deref}
use Rattle.std.specs.Str.{bytes_eq}
use Rattle.toml.specs.Data.{Data}
use Rattle.toml.specs.View.{view, items_view, members_view}
use Rattle.toml.specs.declared.value.Value.{Value}
use Rattle.mount_file.specs.Keys.{is_one_of, has_only, are_all}

-- a test of each item of an array is one of each value
pub are_all_view : (is_of_type : Data → Bool) (vs : List Value)
    → list_all (λ v. is_of_type (view v)) vs ≡ are_all is_of_type (items_view vs)
are_all_view is_of_type [] = refl
are_all_view is_of_type (v ∷ vs) = rw (are_all_view is_of_type vs) refl

-- a test of each member's key is one of each key of the map
pub has_only_view : (keys : List (List ℕ)) (es : List (String Global × Value))
    → list_all (λ k. is_one_of keys (string_bytes k)) (keys_of es) ≡ has_only keys (members_view es)
has_only_view keys [] = refl
has_only_view keys (e ∷ es) = rw (has_only_view keys es) refl

-- a test of what each reference points to
pub is_one_of_view : (keys : List (Bor (List ℕ))) (key : List ℕ)
    → list_any (λ (k : Bor (List ℕ)). bytes_eq k.now key) keys ≡ is_one_of (map (λ k. k.now) keys) key
is_one_of_view [] key = refl
is_one_of_view (k ∷ keys) key = rw (is_one_of_view keys key) refl

-- a run over the keys of a map gives those keys
pub YieldsList-from_keys : {K : Type 0} (s : List K) → YieldsList (TakesFirst deref) (λ k. k.now) s s
YieldsList-from_keys s = YieldsList-from_shown (TakesFirst deref) (λ k. k.now) (λ u. u) (λ u t p. grind arith)
    (λ u k t p. p) s
