-- The digits of a seed, pair by pair.
use Rattle.std.proofs.Common.{◌≡◌, ℕ, ◌+◌, ◌*◌, List, [], ◌∷◌, ◌++◌, ◌≤◌, length, get_or, drop, ◌∙◌, Option, Some, None}
use Rattle.std.proofs.Common.{option_map, option_and_then, refl, ap, arith, append_assoc}
use Rattle.std.proofs.lemmas.Option.{same_Some}
use Rattle.mount_file.specs.Values.{hex_value, hex_bytes}
use Rattle.mount_file.specs.Read.{hex_byte}

-- what the second step of a pair gives, by the values of its digits
abbrev before : Option ℕ → Option ℕ → Option (List ℕ) → Option (List ℕ)
before h l o = option_and_then (λ high. option_and_then (λ low. option_map (λ bytes. (16 * high + low) ∷ bytes) o) l) h

abbrev pair : Option ℕ → Option ℕ → Option ℕ
pair h l = option_and_then (λ high. option_map (λ low. 16 * high + low) l) h

before_some : (h l : Option ℕ) (o : Option (List ℕ)) (b : ℕ) → pair h l ≡ Some b
    → before h l o ≡ option_map (λ bytes. b ∷ bytes) o
before_some None l o b is = cc
before_some (Some h) None o b is = cc
before_some (Some h) (Some l) o b is = rw (same_Some _ _ is)

-- a pair that spells a byte goes before the bytes of the others
hex_bytes_more : (d e b : ℕ) (ds : List ℕ) → hex_byte d e ≡ Some b
    → hex_bytes (d ∷ e ∷ ds) ≡ option_map (λ bytes. b ∷ bytes) (hex_bytes ds)
hex_bytes_more d e b ds is = before_some (hex_value d) (hex_value e) (hex_bytes ds) b is

-- one byte more at the end of those that stand, from the beginning of those that come
option_map_append : (bytes : List ℕ) (b : ℕ) (o : Option (List ℕ))
    → option_map (λ more. bytes ++ more) (option_map (λ more. b ∷ more) o)
    ≡ option_map (λ more. (bytes ++ b ∷ []) ++ more) o
option_map_append bytes b None = refl
option_map_append bytes b (Some more) = ap Some (grind (arith, append_assoc))

-- a pair is read from the front, and its byte goes behind those that stand
pub hex_bytes_step : (digits bytes rest bytes' more : List ℕ) (b : ℕ) → 2 ≤ length rest
    → hex_byte (get_or rest 0 0) (get_or rest 1 0) ≡ Some b
    → bytes' ≡ bytes ++ b ∷ [] → more ≡ drop 2 rest
    → hex_bytes digits ≡ option_map (λ ds. bytes ++ ds) (hex_bytes rest)
    → hex_bytes digits ≡ option_map (λ ds. bytes' ++ ds) (hex_bytes more)
hex_bytes_step digits bytes [] bytes' more b long is pushed rest_is was = absurd (omega arith)
hex_bytes_step digits bytes (d ∷ []) bytes' more b long is pushed rest_is was = absurd (omega arith)
hex_bytes_step digits bytes (d ∷ e ∷ ds) bytes' more b long is pushed rest_is was =
    rw (pushed, rest_is) (was ∙ ap (option_map (λ ds'. bytes ++ ds')) (hex_bytes_more d e b ds is)
    ∙ option_map_append bytes b (hex_bytes ds))

before_length : (h l : Option ℕ) (o : Option (List ℕ)) (n : ℕ) (bytes : List ℕ)
    → ((more : List ℕ) → o ≡ Some more → n ≡ 2 * length more)
    → before h l o ≡ Some bytes → n + 2 ≡ 2 * length bytes
before_length None l o n bytes ih is = cc
before_length (Some h) None o n bytes ih is = cc
before_length (Some h) (Some l) None n bytes ih is = cc
before_length (Some h) (Some l) (Some more) n bytes ih is = rw (← same_Some _ _ is) (omega (arith, ih more refl))

-- a byte is spelled by two digits
pub hex_bytes_length : (ds bytes : List ℕ) → hex_bytes ds ≡ Some bytes → length ds ≡ 2 * length bytes
hex_bytes_length [] bytes is = rw (← same_Some _ _ is)
hex_bytes_length (d ∷ []) bytes is = cc
hex_bytes_length (d ∷ e ∷ ds) bytes is = omega
    (arith, before_length (hex_value d) (hex_value e) (hex_bytes ds) (length ds) bytes (hex_bytes_length ds) is)
