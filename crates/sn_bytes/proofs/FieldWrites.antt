-- Numbers that are added to bytes.
use Rattle.std.proofs.Common.{◌≡◌, ℕ, zero, suc, ◌+◌, ◌-◌, ◌/◌, ◌%◌, ◌^◌, ◌<◌, ◌≤◌, List, ◌∷◌, ◌++◌, length, take, drop}
use Rattle.std.proofs.Common.{Some, refl, sym, ap, ◌∙◌, arith, length-append}
use Rattle.std.specs.Prelude.{Result, Ok, Err, OnOk}
use Rattle.std.proofs.Math.Nat.{div-div-eq-div-mul, div-one, pow-suc}
use Rattle.std.proofs.lemmas.Bool.Decides.{nat_tests}
use Rattle.std.proofs.lemmas.List.{drop_at, take_all}
use Rattle.std.specs.Int.{byte_at, bytes_low_first}
use Rattle.sn_bytes.specs.Fields.{little, field, field_at, little_bytes}

byte_at-pow : (k n : ℕ) → byte_at k n ≡ n / 256 ^ k % 256
byte_at-pow zero n = ap (λ m. m % 256) (sym (div-one n))
byte_at-pow (suc k) n = refl

above : (k n : ℕ) → n / 256 ^ suc k ≡ n / 256 ^ k / 256
above k n = ap (λ p. n / p) (pow-suc 256 k) ∙ sym (div-div-eq-div-mul n (256 ^ k) 256)

bytes_from : (k width n : ℕ) → bytes_low_first k width n ≡ little_bytes width (n / 256 ^ k)
unfolding little_bytes
bytes_from k zero n = refl
bytes_from k (suc width) n =
    let rest : bytes_low_first (suc k) width n ≡ little_bytes width (n / 256 ^ k / 256) =
    bytes_from (suc k) width n ∙ ap (little_bytes width) (above k n) in
    λ i. byte_at-pow k n i ∷ rest i

-- the bytes of a number
pub bytes_written : (width n : ℕ) → little_bytes width n ≡ bytes_low_first 0 width n
bytes_written width n = sym (bytes_from 0 width n ∙ ap (little_bytes width) (div-one n))

length-little_bytes : (width n : ℕ) → length (little_bytes width n) ≡ width
unfolding little_bytes
length-little_bytes zero n = refl
length-little_bytes (suc width) n = omega (arith, length-little_bytes width (n / 256))

little-little_bytes : (width n : ℕ) → n < 256 ^ width → little (little_bytes width n) ≡ n
unfolding little_bytes
little-little_bytes zero n fits = omega arith
little-little_bytes (suc width) n fits =
    let above : n / 256 < 256 ^ width = omega (arith, pow-suc 256 width) in
    let rest : little (little_bytes width (n / 256)) ≡ n / 256 = little-little_bytes width (n / 256) above in
    omega (arith, rest)

-- a number at the end of some bytes reads as itself
pub read_back : (width n : ℕ) (old new : List ℕ) → n < 256 ^ width → new ≡ old ++ little_bytes width n
    → field_at width (length old) new ≡ Some n
read_back width n old new fits added =
    let long = length-little_bytes width n in
    let room : length old + width ≤ length new =
    omega (arith, ap length added, length-append old (little_bytes width n)) in
    let size : length old + width - length old ≡ width = omega arith in
    let behind : drop (length old) new ≡ little_bytes width n =
    ap (drop (length old)) added ∙ drop_at old (little_bytes width n) (length old) refl in
    let whole : take width (little_bytes width n) ≡ little_bytes width n =
    take_all width (little_bytes width n) (omega arith) in
    let number : field width (length old) new ≡ n =
    ap (λ k. little (take k (drop (length old) new))) size ∙ ap (λ bs. little (take width bs)) behind ∙ ap little whole
    ∙ little-little_bytes width n fits in
    grind (arith, nat_tests)

-- the same of a call that may be refused
pub reads_back : {A E : Type 0} (r : Result A E) (width n : ℕ) (old new : List ℕ) → n < 256 ^ width
    → OnOk r (new ≡ old ++ little_bytes width n) →
    OnOk r (field_at width (length old) new ≡ Some n)
reads_back (Ok a) width n old new fits added = read_back width n old new fits added
reads_back (Err e) width n old new fits added = tt
