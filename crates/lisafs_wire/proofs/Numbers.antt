-- Numbers in bytes: what is read is what was written, and what was written is read.
use Rattle.std.proofs.Common.{◌≡◌, ℕ, zero, suc, ◌+◌, ◌-◌, ◌*◌, ◌/◌, ◌%◌, ◌^◌, ◌<◌, ◌≤◌, Bool, true, false, cond, leb}
use Rattle.std.proofs.Common.{ltb, List, [], ◌∷◌, ◌++◌, length, get_or, take, drop, Some, None, Result, Ok, Err, refl}
use Rattle.std.proofs.Common.{sym, ap, subst, ◌∙◌, append_assoc, arith, inl, inr}
use Rattle.std.proofs.lemmas.Bool.{cases_lt, ltb-false, le-ltb, leb-true, le-leb}
use Rattle.std.proofs.lemmas.List.{take_at, drop_at, take-append-drop, length-append, length-take, length-take-le}
use Rattle.std.proofs.lemmas.List.{get_or-drop, get_or-take, get_or_past}
use Rattle.std.proofs.Math.Nat.{pow-suc}
use Rattle.sn_bytes.specs.Fields.{little, field, little_bytes}
use Rattle.lisafs_wire.specs.declared.fault.WireFault.{WireFault}
use Rattle.lisafs_wire.specs.declared.fault.WireFault.TheVariants as faults
use Rattle.lisafs_wire.specs.Reading.{◌>>=◌, bytes_at, known, number_at}

-- each is a byte
abbrev pub IsBytes : List ℕ → Type 0
IsBytes bytes = (i : ℕ) → get_or bytes i 0 < 256

pub IsBytes-drop : (n : ℕ) (bytes : List ℕ) → IsBytes bytes → IsBytes (drop n bytes)
IsBytes-drop n bytes h i = rw get_or-drop (h (n + i))

pub IsBytes-take : (n : ℕ) (bytes : List ℕ) → IsBytes bytes → IsBytes (take n bytes)
IsBytes-take n bytes h i =
    elim (cases_lt i n) [
      | inl lt ↦ rw (get_or-take n bytes i 0 lt) (h i)
      | inr le ↦ rw (get_or_past (take n bytes) i 0 (omega (arith, length-take n bytes))) (omega arith)
    ]

-- the value of a step that did not fail
pub bind_ok : {A B : Type 0} (r : Result A WireFault) (f : A → Result B WireFault) (y : B) → (r >>= f) ≡ Ok y
    → (x : A) × (r ≡ Ok x) × (f x ≡ Ok y)
bind_ok (Ok x) f y e = (x, refl, e)
bind_ok (Err d) f y e = absurd cc

abbrev pub done : {A : Type 0} → A → Result A WireFault
done x = Ok x

pub ok_is : {A : Type 0} (x y : A) → done x ≡ done y → x ≡ y
ok_is x y e = cc

-- a test that did not fail
pub guard_ok : {A : Type 0} (b : Bool) (d : WireFault) (r : Result A WireFault) (y : A) → cond b (Err d) r ≡ Ok y
    → (b ≡ false) × (r ≡ Ok y)
guard_ok true d r y e = absurd cc
guard_ok false d r y e = (refl, e)

pub allow_ok : {A : Type 0} (b : Bool) (d : WireFault) (r : Result A WireFault) (y : A) → cond b r (Err d) ≡ Ok y
    → (b ≡ true) × (r ≡ Ok y)
allow_ok true d r y e = (refl, e)
allow_ok false d r y e = absurd cc

-- what a reader took from the front
pub record Takes (bytes text rest : List ℕ) : Type 0 where
  pub parts : bytes ≡ text ++ rest
  pub rest_fits : IsBytes rest

pub Takes-then : (a x b y c : List ℕ) → Takes a x b → Takes b y c → Takes a (x ++ y) c
Takes-then a x b y c p q =
    record {
      parts = p.parts ∙ ap (λ (t : List ℕ). x ++ t) q.parts ∙ sym (append_assoc x y c);
      rest_fits = q.rest_fits;
    }

pub length-little_bytes : (width n : ℕ) → length (little_bytes width n) ≡ width
unfolding little_bytes
length-little_bytes zero n = refl
length-little_bytes (suc width) n = omega (arith, length-little_bytes width (n / 256))

pub little-little_bytes : (width n : ℕ) → n < 256 ^ width → little (little_bytes width n) ≡ n
unfolding little_bytes
little-little_bytes zero n fits = omega arith
little-little_bytes (suc width) n fits =
    let above : n / 256 < 256 ^ width = omega (arith, pow-suc 256 width) in
    let rest : little (little_bytes width (n / 256)) ≡ n / 256 = little-little_bytes width (n / 256) above in
    omega (arith, rest)

-- the bytes of the number that some bytes are
pub little_bytes-little : (bytes : List ℕ) → IsBytes bytes → little_bytes (length bytes) (little bytes) ≡ bytes
unfolding little_bytes
little_bytes-little [] h = refl
little_bytes-little (b ∷ bs) h =
    let first : b < 256 = h 0 in
    let low : (b + 256 * little bs) % 256 ≡ b = omega (arith, first) in
    let high : (b + 256 * little bs) / 256 ≡ little bs = omega (arith, first) in
    let rest : little_bytes (length bs) ((b + 256 * little bs) / 256) ≡ bs
    = ap (little_bytes (length bs)) high ∙ little_bytes-little bs (λ i. h (suc i)) in
    λ i. low i ∷ rest i

pub little-below : (bytes : List ℕ) → IsBytes bytes → little bytes < 256 ^ length bytes
little-below [] h = omega arith
little-below (b ∷ bs) h =
    let first : b < 256 = h 0 in
    let rest : little bs < 256 ^ length bs = little-below bs (λ i. h (suc i)) in
    omega (arith, first, rest, pow-suc 256 (length bs))

known_if : (b : Bool) (m width : ℕ) (bytes : List ℕ) (x : ℕ × List ℕ)
    → known (cond b (Some m) None) width bytes ≡ Ok x → (b ≡ true) × ((m, drop width bytes) ≡ x)
known_if true m width bytes x e = (refl, ok_is (m, drop width bytes) x e)
known_if false m width bytes x e = absurd cc

-- the field at the front
field_front : (width : ℕ) (bytes : List ℕ) → field width 0 bytes ≡ little (take width bytes)
field_front width bytes =
    let size : 0 + width - 0 ≡ width = omega arith in
    ap (λ (w : ℕ). little (take w bytes)) size

pub number_takes : (width : ℕ) (bytes : List ℕ) (x : ℕ × List ℕ) → IsBytes bytes → number_at width bytes ≡ Ok x
    → Takes bytes (little_bytes width x.0) x.1 × (x.0 < 256 ^ width)
number_takes width bytes x fits e =
    let number = field_front width bytes in
    let k = known_if (leb (0 + width) (length bytes)) (field width 0 bytes) width bytes x e in
    let long : width ≤ length bytes = omega (arith, leb-true (0 + width) (length bytes) k.0) in
    let size : length (take width bytes) ≡ width = length-take-le width bytes long in
    let front : IsBytes (take width bytes) = IsBytes-take width bytes fits in
    let text : little_bytes width (little (take width bytes)) ≡ take width bytes
    = subst (λ (w : ℕ). little_bytes w (little (take width bytes)) ≡ take width bytes) size
    (little_bytes-little (take width bytes) front) in
    let below : little (take width bytes) < 256 ^ width
    = subst (λ (w : ℕ). little (take width bytes) < 256 ^ w) size (little-below (take width bytes) front) in
    let taken : Takes bytes (little_bytes width (little (take width bytes))) (drop width bytes)
    = record {
      parts = sym (take-append-drop width bytes)
          ∙ ap (λ (t : List ℕ). t ++ drop width bytes) (sym text);
      rest_fits = IsBytes-drop width bytes fits;
    } in
    subst (λ (y : ℕ × List ℕ). Takes bytes (little_bytes width y.0) y.1 × (y.0 < 256 ^ width)) k.1 (
      subst (λ (n : ℕ). Takes bytes (little_bytes width n) (drop width bytes)) (sym number) taken,
      subst (λ (n : ℕ). n < 256 ^ width) (sym number) below,
    )

pub number_again : (width n : ℕ) (rest : List ℕ) → n < 256 ^ width
    → number_at width (little_bytes width n ++ rest) ≡ Ok (n, rest)
number_again width n rest fits =
    let size = length-little_bytes width n in
    let long : leb (0 + width) (length (little_bytes width n ++ rest)) ≡ true
    = le-leb _ _ (omega (arith, size, length-append (little_bytes width n) rest)) in
    rw (
      field_front width (little_bytes width n ++ rest),
      long,
      take_at (little_bytes width n) rest width size,
      drop_at (little_bytes width n) rest width size,
      little-little_bytes width n fits,
    ) refl

pub bytes_take : (count : ℕ) (bytes : List ℕ) (x : List ℕ × List ℕ) → IsBytes bytes → bytes_at count bytes ≡ Ok x
    → Takes bytes x.0 x.1 × (length x.0 ≡ count)
bytes_take count bytes x fits e =
    let g = guard_ok (ltb (length bytes) count) faults.Length (Ok (take count bytes, drop count bytes)) x e in
    let long : count ≤ length bytes = ltb-false _ _ g.0 in
    let is : (take count bytes, drop count bytes) ≡ x = ok_is (take count bytes, drop count bytes) x g.1 in
    subst (λ (y : List ℕ × List ℕ). Takes bytes y.0 y.1 × (length y.0 ≡ count)) is (
      record { parts = sym (take-append-drop count bytes); rest_fits = IsBytes-drop count bytes fits },
      length-take-le count bytes long,
    )

pub bytes_again : (text rest : List ℕ) → bytes_at (length text) (text ++ rest) ≡ Ok (text, rest)
bytes_again text rest =
    let long : ltb (length (text ++ rest)) (length text) ≡ false
    = le-ltb _ _ (omega (arith, length-append text rest)) in
    rw (long, take_at text rest (length text) refl, drop_at text rest (length text) refl) refl
