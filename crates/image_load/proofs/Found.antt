-- Bytes that are found again among others.
use Rattle.std.proofs.Common.{◌≡◌, ℕ, ◌+◌, ◌-◌, ◌*◌, ◌^◌, ◌<◌, List, [], ◌∷◌, ◌++◌, length, take, drop, get_or, refl}
use Rattle.std.proofs.Common.{sym, ap, ◌∙◌, arith, length-append}
use Rattle.std.specs.Prelude.{slice_range}
use Rattle.std.specs.List.{flat_map}
use Rattle.std.proofs.lemmas.List.{append_assoc, length-take-le, take_at, drop_at, drop_more, take-append-drop}
use Rattle.std.proofs.lemmas.List.Concat.{flat_map-append}
use Rattle.sn_bytes.specs.Fields.{field, little, little_bytes}
use Rattle.sn_bytes.proofs.FieldWrites.{read_back}

-- what stands between others
pub between : (all before mid after : List ℕ) (at size : ℕ) → all ≡ before ++ (mid ++ after) →
    length before ≡ at → length mid ≡ size →
    slice_range all at (at + size) ≡ mid
between all before mid after at size same start long =
    let width : at + size - at ≡ size = omega arith in
    let behind : drop at all ≡ mid ++ after = ap (drop at) same ∙ drop_at before (mid ++ after) at start in
    ap (λ n. take n (drop at all)) width ∙ ap (take size) behind ∙ take_at mid after size long

-- one of several things whose bytes stand one after another, before it and behind it the others
one_of : (f : List ℕ → List ℕ) (xs : List (List ℕ)) (k : ℕ) → k < length xs →
    flat_map f xs ≡ flat_map f (take k xs) ++ (f (get_or xs k []) ++ flat_map f (drop (k + 1) xs))
one_of f xs k inside =
    ap (flat_map f) (sym (take-append-drop k xs)) ∙ flat_map-append f (take k xs) (drop k xs)
    ∙ ap (λ ys. flat_map f (take k xs) ++ flat_map f ys) (drop_more xs k [] inside)

one_word : (f : ℕ → List ℕ) (xs : List ℕ) (k : ℕ) → k < length xs →
    flat_map f xs ≡ flat_map f (take k xs) ++ (f (get_or xs k 0) ++ flat_map f (drop (k + 1) xs))
one_word f xs k inside =
    ap (flat_map f) (sym (take-append-drop k xs)) ∙ flat_map-append f (take k xs) (drop k xs)
    ∙ ap (λ ys. flat_map f (take k xs) ++ flat_map f ys) (drop_more xs k 0 inside)

-- lists joined in another order
regrouped : (before left mid right after : List ℕ) →
    (before ++ (left ++ (mid ++ right))) ++ after ≡ (before ++ left) ++ (mid ++ (right ++ after))
regrouped before left mid right after =
    ap (λ x. x ++ after) (sym (append_assoc before left (mid ++ right)))
    ∙ append_assoc (before ++ left) (mid ++ right) after
    ∙ ap (λ x. (before ++ left) ++ x) (append_assoc mid right after)

-- it's found behind those before it
pub string_found : (f : List ℕ → List ℕ) (xs : List (List ℕ)) (k : ℕ) (before after : List ℕ) (at size : ℕ) →
    k < length xs →
    length before + length (flat_map f (take k xs)) ≡ at → length (f (get_or xs k [])) ≡ size →
    slice_range ((before ++ flat_map f xs) ++ after) at (at + size) ≡ f (get_or xs k [])
string_found f xs k before after at size inside start long =
    let left = flat_map f (take k xs) in
    let mid = f (get_or xs k []) in
    let right = flat_map f (drop (k + 1) xs) in
    let same : (before ++ flat_map f xs) ++ after ≡ (before ++ left) ++ (mid ++ (right ++ after)) =
    ap (λ x. (before ++ x) ++ after) (one_of f xs k inside) ∙ regrouped before left mid right after in
    between ((before ++ flat_map f xs) ++ after) (before ++ left) mid (right ++ after) at size same
    (omega (arith, length-append before left)) long

-- how many bytes words take
pub length-words : (words : List ℕ) → length (flat_map (little_bytes 8) words) ≡ 8 * length words
unfolding little_bytes
length-words [] = refl
length-words (w ∷ words) = omega (arith, length-words words)

-- a word in its bytes
word_back : (n : ℕ) → n < 2 ^ 64 → little (little_bytes 8 n) ≡ n
unfolding little_bytes
word_back n fits = cc (read_back 8 n [] (little_bytes 8 n) fits refl)

eight : (n : ℕ) → length (little_bytes 8 n) ≡ 8
unfolding little_bytes
eight n = refl

-- the word at an index
pub word_found : (words : List ℕ) (k : ℕ) (after : List ℕ) → k < length words → get_or words k 0 < 2 ^ 64 →
    field 8 (8 * k) (flat_map (little_bytes 8) words ++ after) ≡ get_or words k 0
word_found words k after inside fits =
    let f = little_bytes 8 in
    let left = flat_map f (take k words) in
    let mid = f (get_or words k 0) in
    let right = flat_map f (drop (k + 1) words) in
    let same : flat_map f words ++ after ≡ left ++ (mid ++ (right ++ after)) =
    ap (λ x. x ++ after) (one_word f words k inside) ∙ regrouped [] left mid right after in
    let start : length left ≡ 8 * k =
    omega (arith, length-words (take k words), length-take-le k words (omega arith)) in
    let size : length mid ≡ 8 = eight (get_or words k 0) in
    ap little (between (flat_map f words ++ after) left mid (right ++ after) (8 * k) 8 same start size)
    ∙ word_back (get_or words k 0) fits
