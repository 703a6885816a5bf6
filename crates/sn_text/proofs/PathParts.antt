use Rattle.std.proofs.Common.{◌≡◌, ℕ, suc, ◌+◌, ◌≤◌, List, [], ◌∷◌, length, take, drop, get_or, Bool, true, false, cond}
use Rattle.std.proofs.Common.{Some, None, ◌<◌, refl, ap, ◌∙◌, arith, drop-cons}
use Rattle.std.proofs.Math.Numerals.{one-add}
use Rattle.std.proofs.lemmas.Bool.Decides.{nat_tests}
use Rattle.std.proofs.Math.Seq.{drop-length}
use Rattle.std.proofs.lemmas.List.Sums.{prefix_len-le-length, passes_at_first}
use Rattle.std.specs.Prelude.{filter, not, nat_eq, position, unwrap_or}
use Rattle.std.specs.List.{slice_split, onto_first, position_or_len}
use Rattle.sn_text.specs.Paths.{parts_of, is_part}

abbrev pub is_slash : ℕ → Bool
is_slash byte = nat_eq byte 47

abbrev pub no_slash : ℕ → Bool
no_slash byte = not (is_slash byte)

-- what a byte before a path adds to its pieces
abbrev with_byte : Bool → ℕ → List (List ℕ) → List (List ℕ)
with_byte slash x pieces = cond slash ([] ∷ pieces) (onto_first x pieces)

length-with_byte : (slash : Bool) (x : ℕ) (pieces : List (List ℕ)) (n : ℕ) →
    length (filter is_part pieces) ≤ n → length (filter is_part (with_byte slash x pieces)) ≤ suc n
length-with_byte true x pieces n h = omega arith
length-with_byte false x [] n h = omega arith
length-with_byte false x ([] ∷ pieces) n h = omega arith
length-with_byte false x ((y ∷ piece) ∷ pieces) n h = omega arith

-- a path has no more parts than bytes
pub parts_within : (path : List ℕ) → length (parts_of path) ≤ length path
parts_within [] = omega arith
parts_within (x ∷ path) =
    length-with_byte (is_slash x) x (slice_split is_slash path) (length path) (parts_within path)

-- slashes at the front of a path stand for nothing
one_slash : (slash : Bool) (x n : ℕ) (path : List ℕ) → is_slash x ≡ slash → parts_of path ≡ parts_of (drop n path) →
    parts_of (x ∷ path) ≡ parts_of (drop (cond (not (not slash)) (1 + n) 0) (x ∷ path))
one_slash true x n path e h = rw (one-add, e) h
one_slash false x n path e h = refl

parts_of-drop_slashes : (path : List ℕ) → parts_of path ≡ parts_of (drop (position_or_len no_slash path) path)
parts_of-drop_slashes [] = refl
parts_of-drop_slashes (x ∷ path) = one_slash (is_slash x) x _ path refl (parts_of-drop_slashes path)

-- the pieces are that before the first slash, and others, which give the parts from there on
pub record HasFirstPiece (path : List ℕ) (n : ℕ) : Type 0 where
  pub pieces : List (List ℕ)
  pub split : slice_split is_slash path ≡ take n path ∷ pieces
  pub others : filter is_part pieces ≡ parts_of (drop n path)

one_byte : (slash : Bool) (x n : ℕ) (path : List ℕ) → is_slash x ≡ slash → HasFirstPiece path n →
    HasFirstPiece (x ∷ path) (cond (not slash) (1 + n) 0)
one_byte true x n path e h = record {
  pieces = slice_split is_slash path;
  split = rw e refl;
  others = rw e refl;
}
one_byte false x n path e h = record {
  pieces = h.pieces;
  split = rw (one-add, e, h.split) refl;
  others = rw one-add h.others;
}

pub first_piece : (path : List ℕ) → HasFirstPiece path (position_or_len is_slash path)
first_piece [] = record { pieces = []; split = refl; others = refl }
first_piece (x ∷ path) = one_byte (is_slash x) x _ path refl (first_piece path)

-- what `position` tells of the first place that passes
found : {X : Type 0} (p : X → Bool) (xs : List X) (i : ℕ) → position p xs ≡ Some i
    → (i ≡ position_or_len p xs) × (i < length xs)
found p xs i h = grind (arith, nat_tests)

missing : {X : Type 0} (p : X → Bool) (xs : List X) → position p xs ≡ None → position_or_len p xs ≡ length xs
missing p xs h = let le : position_or_len p xs ≤ length xs =
    prefix_len-le-length (λ x. not (p x)) xs in grind (arith, nat_tests)

position-or_length : {X : Type 0} (p : X → Bool) (xs : List X)
    → unwrap_or (position p xs) (length xs) ≡ position_or_len p xs
position-or_length p xs = let le : position_or_len p xs ≤ length xs =
    prefix_len-le-length (λ x. not (p x)) xs in grind (arith, nat_tests)

-- a path of slashes alone has no parts
pub no_parts : (path : List ℕ) → position no_slash path ≡ None → parts_of path ≡ []
no_parts path h =
    parts_of-drop_slashes path ∙ ap parts_of (ap (λ n. drop n path) (missing no_slash path h) ∙ drop-length path)

-- a first piece that has a byte is the first part
kept_first : (m k y : ℕ) (ys : List ℕ) (pieces : List (List ℕ)) → m ≡ suc k →
    filter is_part (take m (y ∷ ys) ∷ pieces) ≡ take m (y ∷ ys) ∷ filter is_part pieces
kept_first m k y ys pieces e = rw e refl

begun_part : (y : ℕ) (ys : List ℕ) → is_slash y ≡ false → let end = position_or_len is_slash (y ∷ ys) in
    parts_of (y ∷ ys) ≡ take end (y ∷ ys) ∷ parts_of (drop end (y ∷ ys))
begun_part y ys e =
    let first = first_piece (y ∷ ys) in
    let long : position_or_len is_slash (y ∷ ys) ≡ suc (position_or_len is_slash ys) = rw (e, one-add) refl in
    ap (filter is_part) first.split ∙ kept_first _ _ y ys first.pieces long
    ∙ ap (λ rest. take (position_or_len is_slash (y ∷ ys)) (y ∷ ys) ∷ rest) first.others

begun_part_at : (path : List ℕ) (y : ℕ) (ys : List ℕ) (end : ℕ) → path ≡ y ∷ ys → is_slash y ≡ false →
    end ≡ position_or_len is_slash path → parts_of path ≡ take end path ∷ parts_of (drop end path)
begun_part_at path y ys end e h n = rw (n, e) (begun_part y ys h)

fails : (b : Bool) → not b ≡ true → b ≡ false
fails true h = cc
fails false h = refl

-- the first part, and what is left behind it
pub first_part : (path : List ℕ) (start end : ℕ) → position no_slash path ≡ Some start →
    end ≡ unwrap_or (position is_slash (drop start path)) (length (drop start path)) →
    parts_of path ≡ take end (drop start path) ∷ parts_of (drop end (drop start path))
first_part path start end h e =
    let place : (start ≡ position_or_len no_slash path) × (start < length path) = found no_slash path start h in
    let within : position_or_len no_slash path < length path = omega (arith, place) in
    let begins : drop start path ≡ get_or path start 0 ∷ drop (suc start) path = drop-cons path start 0 place.1 in
    let front : parts_of path ≡ parts_of (drop start path) = rw place.0 (parts_of-drop_slashes path) in
    let passes : no_slash (get_or path start 0) ≡ true = rw place.0 (passes_at_first no_slash path 0 within) in
    front ∙ begun_part_at _ _ _ end begins (fails _ passes) (e ∙ position-or_length is_slash (drop start path))
