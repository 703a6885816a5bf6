-- A message whose length is put last.
use Rattle.std.proofs.Common.{◌≡◌, ℕ, ◌+◌, ◌-◌, ◌/◌, ◌%◌, ◌^◌, ◌<◌, ◌≤◌, List, [], ◌∷◌, ◌++◌, length, take, drop}
use Rattle.std.proofs.Common.{refl, sym, ap, ◌∙◌, append_assoc, arith}
use Rattle.std.proofs.lemmas.List.{length-append, take_at, drop_at}
use Rattle.std.specs.Prelude.{Result, Ok, Err, OnOk, false}
use Rattle.std.specs.Result.{is_err}
use Rattle.sn_bytes.specs.Fields.{little_bytes}
use Rattle.lisafs_wire.specs.Grammar.{Layout, layout_of}
use Rattle.lisafs_wire.specs.Spelling.{Message, IsMessageOf, body_of, spelling}
use Rattle.lisafs_wire.specs.Pieces.{unsized}
use Rattle.lisafs_wire.proofs.Sizes.{IsSound}

-- how long such a message is
pub unsized_size : (table : List (ℕ × Layout)) (message : Message)
    → length (unsized table message) ≡ 8 + length (body_of (layout_of table message.number) message)
unfolding little_bytes
unsized_size table message = omega arith

-- behind some bytes, it has room for a length, which fits
pub record HasRoom (table : List (ℕ × Layout)) (message : Message) (old new : List ℕ) : Type 0 where
  pub room : length old + 8 ≤ length new
  pub fits : length new < length old + 2 ^ 32

pub has_room : (table : List (ℕ × Layout)) (message : Message) (old new : List ℕ) → IsSound table
    → IsMessageOf table message → new ≡ old ++ unsized table message → HasRoom table message old new
has_room table message old new sound is e =
    let size = ap length e in
    let whole = length-append old (unsized table message) in
    let long = unsized_size table message in
    let most = sound.size message is in
    record { room = omega (arith, size, whole, long); fits = omega (arith, size, whole, long, most) }

four_behind : (old : List ℕ) (a b c d : ℕ) (rest : List ℕ)
    → drop (length old + 4) (old ++ (a ∷ b ∷ c ∷ d ∷ rest)) ≡ rest
four_behind old a b c d rest =
    let shape : old ++ (a ∷ b ∷ c ∷ d ∷ rest) ≡ (old ++ (a ∷ b ∷ c ∷ d ∷ [])) ++ rest
    = sym (append_assoc old (a ∷ b ∷ c ∷ d ∷ []) rest) in
    ap (drop (length old + 4)) shape
    ∙ drop_at (old ++ (a ∷ b ∷ c ∷ d ∷ [])) rest (length old + 4) (length-append old (a ∷ b ∷ c ∷ d ∷ []))

-- once its length is put, it is spelled
pub is_sized : (table : List (ℕ × Layout)) (message : Message) (old new : List ℕ) → new ≡ old ++ unsized table message
    → take (length old) new ++ (little_bytes 4 (length new - length old) ++ drop (length old + 4) new)
    ≡ old ++ spelling table message
unfolding little_bytes spelling
is_sized table message old new e =
    let body = body_of (layout_of table message.number) message in
    let n = message.number in
    let long : length new - length old ≡ 8 + length body
    = omega (arith, ap length e, length-append old (unsized table message), unsized_size table message) in
    let front : take (length old) new ≡ old = ap (take (length old)) e
    ∙ take_at old (unsized table message) (length old) refl in
    let back : drop (length old + 4) new ≡ n % 256 ∷ n / 256 % 256 ∷ 0 ∷ 0 ∷ body
    = ap (drop (length old + 4)) e ∙ four_behind old 0 0 0 0 (n % 256 ∷ n / 256 % 256 ∷ 0 ∷ 0 ∷ body) in
    rw (front, long, back) refl

-- what holds behind a call that was not refused
pub ok_holds : {A E : Type 0} (r : Result A E) (P : Type 0) → is_err r ≡ false → OnOk r P → P
ok_holds (Ok x) P e h = h
ok_holds (Err x) P e h = absurd cc
