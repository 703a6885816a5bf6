-- A buffer whose end is read into, piece by piece.
use Rattle.std.proofs.Common.{◌≡◌, ℕ, List, ◌++◌, ap, append_assoc, length-append, ◌∙◌, sym, subst, ◌+◌, ◌-◌, ◌≤◌}
use Rattle.std.proofs.Common.{arith, length, take, Option, Some, None}
use Rattle.std.proofs.lemmas.List.{take-append-le, length-take-le}
use Rattle.std.proofs.Math.Seq.{take-append-add}
use Rattle.std.specs.Io.KnownBytes.{Consumes}
use borrow.Rule.Slice.PartMut.{put_mid, post_of}

-- what was read, and then more, is what both are together
pub consumes_more : (a b c : Option (List ℕ)) (xs ys : List ℕ) → Consumes a b xs → Consumes b c ys
    → Consumes a c (xs ++ ys)
consumes_more None b c xs ys h k = tt
consumes_more (Some x) None c xs ys h k = absurd h
consumes_more (Some x) (Some y) None xs ys h k = k
consumes_more (Some x) (Some y) (Some z) xs ys h k = h ∙ ap (λ l. xs ++ l) k ∙ sym (append_assoc xs ys z)

-- a buffer whose end was read into begins with what it had, and then what was read
pub take_placed : (buf part : List ℕ) (done n : ℕ) → done ≤ length buf → n ≤ length part
    → take (done + n) (put_mid done (length buf - done) buf part) ≡ take done buf ++ take n part
take_placed buf part done n within few =
    let rest = post_of done (length buf - done) buf in
    let long : length (take done buf) ≡ done = length-take-le done buf within in
    let here : take (length (take done buf) + n) (take done buf ++ (part ++ rest))
    ≡ take done buf ++ take n (part ++ rest) =
    take-append-add (take done buf) (part ++ rest) n in
    let P : ℕ → Type 0 = λ k. take (k + n) (take done buf ++ (part ++ rest)) ≡ take done buf ++ take n (part ++ rest) in
    subst P long here ∙ ap (λ l. take done buf ++ l) (take-append-le n part rest few)

-- what was read into a buffer's end lies in it
pub placed_within : (buf part : List ℕ) (done n : ℕ) → done ≤ length buf → n ≤ length part
    → done + n ≤ length (put_mid done (length buf - done) buf part)
placed_within buf part done n within few =
    let rest = post_of done (length buf - done) buf in
    let a : length (take done buf ++ (part ++ rest)) ≡ length (take done buf) + length (part ++ rest) =
    length-append (take done buf) (part ++ rest) in
    let b : length (part ++ rest) ≡ length part + length rest = length-append part rest in
    let c : length (take done buf) ≡ done = length-take-le done buf within in
    omega arith
