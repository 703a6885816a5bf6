-- What is told after one call and then another.
use Rattle.std.proofs.Common.{◌≡◌, ℕ, ◌+◌, ◌-◌, List, ◌++◌, length, take, drop, Option, Some, None, refl, ap, sym, ◌∙◌}
use Rattle.std.proofs.Common.{append_assoc}
use Rattle.std.proofs.lemmas.List.{take_rest}
use Rattle.std.proofs.Math.Seq.{take-add}
use Rattle.sn_edge.specs.Taken.{with_taken}

-- two pieces, one behind the other, are one piece
taken-then : (t : Option (List ℕ)) (bytes : List ℕ) (m n : ℕ)
    → with_taken (with_taken t (take m bytes)) (take n (drop m bytes)) ≡ with_taken t (take (m + n) bytes)
taken-then None bytes m n = refl
taken-then (Some taken) bytes m n =
    ap Some (append_assoc taken (take m bytes) (take n (drop m bytes))
    ∙ ap (λ piece. taken ++ piece) (sym (take-add m n bytes)))

-- the same, where the second is a front of all that is left
pub taken_more : (t : Option (List ℕ)) (bytes : List ℕ) (m n : ℕ)
    → with_taken (with_taken t (take m bytes)) (take n (take (length bytes - m) (drop m bytes)))
    ≡ with_taken t (take (m + n) bytes)
taken_more t bytes m n =
    ap (λ piece. with_taken (with_taken t (take m bytes)) (take n piece)) (take_rest bytes m) ∙ taken-then t bytes m n
