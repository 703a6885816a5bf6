-- A text and the zeros behind it are a field.
use Rattle.std.proofs.Common.{◌≡◌, ℕ, ◌-◌, ◌++◌, length, take, drop, replicate, ap, ◌∙◌}
use Rattle.std.proofs.Common.{append_assoc, arith}
use Rattle.std.proofs.lemmas.List.{drop-replicate, take-replicate}
use Rattle.std.proofs.lemmas.Result.{on_ok_weaker}
use Rattle.kernel_calls.proofs.identity.add_field.Goals as goal

-- what is left of a field's zeros behind so many bytes
zeros_behind : (count : ℕ)
    → take {A = ℕ} (65 - count) (drop count (replicate {A = ℕ} 65 0)) ≡ replicate {A = ℕ} (65 - count) 0
zeros_behind count =
    ap (take (65 - count)) (drop-replicate count 65 0)
    ∙ take-replicate (65 - count) (65 - count) 0 (omega arith)

pub returns : goal.returns
returns c =
    let names = c.args.names.now in
    let text = c.args.text.now in
    on_ok_weaker c.extend_from_slice-2.result (λ put.
    put
    ∙ ap (λ zeros. c.extend_from_slice.new.self ++ zeros) (zeros_behind (length text))
    ∙ ap (λ before. before ++ replicate (65 - length text) 0) c.in_ok-extend_from_slice.ensures.ok
    ∙ append_assoc names text (replicate (65 - length text) 0)) c.extend_from_slice-2.ensures.ok
