-- The quotient of words, by one that is not 0.
use Rattle.std.proofs.Common.{◌∙◌, ap, sym, int_div}
use Rattle.std.proofs.lemmas.Int.{to_z-of_z}
use Rattle.std.specs.Int.{w32}
use Rattle.rv_table.specs.Words.{bits_of, word, low_word}
use Rattle.rv_alu.proofs.Quotients.{by_some}
use Rattle.rv_alu.proofs.divide.word_quotient.Goals as goal

pub returns-else-low_word-eq0 : goal.returns-else-low_word-eq0
returns-else-low_word-eq0 c =
    let a = c.signed_word in
    let b = c.signed_word-else-low_word-eq0 in
    let a_is = to_z-of_z w32 a.result (record { sfits = a.type_inv }) ∙ a.ensures in
    let b_is = to_z-of_z w32 b.result (record { sfits = b.type_inv }) ∙ b.ensures in
    c.divided.ensures ∙ (λ i. word (bits_of (int_div (a_is i) (b_is i))))
    ∙ sym (ap word (by_some (low_word c.args.b) _ _ (λ none. c.if-low_word-eq0.false (c.low_word.ensures ∙ none))))
