-- The quotient of two words as signed numbers is that of the manual.
use Rattle.std.proofs.Common.{◌∙◌, ap, FitsSigned}
use Rattle.std.proofs.lemmas.Int.{to_z-of_z}
use Rattle.std.specs.Int.{int_wrapping_div, w32}
use Rattle.rv_table.specs.Words.{bits_of}
use Rattle.rv_alu.proofs.Quotients.{quotient_of_words}
use Rattle.rv_alu.proofs.divide.divided.Goals as goal

-- what is passed and what is returned is read back as it was
pub returns : goal.returns
returns c =
    let a = to_z-of_z w32 c.args.a c.ranges.a in
    let b = to_z-of_z w32 c.args.b c.ranges.b in
    let q : FitsSigned w32 c.wrapping_div.result = record { sfits = c.wrapping_div.type_inv } in
    c.carried.ensures ∙ ap bits_of (to_z-of_z w32 c.wrapping_div.result q ∙ c.wrapping_div.ensures
    ∙ (λ i. int_wrapping_div w32 (a i) (b i))) ∙ quotient_of_words c.args.a c.args.b c.ranges.a
