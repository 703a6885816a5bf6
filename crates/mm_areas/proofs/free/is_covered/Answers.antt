use Rattle.std.proofs.Common.{inl, inr, sym, ◌∙◌, arith}
use Rattle.std.specs.Prelude.{nat_eq}
use Rattle.std.proofs.lemmas.Bool.{cases_Bool, eqb-true, eqb-false}
use Rattle.mm_areas.specs.Regions.{pages_of}
use Rattle.mm_areas.proofs.CountLaws.{len-held, covered_held}
use Rattle.mm_areas.proofs.free.is_covered.Goals as goal

pub returns : goal.returns
returns c =
    let pages = pages_of c.args.regions.now in
    let all = len-held pages c.args.first c.args.count in
    let law = covered_held pages c.args.first c.args.count in
    elim (cases_Bool (nat_eq c.mapped_within.result c.args.count)) [
      | inl same ↦ let is = eqb-true c.mapped_within.result c.args.count same in same ∙ sym (law.0 (omega arith))
      | inr other ↦ let is_not =
          eqb-false c.mapped_within.result c.args.count other in other ∙ sym (law.1 (λ e. is_not (omega arith)))
    ]
