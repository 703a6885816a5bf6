-- Where memory is wanting for the mapping, the area that was made is taken out again.
use Rattle.std.proofs.Common.{ap, sym, ◌∙◌}
use Rattle.kernel_model.specs.Names.{get_named, without_named}
use Rattle.guest_access.proofs.Lendings.{taken_out}
use Rattle.kernel_calls.proofs.mapping.map_shared.Goals as goal

pub returns-in-Err-clause-err_areas : goal.returns-in-Err-clause-err_areas
returns-in-Err-clause-err_areas c place index =
    ap (λ m. get_named m place index)
    (c.remove.ensures.after ∙ ap (λ m. without_named m c.args.place 0) c.in_ok-insert.ensures.ok)
    ∙ taken_out c.args.areas.now c.args.place 0 _ (sym c.contains.ensures ∙ c.if-contains.false) place index
