use Rattle.std.proofs.Common.{sym, ◌∙◌}
use Rattle.mm_space.specs.Accesses.{byte_at}
use Rattle.mm_space.specs.Spaces.{reach}
use Rattle.mm_space.proofs.Accessed.{value_there, fault_there, area_there}
use Rattle.mm_space.proofs.space.Space.far_number.Goals as goal

pub returns-in-Some-clause-number : goal.returns-in-Some-clause-number
returns-in-Some-clause-number c =
    fault_there (byte_at c.args.right (reach c.args.self.now c.args.handed.now)) c.args.at c.args.width c.in-Some.addr
    (sym c.first_barred.ensures ∙ c.in-Some.is)

pub returns-in-Some-first_area-clause-number : goal.returns-in-Some-first_area-clause-number
returns-in-Some-first_area-clause-number c =
    area_there (byte_at c.args.right (reach c.args.self.now c.args.handed.now)) c.args.at c.args.width
    c.in-Some-first_area.area
    (sym c.first_barred.ensures ∙ c.in_default.is) (sym c.first_area.ensures ∙ c.in-Some-first_area.is)

pub returns-clause-number : goal.returns-clause-number
returns-clause-number c =
    value_there (byte_at c.args.right (reach c.args.self.now c.args.handed.now)) c.args.at
    c.args.width c.number_from.result
    (sym c.first_barred.ensures ∙ c.in_default.is) (sym c.first_area.ensures
    ∙ c.in_default-first_area.is) c.number_from.ensures.number
