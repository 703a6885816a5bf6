use Rattle.std.proofs.Common.{ap, sym, ◌∙◌}
use Rattle.std.proofs.lemmas.Option.{none-some}
use Rattle.sn_base.proofs.Maps.{get_of_empty}
use Rattle.tied_cells.specs.Counts.{or_zero, count_in}
use Rattle.tied_cells.specs.Machines.{times}
use Rattle.tied_cells.proofs.setup.Setup.book.Goals as goal

pub invariant_of-log-clause-tied : goal.invariant_of-log-clause-tied
invariant_of-log-clause-tied g c = λ k x at. c.args.self.noughts k x at
    ∙ sym (ap (λ l. times g.M.Machine.rules k l) c.args.self.none)

pub invariant_of-log-clause-counted : goal.invariant_of-log-clause-counted
invariant_of-log-clause-counted g c = λ k small.
    ap (λ m. count_in m k) c.new-2.ensures ∙ ap or_zero (get_of_empty k)
    ∙ sym (ap (λ l. times g.M.Machine.rules k l) c.args.self.none)

pub invariant_of-log-clause-had : goal.invariant_of-log-clause-had
invariant_of-log-clause-had g c = λ k x low small at. absurd (none-some x (sym (c.args.self.fresh k low small) ∙ at))
