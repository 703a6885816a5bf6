use Rattle.std.proofs.Common.{ap, ◌∙◌, sym}
use Rattle.std.specs.Prelude.{Result, Ok, Err, OnErr}
use Rattle.std.specs.FinMap as map
use Rattle.sn_base.proofs.Maps.{get_entry, one_inserted}
use Rattle.sn_base.proofs.map.Map.insert.Goals as goal

on_err : {A E : Type 0} (P : Type 0) (r : Result A E) → P → OnErr r P
on_err P (Ok _) p = tt
on_err P (Err _) p = p

pub returns-clause-ok : goal.returns-clause-ok
returns-clause-ok g c =
    one_inserted c.self.inside.entries.entries c.insert.new.self.entries c.args.key c.args.value
    c.in_ok-insert.ensures.updates.0
    ∙ ap (λ m. map.insert m c.args.key c.args.value) c.self.view_is

pub returns-in_err-insert-clause-absent : goal.returns-in_err-insert-clause-absent
returns-in_err-insert-clause-absent g c =
    on_err _ c.from_residual.result (ap (λ m. map.get m c.args.key) (sym c.self.view_is)
    ∙ get_entry c.self.inside.entries.entries c.args.key ∙ c.in_err-insert.ensures.absent)
