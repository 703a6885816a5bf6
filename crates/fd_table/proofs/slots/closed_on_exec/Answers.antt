use Rattle.std.proofs.Common.{rules, ap, ◌∙◌}
use Rattle.std.specs.Prelude.{filter}
use Rattle.std.proofs.lemmas.Fn.{filter_same}
use Rattle.fd_table.specs.Slots.{table_of}
use Rattle.fd_table.specs.Tables.{is_closed_on_exec}
use Rattle.fd_table.proofs.slots.closed_on_exec.Goals as goal

pub returns : goal.returns
returns c =
    filter_same _ (is_closed_on_exec (table_of c.args.slots.now)) _
    (λ x b f' k. search rules) _ _ c.retain.ensures.filtered
    ∙ ap (filter (is_closed_on_exec (table_of c.args.slots.now))) c.in_ok-numbers.ensures
