-- The registers that were set are there to be put back.
use Rattle.std.proofs.Common.{◌+◌, ap, ◌∙◌}
use Rattle.std.specs.Prelude.{is_some}
use Rattle.std.specs.FinMap.{contains_key}
use Rattle.sn_base.proofs.Maps.{get-insert_same}
use Rattle.kernel_calls.proofs.making.make.Goals as goal

pub put_back-requires : goal.put_back-requires
put_back-requires c =
    let number = c.from-number.result + 1 in
    ap (λ m. contains_key m number) c.in_ok-insert.ensures.ok
    ∙ ap is_some (get-insert_same c.args.registers.now number c.args.child.registers)
