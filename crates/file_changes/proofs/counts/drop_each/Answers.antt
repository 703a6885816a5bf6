-- One number after another.
use Rattle.std.proofs.Common.{◌+◌, refl, ap, sym, ◌∙◌, arith}
use Rattle.kernel_model.specs.laws.Files.{all_dropped, with_one_fewer}
use Rattle.file_changes.proofs.FileCounts.{descriptions_at, numbers_from, at_last, next_closed, next_open}
use Rattle.file_changes.proofs.counts.drop_each.Goals as goal
use Rattle.file_changes.proofs.counts.drop_each.Goals.{in-Some, in_default}

pub loop-fd-preserved : goal.loop-fd-preserved
loop-fd-preserved c =
    let table = c.args.table.now in
    let fd = c.loop-fd.fd in
    elim c.match-get.branch [
      | in-Some w ↦
          ap (all_dropped (descriptions_at table (numbers_from (fd + 1)))) (w.files-is ∙ w.drop_one.ensures)
          ∙ next_open all_dropped with_one_fewer (λ name names a. refl) (λ a. refl) table fd c.loop-fd.files _
          c.loop-fd.invariant w.in-Some.descriptor (omega arith) (sym w.in-Some.ensures.value)
      | in_default w ↦
          ap (all_dropped (descriptions_at table (numbers_from (fd + 1)))) w.files-is
          ∙ next_closed all_dropped with_one_fewer (λ name names a. refl) (λ a. refl) table fd c.loop-fd.files _
          c.loop-fd.invariant (omega arith) (sym w.in_default.ensures.value)
    ]

pub returns : goal.returns
returns c =
    at_last all_dropped with_one_fewer (λ name names a. refl) (λ a. refl) c.args.table.now c.loop-fd.fd
    c.loop-fd.files _ c.loop-fd.invariant (omega arith)
