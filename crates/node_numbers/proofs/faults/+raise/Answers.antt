-- A rise that is taken back leaves the counts as they were.
use Rattle.std.proofs.Common.{ℕ, ap, ◌∙◌}
use Rattle.std.specs.Prelude.{is_some, slice_index_or}
use Rattle.std.specs.FinMap as map
use Rattle.sn_base.proofs.Maps.{get-insert_same}
use Rattle.kernel_model.specs.entries.Parts.{set_at}
use Rattle.node_numbers.proofs.FaultLemmas.{count_restored}
use Rattle.node_numbers.proofs.faults.+raise.Goals as goal

pub restore-requires : goal.restore-requires
restore-requires t c =
    let ino : ℕ = (slice_index_or c.args.rises.now 0 (record { ino = 0; count = 0 })).ino in
    ap (λ m. map.contains_key m ino) (c.in-Err.ensures.err ∙ c.in_ok-insert.ensures.ok)
    ∙ ap is_some (get-insert_same c.args.failed.now ino c.capped_add-count.result)

pub returns-in-Err-clause-err : goal.returns-in-Err-clause-err
returns-in-Err-clause-err t c =
    let ino : ℕ = (slice_index_or c.args.rises.now 0 (record { ino = 0; count = 0 })).ino in
    c.restore.ensures ∙ ap (set_at ino c.copied-before.result) (c.in-Err.ensures.err ∙ c.in_ok-insert.ensures.ok)
    ∙ count_restored c.args.failed.now ino c.capped_add-count.result c.copied-before.result (c.copied-before.ensures
    ∙ c.get.ensures)
