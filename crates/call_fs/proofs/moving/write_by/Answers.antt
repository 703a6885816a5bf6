-- A write from one buffer, or from those of records, by its row.
use Rattle.std.proofs.Common.{subst, sym}
use Rattle.std.proofs.lemmas.Result.{IfOk-weaker}
use Rattle.call_fs.specs.Asked.{write_row_by}
use Rattle.call_fs.specs.Transfers.{Moves}
use Rattle.call_fs.proofs.moving.write_by.Goals as goal

pub returns-in-Buffer-clause-row : goal.returns-in-Buffer-clause-row
returns-in-Buffer-clause-row c =
    let a = c.args in
    IfOk-weaker c.write.result _ _ (λ t row fd caller k has stands console.
    subst (λ by. Moves (write_row_by by fd a.at a.count caller) t caller k a.space.now a.areas.now)
    (sym c.in-Buffer.is) (row fd caller k has stands console)) c.write.ensures.row

pub returns-in-Records-clause-row : goal.returns-in-Records-clause-row
returns-in-Records-clause-row c =
    let a = c.args in
    IfOk-weaker c.writev.result _ _ (λ t row fd caller k has stands console.
    subst (λ by. Moves (write_row_by by fd a.at a.count caller) t caller k a.space.now a.areas.now)
    (sym c.in-Records.is) (row fd caller k has stands console)) c.writev.ensures.row
