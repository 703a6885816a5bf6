-- A read into one buffer, or into those of records, by its row.
use Rattle.std.proofs.Common.{subst, sym}
use Rattle.std.proofs.lemmas.Result.{IfOk-weaker}
use Rattle.call_fs.specs.Asked.{read_row_by}
use Rattle.call_fs.specs.Transfers.{Moves}
use Rattle.call_fs.proofs.moving.read_by.Goals as goal

pub returns-in-Buffer-clause-row : goal.returns-in-Buffer-clause-row
returns-in-Buffer-clause-row c =
    let a = c.args in
    IfOk-weaker c.read.result _ _ (λ t row fd caller k same has stands.
    subst (λ by. Moves (read_row_by by fd a.at a.count caller) t caller k c.read.new.space c.read.new.areas)
    (sym c.in-Buffer.is) (row fd caller k same has stands)) c.read.ensures.row

pub returns-in-Records-clause-row : goal.returns-in-Records-clause-row
returns-in-Records-clause-row c =
    let a = c.args in
    IfOk-weaker c.readv.result _ _ (λ t row fd caller k same has stands.
    subst (λ by. Moves (read_row_by by fd a.at a.count caller) t caller k c.readv.new.space c.readv.new.areas)
    (sym c.in-Records.is) (row fd caller k same has stands)) c.readv.ensures.row
