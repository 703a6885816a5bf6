-- How many bytes the buffers have that are written, and the row of a write of some.
use Rattle.std.proofs.Common.{◌≡◌, ◌==◌, false, cond, List, [], ap, min, sym, ◌∙◌}
use Rattle.std.specs.Prelude.{pos}
use Rattle.std.proofs.lemmas.Bool.{ne_eqb}
use Rattle.std.proofs.lemmas.Result.{IfOk-weaker}
use Rattle.stat_layout.specs.IoVecs.{total_of}
use Rattle.stat_layout.specs.declared.iovec.IoVec.{IoVec}
use Rattle.kernel_model.specs.calls.Answers.{replies}
use Rattle.kernel_model.specs.calls.ReadWrite.{writes}
use Rattle.kernel_model.specs.calls.Vectors.{cut}
use Rattle.kernel_model.specs.entries.Parts.{done, outcome_in, parts}
use Rattle.call_fs.specs.Transfers.{writes_from}
use Rattle.call_fs.proofs.Cuts.{total_cut}
use Rattle.call_fs.proofs.Transferring.{moves_alike}
use Rattle.call_fs.proofs.vectors_write.writes_all.Goals as goal

pub writes_from-requires-clause-all : goal.writes_from-requires-clause-all
writes_from-requires-clause-all c =
    c.min.ensures
    ∙ ap (λ n. min n 65536) c.bytes_of-count.ensures
    ∙ sym (total_cut 65536 c.args.buffers.now)
    ∙ ap (λ (l : List IoVec). total_of l) (sym c.in_ok-first.ensures)

pub returns-in_ok-first-clause-row : goal.returns-in_ok-first-clause-row
returns-in_ok-first-clause-row c =
    let a = c.args in
    let d = a.opened.now.file.description in
    let first = c.in_ok-first.first in
    let some : (total_of a.buffers.now == 0) ≡ false
    = ap (λ n. n == 0) (sym c.bytes_of-count.ensures) ∙ ne_eqb c.bytes_of-count.result 0 c.if-count-eq0.false in
    IfOk-weaker c.writes_from.result _ _ (λ t row caller k writing.
    moves_alike (writes caller a.buffers.now d) (writes_from caller d first) t caller k a.space.now a.areas.now
    (ap (λ b. outcome_in (parts k)
    (cond b (done (replies (pos 0) [])) (writes_from caller d (cut 65536 a.buffers.now)))) some
    ∙ ap (λ (l : List IoVec). outcome_in (parts k) (writes_from caller d l)) (sym c.in_ok-first.ensures))
    (row caller k writing)) c.writes_from.ensures.row
