-- One buffer, or several.
use Rattle.std.proofs.Common.{◌≡◌, ap, rules, ◌∙◌}
use Rattle.kernel_model.specs.calls.Vectors.{gathered}
use Rattle.kernel_model.specs.entries.Parts.{outcome_in, parts}
use Rattle.call_fs.specs.Transfers.{appended_by, by_bytes}
use Rattle.call_fs.proofs.Gathered.{one_gathered, several_gathered}
use Rattle.call_fs.proofs.Transferring.{on_ok}
use Rattle.call_fs.proofs.transfers.append_bytes.Goals as goal

pub returns-in-One-clause-ok : goal.returns-in-One-clause-ok
returns-in-One-clause-ok c =
    let a = c.args in
    on_ok c.append_one.result
    (λ does k areas console.
    ap (λ o. by_bytes appended_by o k) (one_gathered (parts k) a.space.now a.from.now c.in-One.buffer c.in-One.is)
    ∙ does k areas console)
    c.append_one.ensures.ok

pub returns-in-Several-clause-ok : goal.returns-in-Several-clause-ok
returns-in-Several-clause-ok c =
    let a = c.args in
    let same : c.in-Several.buffers ≡ c.as_slice.result.now = search rules in
    on_ok c.append_all.result
    (λ does k areas console.
    ap (λ o. by_bytes appended_by o k)
    (several_gathered (parts k) a.space.now a.from.now c.in-Several.buffers c.in-Several.is
    ∙ ap (λ l. outcome_in (parts k) (gathered a.space.now l)) same)
    ∙ does k areas console)
    c.append_all.ensures.ok
