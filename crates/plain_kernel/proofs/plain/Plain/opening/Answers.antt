-- A record that is not the mount file's misfits, and else the tasks begin over bare roots.
use Rattle.std.proofs.Common.{sym, ◌∙◌}
use Rattle.std.proofs.lemmas.Result.{err_from_is_err_and}
use Rattle.plain_kernel.proofs.BeginLemmas.{opening_misfit, begun_from, refused_same}
use Rattle.plain_kernel.proofs.plain.Plain.opening.Goals as goal

pub returns-then-not-is_of-clause-refused : goal.returns-then-not-is_of-clause-refused
returns-then-not-is_of-clause-refused c =
    opening_misfit c.args.mounts.now c.args.trees.now c.args.opened.now (sym c.is_of.ensures ∙ c.if-not-is_of.true)

pub returns-in_err-begin_tasks-clause-refused : goal.returns-in_err-begin_tasks-clause-refused
returns-in_err-begin_tasks-clause-refused c =
    let p =
    err_from_is_err_and c.from_residual-in_err-begin_tasks.result c.from_residual-in_err-begin_tasks.ensures.1 in
    rw (p.1, p.2) (refused_same _ _ c.in_err-begin_tasks.field-0.0
    (begun_from c.args.mounts.now c.args.trees.now c.args.opened.now (sym c.is_of.ensures
    ∙ c.if-not-is_of.false) c.as_slice-2.result.now c.as_slice-3.result.now c.as_slice.result.now
    c.in_ok-kernel.kernel c.as_slice-2.ensures c.as_slice-3.ensures c.as_slice.ensures c.in_ok-kernel.ensures)
    c.in_err-begin_tasks.ensures.refused)

pub returns-clause-ok : goal.returns-clause-ok
returns-clause-ok c =
    begun_from c.args.mounts.now c.args.trees.now c.args.opened.now (sym c.is_of.ensures
    ∙ c.if-not-is_of.false) c.as_slice-2.result.now c.as_slice-3.result.now c.as_slice.result.now
    c.in_ok-kernel.kernel c.as_slice-2.ensures c.as_slice-3.ensures c.as_slice.ensures c.in_ok-kernel.ensures
    ∙ c.in_ok-begin_tasks.ensures.ok
