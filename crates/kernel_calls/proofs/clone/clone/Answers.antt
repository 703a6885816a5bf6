-- A call that is refused, or makes a process or a thread.
use Rattle.std.proofs.Common.{◌≡◌, ◌+◌, Some, refl, ap, sym, ◌∙◌, subst}
use Rattle.sn_errno.specs.declared.errno.Errno.TheVariants.{EAGAIN, EFAULT, EINVAL}
use Rattle.task_table.specs.Table.{TaskTable}
use Rattle.kernel_model.specs.calls.Callers.{context_of}
use Rattle.kernel_model.specs.calls.Clone.{clone_row, is_full}
use Rattle.kernel_calls.specs.Clones.{MakesIf, is_shape}
use Rattle.kernel_calls.proofs.Answering.{answers_refused, has_space}
use Rattle.kernel_calls.proofs.Clones.{row_full, row_invalid}
use Rattle.kernel_calls.proofs.clone.clone.Goals as goal

pub returns-then-not-is_shape-clause-row : goal.returns-then-not-is_shape-clause-row
returns-then-not-is_shape-clause-row c caller k waiting console calling registers =
    let a = c.args in
    answers_refused (clone_row (context_of k) a.args.now caller) c.refused.result caller k a.space.now a.space.now
    a.areas.now (has_space caller k a.context.now a.space.now a.areas.now a.tasks.now waiting console calling) EINVAL
    (row_invalid caller k a.args.now
    (ap is_shape (sym c.flags_of.ensures) ∙ sym c.is_shape.ensures ∙ c.if-not-is_shape.true))
    c.refused.ensures.reply c.refused.ensures.effect refl (sym calling.areas)

pub returns-then-is_full-clause-row : goal.returns-then-is_full-clause-row
returns-then-is_full-clause-row c caller k waiting console calling registers =
    let a = c.args in
    answers_refused (clone_row (context_of k) a.args.now caller) c.refused-then-is_full.result caller k a.space.now
    a.space.now a.areas.now
    (has_space caller k a.context.now a.space.now a.areas.now a.tasks.now waiting console calling) EAGAIN
    (row_full caller k a.args.now
    (ap is_shape (sym c.flags_of.ensures) ∙ sym c.is_shape.ensures ∙ c.if-not-is_shape.false)
    (ap is_full calling.tasks ∙ sym c.is_full.ensures ∙ c.if-is_full.true))
    c.refused-then-is_full.ensures.reply c.refused-then-is_full.ensures.effect refl (sym calling.areas)

pub returns-in_ok-new-in-Some-clause-row : goal.returns-in_ok-new-in-Some-clause-row
returns-in_ok-new-in-Some-clause-row c caller k waiting console calling registers =
    let a = c.args in
    let next : c.last-number.result + 1 ≡ k.tasks.last + 1
    = ap (λ n. n + 1) (c.last-number.ensures ∙ sym (ap (λ (t : TaskTable). t.last) calling.tasks)) in
    subst (λ o. MakesIf (clone_row (context_of k) a.args.now caller) o caller k)
    (c.in-Some.is ∙ ap Some (sym c.in_ok-new-in-Some.ensures))
    (c.in_ok-child.ensures.made caller k a.tasks.now waiting console calling registers next
    (ap is_full calling.tasks ∙ sym c.is_full.ensures ∙ c.if-is_full.false)
    (ap is_shape (sym c.flags_of.ensures) ∙ sym c.is_shape.ensures ∙ c.if-not-is_shape.false))

pub returns-in-None-clause-row : goal.returns-in-None-clause-row
returns-in-None-clause-row c caller k waiting console calling registers =
    let a = c.args in
    let next : c.last-number.result + 1 ≡ k.tasks.last + 1
    = ap (λ n. n + 1) (c.last-number.ensures ∙ sym (ap (λ (t : TaskTable). t.last) calling.tasks)) in
    answers_refused (clone_row (context_of k) a.args.now caller) c.refused-in-None.result caller k a.space.now _
    _ (has_space caller k a.context.now a.space.now a.areas.now a.tasks.now waiting console calling) EFAULT
    (subst (λ o. MakesIf (clone_row (context_of k) a.args.now caller) o caller k) c.in-None.is
    (c.in_ok-child.ensures.made caller k a.tasks.now waiting console calling registers next
    (ap is_full calling.tasks ∙ sym c.is_full.ensures ∙ c.if-is_full.false)
    (ap is_shape (sym c.flags_of.ensures) ∙ sym c.is_shape.ensures ∙ c.if-not-is_shape.false)))
    c.refused-in-None.ensures.reply c.refused-in-None.ensures.effect c.made.ensures.kept
    (c.made.ensures.kept_areas ∙ sym calling.areas)
