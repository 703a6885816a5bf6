-- The words are in place as if they had been there before the child's memory.
use Rattle.std.proofs.Common.{◌≡◌, ◌≢◌, ℕ, ◌⊎◌, refl, ap, sym, subst, ◌∙◌}
use Rattle.sn_base.specs.declared.made.Made.{Made}
use Rattle.task_table.specs.Clones.{forked}
use Rattle.task_table.specs.Table.{TaskTable}
use Rattle.kernel_model.specs.Names.{has_named, with_named}
use Rattle.kernel_model.specs.calls.Clone.{made_for_child}
use Rattle.kernel_model.specs.declared.open_files.OpenFiles.{OpenFiles}
use Rattle.kernel_model.specs.laws.Files.{with_copy}
use Rattle.kernel_calls.specs.Making.{with_new_task, with_words}
use Rattle.kernel_calls.proofs.Children.{has_still, other_name, same_name, words_behind, words_hidden}
use Rattle.kernel_calls.proofs.making.make_task.Goals as goal

pub put_words-requires-else-eq : goal.put_words-requires-else-eq
put_words-requires-else-eq c =
    let context = c.args.context.now in
    ap (λ m. has_named m context.memory.place context.memory.index) c.in_ok-make_process-in-Some.ensures.ok_spaces
    ∙ has_still c.args.spaces.now context.place 0 context.memory.place context.memory.index c.in-Some.memory
    c.requires.memory

-- a task that was made in a table is made in one that is the same
forked_in : (table made : TaskTable) (list : TaskTable) (task number : ℕ) (name : Made) (clear : ℕ)
    → made ≡ forked table task name name clear → list ≡ table → number ≡ task
    → made ≡ forked list number name name clear
forked_in table made list task number name clear e f g =
    e ∙ ap (λ t. forked t task name name clear) (sym f) ∙ ap (λ n. forked list n name name clear) (sym g)

-- and so a copy of a table
copied_in : (table own : Made) (place : ℕ) (files those copied : OpenFiles)
    → copied ≡ with_copy table (made_for_child place) files → those ≡ files → own ≡ table
    → copied ≡ with_copy own (made_for_child place) those
copied_in table own place files those copied e f g =
    e ∙ ap (with_copy table (made_for_child place)) (sym f)
    ∙ ap (λ t. with_copy t (made_for_child place) those) (sym g)

pub returns-then-eq-clause-ok : goal.returns-then-eq-clause-ok
returns-then-eq-clause-ok c caller k task memory table tasks spaces areas files =
    let a = c.args in
    let context = a.context.now in
    let same =
    same_name context.memory.place context.memory.index context.place 0 (sym c.eq.ensures ∙ c.if-eq.true) in
    ap (λ m. with_new_task context.place m a.child.clear caller (with_words a.child.words caller k)) c.in-Some.is
    ∙ words_hidden caller k context.place a.child.clear c.in-Some.memory a.child.words c.make_process.new.tasks
    c.make_process.new.spaces c.put_areas.new.areas c.make_process.new.files
    (subst (λ (m : Made). (m.place ≡ context.place) × (m.index ≡ 0)) (sym memory) same)
    (forked_in a.tasks.now c.make_process.new.tasks k.tasks context.task caller.task (made_for_child context.place)
    a.child.clear c.in_ok-make_process-in-Some.ensures.ok tasks task)
    (c.in_ok-make_process-in-Some.ensures.ok_spaces
    ∙ ap (λ m. with_named m context.place 0 c.in-Some.memory) (sym spaces))
    (copied_in context.table caller.table context.place a.files.now k.files c.make_process.new.files
    c.in_ok-make_process-in-Some.ensures.ok_files files table)
    (c.put_areas.ensures caller k areas)

pub returns-else-eq-clause-ok : goal.returns-else-eq-clause-ok
returns-else-eq-clause-ok c caller k task memory table tasks spaces areas files =
    let a = c.args in
    let context = a.context.now in
    let other =
    other_name context.memory.place context.memory.index context.place 0 (sym c.eq.ensures ∙ c.if-eq.false) in
    ap (λ m. with_new_task context.place m a.child.clear caller (with_words a.child.words caller k)) c.in-Some.is
    ∙ words_behind caller k context.place a.child.clear c.in-Some.memory a.child.words c.make_process.new.tasks
    c.make_process.new.spaces c.put_words-else-eq.new.spaces c.put_words-else-eq.new.areas c.make_process.new.files
    (subst (λ (m : Made). (m.place ≢ context.place) ⊎ ((m.place ≡ context.place) × (m.index ≢ 0))) (sym memory) other)
    (forked_in a.tasks.now c.make_process.new.tasks k.tasks context.task caller.task (made_for_child context.place)
    a.child.clear c.in_ok-make_process-in-Some.ensures.ok tasks task)
    (c.in_ok-make_process-in-Some.ensures.ok_spaces
    ∙ ap (λ m. with_named m context.place 0 c.in-Some.memory) (sym spaces))
    (copied_in context.table caller.table context.place a.files.now k.files c.make_process.new.files
    c.in_ok-make_process-in-Some.ensures.ok_files files table)
    (c.put_words-else-eq.ensures caller _ memory refl areas)
