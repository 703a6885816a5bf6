-- What a new process begins with, by what was put into its words.
use Rattle.std.proofs.Common.{Some, refl, ap, ◌∙◌}
use Rattle.kernel_model.specs.calls.Clone.{sets_child_word, sets_parent_word}
use Rattle.kernel_calls.proofs.ClonedWords.{word_unasked, words_left, words_lost}
use Rattle.kernel_calls.proofs.Clones.{child_alone, child_with, process_barred, process_makes, process_unset}
use Rattle.kernel_calls.proofs.clone.process.Goals as goal

pub returns-then-not-sets_child_word-clause-made : goal.returns-then-not-sets_child_word-clause-made
returns-then-not-sets_child_word-clause-made c caller k list waiting console calling registers next free =
    let a = c.args in
    process_makes a.args.now a.number calling next free
    (word_unasked a.context.now.task c.sets_parent_word.result a.space.now a.areas.now a.args.now.a2 a.number
    c.if-not-sets_parent_word.true) (c.sets_parent_word.ensures ∙ ap sets_parent_word c.flags_of-flags.ensures) refl
    refl refl
    (word_unasked a.context.now.task c.sets_child_word.result c.in_ok-memory.memory a.areas.now a.args.now.a4
    a.number c.if-not-sets_child_word.true)
    (c.sets_child_word.ensures ∙ ap sets_child_word c.flags_of-flags.ensures) c.in_ok-memory.ensures.child
    c.new_child.result refl
    (child_alone c.new_child.result a.args.now (Some c.in_ok-memory.memory) a.registers.now calling registers
    c.new_child.ensures.registers c.new_child.ensures.clear c.new_child.ensures.memory c.new_child.ensures.words)

pub returns-in_default-clause-made : goal.returns-in_default-clause-made
returns-in_default-clause-made c caller k list waiting console calling registers next free =
    let a = c.args in
    let lost = words_lost c.in_ok-words.ensures.words c.in_default.is in
    process_unset a.args.now a.number calling next free lost.2 refl c.fork.ensures.kept refl refl

pub returns-then-not-branch-clause-made : goal.returns-then-not-branch-clause-made
returns-then-not-branch-clause-made c caller k list waiting console calling registers next free =
    let a = c.args in
    process_barred a.args.now a.number calling next free (words_left c.in_ok-words.ensures.words c.in-Some.is) refl
    c.fork.ensures.kept refl refl c.in_ok-set_child_word.ensures refl c.in_ok-memory.ensures.child c.if-not-branch.true

pub returns-clause-made : goal.returns-clause-made
returns-clause-made c caller k list waiting console calling registers next free =
    let a = c.args in
    process_makes a.args.now a.number calling next free (words_left c.in_ok-words.ensures.words c.in-Some.is) refl
    c.fork.ensures.kept refl refl c.in_ok-set_child_word.ensures refl c.in_ok-memory.ensures.child c.new_child-2.result
    c.if-not-branch.false
    (child_with c.new_child-2.result a.args.now (Some c.set_child_word.new.space) a.registers.now calling registers
    c.new_child-2.ensures.registers c.new_child-2.ensures.clear c.new_child-2.ensures.memory
    (record { space = c.in-Some.words.space; areas = c.set_child_word.new.areas }) c.new_child-2.ensures.words)
