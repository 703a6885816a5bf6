-- A run of at most one tells what the next instruction does.
use Rattle.std.specs.Prelude.{Result, Ok, Err, IfOk, OnErr}
use Rattle.mm_space.specs.Handed.{hand_of}
use Rattle.mm_space.specs.Spaces.{space_of}
use Rattle.guest_access.proofs.SteppedLaws.{end_next, end_goes, end_kept, end_lacking}
use Rattle.guest_access.proofs.stepping.once.Goals as goal

on_ok : {A E : Type 0} (P Q : A → Type 0) (r : Result A E) → ((x : A) → P x → Q x) → IfOk r P → IfOk r Q
on_ok P Q (Ok x) f h = f x h
on_ok P Q (Err e) f h = tt

on_err : {A E P Q : Type 0} (r : Result A E) → (P → Q) → OnErr r P → OnErr r Q
on_err (Ok x) f h = tt
on_err (Err e) f h = f h

pub returns-clause-next : goal.returns-clause-next
returns-clause-next c =
    on_ok _ _ c.next_by.result (λ next is.
    end_next c.run_at_most-end.result c.args.task (space_of c.space.inside.space) c.args.space.now
    (space_of c.run_at_most-end.new.space) c.space.view_is (hand_of c.args.handed.now)
    (hand_of c.run_at_most-end.new.shared) c.args.registers.now c.run_at_most-end.new.regs c.run_at_most-end.ensures.ran
    c.run_at_most-end.ensures.few c.run_at_most-end.ensures.stopped next is) c.next_by.ensures.next

pub returns-clause-goes : goal.returns-clause-goes
returns-clause-goes c =
    on_ok _ _ c.next_by.result (λ next is.
    end_goes c.run_at_most-end.result c.args.task (space_of c.space.inside.space) c.args.space.now
    (space_of c.run_at_most-end.new.space) c.space.view_is (hand_of c.args.handed.now)
    (hand_of c.run_at_most-end.new.shared) c.args.registers.now c.run_at_most-end.new.regs c.run_at_most-end.ensures.ran
    c.run_at_most-end.ensures.few next is) c.next_by.ensures.next

pub returns-clause-kept : goal.returns-clause-kept
returns-clause-kept c =
    on_ok _ _ c.next_by.result (λ next is.
    end_kept c.run_at_most-end.result c.args.task (space_of c.space.inside.space) c.args.space.now
    (space_of c.run_at_most-end.new.space) c.space.view_is (hand_of c.args.handed.now)
    (hand_of c.run_at_most-end.new.shared) c.args.registers.now c.run_at_most-end.new.regs c.run_at_most-end.ensures.ran
    c.run_at_most-end.ensures.few next is) c.next_by.ensures.next

pub returns-clause-err : goal.returns-clause-err
returns-clause-err c =
    on_err c.next_by.result (λ is.
    end_lacking c.run_at_most-end.result c.args.task (space_of c.space.inside.space) c.args.space.now
    (space_of c.run_at_most-end.new.space) c.space.view_is (hand_of c.args.handed.now)
    (hand_of c.run_at_most-end.new.shared) c.args.registers.now c.run_at_most-end.new.regs c.run_at_most-end.ensures.ran
    c.run_at_most-end.ensures.few c.run_at_most-end.ensures.memory is) c.next_by.ensures.err
