-- An instruction is tried with nothing in hand first, and what it had in hand at last is put back.
use Rattle.std.proofs.Common.{List, refl, subst}
use Rattle.std.specs.Prelude.{Result, Ok, Err, IfOk}
use Rattle.mm_space.specs.Handed.{InHand, hand_of}
use Rattle.kernel_model.specs.declared.caller.Caller.{Caller}
use Rattle.guest_access.specs.Lending.{with_hand}
use Rattle.guest_access.specs.Trying.{Stepped}
use Rattle.guest_access.proofs.SteppedLaws.{next_at, steps_at, kept_over, some_caller}
use Rattle.guest_access.proofs.stepping.step.Goals as goal

on_ok : {A E : Type 0} (P Q : A → Type 0) (r : Result A E) → ((x : A) → P x → Q x) → IfOk r P → IfOk r Q
on_ok P Q (Ok x) f h = f x h
on_ok P Q (Err e) f h = tt

pub returns-clause-next : goal.returns-clause-next
returns-clause-next c =
    on_ok _ _ c.step_with-next.result (λ next stepped caller k at.
    next_at caller k c.args.task c.args.registers.now c.step_with-next.new.registers c.args.space.now
    c.step_with-next.new.space c.args.areas.now c.step_with-next.new.areas c.take_back.new.areas at
    (hand_of c.step_with-next.new.handed) next
    (subst (λ (h : List InHand). Stepped caller 17 h (with_hand h c.args.areas.now) next c.step_with-next.new.registers
    c.step_with-next.new.space (hand_of c.step_with-next.new.handed) c.step_with-next.new.areas) c.none-handed.ensures
    (stepped caller (record { task = at.task; registers = at.registers; space = at.space }))))
    c.step_with-next.ensures.stepped

pub returns-clause-goes : goal.returns-clause-goes
returns-clause-goes c =
    on_ok _ _ c.step_with-next.result (λ next stepped goes caller k at.
    steps_at caller k c.args.task c.args.registers.now c.step_with-next.new.registers c.args.space.now
    c.step_with-next.new.space c.args.areas.now c.step_with-next.new.areas c.take_back.new.areas at
    (hand_of c.step_with-next.new.handed) next
    (subst (λ (h : List InHand). Stepped caller 17 h (with_hand h c.args.areas.now) next c.step_with-next.new.registers
    c.step_with-next.new.space (hand_of c.step_with-next.new.handed) c.step_with-next.new.areas) c.none-handed.ensures
    (stepped caller (record { task = at.task; registers = at.registers; space = at.space })))
    goes c.take_back.ensures)
    c.step_with-next.ensures.stepped

pub returns-clause-kept : goal.returns-clause-kept
returns-clause-kept c =
    let caller : Caller = some_caller c.args.task c.args.registers.now c.args.space.now in
    on_ok _ _ c.step_with-next.result (λ next stepped stays.
    kept_over caller c.args.registers.now c.step_with-next.new.registers c.args.space.now
    c.step_with-next.new.space c.args.areas.now c.step_with-next.new.areas c.take_back.new.areas refl refl
    (hand_of c.step_with-next.new.handed) next
    (subst (λ (h : List InHand). Stepped caller 17 h (with_hand h c.args.areas.now) next c.step_with-next.new.registers
    c.step_with-next.new.space (hand_of c.step_with-next.new.handed) c.step_with-next.new.areas) c.none-handed.ensures
    (stepped caller (record { task = refl; registers = refl; space = refl })))
    stays c.take_back.ensures)
    c.step_with-next.ensures.stepped
