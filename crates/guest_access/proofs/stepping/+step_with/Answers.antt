-- An instruction is tried with what is in hand, and again with what it asks for.
use Rattle.std.proofs.Common.{◌≡◌, ℕ, ◌-◌, ◌<◌, suc, Bool, true, false, List, refl, ap, sym, ◌∙◌, ◌⊎◌, subst, arith}
use Rattle.std.specs.Prelude.{Result, Ok, Err, IfOk, OnErr, None, is_some}
use Rattle.std.specs.Bool.{OnTrue, OnFalse}
use Rattle.mm_space.specs.Handed.{InHand, area_in, hand_of}
use Rattle.kernel_model.specs.Names.{get_named}
use Rattle.kernel_model.specs.declared.traps.Next.TheVariants.{Touches}
use Rattle.kernel_model.specs.machine.Instructions.{goes_on}
use Rattle.kernel_model.specs.machine.Spaces.{going_with}
use Rattle.guest_access.specs.Lending.{IsLent, with_hand}
use Rattle.guest_access.proofs.Lendings.{lent_more, there_same}
use Rattle.guest_access.proofs.Runs.{ran_names}
use Rattle.guest_access.proofs.SteppedLaws.{next_over, stepped_goes, stepped_calls, stepped_traps, stepped_full}
use Rattle.guest_access.proofs.SteppedLaws.{stepped_lacking, stepped_more}
use Rattle.guest_access.proofs.stepping.+step_with.Goals as goal

on_ok : {A E : Type 0} (P Q : A → Type 0) (r : Result A E) → ((x : A) → P x → Q x) → IfOk r P → IfOk r Q
on_ok P Q (Ok x) f h = f x h
on_ok P Q (Err e) f h = tt

on_err : {A E P Q : Type 0} (r : Result A E) → (P → Q) → OnErr r P → OnErr r Q
on_err (Ok x) f h = tt
on_err (Err e) f h = f h

on_true : {P : Type 0} (b : Bool) → b ≡ true → OnTrue b P → P
on_true true e h = h
on_true false e h = absurd (cc e)

on_false : {P : Type 0} (b : Bool) → b ≡ false → OnFalse b P → P
on_false false e h = h
on_false true e h = absurd (cc e)

some_more : (most : ℕ) → (most ≡ 0 → ⊥) → 0 < most
some_more most apart = omega (arith, apart)

one_more : (most : ℕ) → (most ≡ 0 → ⊥) → most ≡ suc (most - 1)
one_more most apart = omega (arith, apart)

pub returns-then-most-eq0-clause-stepped : goal.returns-then-most-eq0-clause-stepped
returns-then-most-eq0-clause-stepped t c = λ caller over.
    stepped_full caller c.args.task c.args.registers.now c.once.new.registers c.args.space.now c.once.new.space over
    c.args.most (hand_of c.args.handed.now) (hand_of c.once.new.handed) c.args.areas.now
    (c.in_ok-next.ensures.kept (ap goes_on c.in-Touches.is)) c.in-Touches.area
    (c.in_ok-next.ensures.next ∙ c.in-Touches.is) c.if-most-eq0.true

pub returns-then-not-branch-clause-stepped : goal.returns-then-not-branch-clause-stepped
returns-then-not-branch-clause-stepped t c = λ caller over.
    let same = c.in_ok-next.ensures.kept (ap goes_on c.in-Touches.is) in
    let kept = on_false c.in_ok-hand_in-in-Touches.field-0 c.if-not-branch.true
    c.in_ok-hand_in-in-Touches.ensures.kept in
    stepped_lacking caller c.args.task c.args.registers.now c.once.new.registers c.args.space.now c.once.new.space over
    c.args.most (hand_of c.args.handed.now) (hand_of c.hand_in.new.handed) c.args.areas.now c.hand_in.new.areas
    c.in-Touches.area (c.in_ok-next.ensures.next ∙ c.in-Touches.is) (same.0, same.1)
    (some_more c.args.most c.if-most-eq0.false) (kept.1 ∙ same.2) kept.0
    (subst (λ (h : List InHand). (is_some (area_in c.in-Touches.area h) ≡ true)
    ⊎ (get_named c.args.areas.now c.in-Touches.area.place c.in-Touches.area.index ≡ None)) same.2
    (on_false c.in_ok-hand_in-in-Touches.field-0 c.if-not-branch.true c.in_ok-hand_in-in-Touches.ensures.lacking))

pub step_with-requires : goal.step_with-requires
step_with-requires t c =
    let same = c.in_ok-next.ensures.kept (ap goes_on c.in-Touches.is) in
    let lent : IsLent c.in-Touches.area (hand_of c.args.handed.now) (hand_of c.hand_in.new.handed) c.args.areas.now
    c.hand_in.new.areas =
    subst (λ (h : List InHand). IsLent c.in-Touches.area h (hand_of c.hand_in.new.handed) c.args.areas.now
    c.hand_in.new.areas) same.2
    (on_true c.in_ok-hand_in-in-Touches.field-0 c.if-not-branch.false c.in_ok-hand_in-in-Touches.ensures.lent) in
    let some : 0 < c.args.most = some_more c.args.most c.if-most-eq0.false in (
      omega (arith, c.decreases, some),
      (lent_more c.in-Touches.area (hand_of c.args.handed.now) (hand_of c.hand_in.new.handed) c.args.areas.now
          c.hand_in.new.areas (with_hand (hand_of c.args.handed.now) c.args.areas.now) lent
          (record { there = c.requires; back = refl })).there,
    )

pub returns-else-not-branch-clause-stepped : goal.returns-else-not-branch-clause-stepped
returns-else-not-branch-clause-stepped t c =
    let same = c.in_ok-next.ensures.kept (ap goes_on c.in-Touches.is) in
    let lent : IsLent c.in-Touches.area (hand_of c.args.handed.now) (hand_of c.hand_in.new.handed) c.args.areas.now
    c.hand_in.new.areas =
    subst (λ (h : List InHand). IsLent c.in-Touches.area h (hand_of c.hand_in.new.handed) c.args.areas.now
    c.hand_in.new.areas) same.2
    (on_true c.in_ok-hand_in-in-Touches.field-0 c.if-not-branch.false c.in_ok-hand_in-in-Touches.ensures.lent) in
    on_ok _ _ c.step_with.result (λ next rest caller over.
    stepped_more caller c.args.most (c.args.most - 1) (one_more c.args.most c.if-most-eq0.false)
    (hand_of c.args.handed.now) (hand_of c.hand_in.new.handed) (hand_of c.step_with.new.handed) c.args.areas.now
    c.hand_in.new.areas c.step_with.new.areas c.in-Touches.area next c.step_with.new.registers c.step_with.new.space
    (next_over caller c.args.task c.args.registers.now c.once.new.registers c.args.space.now c.once.new.space over
    c.args.most (hand_of c.args.handed.now) (hand_of c.once.new.handed) c.args.areas.now (Touches c.in-Touches.area)
    (c.in_ok-next.ensures.next ∙ c.in-Touches.is))
    lent
    (lent_more c.in-Touches.area (hand_of c.args.handed.now) (hand_of c.hand_in.new.handed) c.args.areas.now
    c.hand_in.new.areas (with_hand (hand_of c.args.handed.now) c.args.areas.now) lent
    (record { there = c.requires; back = refl })).back
    (rest caller (record {
      task = over.task;
      registers = over.registers ∙ sym same.0;
      space = over.space ∙ sym same.1;
    }))) c.step_with.ensures.stepped

pub returns-else-not-branch-clause-err : goal.returns-else-not-branch-clause-err
returns-else-not-branch-clause-err t c =
    let same = c.in_ok-next.ensures.kept (ap goes_on c.in-Touches.is) in
    let lent : IsLent c.in-Touches.area (hand_of c.args.handed.now) (hand_of c.hand_in.new.handed) c.args.areas.now
    c.hand_in.new.areas =
    subst (λ (h : List InHand). IsLent c.in-Touches.area h (hand_of c.hand_in.new.handed) c.args.areas.now
    c.hand_in.new.areas) same.2
    (on_true c.in_ok-hand_in-in-Touches.field-0 c.if-not-branch.false c.in_ok-hand_in-in-Touches.ensures.lent) in
    on_err c.step_with.result (λ kept. (
      kept.0 ∙ same.0,
      kept.1 ∙ same.1,
      kept.2 ∙ (lent_more c.in-Touches.area (hand_of c.args.handed.now) (hand_of c.hand_in.new.handed)
          c.args.areas.now c.hand_in.new.areas (with_hand (hand_of c.args.handed.now) c.args.areas.now) lent
          (record { there = c.requires; back = refl })).back,
    )) c.step_with.ensures.err

pub returns-in-Goes-clause-stepped : goal.returns-in-Goes-clause-stepped
returns-in-Goes-clause-stepped t c = λ caller over.
    stepped_goes caller c.args.task c.args.registers.now c.once.new.registers c.args.space.now c.once.new.space over
    c.args.most (hand_of c.args.handed.now) (hand_of c.once.new.handed) c.args.areas.now
    (c.in_ok-next.ensures.next ∙ c.in-Goes.is) (c.in_ok-next.ensures.goes c.in-Goes.is) c.requires

pub returns-in-Goes-clause-there : goal.returns-in-Goes-clause-there
returns-in-Goes-clause-there t c =
    there_same (hand_of c.args.handed.now) (hand_of c.once.new.handed) c.args.areas.now
    (ran_names 1 (going_with c.args.task c.args.space.now (hand_of c.args.handed.now) c.args.registers.now)
    (going_with c.args.task c.once.new.space (hand_of c.once.new.handed) c.once.new.registers)
    (c.in_ok-next.ensures.goes c.in-Goes.is)) c.requires

pub returns-in-Calls-clause-stepped : goal.returns-in-Calls-clause-stepped
returns-in-Calls-clause-stepped t c = λ caller over.
    stepped_calls caller c.args.task c.args.registers.now c.once.new.registers c.args.space.now c.once.new.space over
    c.args.most (hand_of c.args.handed.now) (hand_of c.once.new.handed) c.args.areas.now
    (c.in_ok-next.ensures.kept (ap goes_on c.in-Calls.is)) (c.in_ok-next.ensures.next ∙ c.in-Calls.is)

pub returns-in-Traps-clause-stepped : goal.returns-in-Traps-clause-stepped
returns-in-Traps-clause-stepped t c = λ caller over.
    stepped_traps caller c.args.task c.args.registers.now c.once.new.registers c.args.space.now c.once.new.space over
    c.args.most (hand_of c.args.handed.now) (hand_of c.once.new.handed) c.args.areas.now
    (c.in_ok-next.ensures.kept (ap goes_on c.in-Traps.is)) c.in-Traps.signal
    (c.in_ok-next.ensures.next ∙ c.in-Traps.is)
