-- All tasks of the caller's thread group end.
use Rattle.std.proofs.Common.{Result, Ok, Err, IfOk}
use Rattle.kernel_calls.proofs.Endings.{group_ends}
use Rattle.kernel_calls.proofs.ending.end_group.Goals as goal

-- of a value that has three properties
by_all : {T E : Type 0} (r : Result T E) (P Q S R : T → Type 0) → ((x : T) → P x → Q x → S x → R x) → IfOk r P
    → IfOk r Q → IfOk r S → IfOk r R
by_all (Ok x) P Q S R f p q s = f x p q s
by_all (Err e) P Q S R f p q s = tt

pub returns-clause-ends : goal.returns-clause-ends
returns-clause-ends c =
    let a = c.args in
    let new = c.ending_of.new in
    by_all c.ending_of.result _ _ _ _ (λ e so ends shut caller k waiting console calling.
    group_ends caller k a.context.now a.space.now a.areas.now a.tasks.now waiting console calling c.in_ok-ended.ended e
    new.space new.areas a.status so (ends caller k a.tasks.now waiting console calling) c.in_ok-ended.ensures
    shut) c.ending_of.ensures.status c.ending_of.ensures.ends c.ending_of.ensures.closes
