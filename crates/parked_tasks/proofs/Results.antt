-- What holds of a result, by what else does.
use Rattle.std.specs.Prelude.{Result, Ok, Err, IfOk, OnOk, OnErr}

-- on success
pub on_ok : {A E : Type 0} (P Q : A → Type 0) (r : Result A E) → ((x : A) → P x → Q x) → IfOk r P → IfOk r Q
on_ok P Q (Ok x) f p = f x p
on_ok P Q (Err e) f p = tt

pub with_ok : {A E : Type 0} (P Q S : A → Type 0) (r : Result A E) → ((x : A) → P x → Q x → S x) → IfOk r P
    → IfOk r Q → IfOk r S
with_ok P Q S (Ok x) f p q = f x p q
with_ok P Q S (Err e) f p q = tt

-- and on an error
pub on_err : {A E P Q : Type 0} (r : Result A E) → (P → Q) → OnErr r P → OnErr r Q
on_err (Ok x) f p = tt
on_err (Err e) f p = f p

pub err_by : {A E P : Type 0} (r : Result A E) → P → OnErr r P
err_by (Ok x) p = tt
err_by (Err e) p = p

-- by what holds on success, or on an error
pub by_result : {A E P Q S : Type 0} (r : Result A E) → OnOk r P → OnErr r Q → (P → S) → (Q → S) → S
by_result (Ok x) p q f g = f p
by_result (Err e) p q f g = g q

pub both_err : {A E : Type 0} (P Q : Type 0) (r : Result A E) → OnErr r P → OnErr r Q → OnErr r (P × Q)
both_err P Q (Ok x) p q = tt
both_err P Q (Err e) p q = (p, q)
