-- Laws of the lines of a plan: a node that comes back brings its lines, and each counts on.
use Rattle.std.proofs.Common.{◌≡◌, ℕ, Bool, true, false, cond, not, List, [], ◌∷◌, ◌++◌, refl, ap, ◌∙◌}
use Rattle.host_memory.specs.declared.plan.Line.{Line}
use Rattle.host_memory.specs.declared.plan.Op.{Op}
use Rattle.host_memory.specs.Plans.{is_below, is_for, one_less, after_call, lines_below, lines_beside}

-- lines beside a place, in front of lines below it, add none below it
beside_adds_none : (place : List (List ℕ)) (xs ys : List Line)
    → lines_below place (lines_beside place xs ++ ys) ≡ lines_below place ys
beside_adds_none place [] ys = refl
beside_adds_none place (x ∷ xs) ys = by (is_below place x) refl (beside_adds_none place xs ys)
  where
    by : (b : Bool) → is_below place x ≡ b → lines_below place (lines_beside place xs ++ ys) ≡ lines_below place ys
        → lines_below place (cond (not b) (x ∷ lines_beside place xs) (lines_beside place xs) ++ ys)
        ≡ lines_below place ys
    by true e more = more
    by false e more = rw e more

-- lines below a place are all below it
below_twice : (place : List (List ℕ)) (xs : List Line) → lines_below place (lines_below place xs) ≡ lines_below place xs
below_twice place [] = refl
below_twice place (x ∷ xs) = by (is_below place x) refl (below_twice place xs)
  where
    by : (b : Bool) → is_below place x ≡ b → lines_below place (lines_below place xs) ≡ lines_below place xs
        → lines_below place (cond b (x ∷ lines_below place xs) (lines_below place xs))
        ≡ cond b (x ∷ lines_below place xs) (lines_below place xs)
    by true e more = rw e (ap (λ ys. x ∷ ys) more)
    by false e more = more

-- a node that came back is lent again with the lines that it brought
pub lines_come_back : (place : List (List ℕ)) (xs ys : List Line)
    → lines_below place (lines_beside place xs ++ lines_below place ys) ≡ lines_below place ys
lines_come_back place xs ys = beside_adds_none place xs (lines_below place ys) ∙ below_twice place ys

-- a call that is counted once lines were parted is counted as before that
pub after_call_below : (place at : List (List ℕ)) (op : Op) (xs : List Line)
    → lines_below place (after_call at op xs) ≡ after_call at op (lines_below place xs)
after_call_below place at op [] = refl
after_call_below place at op (x ∷ xs) =
    by (is_for at op x) refl (is_below place x) refl (after_call_below place at op xs)
  where
    by : (m : Bool) → is_for at op x ≡ m → (b : Bool) → is_below place x ≡ b
        → lines_below place (after_call at op xs) ≡ after_call at op (lines_below place xs)
        → lines_below place (cond m (one_less x) x ∷ after_call at op xs)
        ≡ after_call at op (cond b (x ∷ lines_below place xs) (lines_below place xs))
    by true f true e more = rw (e, f) (ap (λ ys. one_less x ∷ ys) more)
    by true f false e more = rw e more
    by false f true e more = rw (e, f) (ap (λ ys. x ∷ ys) more)
    by false f false e more = rw e more
