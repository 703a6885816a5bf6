-- The account of a pool that has run nothing, and that all are over exactly where the pool says so.
use Rattle.std.proofs.Common.{◌≡◌, ℕ, List, [], ◌∷◌, Bool, true, refl, sym, ap, ◌∙◌, arith, map}
use Rattle.std.specs.Prelude.{sum_by, flat_map}
use Rattle.std.specs.List.{list_all}
use Rattle.std.proofs.lemmas.List.Folds.{list_all-map}
use Rattle.std.proofs.lemmas.List.Sums.{sum_by-append, sum_by-cons}
use Rattle.pool_places.specs.declared.ends.Tried.{Tried}
use Rattle.worker_pool.specs.Accounts.{tasks, here, Balanced}
use Rattle.worker_pool.proofs.Weights.{of_here, Knotted}

-- sums over a list that was made of another
pub sum_map : {K X : Type 0} (h : X → ℕ) (f : K → X) (ts : List K) → sum_by h (map f ts) ≡ sum_by (λ t. h (f t)) ts
sum_map h f [] = refl
sum_map h f (t ∷ ts) =
    let a = sum_by-cons h (f t) (map f ts) in
    let b = sum_by-cons (λ t. h (f t)) t ts in
    let c = sum_map h f ts in
    omega (arith, a, b, c)

pub sum_flat : {K X : Type 0} (h : X → ℕ) (f : K → List X) (ts : List K) →
    sum_by h (flat_map f ts) ≡ sum_by (λ t. sum_by h (f t)) ts
sum_flat h f [] = refl
sum_flat h f (t ∷ ts) =
    let a = sum_by-append h (f t) (flat_map f ts) in
    let b = sum_by-cons (λ t. sum_by h (f t)) t ts in
    let c = sum_flat h f ts in
    omega (arith, a, b, c)

module _ {K : Type 0} (number : K → ℕ) (forked : K → List ℕ) (handed before : List ℕ) where
  -- all tasks are ready, and none is out
  pub opened : (ks : List K) (r p : List (Tried K)) (e : List K) (knot : Knotted) → handed ≡ map number ks →
      before ≡ flat_map forked ks → tasks r ≡ ks → p ≡ [] → e ≡ [] → knot ≡ ([], []) →
      Balanced number forked handed before (here r p e) knot
  opened ks r p e knot of_numbers of_forked ready parked ended new h =
      let a = of_here (λ t. h (number t)) r p e in
      let b = of_here (λ t. sum_by h (forked t)) r p e in
      let c = ap (sum_by (λ t. h (number t))) ready in
      let d = ap (sum_by (λ t. sum_by h (forked t))) ready in
      let i = ap (λ q. sum_by (λ t. h (number t)) (tasks q)) parked in
      let j = ap (λ q. sum_by (λ t. sum_by h (forked t)) (tasks q)) parked in
      let k = ap (sum_by (λ t. h (number t))) ended in
      let l = ap (sum_by (λ t. sum_by h (forked t))) ended in
      let m = ap (sum_by h) of_numbers ∙ sum_map h number ks in
      let n = ap (sum_by h) of_forked ∙ sum_flat h forked ks in
      let s = ap (λ (k : Knotted). sum_by (λ n. h n.number) k.0) new in
      let u = ap (λ (k : Knotted). sum_by (λ n. sum_by h n.forked) k.0) new in
      let v = ap (λ (k : Knotted). sum_by (λ n. h n.number) k.1) new in
      let w = ap (λ (k : Knotted). sum_by (λ n. sum_by h n.forked) k.1) new in
      omega (arith, a, b, c, d, i, j, k, l, m, n, s, u, v, w)

-- what each task tells, the tasks stand in a queue
pub all_ready : {K : Type 0} (p : K → Bool) (ks : List K) (r : List (Tried K)) → tasks r ≡ ks → list_all p ks ≡ true →
    list_all (λ (u : Tried K). p u.task) r ≡ true
all_ready p ks r ready all = sym (list_all-map p (λ (u : Tried _). u.task) r) ∙ (ap (list_all p) ready ∙ all)
