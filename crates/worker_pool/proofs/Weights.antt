-- What the tasks that are here weigh, as one is taken or put back, and that the account stays balanced.
use Rattle.std.proofs.Common.{◌≡◌, ◌+◌, ℕ, List, [], ◌∷◌, ◌++◌, Bool, true, false, refl, ap, ◌∙◌, arith}
use Rattle.std.specs.Prelude.{sum_by, if◌then◌else◌}
use Rattle.std.proofs.lemmas.List.{map-append}
use Rattle.std.proofs.lemmas.List.Sums.{sum_by-append, sum_by-cons}
use Rattle.pool_places.specs.declared.ends.Tried.{Tried}
use Rattle.pool_places.specs.Turns.{born}
use Rattle.pool_ties.specs.declared.rule.Note.{Note}
use Rattle.pool_ties.specs.Tied.{SameNotes}
use Rattle.worker_pool.specs.Accounts.{tasks, here, Balanced, SameNumbers}

module _ {K : Type 0} where
  pub of_queues : (f : K → ℕ) (xs ys : List (Tried K)) → sum_by f (tasks (xs ++ ys)) ≡ sum_by f (tasks xs) +
      sum_by f (tasks ys)
  of_queues f xs ys = ap (sum_by f) (map-append (λ (t : Tried K). t.task) xs ys) ∙ sum_by-append f (tasks xs) (tasks ys)

  pub of_one : (f : K → ℕ) (t : Tried K) → sum_by f (tasks (t ∷ [])) ≡ f t.task
  of_one f t = let a = sum_by-cons f t.task [] in omega (arith, a)

  pub of_here : (f : K → ℕ) (r p : List (Tried K)) (e : List K) → sum_by f (here r p e) ≡ sum_by f (tasks r) +
      sum_by f (tasks p) + sum_by f e
  of_here f r p e =
      let a = sum_by-append f (tasks r ++ tasks p) e in
      let b = sum_by-append f (tasks r) (tasks p) in
      omega (arith, a, b)

  -- the tasks that are here, once one more is
  abbrev pub Adds : List K → K → List K → Type 0
  Adds ts t ts' = (f : K → ℕ) → sum_by f ts' ≡ sum_by f ts + f t

  pub takes : (r p r' p' : List (Tried K)) (e e' : List K) (t : K) → tasks r ≡ t ∷ tasks r' → p' ≡ p → e' ≡ e →
      Adds (here r' p' e') t (here r p e)
  takes r p r' p' e e' t first parked ended f =
      let a = of_here f r p e in
      let b = of_here f r' p' e' in
      let c = ap (sum_by f) first in
      let d = sum_by-cons f t (tasks r') in
      let u = ap (λ q. sum_by f (tasks q)) parked in
      let v = ap (sum_by f) ended in
      omega (arith, a, b, c, d, u, v)

  pub puts : (r p r' p' : List (Tried K)) (e e' : List K) (t : Tried K) → r' ≡ r ++ p ++ t ∷ [] → p' ≡ [] → e' ≡ e →
      Adds (here r p e) t.task (here r' p' e')
  puts r p r' p' e e' t queue parked ended f =
      let a = of_here f r p e in
      let b = of_here f r' p' e' in
      let c = ap (λ q. sum_by f (tasks q)) queue in
      let d = of_queues f (r ++ p) (t ∷ []) in
      let k = of_queues f r p in
      let l = of_one f t in
      let u = ap (λ q. sum_by f (tasks q)) parked in
      let v = ap (sum_by f) ended in
      omega (arith, a, b, c, d, k, l, u, v)

  pub forks : (r p r' p' : List (Tried K)) (e e' : List K) (t : Tried K) (child : K) →
      r' ≡ r ++ p ++ t ∷ [] ++ born child ∷ [] → p' ≡ [] → e' ≡ e → (f : K → ℕ) →
      sum_by f (here r' p' e') ≡ sum_by f (here r p e) + f t.task + f child
  forks r p r' p' e e' t child queue parked ended f =
      let a = puts r p (r ++ p ++ t ∷ []) [] e e t refl refl refl f in
      let b = of_here f r' p' e' in
      let c = ap (λ q. sum_by f (tasks q)) queue in
      let d = of_queues f (r ++ p ++ t ∷ []) (born child ∷ []) in
      let k = of_here f (r ++ p ++ t ∷ []) [] e in
      let l = of_one f (born child) in
      let u = ap (λ q. sum_by f (tasks q)) parked in
      let v = ap (sum_by f) ended in
      omega (arith, a, b, c, d, k, l, u, v)

  pub readies : (r p r' p' : List (Tried K)) (e e' : List K) (t : Tried K) → r' ≡ r ++ t ∷ [] → p' ≡ p → e' ≡ e →
      Adds (here r p e) t.task (here r' p' e')
  readies r p r' p' e e' t queue parked ended f =
      let a = of_here f r p e in
      let b = of_here f r' p' e' in
      let c = ap (λ q. sum_by f (tasks q)) queue in
      let d = of_queues f r (t ∷ []) in
      let l = of_one f t in
      let u = ap (λ q. sum_by f (tasks q)) parked in
      let v = ap (sum_by f) ended in
      omega (arith, a, b, c, d, l, u, v)

  pub parks : (r p r' p' : List (Tried K)) (e e' : List K) (t : Tried K) → r' ≡ r → p' ≡ p ++ t ∷ [] → e' ≡ e →
      Adds (here r p e) t.task (here r' p' e')
  parks r p r' p' e e' t queue parked ended f =
      let a = of_here f r p e in
      let b = of_here f r' p' e' in
      let c = ap (λ q. sum_by f (tasks q)) queue in
      let d = of_queues f p (t ∷ []) in
      let l = of_one f t in
      let u = ap (λ q. sum_by f (tasks q)) parked in
      let v = ap (sum_by f) ended in
      omega (arith, a, b, c, d, l, u, v)

  -- a task that parks is parked, or ready at once
  pub parks_or : (b : Bool) (r p r' p' : List (Tried K)) (e e' : List K) (t : Tried K) →
      r' ≡ (if b then r else (r ++ t ∷ [])) → p' ≡ (if b then (p ++ t ∷ []) else p) → e' ≡ e →
      Adds (here r p e) t.task (here r' p' e')
  parks_or true r p r' p' e e' t = parks r p r' p' e e' t
  parks_or false r p r' p' e e' t = readies r p r' p' e e' t

  pub ends : (r p r' p' : List (Tried K)) (e e' : List K) (t : K) → r' ≡ r ++ p → p' ≡ [] → e' ≡ e ++ t ∷ [] →
      Adds (here r p e) t (here r' p' e')
  ends r p r' p' e e' t queue parked ended f =
      let a = of_here f r p e in
      let b = of_here f r' p' e' in
      let c = ap (λ q. sum_by f (tasks q)) queue in
      let d = of_queues f r p in
      let k = sum_by-append f e (t ∷ []) in
      let l = sum_by-cons f t [] in
      let u = ap (λ q. sum_by f (tasks q)) parked in
      let v = ap (sum_by f) ended in
      omega (arith, a, b, c, d, k, l, u, v)

abbrev pub Knotted : Type 0
Knotted = List Note × List Note

module _ {K : Type 0} (number : K → ℕ) (forked : K → List ℕ) (handed before : List ℕ) where
  pub taken : (ts ts' : List K) (t : K) (knot knot' : Knotted) (n : Note) → Adds ts' t ts → n.number ≡ number t →
      n.forked ≡ forked t → knot' ≡ (n ∷ knot.0, knot.1) → Balanced number forked handed before ts knot →
      Balanced number forked handed before ts' knot'
  taken ts ts' t knot knot' n adds same_number same_forked is bal h =
      let a = adds (λ t. h (number t)) in
      let b = adds (λ t. sum_by h (forked t)) in
      let c = bal h in
      let d = ap (λ (k : Knotted). sum_by (λ (n : Note). h n.number) k.0) is ∙ sum_by-cons (λ (n : Note). h n.number) n
      knot.0 in
      let e = ap (λ (k : Knotted). sum_by (λ (n : Note). sum_by h n.forked) k.0) is ∙
      sum_by-cons (λ (n : Note). sum_by h n.forked) n knot.0 in
      let i = ap (λ (k : Knotted). sum_by (λ (n : Note). h n.number) k.1) is in
      let j = ap (λ (k : Knotted). sum_by (λ (n : Note). sum_by h n.forked) k.1) is in
      let p = ap h same_number in
      let q = ap (sum_by h) same_forked in
      omega (arith, a, b, c, d, e, i, j, p, q)

  pub put_back : (ts ts' : List K) (t : K) (knot knot' : Knotted) (n : Note) → Adds ts t ts' → number t ≡ n.number →
      forked t ≡ n.forked → knot' ≡ (knot.0, n ∷ knot.1) → Balanced number forked handed before ts knot →
      Balanced number forked handed before ts' knot'
  put_back ts ts' t knot knot' n adds same_number same_forked is bal h =
      let a = adds (λ t. h (number t)) in
      let b = adds (λ t. sum_by h (forked t)) in
      let c = bal h in
      let d = ap (λ (k : Knotted). sum_by (λ (n : Note). h n.number) k.1) is ∙ sum_by-cons (λ (n : Note). h n.number) n
      knot.1 in
      let e = ap (λ (k : Knotted). sum_by (λ (n : Note). sum_by h n.forked) k.1) is ∙
      sum_by-cons (λ (n : Note). sum_by h n.forked) n knot.1 in
      let i = ap (λ (k : Knotted). sum_by (λ (n : Note). h n.number) k.0) is in
      let j = ap (λ (k : Knotted). sum_by (λ (n : Note). sum_by h n.forked) k.0) is in
      let p = ap h same_number in
      let q = ap (sum_by h) same_forked in
      omega (arith, a, b, c, d, e, i, j, p, q)

  pub put_both : (ts ts' : List K) (t child : K) (knot knot' : Knotted) (n : Note) →
      ((f : K → ℕ) → sum_by f ts' ≡ sum_by f ts + f t + f child) → number t ≡ n.number →
      forked t ≡ n.forked ++ number child ∷ [] → forked child ≡ [] → knot' ≡ (knot.0, n ∷ knot.1) →
      Balanced number forked handed before ts knot → Balanced number forked handed before ts' knot'
  put_both ts ts' t child knot knot' n adds same_number more_forked none_forked is bal h =
      let a = adds (λ t. h (number t)) in
      let b = adds (λ t. sum_by h (forked t)) in
      let c = bal h in
      let d = ap (λ (k : Knotted). sum_by (λ (n : Note). h n.number) k.1) is ∙ sum_by-cons (λ (n : Note). h n.number) n
      knot.1 in
      let e = ap (λ (k : Knotted). sum_by (λ (n : Note). sum_by h n.forked) k.1) is ∙
      sum_by-cons (λ (n : Note). sum_by h n.forked) n knot.1 in
      let i = ap (λ (k : Knotted). sum_by (λ (n : Note). h n.number) k.0) is in
      let j = ap (λ (k : Knotted). sum_by (λ (n : Note). sum_by h n.forked) k.0) is in
      let p = ap h same_number in
      let q = ap (sum_by h) more_forked ∙ sum_by-append h n.forked (number child ∷ []) in
      let r = sum_by-cons h (number child) [] in
      let s = ap (sum_by h) none_forked in
      omega (arith, a, b, c, d, e, i, j, p, q, r, s)

  -- where all that was noted came back, the tasks that are here are all
  pub settled : (ts : List K) (knot : Knotted) → SameNotes knot.0 knot.1 →
      Balanced number forked handed before ts knot → SameNumbers number forked handed before ts
  settled ts knot same bal h =
      let c = bal h in
      let a = same (λ (n : Note). h n.number) in
      let b = same (λ (n : Note). sum_by h n.forked) in
      omega (arith, a, b, c)
