-- What the tasks of a queue tell of themselves, as the queues change.
use Rattle.std.proofs.Common.{◌≡◌, ℕ, List, [], ◌∷◌, ◌++◌, Bool, true, false, refl, sym, ap, ◌∙◌}
use Rattle.std.specs.Prelude.{◌&&◌, ◌||◌, ◌==◌, ◌-◌, ◌^◌, nat_lt, if◌then◌else◌}
use Rattle.pool_places.specs.Turns.{waits}
use Rattle.std.specs.List.{list_all, list_any}
use Rattle.std.proofs.lemmas.List.Folds.{list_all-append, list_any-append, list_all-map}
use Rattle.std.proofs.lemmas.Bool.{and_from, and_parts}
use Rattle.std.proofs.Math.Bool.{or-true, true-or}
use Rattle.pool_places.specs.declared.ends.Tried.{Tried}
use Rattle.pool_turn.specs.declared.turn.Last.{Last}
use Rattle.pool_turn.specs.declared.turn.Last.TheVariants.{New, GoesOn, Waits, Over, NoRoom}
use Rattle.pool_places.specs.declared.ends.PoolEnd.{PoolEnd}
use Rattle.pool_places.specs.declared.ends.PoolEnd.TheVariants.{AllEnded, Stuck, Full as Filled', Memory as Gone}
use Rattle.pool_places.specs.Ends.{IfStuck}
use Rattle.worker_pool.specs.Accounts.{tasks, may_go, is_parked, is_full}

module _ {X : Type 0} (p : X → Bool) where
  pub all_first : (x : X) (xs : List X) → list_all p (x ∷ xs) ≡ true → (p x ≡ true) × (list_all p xs ≡ true)
  all_first x xs e = and_parts (p x) (list_all p xs) e

  pub all_cons : (x : X) (xs : List X) → p x ≡ true → list_all p xs ≡ true → list_all p (x ∷ xs) ≡ true
  all_cons x xs = and_from (p x) (list_all p xs)

  pub all_both : (xs ys : List X) → list_all p xs ≡ true → list_all p ys ≡ true → list_all p (xs ++ ys) ≡ true
  all_both xs ys a b = list_all-append p xs ys ∙ and_from (list_all p xs) (list_all p ys) a b

  pub all_push : (xs : List X) (x : X) → list_all p xs ≡ true → p x ≡ true → list_all p (xs ++ x ∷ []) ≡ true
  all_push xs x a b = all_both xs (x ∷ []) a (all_cons x [] b refl)

  pub any_before : (xs ys : List X) → list_any p xs ≡ true → list_any p (xs ++ ys) ≡ true
  any_before xs ys a = list_any-append p xs ys ∙ (ap (λ b. b || list_any p ys) a ∙ true-or (list_any p ys))

  pub any_last : (xs : List X) (x : X) → p x ≡ true → list_any p (xs ++ x ∷ []) ≡ true
  any_last xs x a =
      list_any-append p xs (x ∷ []) ∙ (ap (λ b. list_any p xs || (b || false)) a ∙ or-true (list_any p xs))

module _ {X : Type 0} (p q : X → Bool) where
  -- what one test follows from another
  pub all_weaker : ((x : X) → p x ≡ true → q x ≡ true) → (xs : List X) → list_all p xs ≡ true → list_all q xs ≡ true
  all_weaker w [] e = refl
  all_weaker w (x ∷ xs) e =
      let both = all_first p x xs e in
      all_cons q x xs (w x both.0) (all_weaker w xs both.1)

module _ {K : Type 0} (p : K → Bool) where
  -- the first of a queue, and the others
  pub all_taken : (r r' : List (Tried K)) (t : K) → tasks r ≡ t ∷ tasks r' →
      list_all (λ (u : Tried K). p u.task) r ≡ true → (p t ≡ true) × (list_all (λ (u : Tried K). p u.task) r' ≡ true)
  all_taken r r' t first all =
      let whole = sym (ap (list_all p) first) ∙ (list_all-map p (λ (u : Tried K). u.task) r ∙ all) in
      let both = all_first p t (tasks r') whole in
      (both.0, sym (list_all-map p (λ (u : Tried K). u.task) r') ∙ both.1)

  -- a queue whose tasks are parked since that count stays so
  pub still_parked : (q q' : List (Tried K)) (n n' : ℕ) → q' ≡ q → n' ≡ n →
      list_all (λ (u : Tried K). p u.task && (u.began == n)) q ≡ true →
      list_all (λ (u : Tried K). p u.task && (u.began == n')) q' ≡ true
  still_parked q q' n n' same count all = (λ i. list_all (λ (u : Tried K). p u.task && (u.began == count i)) (same i)) ∙
      all

parked_may_go : (l : Last) → is_parked l ≡ true → may_go l ≡ true
parked_may_go New e = refl
parked_may_go GoesOn e = refl
parked_may_go Waits e = refl
parked_may_go Over e = e
parked_may_go NoRoom e = refl

full_may_go : (l : Last) → is_full l ≡ true → may_go l ≡ true
full_may_go New e = refl
full_may_go GoesOn e = refl
full_may_go Waits e = refl
full_may_go Over e = e
full_may_go NoRoom e = refl

module _ {K : Type 0} (last : K → Last) where
  abbrev pub Going : List (Tried K) → Type 0
  Going q = list_all (λ (u : Tried K). may_go (last u.task)) q ≡ true

  abbrev pub Parked : ℕ → List (Tried K) → Type 0
  Parked n q = list_all (λ (u : Tried K). is_parked (last u.task) && (u.began == n)) q ≡ true

  abbrev pub Filled : List (Tried K) → Type 0
  Filled q = list_any (λ (u : Tried K). is_full (last u.task)) q ≡ true

  woken : (n : ℕ) (q : List (Tried K)) → Parked n q → Going q
  woken n q =
      all_weaker (λ (u : Tried K). is_parked (last u.task) && (u.began == n)) (λ (u : Tried K). may_go (last u.task))
      (λ u e. parked_may_go (last u.task) (and_parts (is_parked (last u.task)) (u.began == n) e).0) q

  -- the queue once the parked ones are woken
  pub going_both : (n : ℕ) (r p r' : List (Tried K)) → r' ≡ r ++ p → Going r → Parked n p → Going r'
  going_both n r p r' queue going parked = let f = λ (u : Tried K). may_go (last u.task) in
      ap (list_all f) queue ∙ all_both f r p going (woken n p parked)

  pub going_put : (r r' : List (Tried K)) (t : Tried K) → r' ≡ r ++ t ∷ [] → Going r → may_go (last t.task) ≡ true →
      Going r'
  going_put r r' t queue going may = let f = λ (u : Tried K). may_go (last u.task) in
      ap (list_all f) queue ∙ all_push f r t going may

  pub filled_put : (r ts r' : List (Tried K)) → r' ≡ r ++ ts → Filled r → Filled r'
  filled_put r ts r' queue filled = let f = λ (u : Tried K). is_full (last u.task) in
      ap (list_any f) queue ∙ any_before f r ts filled

  pub filled_now : (r r' : List (Tried K)) (t : Tried K) → r' ≡ r ++ t ∷ [] → is_full (last t.task) ≡ true → Filled r'
  filled_now r r' t queue now = let f = λ (u : Tried K). is_full (last u.task) in
      ap (list_any f) queue ∙ any_last f r t now

  pub may_go_full : (t : Tried K) → is_full (last t.task) ≡ true → may_go (last t.task) ≡ true
  may_go_full t = full_may_go (last t.task)

  pub may_go_parked : (t : Tried K) → is_parked (last t.task) ≡ true → may_go (last t.task) ≡ true
  may_go_parked t = parked_may_go (last t.task)

  pub none_parked : (n : ℕ) (q : List (Tried K)) → q ≡ [] → Parked n q
  none_parked n q none_left = ap (list_all (λ (u : Tried K). is_parked (last u.task) && (u.began == n))) none_left

  -- the same where a task parks, which is parked, or ready at once
  pub going_park : (b : Bool) (r r' : List (Tried K)) (t : Tried K) → r' ≡ (if b then r else (r ++ t ∷ [])) → Going r →
      is_parked (last t.task) ≡ true → Going r'
  going_park true r r' t queue going parked = ap (list_all (λ (u : Tried K). may_go (last u.task))) queue ∙ going
  going_park false r r' t queue going parked = going_put r r' t queue going (may_go_parked t parked)

  pub filled_park : (b : Bool) (r r' : List (Tried K)) (t : Tried K) → r' ≡ (if b then r else (r ++ t ∷ [])) →
      Filled r → Filled r'
  filled_park true r r' t queue filled = ap (list_any (λ (u : Tried K). is_full (last u.task))) queue ∙ filled
  filled_park false r r' t queue filled = filled_put r (t ∷ []) r' queue filled

  pub parked_park : (b : Bool) (p p' : List (Tried K)) (n n' : ℕ) (t : Tried K) → waits n t.began ≡ b →
      p' ≡ (if b then (p ++ t ∷ []) else p) → n' ≡ n → Parked n p → is_parked (last t.task) ≡ true → Parked n' p'
  parked_park true p p' n n' t stays queue count parked now =
      let at = (and_parts (t.began == n) (nat_lt n (2 ^ 64 - 1)) stays).0 in
      still_parked (λ k. is_parked (last k)) (p ++ t ∷ []) p' n n' queue count
      (all_push (λ (u : Tried K). is_parked (last u.task) && (u.began == n)) p t parked
      (and_from (is_parked (last t.task)) (t.began == n) now at))
  parked_park false p p' n n' t stays queue count parked now =
      still_parked (λ k. is_parked (last k)) p p' n n' queue count parked

-- what holds of a pool that is stuck, by what follows from it
pub stuck_map : {K : Type 0} (e : PoolEnd K) (P Q : ℕ → Type 0) → ((n : ℕ) → P n → Q n) → IfStuck e P → IfStuck e Q
stuck_map (AllEnded es) P Q f h = tt
stuck_map (Stuck ts es n) P Q f h = f n h
stuck_map (Filled' ts es) P Q f h = tt
stuck_map Gone P Q f h = tt
