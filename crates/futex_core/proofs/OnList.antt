-- Who is on the futex list, asleep or woken: sleeping brings its task there, leaving takes it out, and a wake changes
-- nothing of it.
use Rattle.std.proofs.Common.{◌≡◌, ◌≢◌, ℕ, ◌+◌, ◌≤◌, ◌==◌, not, ◌||◌, Bool, true, false, cond, List, [], ◌∷◌, ◌++◌, map}
use Rattle.std.proofs.Common.{filter, refl, ap, sym, ◌∙◌, arith}
use Rattle.std.specs.List.{list_any}
use Rattle.std.proofs.lemmas.Bool.{eqb-true, eq-eqb, ne_eqb}
use Rattle.std.proofs.lemmas.List.{map-append}
use Rattle.futex_core.specs.declared.keys.FutexKey.{FutexKey}
use Rattle.futex_core.specs.declared.waiters.Sleeper.{Sleeper}
use Rattle.futex_core.specs.Waiters.{EachOnce, FutexList, tasks_in, is_asleep, is_woken, after_sleep, first_waiters}
use Rattle.futex_core.specs.Waiters.{sleepers_without, after_wake, after_leave}
use Rattle.futex_core.proofs.Counts.{times, weight, times-append, times-cons, none_times, not_found, found_by_task}
use Rattle.futex_core.proofs.Once.{tasks_of, moved}

-- how often a task is on the list
abbrev pub times_on : FutexList → (task : ℕ) → ℕ
times_on list task = times task (tasks_in list)

parted : (list : FutexList) (q : ℕ) → times_on list q ≡ times q (tasks_of list.sleepers) + times q list.woken
parted list q = times-append q (tasks_of list.sleepers) list.woken

-- ---- off the list

pub off_list : (list : FutexList) (q : ℕ) → is_asleep list q ≡ false → is_woken list q ≡ false → times_on list q ≡ 0
off_list list q asleep woken =
    let a : times q (tasks_of list.sleepers) ≡ 0 =
    none_times q (tasks_of list.sleepers) (sym (found_by_task (λ s. s.task) q list.sleepers) ∙ asleep) in
    let b : times q list.woken ≡ 0 = none_times q list.woken woken in
    omega (arith, parted list q, a, b)

pub not_asleep : (list : FutexList) (q : ℕ) → times_on list q ≡ 0 → is_asleep list q ≡ false
not_asleep list q none =
    found_by_task (λ s. s.task) q list.sleepers
    ∙ not_found q (tasks_of list.sleepers) (omega (arith, parted list q, none))

pub not_woken : (list : FutexList) (q : ℕ) → times_on list q ≡ 0 → is_woken list q ≡ false
not_woken list q none = not_found q list.woken (omega (arith, parted list q, none))

-- ---- sleeping

module _ (list : FutexList) (task : ℕ) (key : FutexKey) where
  parted_sleep : (q : ℕ) → times_on (after_sleep list task key) q
      ≡ times q (tasks_of list.sleepers) + times q (task ∷ []) + times q list.woken
  parted_sleep q =
      times-append q (tasks_of (after_sleep list task key).sleepers) list.woken
      ∙ ap (λ ts. times q ts + times q list.woken)
      (map-append (λ s. s.task) list.sleepers ((record { task = task; key = key }) ∷ []))
      ∙ ap (λ k. k + times q list.woken) (times-append q (tasks_of list.sleepers) (task ∷ []))

  pub slept_other : (q : ℕ) → task ≢ q → times_on (after_sleep list task key) q ≡ times_on list q
  slept_other q apart =
      let none : weight (task == q) ≡ 0 = ap weight (ne_eqb task q apart) in
      omega (arith, parted_sleep q, parted list q, none, times-cons q task [])

  pub slept_itself : 1 ≤ times_on (after_sleep list task key) task
  slept_itself =
      let one : weight (task == task) ≡ 1 = ap weight (eq-eqb task task refl) in
      omega (arith, parted_sleep task, one, times-cons task task [])

-- ---- leaving

-- what is left of a list without a task
without : {X : Type 0} (task_of : X → ℕ) (task q : ℕ) (xs : List X) → task ≢ q
    → times q (map task_of (filter (λ x. not (task_of x == task)) xs)) ≡ times q (map task_of xs)
without task_of task q [] apart = refl
without task_of task q (x ∷ xs) apart = by (task_of x == task) refl (without task_of task q xs apart)
  where
    rest : List ℕ
    rest = map task_of (filter (λ y. not (task_of y == task)) xs)

    by : (b : Bool) → (task_of x == task) ≡ b → times q rest ≡ times q (map task_of xs)
        → times q (map task_of (cond (not b) (x ∷ filter (λ y. not (task_of y == task)) xs)
        (filter (λ y. not (task_of y == task)) xs))) ≡ times q (map task_of (x ∷ xs))
    by true e same =
        let is = eqb-true (task_of x) task e in
        let none : weight (task_of x == q) ≡ 0 = ap weight (ne_eqb (task_of x) q (λ f. apart (sym is ∙ f))) in
        omega (arith, same, none, times-cons q (task_of x) (map task_of xs))
    by false e same = omega (
      arith,
      same,
      times-cons q (task_of x) (map task_of xs),
      times-cons q (task_of x) rest,
    )

gone : {X : Type 0} (task_of : X → ℕ) (task : ℕ) (xs : List X)
    → times task (map task_of (filter (λ x. not (task_of x == task)) xs)) ≡ 0
gone task_of task [] = refl
gone task_of task (x ∷ xs) = by (task_of x == task) refl (gone task_of task xs)
  where
    rest : List ℕ
    rest = map task_of (filter (λ y. not (task_of y == task)) xs)

    by : (b : Bool) → (task_of x == task) ≡ b → times task rest ≡ 0
        → times task (map task_of (cond (not b) (x ∷ filter (λ y. not (task_of y == task)) xs)
        (filter (λ y. not (task_of y == task)) xs))) ≡ 0
    by true e none = none
    by false e none =
        let other : weight (task_of x == task) ≡ 0 = ap weight e in
        omega (arith, none, other, times-cons task (task_of x) rest)

alike : (ts : List ℕ) → map (λ t. t) ts ≡ ts
alike [] = refl
alike (t ∷ ts) = ap (λ us. t ∷ us) (alike ts)

module _ (list : FutexList) (task : ℕ) where
  pub left_other : (q : ℕ) → task ≢ q → times_on (after_leave list task) q ≡ times_on list q
  left_other q apart = omega (
    arith,
    parted (after_leave list task) q,
    parted list q,
    without (λ s. s.task) task q list.sleepers apart,
    without (λ t. t) task q list.woken apart,
    ap (times q) (alike (filter (λ t. not (t == task)) list.woken)),
    ap (times q) (alike list.woken),
  )

  pub left_itself : times_on (after_leave list task) task ≡ 0
  left_itself = omega (
    arith,
    parted (after_leave list task) task,
    gone (λ s. s.task) task list.sleepers,
    gone (λ t. t) task list.woken,
    ap (times task) (alike (filter (λ t. not (t == task)) list.woken)),
  )

-- ---- waking

-- a sleeper that is not among those taken out sleeps on
sleeps_on : (q : ℕ) (ts : List ℕ) (sleepers : List Sleeper) → list_any (λ t. t == q) ts ≡ false
    → times q (tasks_of (sleepers_without sleepers ts)) ≡ times q (tasks_of sleepers)
sleeps_on q ts [] out = refl
sleeps_on q ts (s ∷ sleepers) out = by (list_any (λ t. t == s.task) ts) refl (sleeps_on q ts sleepers out)
  where
    rest : List Sleeper
    rest = sleepers_without sleepers ts

    other : list_any (λ t. t == s.task) ts ≡ true → s.task ≢ q
    other among same = cc (among, ap (λ n. list_any (λ t. t == n) ts) same ∙ out)

    by : (b : Bool) → list_any (λ t. t == s.task) ts ≡ b → times q (tasks_of rest) ≡ times q (tasks_of sleepers)
        → times q (tasks_of (cond (not b) (s ∷ rest) rest)) ≡ times q (tasks_of (s ∷ sleepers))
    by true e same =
        let none : weight (s.task == q) ≡ 0 = ap weight (ne_eqb s.task q (other e)) in
        omega (arith, same, none, times-cons q s.task (tasks_of sleepers))
    by false e same = omega (
      arith,
      same,
      times-cons q s.task (tasks_of sleepers),
      times-cons q s.task (tasks_of rest),
    )

found_once : (q : ℕ) (ts : List ℕ) → list_any (λ t. t == q) ts ≡ true → 1 ≤ times q ts
found_once q [] e = absurd (cc e)
found_once q (t ∷ ts) e = by (t == q) refl e (found_once q ts)
  where
    by : (b : Bool) → (t == q) ≡ b → (b || list_any (λ u. u == q) ts) ≡ true
        → (list_any (λ u. u == q) ts ≡ true → 1 ≤ times q ts) → 1 ≤ times q (t ∷ ts)
    by true same e rest =
        let one : weight (t == q) ≡ 1 = ap weight same in
        omega (arith, one, times-cons q t ts)
    by false other e rest = omega (arith, rest e, times-cons q t ts)

module _ (list : FutexList) (key : FutexKey) (n : ℕ) where
  first : List ℕ
  first = first_waiters list.sleepers key n

  parted_wake : (q : ℕ) → times_on (after_wake list key n) q
      ≡ times q (tasks_of (sleepers_without list.sleepers first)) + times q list.woken + times q first
  unfolding first
  parted_wake q = omega (
    arith,
    times-append q (tasks_of (sleepers_without list.sleepers (first_waiters list.sleepers key n)))
        (list.woken ++ first_waiters list.sleepers key n),
    times-append q list.woken (first_waiters list.sleepers key n),
  )

  -- nobody comes to the list
  pub woken_before : (q : ℕ) → times_on (after_wake list key n) q ≤ times_on list q
  unfolding first
  woken_before q = omega (arith, parted_wake q, parted list q, moved q list.sleepers key n)

  -- and nobody goes
  pub woken_after : (q : ℕ) → 1 ≤ times_on list q → 1 ≤ times_on (after_wake list key n) q
  woken_after q on = by (list_any (λ t. t == q) first) refl
    where
      by : (b : Bool) → list_any (λ t. t == q) first ≡ b → 1 ≤ times_on (after_wake list key n) q
      by true e = omega (arith, parted_wake q, found_once q first e)
      by false e = omega (arith, parted_wake q, parted list q, on, sleeps_on q first list.sleepers e)

-- ---- asleep or woken

pub woken_once : (list : FutexList) (q : ℕ) → EachOnce list → is_woken list q ≡ true → is_asleep list q ≡ false
woken_once list q once woken =
    found_by_task (λ s. s.task) q list.sleepers
    ∙ not_found q (tasks_of list.sleepers) (omega (arith, once.once q, parted list q, found_once q list.woken woken))
