-- No change of the futex list puts a task there twice.
use Rattle.std.proofs.Common.{◌≡◌, ℕ, ◌+◌, ◌≤◌, ◌==◌, not, Bool, true, false, cond, List, [], ◌∷◌, ◌++◌, map, filter}
use Rattle.std.proofs.Common.{refl, ap, sym, ◌∙◌, arith}
use Rattle.std.specs.List.{list_any}
use Rattle.std.proofs.lemmas.Bool.{eqb-true, both_ways}
use Rattle.std.proofs.lemmas.List.{map-append, map-id}
use Rattle.futex_core.specs.declared.keys.FutexKey.{FutexKey}
use Rattle.futex_core.specs.declared.waiters.Sleeper.{Sleeper}
use Rattle.futex_core.specs.Keys.{same_word}
use Rattle.futex_core.specs.Waiters.{FutexList, EachOnce, tasks_in, is_asleep, is_woken, after_sleep, waiters_on}
use Rattle.futex_core.specs.Waiters.{first_waiters, sleepers_without, after_wake, after_leave}
use Rattle.futex_core.proofs.Counts.{times, weight, times-append, times-cons, times-take, times-filter, none_times}
use Rattle.futex_core.proofs.Counts.{found_by_task}

-- the tasks of sleepers
abbrev pub tasks_of : List Sleeper → List ℕ
tasks_of sleepers = map (λ s. s.task) sleepers

-- nobody stands in the empty list
pub once_of_none : EachOnce (record { sleepers = []; woken = [] })
once_of_none = record { once = λ task. omega arith }

-- and nobody twice in a list that is the same
pub once_of_same : (sleepers sleepers' : List Sleeper) (woken woken' : List ℕ)
    → EachOnce (record { sleepers = sleepers; woken = woken }) → sleepers' ≡ sleepers → woken' ≡ woken
    → EachOnce (record { sleepers = sleepers'; woken = woken' })
once_of_same sleepers sleepers' woken woken' h same_sleepers same_woken =
    record { once = λ q. rw (same_sleepers, same_woken) (h.once q) }

pub once_after_sleep : (list : FutexList) (task : ℕ) (key : FutexKey) → EachOnce list → is_asleep list task ≡ false
    → is_woken list task ≡ false → EachOnce (after_sleep list task key)
once_after_sleep list task key h asleep woken = record { once = λ q. by_task q (task == q) refl }
  where
    sleeps_never : times task (tasks_of list.sleepers) ≡ 0
    sleeps_never =
        none_times task (tasks_of list.sleepers) (sym (found_by_task (λ s. s.task) task list.sleepers) ∙ asleep)

    parted : (q : ℕ) → times q (tasks_in (after_sleep list task key)) ≡ times q (tasks_of list.sleepers)
        + times q (task ∷ []) + times q list.woken
    parted q =
        times-append q (tasks_of (after_sleep list task key).sleepers) list.woken
        ∙ ap (λ ts. times q ts + times q list.woken)
        (map-append (λ s. s.task) list.sleepers ((record { task = task; key = key }) ∷ []))
        ∙ ap (λ k. k + times q list.woken) (times-append q (tasks_of list.sleepers) (task ∷ []))

    by_task : (q : ℕ) (b : Bool) → (task == q) ≡ b → times q (tasks_in (after_sleep list task key)) ≤ 1
    by_task q true e =
        let same = eqb-true task q e in
        let one : weight (task == q) ≡ 1 = ap weight e in
        let asleep_never : times q (tasks_of list.sleepers) ≡ 0 =
        ap (λ t. times t (tasks_of list.sleepers)) (sym same) ∙ sleeps_never in
        let woken_never : times q list.woken ≡ 0 =
        ap (λ t. times t list.woken) (sym same) ∙ none_times task list.woken woken in
        omega (arith, parted q, one, asleep_never, woken_never, times-cons q task [])
    by_task q false e =
        let no_more : weight (task == q) ≡ 0 = ap weight e in
        omega (
          arith,
          parted q,
          no_more,
          h.once q,
          times-append q (tasks_of list.sleepers) list.woken,
          times-cons q task [],
        )

-- a task among those taken out is no longer a sleeper's
pub left_out : (q : ℕ) (ts : List ℕ) (sleepers : List Sleeper) → list_any (λ t. t == q) ts ≡ true
    → times q (tasks_of (sleepers_without sleepers ts)) ≡ 0
left_out q ts [] h = refl
left_out q ts (s ∷ sleepers) h = by_test (list_any (λ t. t == s.task) ts) refl (left_out q ts sleepers h)
  where
    apart : list_any (λ t. t == s.task) ts ≡ false → (b : Bool) → (s.task == q) ≡ b → weight (s.task == q) ≡ 0
    apart e true same = absurd (both_ways _ e (ap (λ k. list_any (λ t. t == k) ts) (eqb-true s.task q same) ∙ h))
    apart e false other = ap weight other

    by_test : (b : Bool) → list_any (λ t. t == s.task) ts ≡ b → times q (tasks_of (sleepers_without sleepers ts)) ≡ 0
        → times q (tasks_of (cond (not b) (s ∷ sleepers_without sleepers ts) (sleepers_without sleepers ts))) ≡ 0
    by_test true e rest = rest
    by_test false e rest =
        omega (arith, rest, apart e (s.task == q) refl, times-cons q s.task (tasks_of (sleepers_without sleepers ts)))

-- whom a wake takes from the sleepers stands no more often among the woken than there
pub moved : (q : ℕ) (sleepers : List Sleeper) (key : FutexKey) (n : ℕ)
    → times q (tasks_of (sleepers_without sleepers (first_waiters sleepers key n)))
    + times q (first_waiters sleepers key n) ≤ times q (tasks_of sleepers)
moved q sleepers key n = by_test (list_any (λ t. t == q) (first_waiters sleepers key n)) refl
  where
    by_test : (b : Bool) → list_any (λ t. t == q) (first_waiters sleepers key n) ≡ b
        → times q (tasks_of (sleepers_without sleepers (first_waiters sleepers key n)))
        + times q (first_waiters sleepers key n) ≤ times q (tasks_of sleepers)
    by_test true e =
        omega (
          arith,
          left_out q (first_waiters sleepers key n) sleepers e,
          times-take q n (waiters_on sleepers key),
          times-filter (λ s. s.task) (λ s. same_word s.key key) q sleepers,
        )
    by_test false e =
        omega (
          arith,
          none_times q (first_waiters sleepers key n) e,
          times-filter (λ s. s.task) (λ s. not (list_any (λ t. t == s.task) (first_waiters sleepers key n))) q sleepers,
        )

pub once_after_wake : (list : FutexList) (key : FutexKey) (n : ℕ) → EachOnce list → EachOnce (after_wake list key n)
once_after_wake list key n h = record {
  once = λ q. omega (
    arith,
    h.once q,
    moved q list.sleepers key n,
    times-append q (tasks_of list.sleepers) list.woken,
    times-append q (tasks_of (sleepers_without list.sleepers (first_waiters list.sleepers key n)))
        (list.woken ++ first_waiters list.sleepers key n),
    times-append q list.woken (first_waiters list.sleepers key n),
  );
}

fewer : (q : ℕ) (keeps : ℕ → Bool) (ts : List ℕ) → times q (filter keeps ts) ≤ times q ts
fewer q keeps ts =
    omega (arith, times-filter (λ t. t) keeps q ts, ap (times q) (map-id (filter keeps ts)), ap (times q) (map-id ts))

pub once_after_leave : (list : FutexList) (task : ℕ) → EachOnce list → EachOnce (after_leave list task)
once_after_leave list task h = record {
  once = λ q. omega (
    arith,
    h.once q,
    times-append q (tasks_of list.sleepers) list.woken,
    times-append q (tasks_of (after_leave list task).sleepers) (after_leave list task).woken,
    times-filter (λ s. s.task) (λ s. not (s.task == task)) q list.sleepers,
    fewer q (λ t. not (t == task)) list.woken,
  );
}
