-- The futex list: who sleeps on which word and who was woken, and the list after each call.
-- futex(2), FUTEX_WAIT, FUTEX_WAKE
use Rattle.std.specs.Prelude.{ℕ, ◌==◌, ◌≤◌, not, Bool, List, [], ◌∷◌, ◌++◌, map, filter, take, count_by}
use Rattle.std.specs.List.{list_any}
use Rattle.futex_core.specs.declared.keys.FutexKey.{FutexKey}
use Rattle.futex_core.specs.declared.waiters.Sleeper.{Sleeper}
use Rattle.futex_core.specs.Keys.{same_word}

-- the sleepers in order of sleeping, and the tasks that were woken and whose call isn't entered yet, in order of waking
-- futex(2), FUTEX_WAIT; that a woken task stands here until its call has answered: profile
pub record FutexList : Type 0 where
  pub sleepers : List Sleeper
  pub woken : List ℕ

-- the tasks of the list: those that sleep, then those that were woken
-- futex(2), FUTEX_WAIT
abbrev pub tasks_in : FutexList → List ℕ
tasks_in list = map (λ s. s.task) list.sleepers ++ list.woken

-- no task stands in the list twice: none sleeps twice, none was woken twice, and none that sleeps was woken
-- futex(2), FUTEX_WAIT: a thread waits in one call at a time
pub record EachOnce (list : FutexList) : Type 0 where
  pub once : (task : ℕ) → count_by (λ t. t == task) (tasks_in list) ≤ 1

-- whether a task sleeps
-- futex(2), FUTEX_WAIT
abbrev pub is_asleep : FutexList → (task : ℕ) → Bool
is_asleep list task = list_any (λ s. s.task == task) list.sleepers

-- whether a task was woken and its call isn't entered yet
-- futex(2), RETURN VALUE, FUTEX_WAIT; the mark between waking and the answer: profile
abbrev pub is_woken : FutexList → (task : ℕ) → Bool
is_woken list task = list_any (λ t. t == task) list.woken

-- the list after a task went to sleep: it is the last of the sleepers
-- futex(2), FUTEX_WAIT; order of sleeping: profile
abbrev pub after_sleep : FutexList → (task : ℕ) → FutexKey → FutexList
after_sleep list task key = record {
  sleepers = list.sleepers ++ (record { task = task; key = key }) ∷ [];
  woken = list.woken;
}

-- the tasks that sleep on a word, in order of sleeping
-- futex(2), FUTEX_WAKE: the waiters that are waiting on the futex word
abbrev pub waiters_on : List Sleeper → FutexKey → List ℕ
waiters_on sleepers key = map (λ s. s.task) (filter (λ s. same_word s.key key) sleepers)

-- the tasks that a wake of at most n wakes, in order of sleeping
-- futex(2), FUTEX_WAKE: at most val of the waiters; which of them: profile
abbrev pub first_waiters : List Sleeper → FutexKey → (n : ℕ) → List ℕ
first_waiters sleepers key n = take n (waiters_on sleepers key)

-- the sleepers whose task is none of these, in order of sleeping
-- futex(2), FUTEX_WAKE
abbrev pub sleepers_without : List Sleeper → (tasks : List ℕ) → List Sleeper
sleepers_without sleepers tasks = filter (λ s. not (list_any (λ t. t == s.task) tasks)) sleepers

-- the list after a wake: the first waiters on the word are woken, and all others sleep on
-- futex(2), FUTEX_WAKE
abbrev pub after_wake : FutexList → FutexKey → (n : ℕ) → FutexList
after_wake list key n =
    let first = first_waiters list.sleepers key n in
    record { sleepers = sleepers_without list.sleepers first; woken = list.woken ++ first }

-- the list after a task left it, asleep or woken
-- futex(2), RETURN VALUE, FUTEX_WAIT; tasks that ended: profile
abbrev pub after_leave : FutexList → (task : ℕ) → FutexList
after_leave list task = record {
  sleepers = filter (λ s. not (s.task == task)) list.sleepers;
  woken = filter (λ t. not (t == task)) list.woken;
}
