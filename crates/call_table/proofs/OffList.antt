-- Who is off the futex list, where tasks end, are woken or sleep.
use Rattle.std.proofs.Common.{◌≡◌, ◌≢◌, ◌⊎◌, inl, inr, ℕ, zero, suc, Bool, true, false, cond, List, [], ◌∷◌, refl, ap}
use Rattle.std.proofs.Common.{sym, ◌∙◌, arith}
use Rattle.std.specs.Prelude.{Option, Some, None, filter, map}
use Rattle.std.specs.Option.{option_map, option_map_or}
use Rattle.std.specs.Ordering.{nat_cmp}
use Rattle.std.specs.FinMap.{FinMap, get}
use Rattle.futex_core.specs.declared.keys.FutexKey.{FutexKey}
use Rattle.futex_core.specs.Waiters.{FutexList, is_asleep, is_woken, after_leave, after_sleep, after_wake}
use Rattle.futex_core.proofs.OnList.{times_on, off_list, not_asleep, not_woken, slept_other, slept_itself, left_other}
use Rattle.futex_core.proofs.OnList.{left_itself, woken_before, woken_after}
use Rattle.task_table.specs.declared.task.EndedTask.{EndedTask}
use Rattle.task_table.specs.declared.task.Task.{Task}
use Rattle.task_table.specs.Ends.{ended_if, ended_tasks, ended_where}
use Rattle.task_table.specs.Table.{clear_of, is_live, live_numbers}
use Rattle.task_table.proofs.Endings.{get-ended_where}
use Rattle.kernel_model.proofs.NamedMaps.{same_or_other}
use Rattle.kernel_model.specs.calls.Ending.{left_by, woken_on}
use Rattle.kernel_model.specs.entries.Waiting.{Awake, Asleep, Woken, wait_of}

-- ---- off the list, as a number

pub off_times : (list : FutexList) (q : ℕ) → wait_of list q ≡ Awake → times_on list q ≡ 0
off_times list q e = by (is_asleep list q) (is_woken list q) refl refl e
  where
    by : (b d : Bool) → is_asleep list q ≡ b → is_woken list q ≡ d
        → cond b Asleep (cond d Woken Awake) ≡ Awake → times_on list q ≡ 0
    by true d asleep woken f = absurd (cc f)
    by false true asleep woken f = absurd (cc f)
    by false false asleep woken f = off_list list q asleep woken

pub times_off : (list : FutexList) (q : ℕ) → times_on list q ≡ 0 → wait_of list q ≡ Awake
times_off list q none =
    ap (λ b. cond b Asleep (cond (is_woken list q) Woken Awake)) (not_asleep list q none)
    ∙ ap (λ b. cond b Woken Awake) (not_woken list q none)

-- ---- sleeping

pub sleeper_on : (list : FutexList) (task : ℕ) (key : FutexKey) → wait_of (after_sleep list task key) task ≡ Awake → ⊥
sleeper_on list task key e =
    omega (arith, off_times (after_sleep list task key) task e, slept_itself list task key)

pub off_sleep : (list : FutexList) (task q : ℕ) (key : FutexKey) → task ≢ q → wait_of list q ≡ Awake
    → wait_of (after_sleep list task key) q ≡ Awake
off_sleep list task q key apart e =
    times_off (after_sleep list task key) q (slept_other list task key q apart ∙ off_times list q e)

pub off_before_sleep : (list : FutexList) (task q : ℕ) (key : FutexKey) → task ≢ q
    → wait_of (after_sleep list task key) q ≡ Awake → wait_of list q ≡ Awake
off_before_sleep list task q key apart e =
    times_off list q (sym (slept_other list task key q apart) ∙ off_times (after_sleep list task key) q e)

-- ---- leaving

pub left_off : (list : FutexList) (task : ℕ) → wait_of (after_leave list task) task ≡ Awake
left_off list task = times_off (after_leave list task) task (left_itself list task)

pub off_leave : (list : FutexList) (task q : ℕ) → wait_of list q ≡ Awake → wait_of (after_leave list task) q ≡ Awake
off_leave list task q e = by (same_or_other task q)
  where
    by : (task ≡ q) ⊎ (task ≢ q) → wait_of (after_leave list task) q ≡ Awake
    by (inl same) = ap (wait_of (after_leave list task)) (sym same) ∙ left_off list task
    by (inr apart) = times_off (after_leave list task) q (left_other list task q apart ∙ off_times list q e)

pub off_before_leave : (list : FutexList) (task q : ℕ) → task ≢ q → wait_of (after_leave list task) q ≡ Awake
    → wait_of list q ≡ Awake
off_before_leave list task q apart e =
    times_off list q (sym (left_other list task q apart) ∙ off_times (after_leave list task) q e)

-- ---- waking

pub off_wake : (list : FutexList) (key : FutexKey) (n q : ℕ) → wait_of list q ≡ Awake
    → wait_of (after_wake list key n) q ≡ Awake
off_wake list key n q e =
    times_off (after_wake list key n) q (omega (arith, woken_before list key n q, off_times list q e))

pub off_before_wake : (list : FutexList) (key : FutexKey) (n q : ℕ) → wait_of (after_wake list key n) q ≡ Awake
    → wait_of list q ≡ Awake
off_before_wake list key n q e = times_off list q (none (times_on list q) refl)
  where
    none : (k : ℕ) → times_on list q ≡ k → times_on list q ≡ 0
    none zero is = is
    none (suc k) is =
        absurd (omega (arith, woken_after list key n q (omega (arith, is)), off_times (after_wake list key n) q e))

pub off_woken_on : (keys : List FutexKey) (list : FutexList) (q : ℕ) → wait_of list q ≡ Awake
    → wait_of (woken_on keys list) q ≡ Awake
off_woken_on [] list q e = e
off_woken_on (key ∷ keys) list q e = off_woken_on keys (after_wake list key 1) q (off_wake list key 1 q e)

pub off_before_woken_on : (keys : List FutexKey) (list : FutexList) (q : ℕ) → wait_of (woken_on keys list) q ≡ Awake
    → wait_of list q ≡ Awake
off_before_woken_on [] list q e = e
off_before_woken_on (key ∷ keys) list q e =
    off_before_wake list key 1 q (off_before_woken_on keys (after_wake list key 1) q e)

-- ---- tasks that end

pub off_left_by : (ended : List EndedTask) (list : FutexList) (q : ℕ) → wait_of list q ≡ Awake
    → wait_of (left_by ended list) q ≡ Awake
off_left_by [] list q e = e
off_left_by (x ∷ ended) list q e = off_left_by ended (after_leave list x.task) q (off_leave list x.task q e)

-- a task that is none of those that end
abbrev pub IsNone : (q : ℕ) → List EndedTask → Type 0
IsNone q [] = Unit {0}
IsNone q (x ∷ ended) = (x.task ≢ q) × IsNone q ended

pub off_before_left_by : (ended : List EndedTask) (list : FutexList) (q : ℕ) → IsNone q ended
    → wait_of (left_by ended list) q ≡ Awake → wait_of list q ≡ Awake
off_before_left_by [] list q none e = e
off_before_left_by (x ∷ ended) list q none e =
    off_before_leave list x.task q none.0 (off_before_left_by ended (after_leave list x.task) q none.1 e)

-- one that lives after some ended is none of them
module _ (test : ℕ → Task → Bool) (tasks : FinMap nat_cmp Task) (q : ℕ)
    (lives : is_live (ended_where test tasks) q ≡ true) where
  fails : option_map_or (test q) (get tasks q) false ≡ true → ⊥
  fails passes = by (get tasks q) passes
      (sym (ap (λ o. option_map_or (λ (c : Task). c.live) o false) (get-ended_where test tasks q)) ∙ lives)
    where
      by : (o : Option Task) → option_map_or (test q) o false ≡ true
          → option_map_or (λ (c : Task). c.live) (option_map (ended_if test q) o) false ≡ true → ⊥
      by None p l = cc p
      by (Some c) p l = dead (test q c) p l
        where
          dead : (b : Bool) → b ≡ true → (cond b (record c { live = false }) c).live ≡ true → ⊥
          dead true p l = cc l
          dead false p l = cc p

  among : (xs : List ℕ) → IsNone q (map (λ n. record { task = n; clear = clear_of tasks n })
      (filter (λ n. option_map_or (test n) (get tasks n) false) xs))
  among [] = tt
  among (x ∷ xs) = by (option_map_or (test x) (get tasks x) false) refl (among xs)
    where
      rest : List ℕ
      rest = filter (λ n. option_map_or (test n) (get tasks n) false) xs

      by : (b : Bool) → option_map_or (test x) (get tasks x) false ≡ b
          → IsNone q (map (λ n. record { task = n; clear = clear_of tasks n }) rest)
          → IsNone q (map (λ n. record { task = n; clear = clear_of tasks n }) (cond b (x ∷ rest) rest))
      by true passes none =
          (λ same. fails (ap (λ n. option_map_or (test n) (get tasks n) false) (sym same) ∙ passes), none)
      by false passes none = none

  pub lives_on : IsNone q (ended_tasks test tasks)
  lives_on = among (live_numbers tasks)
