-- Laws of tasks that end, and of the list of live ones.
use Rattle.std.proofs.Common.{◌≡◌, ℕ, Bool, true, false, cond, not, refl, ap, sym, ◌∙◌}
use Rattle.std.specs.Prelude.{Option, Some, None, filter}
use Rattle.std.specs.Option.{option_map, option_map_or}
use Rattle.std.specs.Ordering.{nat_cmp}
use Rattle.std.specs.FinMap.{FinMap, get, keys}
use Rattle.task_table.specs.declared.task.Task.{Task}
use Rattle.task_table.specs.Ends.{ended_if, ended_where}
use Rattle.task_table.specs.Table.{is_live, live_numbers}
use Rattle.task_table.proofs.Changes.{changed_along, changed_along_all, get-each_changed, keys-each_changed}
use Rattle.task_table.proofs.Numbers.{among_where, filter_alike, where_narrowed}

pub ended_twice : (test : ℕ → Task → Bool) (n : ℕ) (c : Task) → ended_if test n (ended_if test n c) ≡ ended_if test n c
ended_twice test n c =
    elim (test n c) as (λ b. test n c ≡ b → ended_if test n (cond b (record c { live = false }) c)
    ≡ cond b (record c { live = false }) c) [
      | true ↦ λ _.
          elim (test n (record c { live = false })) as
          (λ b. cond b (record c { live = false }) (record c { live = false }) ≡ record c { live = false }) [
            | true ↦
                refl
            | false ↦ refl
          ]
      | false ↦ λ e. ap (λ b. cond b (record c { live = false }) c) e
    ] refl

ended_already : (test : ℕ → Task → Bool) (n : ℕ) (c : Task) → c.live ≡ false → ended_if test n c ≡ c
ended_already test n c dead =
    elim (test n c) as (λ b. cond b (record c { live = false }) c ≡ c) [
      | true ↦
          λ i. record c { live = sym dead i }
      | false ↦ refl
    ]

-- the live tasks are all that an end changes
pub ended_along_live : (test : ℕ → Task → Bool) (tasks : FinMap nat_cmp Task)
    → changed_along (ended_if test) tasks (live_numbers tasks) ≡ ended_where test tasks
ended_along_live test tasks =
    changed_along_all (ended_if test) (ended_twice test) tasks (live_numbers tasks) (λ q c at out.
    ended_already test q c (sym (ap (λ o. option_map_or (λ (c : Task). c.live) o false) at)
    ∙ sym (among_where (λ c. c.live) tasks q) ∙ out))

-- what a task is after some ended
pub get-ended_where : (test : ℕ → Task → Bool) (tasks : FinMap nat_cmp Task) (q : ℕ) → get (ended_where test tasks) q
    ≡ option_map (ended_if test q) (get tasks q)
get-ended_where test tasks q = get-each_changed (ended_if test) tasks q

pub keys-ended_where : (test : ℕ → Task → Bool) (tasks : FinMap nat_cmp Task)
    → keys (ended_where test tasks) ≡ keys tasks
keys-ended_where test tasks = keys-each_changed (ended_if test) (ended_twice test) tasks

-- who lives after some ended lived before
pub live_before_end : (test : ℕ → Task → Bool) (tasks : FinMap nat_cmp Task) (q : ℕ)
    → is_live (ended_where test tasks) q ≡ true → is_live tasks q ≡ true
live_before_end test tasks q h =
    before (get tasks q)
    (sym (ap (λ o. option_map_or (λ (c : Task). c.live) o false) (get-ended_where test tasks q)) ∙ h)
  where
    before : (o : Option Task) → option_map_or (λ (c : Task). c.live) (option_map (ended_if test q) o) false ≡ true
        → option_map_or (λ (c : Task). c.live) o false ≡ true
    before None h = h
    before (Some c) h =
        elim (test q c) as (λ b. (cond b (record c { live = false }) c).live ≡ true → c.live ≡ true) [
          | true ↦
              λ e. absurd (cc e)
          | false ↦ λ e. e
        ] h

-- the live tasks after some ended
pub live_after_end : (test : ℕ → Task → Bool) (tasks : FinMap nat_cmp Task)
    → filter (is_live (ended_where test tasks)) (live_numbers tasks) ≡ live_numbers (ended_where test tasks)
live_after_end test tasks =
    where_narrowed (λ c. c.live) tasks (ended_where test tasks) (keys-ended_where test tasks)
    (live_before_end test tasks)

-- they are those that didn't pass the test
pub live_stays : (test : ℕ → Task → Bool) (tasks : FinMap nat_cmp Task)
    → filter (λ n. not (option_map_or (test n) (get tasks n) false)) (live_numbers tasks)
    ≡ live_numbers (ended_where test tasks)
live_stays test tasks = filter_alike _ _ (live_numbers tasks) (λ q among.
    stays q (get tasks q) (sym (among_where (λ c. c.live) tasks q) ∙ among)
    ∙ sym (ap (λ o. option_map_or (λ (c : Task). c.live) o false) (get-ended_where test tasks q)))
    ∙ live_after_end test tasks
  where
    stays : (q : ℕ) (o : Option Task) → option_map_or (λ (c : Task). c.live) o false ≡ true
        → not (option_map_or (test q) o false)
        ≡ option_map_or (λ (c : Task). c.live) (option_map (ended_if test q) o) false
    stays q None live = absurd (cc live)
    stays q (Some c) live =
        elim (test q c) as (λ b. not b ≡ (cond b (record c { live = false }) c).live) [ true ↦ refl | false ↦ sym live ]
