-- What holds of the table at all times holds after each change.
use Rattle.std.proofs.Common.{◌≡◌, ℕ, ◌+◌, ◌<◌, ◌≤◌, map, lit≤, Bool, true}
use Rattle.std.proofs.Common.{false, cond, not, eqb, ◌&&◌, List, [], ◌∷◌, ◌++◌, length}
use Rattle.std.proofs.Common.{refl, ap, sym, ◌∙◌, subst, arith, length-append}
use Rattle.std.specs.Prelude.{Option, Some, None, is_some, filter}
use Rattle.std.specs.Option.{option_map, option_map_or}
use Rattle.std.specs.Ordering.{nat_cmp}
use Rattle.std.specs.FinMap.{FinMap, get, entries, empty, insert, contains_key, get-empty, len-empty, len-entries}
use Rattle.std.proofs.lemmas.Bool.{eqb-true, eq-eqb, ne_eqb, and_from, not-true}
use Rattle.std.proofs.lemmas.List.{append-nil, nil_from_length}
use Rattle.std.proofs.lemmas.List.Sums.{length-filter, count_by-le-length}
use Rattle.task_table.specs.declared.table.TheConstants.{LAST_TASK}
use Rattle.task_table.specs.declared.task.Task.{Task}
use Rattle.task_table.specs.declared.task.Group.{Group}
use Rattle.task_table.specs.declared.task.Status.{Status}
use Rattle.task_table.specs.Clones.{with_group, threaded}
use Rattle.task_table.specs.Ends.{ended_if, ended_where, group_ended, groups_closed}
use Rattle.task_table.specs.Ends.{is_itself, is_last, is_member, others_ended}
use Rattle.task_table.specs.Entries.{changed_at, each_changed, numbers_where, passes}
use Rattle.task_table.specs.Kept.{IsKept, IsSoundTable}
use Rattle.task_table.specs.Reaps.{orphaned}
use Rattle.task_table.specs.Table.{TaskTable, group_of, has_ended, has_parent, is_live, live_numbers, no_tasks}
use Rattle.task_table.proofs.Changes.{alike, get-changed_at, get-each_changed, keys-changed_at}
use Rattle.task_table.proofs.Endings.{get-ended_where, live_after_end, live_before_end}
use Rattle.task_table.proofs.Numbers.{any_passing, get_after, among_where, where-insert_last, where_same}

-- ---- equal parts

-- what holds of a table holds of one with the same parts
pub sound_same : (t : TaskTable) (live children : List ℕ) (tasks : FinMap nat_cmp Task) (groups : FinMap nat_cmp Group)
    (last : ℕ) (live' children' : List ℕ) → tasks ≡ t.tasks → groups ≡ t.groups → last ≡ t.last → live' ≡ live
    → children' ≡ children → IsSoundTable t live children
    → IsSoundTable (record { tasks = tasks; groups = groups; last = last }) live' children'
sound_same t live children tasks groups last live' children' a b c d e sound =
    subst (λ x. IsSoundTable (record { tasks = x; groups = groups; last = last }) live' children') (sym a)
    (subst (λ x. IsSoundTable (record { tasks = t.tasks; groups = x; last = last }) live' children') (sym b)
    (subst (λ x. IsSoundTable (record { tasks = t.tasks; groups = t.groups; last = x }) live' children') (sym c)
    (subst (λ x. IsSoundTable t x children') (sym d)
    (subst (λ x. IsSoundTable t live x) (sym e) sound))))

-- a table with these parts, and the lists of it
pub sound_of : (t : TaskTable) (tasks : FinMap nat_cmp Task) (groups : FinMap nat_cmp Group) (live children : List ℕ)
    → tasks ≡ t.tasks → groups ≡ t.groups → live ≡ live_numbers tasks → children ≡ numbers_where has_parent groups
    → IsKept t → IsSoundTable (record { tasks = tasks; groups = groups; last = t.last }) live children
sound_of t tasks groups live children a b live_is children_are kept =
    sound_same t (live_numbers t.tasks) (numbers_where has_parent t.groups) tasks groups t.last live children a b refl
    (live_is ∙ ap (numbers_where (λ c. c.live)) a) (children_are ∙ ap (numbers_where has_parent) b)
    (record { kept = kept; live_is = refl; children_are = refl })

-- a table whose parts are those of one of which all holds, and the lists of it
pub sound_of_parts : (t : TaskTable) (tasks : FinMap nat_cmp Task) (groups : FinMap nat_cmp Group) (last : ℕ)
    (live children : List ℕ) → tasks ≡ t.tasks → groups ≡ t.groups → last ≡ t.last → live ≡ live_numbers t.tasks
    → children ≡ numbers_where has_parent t.groups → IsKept t
    → IsSoundTable (record { tasks = tasks; groups = groups; last = last }) live children
sound_of_parts t tasks groups last live children a b c live_is children_are kept =
    sound_same t (live_numbers t.tasks) (numbers_where has_parent t.groups) tasks groups last live children a b c
    live_is children_are (record { kept = kept; live_is = refl; children_are = refl })

-- ---- changes that make no task and no group

-- the same numbers and groups, no task that lives anew, and no group of a live task that has ended
pub kept_by : (t : TaskTable) (tasks : FinMap nat_cmp Task) (groups : FinMap nat_cmp Group) → IsKept t
    → ((n : ℕ) → contains_key tasks n ≡ contains_key t.tasks n)
    → ((g : ℕ) → contains_key groups g ≡ contains_key t.groups g) → ((n : ℕ) → group_of tasks n ≡ group_of t.tasks n)
    → ((n : ℕ) → is_live tasks n ≡ true → is_live t.tasks n ≡ true)
    → ((n : ℕ) → is_live tasks n ≡ true → has_ended groups (group_of t.tasks n)
    ≡ has_ended t.groups (group_of t.tasks n)) → length (live_numbers tasks) ≤ length (live_numbers t.tasks)
    → IsKept (record { tasks = tasks; groups = groups; last = t.last })
kept_by t tasks groups kept same_tasks same_groups same_group lived ends fewer = record {
  task_numbers = λ n h. kept.task_numbers n (sym (same_tasks n) ∙ h);
  group_numbers = λ g h. kept.group_numbers g (sym (same_groups g) ∙ h);
  last_small = kept.last_small;
  task_groups = λ n h. ap (contains_key groups) (same_group n) ∙ same_groups (group_of t.tasks n)
      ∙ kept.task_groups n (sym (same_tasks n) ∙ h);
  live_groups = λ n h. ap (has_ended groups) (same_group n) ∙ ends n h ∙ kept.live_groups n (lived n h);
  few_live = let few = kept.few_live in omega arith;
}

some_map : {A : Type 0} (f : A → A) (o : Option A) → is_some (option_map f o) ≡ is_some o
some_map f None = refl
some_map f (Some x) = refl

some_cond : {A : Type 0} (f : A → A) (b : Bool) (o : Option A) → is_some (cond b (option_map f o) o) ≡ is_some o
some_cond f true o = some_map f o
some_cond f false o = refl

-- ---- tasks that end

group_after_end : (test : ℕ → Task → Bool) (tasks : FinMap nat_cmp Task) (n : ℕ)
    → group_of (ended_where test tasks) n ≡ group_of tasks n
group_after_end test tasks n =
    ap (λ o. option_map_or (λ (c : Task). c.group) o 0) (get-ended_where test tasks n) ∙ at (get tasks n)
  where
    at : (o : Option Task) → option_map_or (λ (c : Task). c.group) (option_map (ended_if test n) o) 0
        ≡ option_map_or (λ (c : Task). c.group) o 0
    at None = refl
    at (Some c) =
        elim (test n c) as (λ b. (cond b (record c { live = false }) c).group ≡ c.group) [ true ↦ refl | false ↦ refl ]

-- a task that lives after some ended didn't pass the test
spared : (test : ℕ → Task → Bool) (tasks : FinMap nat_cmp Task) (n : ℕ) → is_live (ended_where test tasks) n ≡ true
    → option_map_or (test n) (get tasks n) false ≡ false
spared test tasks n h =
    at (get tasks n) (sym (ap (λ o. option_map_or (λ (c : Task). c.live) o false) (get-ended_where test tasks n)) ∙ h)
  where
    at : (o : Option Task) → option_map_or (λ (c : Task). c.live) (option_map (ended_if test n) o) false ≡ true
        → option_map_or (test n) o false ≡ false
    at None h = refl
    at (Some c) h = elim (test n c) as (λ b. (cond b (record c { live = false }) c).live ≡ true → b ≡ false) [
      | true ↦
          λ e. absurd (cc e)
      | false ↦ λ _. refl
    ] h

-- tasks ended, and no group of one that lives did
pub kept_ended : (t : TaskTable) (test : ℕ → Task → Bool) (groups : FinMap nat_cmp Group) → IsKept t
    → ((g : ℕ) → contains_key groups g ≡ contains_key t.groups g)
    → ((n : ℕ) → is_live (ended_where test t.tasks) n ≡ true → has_ended groups (group_of t.tasks n)
    ≡ has_ended t.groups (group_of t.tasks n))
    → IsKept (record { tasks = ended_where test t.tasks; groups = groups; last = t.last })
kept_ended t test groups kept same ends = kept_by t (ended_where test t.tasks) groups kept
    (λ n. ap is_some (get-ended_where test t.tasks n) ∙ some_map (ended_if test n) (get t.tasks n))
    same (group_after_end test t.tasks) (live_before_end test t.tasks) ends
    (subst (λ xs. length xs ≤ length (live_numbers t.tasks)) (live_after_end test t.tasks)
    (subst (λ n. n ≤ length (live_numbers t.tasks))
    (sym (length-filter (is_live (ended_where test t.tasks)) (live_numbers t.tasks)))
    (count_by-le-length (is_live (ended_where test t.tasks)) (live_numbers t.tasks))))

-- ---- groups that end

contains_closed : (groups : FinMap nat_cmp Group) (g : ℕ) (status : Status) (q : ℕ)
    → contains_key (groups_closed groups g status) q ≡ contains_key groups q
contains_closed groups g status q =
    ap is_some (get-changed_at (λ group. record group { ended = Some status })
    (each_changed (λ _. orphaned g) groups) g q)
    ∙ some_cond (λ (group : Group). record group { ended = Some status }) (eqb q g) _
    ∙ ap is_some (get-each_changed (λ _. orphaned g) groups q)
    ∙ some_map (orphaned g) (get groups q)

still_alike : (g : ℕ) (o : Option Group)
    → option_map_or (λ (group : Group). is_some group.ended) (option_map (orphaned g) o) false
    ≡ option_map_or (λ (group : Group). is_some group.ended) o false
still_alike g None = refl
still_alike g (Some group) =
    elim (eqb group.parent g) as (λ b. is_some (cond b (record group { parent = 0 }) group).ended ≡ is_some group.ended)
    [ true ↦ refl | false ↦ refl ]

-- no other group ends
others_live : (groups : FinMap nat_cmp Group) (g : ℕ) (status : Status) (q : ℕ) → eqb q g ≡ false
    → has_ended (groups_closed groups g status) q ≡ has_ended groups q
others_live groups g status q apart =
    ap (λ o. option_map_or (λ (group : Group). is_some group.ended) o false) (
    get-changed_at (λ group. record group { ended = Some status }) (each_changed (λ _. orphaned g) groups) g q
    ∙ ap (λ b. cond b
    (option_map (λ (group : Group). record group { ended = Some status })
    (get (each_changed (λ _. orphaned g) groups) q)) (get (each_changed (λ _. orphaned g) groups) q)) apart
    ∙ get-each_changed (λ _. orphaned g) groups q)
    ∙ still_alike g (get groups q)

pub kept_group_ended : (t : TaskTable) (g : ℕ) (status : Status) → IsKept t → IsKept (group_ended t g status)
kept_group_ended t g status kept =
    kept_ended t (is_member g) (groups_closed t.groups g status) kept (contains_closed t.groups g status)
    (λ n h. others_live t.groups g status (group_of t.tasks n)
    (apart (get t.tasks n) (spared (is_member g) t.tasks n h) (live_before_end (is_member g) t.tasks n h)))
  where
    apart : (o : Option Task) → option_map_or (λ (c : Task). eqb c.group g) o false ≡ false
        → option_map_or (λ (c : Task). c.live) o false ≡ true
        → eqb (option_map_or (λ (c : Task). c.group) o 0) g ≡ false
    apart None h live = absurd (cc live)
    apart (Some c) h live = h

pub kept_others_ended : (t : TaskTable) (task : ℕ) → IsKept t → IsKept (others_ended t task)
kept_others_ended t task kept = kept_ended t _ t.groups kept (λ _. refl) (λ _ _. refl)

-- where a task is the last of its group, no other that lives is in it
alone : (tasks : FinMap nat_cmp Task) (task n : ℕ) → is_last tasks task ≡ true → is_live tasks n ≡ true
    → eqb n task ≡ false → eqb (group_of tasks n) (group_of tasks task) ≡ false
alone tasks task n last live apart = at (eqb (group_of tasks n) (group_of tasks task)) refl
  where
    at : (b : Bool) → eqb (group_of tasks n) (group_of tasks task) ≡ b → b ≡ false
    at true is = absurd (cc (
      sym (not-true _ last),
      any_passing (λ m. eqb (group_of tasks m) (group_of tasks task) && not (eqb m task)) n (live_numbers tasks)
          (among_where (λ c. c.live) tasks n ∙ live) (and_from _ _ is (ap not apart)),
    ))
    at false is = refl

not_itself : (task n : ℕ) (o : Option Task) → option_map_or (λ (c : Task). eqb n task) o false ≡ false
    → option_map_or (λ (c : Task). c.live) o false ≡ true → eqb n task ≡ false
not_itself task n None h live = absurd (cc live)
not_itself task n (Some c) h live = h

-- the last task of a group ended, and the group with it
pub kept_last_exited : (t : TaskTable) (task : ℕ) (status : Status) → is_last t.tasks task ≡ true → IsKept t
    → IsKept (record {
      tasks = ended_where (is_itself task) t.tasks;
      groups = groups_closed t.groups (group_of t.tasks task) status;
      last = t.last;
    })
kept_last_exited t task status last kept =
    kept_ended t (is_itself task) _ kept (contains_closed t.groups (group_of t.tasks task) status)
    (λ n h. others_live t.groups (group_of t.tasks task) status (group_of t.tasks n)
    (alone t.tasks task n last (live_before_end (is_itself task) t.tasks n h)
    (not_itself task n (get t.tasks n) (spared (is_itself task) t.tasks n h)
    (live_before_end (is_itself task) t.tasks n h))))

-- a task ended, and no group
pub kept_exited : (t : TaskTable) (task : ℕ) → IsKept t
    → IsKept (record { tasks = ended_where (is_itself task) t.tasks; groups = t.groups; last = t.last })
kept_exited t task kept = kept_ended t (is_itself task) t.groups kept (λ _. refl) (λ _ _. refl)

-- ---- one entry changed

-- a group's entry whose end stays
pub kept_group_changed : (t : TaskTable) (f : Group → Group) (g : ℕ) → ((group : Group) → (f group).ended ≡ group.ended)
    → IsKept t → IsKept (record t { groups = changed_at f t.groups g })
kept_group_changed t f g same kept = kept_by t t.tasks (changed_at f t.groups g) kept (λ _. refl)
    (λ q. ap is_some (get-changed_at f t.groups g q) ∙ some_cond f (eqb q g) (get t.groups q))
    (λ _. refl) (λ _ h. h)
    (λ n _. ap (λ o. option_map_or (λ (group : Group). is_some group.ended) o false)
    (get-changed_at f t.groups g (group_of t.tasks n))
    ∙ alike f (λ (group : Group). is_some group.ended) false (λ group. ap is_some (same group))
    (eqb (group_of t.tasks n) g) (get t.groups (group_of t.tasks n)))
    (omega arith)

-- a task's entry whose group and life stay
pub live_after_change : (f : Task → Task) (tasks : FinMap nat_cmp Task) (n : ℕ) → ((c : Task) → (f c).live ≡ c.live)
    → live_numbers (changed_at f tasks n) ≡ live_numbers tasks
live_after_change f tasks n same = where_same (λ c. c.live) tasks (changed_at f tasks n) (keys-changed_at f tasks n)
    (λ q. ap (λ o. option_map_or (λ (c : Task). c.live) o false) (get-changed_at f tasks n q)
    ∙ alike f (λ (c : Task). c.live) false same (eqb q n) (get tasks q))

pub kept_task_changed : (t : TaskTable) (f : Task → Task) (n : ℕ) → ((c : Task) → (f c).live ≡ c.live)
    → ((c : Task) → (f c).group ≡ c.group) → IsKept t → IsKept (record t { tasks = changed_at f t.tasks n })
kept_task_changed t f n same_live same_group kept = kept_by t (changed_at f t.tasks n) t.groups kept
    (λ q. ap is_some (get-changed_at f t.tasks n q) ∙ some_cond f (eqb q n) (get t.tasks q))
    (λ _. refl)
    (λ q. ap (λ o. option_map_or (λ (c : Task). c.group) o 0) (get-changed_at f t.tasks n q)
    ∙ alike f (λ (c : Task). c.group) 0 same_group (eqb q n) (get t.tasks q))
    (λ q h. sym (ap (λ o. option_map_or (λ (c : Task). c.live) o false) (get-changed_at f t.tasks n q)
    ∙ alike f (λ (c : Task). c.live) false same_live (eqb q n) (get t.tasks q)) ∙ h)
    (λ _ _. refl)
    (subst (λ xs. length xs ≤ length (live_numbers t.tasks))
    (sym (live_after_change f t.tasks n same_live)) (omega arith))

pub children_after_change : (f : Group → Group) (groups : FinMap nat_cmp Group) (g : ℕ)
    → ((group : Group) → (f group).parent ≡ group.parent) → numbers_where has_parent (changed_at f groups g)
    ≡ numbers_where has_parent groups
children_after_change f groups g same =
    where_same has_parent groups (changed_at f groups g) (keys-changed_at f groups g)
    (λ q. ap (λ o. option_map_or has_parent o false) (get-changed_at f groups g q)
    ∙ alike f has_parent false (λ group. ap (λ p. has_parent (record group { parent = p })) (same group))
    (eqb q g) (get groups q))

-- ---- a new task

new_some : {V : Type 0} (m : FinMap nat_cmp V) (k : ℕ) (v : V) (q : ℕ) (P : Type 0) → (q ≡ k → P)
    → (contains_key m q ≡ true → P) → contains_key (insert m k v) q ≡ true → P
new_some m k v q P here there h = at (eqb q k) refl (sym (ap is_some (get_after m k v q)) ∙ h)
  where
    at : (b : Bool) → eqb q k ≡ b → is_some (cond b (Some v) (get m q)) ≡ true → P
    at true is _ = here (eqb-true q k is)
    at false is e = there e

insert_here : {V : Type 0} (m : FinMap nat_cmp V) (k : ℕ) (v : V) → get (insert m k v) k ≡ Some v
insert_here m k v = get_after m k v k ∙ ap (λ b. cond b (Some v) (get m k)) (eq-eqb k k refl)

insert_there : {V : Type 0} (m : FinMap nat_cmp V) (k : ℕ) (v : V) (q : ℕ) → (q ≡ k → ⊥)
    → get (insert m k v) q ≡ get m q
insert_there m k v q apart = get_after m k v q ∙ ap (λ b. cond b (Some v) (get m q)) (ne_eqb q k apart)

-- numbers that were used are below the next
pub below_next : {V : Type 0} (m : FinMap nat_cmp V) (last : ℕ)
    → ((n : ℕ) → contains_key m n ≡ true → (0 < n) × (n ≤ last)) → (q : ℕ) → contains_key m q ≡ true → q < last + 1
below_next m last known q h = let b : q ≤ last = (known q h).1 in omega arith

live_there : (tasks : FinMap nat_cmp Task) (n : ℕ) → is_live tasks n ≡ true → contains_key tasks n ≡ true
live_there tasks n h = at (get tasks n) h
  where
    at : (o : Option Task) → option_map_or (λ (c : Task). c.live) o false ≡ true → is_some o ≡ true
    at None h = h
    at (Some c) h = refl

next_of : {V : Type 0} (m : FinMap nat_cmp V) (last : ℕ) (v : V)
    → ((n : ℕ) → contains_key m n ≡ true → (0 < n) × (n ≤ last)) → (n : ℕ) → contains_key (insert m (last + 1) v) n
    ≡ true → (0 < n) × (n ≤ last + 1)
next_of m last v known n h =
    new_some m (last + 1) v n ((0 < n) × (n ≤ last + 1)) (λ e. (omega arith, omega arith))
    (λ there. ((known n there).0, let b : n ≤ last = (known n there).1 in omega arith)) h

-- a new task with a group that lives, which is there, among groups that keep all others
kept_new : (t : TaskTable) (c : Task) (groups : FinMap nat_cmp Group) → IsKept t → t.last + 1 ≤ LAST_TASK
    → length (live_numbers t.tasks) < 256
    → ((g : ℕ) → contains_key groups g ≡ true → (0 < g) × (g ≤ t.last + 1))
    → ((g : ℕ) → contains_key t.groups g ≡ true → (contains_key groups g ≡ true)
    × (has_ended groups g ≡ has_ended t.groups g))
    → contains_key groups c.group ≡ true → has_ended groups c.group ≡ false
    → IsKept (record { tasks = insert t.tasks (t.last + 1) c; groups = groups; last = t.last + 1 })
kept_new t c groups kept small few group_numbers stay there lives = record {
  task_numbers = next_of t.tasks t.last c kept.task_numbers;
  group_numbers = group_numbers;
  last_small = small;
  task_groups = λ n h. new_some t.tasks (t.last + 1) c n (contains_key groups (group_of new n) ≡ true)
      (λ e. ap (contains_key groups) (own n e) ∙ there)
      (λ old. ap (contains_key groups) (other n old) ∙ (stay (group_of t.tasks n) (kept.task_groups n old)).0) h;
  live_groups = λ n h. new_some t.tasks (t.last + 1) c n (has_ended groups (group_of new n) ≡ false)
      (λ e. ap (has_ended groups) (own n e) ∙ lives)
      (λ old. ap (has_ended groups) (other n old) ∙ (stay (group_of t.tasks n) (kept.task_groups n old)).1
      ∙ kept.live_groups n
      (sym (ap (λ o. option_map_or (λ (x : Task). x.live) o false)
      (insert_there t.tasks (t.last + 1) c n (apart n old))) ∙ h))
      (live_there new n h);
  few_live = subst (λ xs. length xs ≤ 256)
      (sym (where-insert_last (λ x. x.live) t.tasks (t.last + 1) c (below_next t.tasks t.last kept.task_numbers)))
      (longer c.live);
}
  where
    new : FinMap nat_cmp Task
    new = insert t.tasks (t.last + 1) c

    own : (n : ℕ) → n ≡ t.last + 1 → group_of (insert t.tasks (t.last + 1) c) n ≡ c.group
    own n e = ap (group_of (insert t.tasks (t.last + 1) c)) e
        ∙ ap (λ o. option_map_or (λ (x : Task). x.group) o 0) (insert_here t.tasks (t.last + 1) c)

    apart : (n : ℕ) → contains_key t.tasks n ≡ true → n ≡ t.last + 1 → ⊥
    apart n old e = let b : n < t.last + 1 = below_next t.tasks t.last kept.task_numbers n old in omega arith

    other : (n : ℕ) → contains_key t.tasks n ≡ true → group_of (insert t.tasks (t.last + 1) c) n ≡ group_of t.tasks n
    other n old =
        ap (λ o. option_map_or (λ (x : Task). x.group) o 0) (insert_there t.tasks (t.last + 1) c n (apart n old))

    longer : (b : Bool) → length (live_numbers t.tasks ++ cond b ((t.last + 1) ∷ []) []) ≤ 256
    longer true = omega (arith, length-append (live_numbers t.tasks) ((t.last + 1) ∷ []))
    longer false = omega (arith, length-append {A = ℕ} (live_numbers t.tasks) [])

-- a task in a new group
pub sound_with_group : (t : TaskTable) (live children : List ℕ) (group : Group) (clear : ℕ)
    → IsSoundTable t live children
    → t.last < LAST_TASK → group.ended ≡ None → length live < 256
    → IsSoundTable (with_group t group clear) (live ++ (t.last + 1) ∷ [])
    (cond (has_parent group) (children ++ (t.last + 1) ∷ []) children)
sound_with_group t live children group clear sound small lives few = record {
  kept = kept_new t (record { group = t.last + 1; clear = clear; live = true })
      (insert t.groups (t.last + 1) group) sound.kept
      (omega arith) (subst (λ xs. length xs < 256) sound.live_is few)
      (next_of t.groups t.last group sound.kept.group_numbers)
      (λ g old. let apart : g ≡ t.last + 1
      → ⊥ = λ e. let b : g < t.last + 1 =
      below_next t.groups t.last sound.kept.group_numbers g old in omega arith in
      let same = insert_there t.groups (t.last + 1) group g apart in
      (ap is_some same ∙ old, ap (λ o. option_map_or (λ (x : Group). is_some x.ended) o false) same))
      (ap is_some (insert_here t.groups (t.last + 1) group))
      (ap (λ o. option_map_or (λ (x : Group). is_some x.ended) o false) (insert_here t.groups (t.last + 1) group)
      ∙ ap is_some lives);
  live_is = ap (λ xs. xs ++ (t.last + 1) ∷ []) sound.live_is
      ∙ sym (where-insert_last (λ x. x.live) t.tasks (t.last + 1) _
      (below_next t.tasks t.last sound.kept.task_numbers));
  children_are = ap (λ xs. cond (has_parent group) (xs ++ (t.last + 1) ∷ []) xs) sound.children_are
      ∙ joined (has_parent group) (numbers_where has_parent t.groups)
      ∙ sym (where-insert_last has_parent t.groups (t.last + 1) group
      (below_next t.groups t.last sound.kept.group_numbers));
}
  where
    joined : (b : Bool) (xs : List ℕ) → cond b (xs ++ (t.last + 1) ∷ []) xs ≡ xs ++ cond b ((t.last + 1) ∷ []) []
    joined true xs = refl
    joined false xs = sym (append-nil xs)

-- a task in the group of one that lives
pub sound_threaded : (t : TaskTable) (live children : List ℕ) (task clear : ℕ) → IsSoundTable t live children
    → is_live t.tasks task ≡ true → t.last < LAST_TASK → length live < 256
    → IsSoundTable (threaded t task clear) (live ++ (t.last + 1) ∷ []) children
sound_threaded t live children task clear sound lives small few = record {
  kept = kept_new t (record { group = group_of t.tasks task; clear = clear; live = true }) t.groups sound.kept
      (omega arith) (subst (λ xs. length xs < 256) sound.live_is few)
      (λ g h. ((sound.kept.group_numbers g h).0, let b : g ≤ t.last = (sound.kept.group_numbers g h).1 in omega arith))
      (λ g old. (old, refl))
      (sound.kept.task_groups task (live_there t.tasks task lives))
      (sound.kept.live_groups task lives);
  live_is = ap (λ xs. xs ++ (t.last + 1) ∷ []) sound.live_is
      ∙ sym (where-insert_last (λ x. x.live) t.tasks (t.last + 1) _
      (below_next t.tasks t.last sound.kept.task_numbers));
  children_are = sound.children_are;
}

-- the next number is that of no group
pub next_absent : (t : TaskTable) (live children : List ℕ) → IsSoundTable t live children
    → get t.groups (t.last + 1) ≡ None
next_absent t live children sound = at (get t.groups (t.last + 1)) refl
  where
    at : (o : Option Group) → get t.groups (t.last + 1) ≡ o → o ≡ None
    at None e = refl
    at (Some group) e = let b : t.last + 1 < t.last + 1 =
        below_next t.groups t.last sound.kept.group_numbers (t.last + 1) (ap is_some e) in absurd (omega arith)

-- no tasks
pub sound_empty : IsSoundTable no_tasks [] []
sound_empty = record {
  kept = record {
    task_numbers = λ n h. absurd (cc (h, ap is_some (get-empty {X = Task} nat_cmp n)));
    group_numbers = λ g h. absurd (cc (h, ap is_some (get-empty {X = Group} nat_cmp g)));
    last_small = lit≤ tt;
    task_groups = λ n h. absurd (cc (h, ap is_some (get-empty {X = Task} nat_cmp n)));
    live_groups =
        λ n h. absurd (cc (h, ap (λ o. option_map_or (λ (x : Task). x.live) o false) (get-empty {X = Task} nat_cmp n)));
    few_live = subst (λ xs. length xs ≤ 256) (none (λ (x : Task). x.live)) (lit≤ tt);
  };
  live_is = none (λ (x : Task). x.live);
  children_are = none has_parent;
}
  where
    none : {V : Type 0} (test : V → Bool) → [] ≡ numbers_where test (empty {X = V} {R = nat_cmp})
    none {V} test =
        sym (ap (λ es. filter (passes test empty) (map (λ e. e.0) es))
        (nil_from_length (entries (empty {X = V} {R = nat_cmp})) (sym (len-entries empty) ∙ len-empty nat_cmp V)))
