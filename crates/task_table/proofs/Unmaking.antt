-- Laws of a task that is taken back: what is left is the table before it was made.
use Rattle.std.proofs.Common.{◌≡◌, ℕ, ◌+◌, ◌<◌, Bool, true, false, cond, not, eqb, List, []}
use Rattle.std.proofs.Common.{◌∷◌, ◌++◌, refl, ap, sym, subst, ◌∙◌, inl, inr, arith}
use Rattle.std.specs.Prelude.{Option, Some, None, is_some, filter}
use Rattle.std.specs.Option.{option_map_or}
use Rattle.std.specs.Ordering.{nat_cmp}
use Rattle.std.specs.FinMap.{FinMap, get, insert, remove, contains_key}
use Rattle.std.proofs.lemmas.Bool.{eq-eqb, ne_eqb}
use Rattle.std.proofs.lemmas.List.{append-nil}
use Rattle.std.proofs.lemmas.List.Elements.{filter-append}
use Rattle.sn_base.proofs.Maps.{remove_absent, remove-insert}
use Rattle.task_table.specs.declared.task.Task.{Task}
use Rattle.task_table.specs.declared.task.Group.{Group}
use Rattle.task_table.specs.Clones.{MadeFrom}
use Rattle.task_table.specs.Entries.{numbers_where}
use Rattle.task_table.specs.Kept.{IsKept}
use Rattle.task_table.specs.Table.{TaskTable, has_parent, live_numbers}
use Rattle.task_table.proofs.Keeping.{below_next}
use Rattle.task_table.proofs.Numbers.{among_where, filter_alike, where-insert_last}

-- ---- a key above all others

filter_true : (xs : List ℕ) → filter (λ _. true) xs ≡ xs
filter_true [] = refl
filter_true (x ∷ xs) = ap (λ ys. x ∷ ys) (filter_true xs)

passing_there : {V : Type 0} (test : V → Bool) (o : Option V) → option_map_or test o false ≡ true → is_some o ≡ true
passing_there test None h = h
passing_there test (Some v) h = refl

module _ {V : Type 0} (m : FinMap nat_cmp V) (k : ℕ) (below : (q : ℕ) → contains_key m q ≡ true → q < k) where
  above_absent : get m k ≡ None
  above_absent = at (get m k) refl
    where
      at : (o : Option V) → get m k ≡ o → o ≡ None
      at None e = refl
      at (Some v) e = let b : k < k = below k (ap is_some e) in absurd (omega arith)

  -- to remove it leaves the map without it
  removed_new : (v : V) → remove (insert m k v) k ≡ m
  removed_new v = remove-insert m k v ∙ remove_absent m k above_absent

  -- the numbers that pass lose it
  dropped_above : (test : V → Bool) → filter (λ n. not (eqb n k)) (numbers_where test m) ≡ numbers_where test m
  dropped_above test =
      filter_alike _ (λ _. true) (numbers_where test m)
      (λ q among. let b : q < k =
      below q (passing_there test (get m q) (sym (among_where test m q) ∙ among)) in
      ap not (ne_eqb q k (λ e. omega arith)))
      ∙ filter_true (numbers_where test m)

  dropped_new : (test : V → Bool) (v : V)
      → filter (λ n. not (eqb n k)) (numbers_where test (insert m k v)) ≡ numbers_where test m
  dropped_new test v =
      let other : ℕ → Bool = λ n. not (eqb n k) in
      ap (filter other) (where-insert_last test m k v below)
      ∙ filter-append other (numbers_where test m) (cond (test v) (k ∷ []) [])
      ∙ ap (λ xs. xs ++ filter other (cond (test v) (k ∷ []) [])) (dropped_above test)
      ∙ ap (λ xs. numbers_where test m ++ xs) (none (test v))
      ∙ append-nil (numbers_where test m)
    where
      none : (b : Bool) → filter (λ n. not (eqb n k)) (cond b (k ∷ []) []) ≡ []
      none true = ap (λ b. cond (not b) (k ∷ []) []) (eq-eqb k k refl)
      none false = refl

-- ---- the table

-- what is left without the last number is the table before
pub record IsTakenBack (before after : TaskTable) : Type 0 where
  pub last : after.last ≡ before.last + 1
  pub tasks : remove after.tasks after.last ≡ before.tasks
  pub groups : remove after.groups after.last ≡ before.groups
  pub live : filter (λ n. not (eqb n after.last)) (live_numbers after.tasks) ≡ live_numbers before.tasks
  pub children : filter (λ n. not (eqb n after.last)) (numbers_where has_parent after.groups)
      ≡ numbers_where has_parent before.groups

pub taken_back : (before after : TaskTable) → IsKept before → MadeFrom before after → IsTakenBack before after
taken_back before after kept (inl (group, clear, lives, is)) =
    let k = before.last + 1 in
    let tasks = below_next before.tasks before.last kept.task_numbers in
    let groups = below_next before.groups before.last kept.group_numbers in
    subst (IsTakenBack before) (sym is) (record {
      last = refl;
      tasks = removed_new before.tasks k tasks _;
      groups = removed_new before.groups k groups group;
      live = dropped_new before.tasks k tasks (λ c. c.live) _;
      children = dropped_new before.groups k groups has_parent group;
    })
taken_back before after kept (inr (task, clear, lives, is)) =
    let k = before.last + 1 in
    let tasks = below_next before.tasks before.last kept.task_numbers in
    let groups = below_next before.groups before.last kept.group_numbers in
    subst (IsTakenBack before) (sym is) (record {
      last = refl;
      tasks = removed_new before.tasks k tasks _;
      groups = remove_absent before.groups k (above_absent before.groups k groups);
      live = dropped_new before.tasks k tasks (λ c. c.live) _;
      children = dropped_above before.groups k groups has_parent;
    })

-- a table with these parts is the one before
pub same_table : (t : TaskTable) (tasks : FinMap nat_cmp Task) (groups : FinMap nat_cmp Group) (last : ℕ)
    → tasks ≡ t.tasks → groups ≡ t.groups → last ≡ t.last → record { tasks = tasks; groups = groups; last = last } ≡ t
same_table t tasks groups last a b c =
    ap (λ x. record { tasks = x; groups = groups; last = last }) a
    ∙ ap (λ x. record { tasks = t.tasks; groups = x; last = last }) b
    ∙ ap (λ x. record { tasks = t.tasks; groups = t.groups; last = x }) c

-- what is made from a table is made from one that is the same
pub made_from : (old before after : TaskTable) → old ≡ before → MadeFrom old after → MadeFrom before after
made_from old before after same made = subst (λ t. MadeFrom t after) same made
