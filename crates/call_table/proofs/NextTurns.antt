-- Whose turn it is: of the live tasks, ascending, the first above another whose step is ready.
use Rattle.std.proofs.Common.{◌≡◌, ℕ, ◌<◌, ◌≤◌, Bool, true, false, cond, List, [], ◌∷◌, length, refl, ap, sym, ◌∙◌}
use Rattle.std.proofs.Common.{◌≢◌, ◌⊎◌, inl, inr, ◌||◌, eqb, arith}
use Rattle.std.specs.Prelude.{Option, Some, None, nat_lt, find, filter, is_some}
use Rattle.std.specs.List.{AllByRecursion, list_any}
use Rattle.std.specs.List.Sorted.{IsStrictlySortedBy}
use Rattle.std.specs.Option.{option_map_or}
use Rattle.std.specs.Cmp.{ranked}
use Rattle.std.specs.declared.cmp.Ordering.TheVariants.{Less}
use Rattle.std.specs.Ordering.{nat_cmp}
use Rattle.std.specs.FinMap as map
use Rattle.std.proofs.lemmas.Bool.{eqb-true, lt-ltb, ltb-true, ltb-false, ne_eqb}
use Rattle.std.proofs.lemmas.Map.Keys.{sorted_head, sorted_tail, sorted_from_strictly_increasing}
use Rattle.task_table.specs.declared.task.Task.{Task}
use Rattle.task_table.specs.Kept.{IsKept}
use Rattle.task_table.specs.Table.{TaskTable, is_live, live_numbers}
use Rattle.task_table.proofs.Ascending.{where_ascends}
use Rattle.task_table.proofs.Numbers.{among_where}
use Rattle.kernel_model.specs.declared.kernel.Kernel.{Kernel}
use Rattle.kernel_model.specs.entries.Given.{has_any}
use Rattle.kernel_model.specs.entries.Ready.{is_ready, ready_numbers}
use Rattle.kernel_model.proofs.NamedMaps.{same_or_other}
use Rattle.call_table.specs.Turns.{next_task_of, or_first}

-- ---- what is found in those of a list that pass a test

-- where none above a number passes, none is found
find_none : (q : ℕ → Bool) (a : ℕ) (xs : List ℕ) → ((n : ℕ) → a < n → q n ≡ false)
    → find (nat_lt a) (filter q xs) ≡ None
find_none q a [] fails = refl
find_none q a (x ∷ xs) fails = by (q x) (nat_lt a x) refl refl (find_none q a xs fails)
  where
    by : (b d : Bool) → q x ≡ b → nat_lt a x ≡ d → find (nat_lt a) (filter q xs) ≡ None
        → find (nat_lt a) (cond b (x ∷ filter q xs) (filter q xs)) ≡ None
    by false d qx above rest = rest
    by true false qx above rest = ap (λ d. cond d (Some x) (find (nat_lt a) (filter q xs))) above ∙ rest
    by true true qx above rest = absurd (cc (qx, fails x (ltb-true a x above)))

-- where none of those above one number and up to another passes, the next that does is above the other
find_behind : (q : ℕ → Bool) (a t : ℕ) (xs : List ℕ) → a < t → ((n : ℕ) → a < n → n ≤ t → q n ≡ false)
    → find (nat_lt a) (filter q xs) ≡ find (nat_lt t) (filter q xs)
find_behind q a t [] low fails = refl
find_behind q a t (x ∷ xs) low fails = by (q x) (nat_lt t x) refl refl (find_behind q a t xs low fails)
  where
    under : nat_lt t x ≡ false → (d : Bool) → q x ≡ true → nat_lt a x ≡ d → nat_lt a x ≡ false
    under over false qx above = above
    under over true qx above = absurd (cc (qx, fails x (ltb-true a x above) (ltb-false t x over)))

    by : (b d : Bool) → q x ≡ b → nat_lt t x ≡ d
        → find (nat_lt a) (filter q xs) ≡ find (nat_lt t) (filter q xs)
        → find (nat_lt a) (cond b (x ∷ filter q xs) (filter q xs))
        ≡ find (nat_lt t) (cond b (x ∷ filter q xs) (filter q xs))
    by false d qx over rest = rest
    by true true qx over rest =
        let high : t < x = ltb-true t x over in
        ap (λ d. cond d (Some x) (find (nat_lt a) (filter q xs))) (lt-ltb a x (omega (arith, low, high)))
        ∙ sym (ap (λ d. cond d (Some x) (find (nat_lt t) (filter q xs))) over)
    by true false qx over rest =
        ap (λ d. cond d (Some x) (find (nat_lt a) (filter q xs))) (under over (nat_lt a x) qx refl) ∙ rest
        ∙ sym (ap (λ d. cond d (Some x) (find (nat_lt t) (filter q xs))) over)

-- one among those above a number is above it
above_all : (x t : ℕ) (xs : List ℕ) → AllByRecursion (λ y. nat_cmp x y ≡ Less) xs → list_any (eqb t) xs ≡ true → x < t
above_all x t [] above e = absurd (cc e)
above_all x t (y ∷ ys) above e = by (eqb t y) refl e (above_all x t ys above.1)
  where
    by : (b : Bool) → eqb t y ≡ b → (b || list_any (eqb t) ys) ≡ true → (list_any (eqb t) ys ≡ true → x < t) → x < t
    by true same e rest =
        let is : t ≡ y = eqb-true t y same in
        let high : x < y = ranked x y Less (sym above.0) in
        omega (arith, is, high)
    by false other e rest = rest e

-- and where the other passes and is there, it is that
find_there : (q : ℕ → Bool) (a t : ℕ) (xs : List ℕ) → IsStrictlySortedBy nat_cmp xs
    → list_any (eqb t) xs ≡ true → a < t → q t ≡ true → ((n : ℕ) → a < n → n < t → q n ≡ false)
    → find (nat_lt a) (filter q xs) ≡ Some t
find_there q a t [] rise there low passes fails = absurd (cc there)
find_there q a t (x ∷ xs) rise there low passes fails =
    by (same_or_other t x)
    (λ among. find_there q a t xs (sorted_tail nat_cmp x xs rise) among low passes fails)
  where
    itself : t ≡ x → find (nat_lt a) (filter q (x ∷ xs)) ≡ Some t
    itself same =
        ap (λ b. find (nat_lt a) (cond b (x ∷ filter q xs) (filter q xs))) (ap q (sym same) ∙ passes)
        ∙ ap (λ d. cond d (Some x) (find (nat_lt a) (filter q xs))) (ap (nat_lt a) (sym same) ∙ lt-ltb a t low)
        ∙ ap Some (sym same)

    among : t ≢ x → list_any (eqb t) xs ≡ true
    among apart = ap (λ b. b || list_any (eqb t) xs) (sym (ne_eqb t x apart)) ∙ there

    below : t ≢ x → x < t
    below apart = above_all x t xs (sorted_head nat_cmp x xs rise) (among apart)

    other : t ≢ x → (b : Bool) → q x ≡ b → find (nat_lt a) (filter q xs) ≡ Some t
        → find (nat_lt a) (cond b (x ∷ filter q xs) (filter q xs)) ≡ Some t
    other apart false qx rest = rest
    other apart true qx rest = under (nat_lt a x) refl
      where
        under : (d : Bool) → nat_lt a x ≡ d
            → cond (nat_lt a x) (Some x) (find (nat_lt a) (filter q xs)) ≡ Some t
        under true above = absurd (cc (qx, fails x (ltb-true a x above) (below apart)))
        under false above = ap (λ d. cond d (Some x) (find (nat_lt a) (filter q xs))) above ∙ rest

    by : (t ≡ x) ⊎ (t ≢ x)
        → (list_any (eqb t) xs ≡ true → find (nat_lt a) (filter q xs) ≡ Some t)
        → find (nat_lt a) (filter q (x ∷ xs)) ≡ Some t
    by (inl same) rest = itself same
    by (inr apart) rest = other apart (q x) refl (rest (among apart))

-- ---- live tasks whose step is ready

there : (o : Option Task) → option_map_or (λ (c : Task). c.live) o false ≡ true → is_some o ≡ true
there None e = e
there (Some c) e = refl

module _ (k : Kernel) (after : ℕ) where
  pub none_ready : ((n : ℕ) → after < n → is_ready k n ≡ false) → find (nat_lt after) (ready_numbers k) ≡ None
  none_ready waits = find_none (is_ready k) after (live_numbers k.tasks.tasks) waits

  pub ready_behind : (task : ℕ) → after < task → ((n : ℕ) → after < n → n ≤ task → is_ready k n ≡ false)
      → find (nat_lt after) (ready_numbers k) ≡ find (nat_lt task) (ready_numbers k)
  ready_behind task low waits = find_behind (is_ready k) after task (live_numbers k.tasks.tasks) low waits

  pub first_ready : (task : ℕ) → is_live k.tasks.tasks task ≡ true → after < task → is_ready k task ≡ true
      → ((n : ℕ) → after < n → n < task → is_ready k n ≡ false)
      → find (nat_lt after) (ready_numbers k) ≡ Some task
  first_ready task live low ready waits =
      find_there (is_ready k) after task (live_numbers k.tasks.tasks)
      (sorted_from_strictly_increasing _ (where_ascends (λ (c : Task). c.live) k.tasks.tasks))
      (among_where (λ (c : Task). c.live) k.tasks.tasks task ∙ live) low ready waits

-- where none is found above 0, and each that passes is above 0, none passes
none_above : (p q : ℕ → Bool) (xs : List ℕ) → ((n : ℕ) → p n ≡ true → nat_lt 0 n ≡ true)
    → find (nat_lt 0) (filter q (filter p xs)) ≡ None → has_any (filter q (filter p xs)) ≡ false
none_above p q [] above e = refl
none_above p q (x ∷ xs) above e = by (p x) refl e (λ f. none_above p q xs above f)
  where
    passing : (d : Bool) → p x ≡ true
        → find (nat_lt 0) (cond d (x ∷ filter q (filter p xs)) (filter q (filter p xs))) ≡ None
        → (find (nat_lt 0) (filter q (filter p xs)) ≡ None → has_any (filter q (filter p xs)) ≡ false)
        → has_any (cond d (x ∷ filter q (filter p xs)) (filter q (filter p xs))) ≡ false
    passing true px e rest =
        absurd (cc (e, ap (λ b. cond b (Some x) (find (nat_lt 0) (filter q (filter p xs)))) (above x px)))
    passing false px e rest = rest e

    by : (b : Bool) → p x ≡ b → find (nat_lt 0) (filter q (cond b (x ∷ filter p xs) (filter p xs))) ≡ None
        → (find (nat_lt 0) (filter q (filter p xs)) ≡ None → has_any (filter q (filter p xs)) ≡ false)
        → has_any (filter q (cond b (x ∷ filter p xs) (filter p xs))) ≡ false
    by true px e rest = passing (q x) px e rest
    by false px e rest = rest e

live_above : (t : TaskTable) → IsKept t → (n : ℕ) → is_live t.tasks n ≡ true → nat_lt 0 n ≡ true
live_above t kept n live = lt-ltb 0 n (kept.task_numbers n (there (map.get t.tasks n) live)).0

pub none_still : (k : Kernel) → IsKept k.tasks → find (nat_lt 0) (ready_numbers k) ≡ None
    → has_any (ready_numbers k) ≡ false
none_still k kept e =
    none_above (is_live k.tasks.tasks) (is_ready k) (map.keys k.tasks.tasks) (live_above k.tasks kept) e

-- where as many as none live none is ready
none_counted : (xs : List ℕ) (n : ℕ) → n ≡ length xs → n ≡ 0 → xs ≡ []
none_counted [] n e z = refl
none_counted (x ∷ xs) n e z = absurd (cc (e, z))

pub none_lives : (k : Kernel) (n : ℕ) → n ≡ length (live_numbers k.tasks.tasks) → n ≡ 0
    → has_any (ready_numbers k) ≡ false
none_lives k n counted none =
    ap (λ xs. has_any (filter (is_ready k) xs)) (none_counted (live_numbers k.tasks.tasks) n counted none)

-- ---- whose turn it is

pub turn_above : (k : Kernel) (last task : ℕ) → find (nat_lt last) (ready_numbers k) ≡ Some task
    → next_task_of last (ready_numbers k) ≡ Some task
turn_above k last task e = ap (λ o. or_first o (ready_numbers k)) e

pub turn_first : (k : Kernel) (last task : ℕ) → find (nat_lt last) (ready_numbers k) ≡ None
    → find (nat_lt 0) (ready_numbers k) ≡ Some task → next_task_of last (ready_numbers k) ≡ Some task
turn_first k last task e f = ap (λ o. or_first o (ready_numbers k)) e ∙ f
