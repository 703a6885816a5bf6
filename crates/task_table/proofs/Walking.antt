-- Laws of walks over numbers, some of which stay; and of the walk over the live tasks, some of which end.
use Rattle.std.proofs.Common.{◌≡◌, ℕ, ◌+◌, ◌<◌, ◌≤◌, Bool, true, false, cond, not, List}
use Rattle.std.proofs.Common.{length, set, take, get_or, refl, ap, sym, ◌∙◌, arith}
use Rattle.std.specs.Prelude.{filter}
use Rattle.std.specs.List.{list_any}
use Rattle.std.specs.Option.{option_map_or}
use Rattle.std.specs.Ordering.{nat_cmp}
use Rattle.std.specs.FinMap.{FinMap, get}
use Rattle.std.proofs.lemmas.List.{drop_more, get_or_default, take_all}
use Rattle.std.proofs.lemmas.List.Filters.{FiltersInPlace, FiltersInPlace-all}
use Rattle.std.proofs.lemmas.List.Filters.{FiltersInPlace-more_no, FiltersInPlace-more_set}
use Rattle.task_table.specs.declared.task.Task.{Task}
use Rattle.task_table.specs.declared.ends.Leaving.{Leaving}
use Rattle.task_table.specs.declared.ends.Leaving.TheVariants.{Members, OtherMembers}
use Rattle.task_table.specs.Ends.{ended_if, ended_where}
use Rattle.task_table.specs.Entries.{changed_at}
use Rattle.task_table.specs.Exits.{is_leaving, leaves}
use Rattle.task_table.specs.Table.{live_numbers}
use Rattle.task_table.proofs.Changes.{alike, changed_along, changed_along_more, get-changed_along}
use Rattle.task_table.proofs.Endings.{ended_along_live, ended_twice, live_stays}

-- ---- walks over numbers

-- the entries of the first i numbers were changed in turn, and those of them that stay stand in the first k places
pub record WalkedAlong {V : Type 0} (f : ℕ → V → V) (stays : ℕ → Bool) (m : FinMap nat_cmp V) (xs : List ℕ)
    (now : FinMap nat_cmp V) (ys : List ℕ) (k i : ℕ) : Type 0 where
  pub changed : now ≡ changed_along f m (take i xs)
  pub staying : FiltersInPlace stays xs ys k i

module _ {V : Type 0} {f : ℕ → V → V} {stays : ℕ → Bool} {m : FinMap nat_cmp V} {xs : List ℕ} {now : FinMap nat_cmp V}
    {ys : List ℕ} {k i : ℕ} where
  inside : WalkedAlong f stays m xs now ys k i → i < length ys → i < length xs
  inside w within = omega (arith, w.staying.long)

  -- the number that is read is the one that stood there before
  read_at : WalkedAlong f stays m xs now ys k i → i < length ys → (n : ℕ) → n ≡ get_or ys i n → n ≡ get_or xs i 0
  read_at w within n is =
      is ∙ get_or_default ys i n 0 within
      ∙ ap (λ l. get_or l 0 0) (sym (drop_more ys i 0 within) ∙ w.staying.rest ∙ drop_more xs i 0 (inside w within))

  changed_more : WalkedAlong f stays m xs now ys k i → i < length ys → (n : ℕ) → n ≡ get_or ys i n
      → changed_at (f n) now n ≡ changed_along f m (take (i + 1) xs)
  changed_more w within n is =
      ap (λ old. changed_at (f n) old n) w.changed
      ∙ ap (λ q. changed_at (f q) (changed_along f m (take i xs)) q) (read_at w within n is)
      ∙ sym (changed_along_more f m xs i (inside w within))

  -- a number that is dropped
  pub WalkedAlong-dropped : WalkedAlong f stays m xs now ys k i → i < length ys → (n : ℕ) → n ≡ get_or ys i n
      → stays n ≡ false → WalkedAlong f stays m xs (changed_at (f n) now n) ys k (i + 1)
  WalkedAlong-dropped w within n is goes =
      record { changed = changed_more w within n is; staying = FiltersInPlace-more_no w.staying within goes is }

  -- a number that stays
  pub WalkedAlong-stays : WalkedAlong f stays m xs now ys k i → i < length ys → (n : ℕ) → n ≡ get_or ys i n
      → stays n ≡ true → WalkedAlong f stays m xs (changed_at (f n) now n) (set ys k n) (k + 1) (i + 1)
  WalkedAlong-stays w within n is here =
      record { changed = changed_more w within n is; staying = FiltersInPlace-more_set w.staying within here is }

-- ---- the walk over the live tasks

-- of the first i live numbers those that leave have ended, and the others stand in the first k places
pub record Walked (which : Leaving) (tasks : FinMap nat_cmp Task) (xs : List ℕ) (now : FinMap nat_cmp Task)
    (ys : List ℕ) (k i : ℕ) : Type 0 where
  pub along : WalkedAlong (ended_if (is_leaving which)) (λ n. not (leaves which tasks n)) tasks xs now ys k i

-- ---- what the walk doesn't change

-- whether a call ends a task doesn't depend on whether it lives
still_leaving : (which : Leaving) (n : ℕ) (c : Task)
    → is_leaving which n (ended_if (is_leaving which) n c) ≡ is_leaving which n c
still_leaving which n c = at which (is_leaving which n c)
  where
    at : (w : Leaving) (b : Bool) → is_leaving w n (cond b (record c { live = false }) c) ≡ is_leaving w n c
    at (Members group) true = refl
    at (OtherMembers group task) true = refl
    at w false = refl

leaves_along : (which : Leaving) (tasks : FinMap nat_cmp Task) (ns : List ℕ) (n : ℕ)
    → leaves which (changed_along (ended_if (is_leaving which)) tasks ns) n ≡ leaves which tasks n
leaves_along which tasks ns n =
    ap (λ o. option_map_or (is_leaving which n) o false)
    (get-changed_along (ended_if (is_leaving which)) (ended_twice (is_leaving which)) tasks ns n)
    ∙ alike (ended_if (is_leaving which) n) (is_leaving which n) false (still_leaving which n)
    (list_any _ ns) (get tasks n)

-- ---- the walk's steps

module _ {which : Leaving} {tasks : FinMap nat_cmp Task} {xs : List ℕ} {now : FinMap nat_cmp Task} {ys : List ℕ}
    {k i : ℕ} where
  -- what it is told of a task is what holds before the walk
  told_before : Walked which tasks xs now ys k i → (n : ℕ) (b : Bool) → b ≡ leaves which now n
      → leaves which tasks n ≡ b
  told_before w n b told =
      sym (told ∙ ap (λ m. leaves which m n) w.along.changed ∙ leaves_along which tasks (take i xs) n)

  -- a task that leaves
  pub Walked-leaves : Walked which tasks xs now ys k i → i < length ys → (n : ℕ) → n ≡ get_or ys i n
      → (b : Bool) → b ≡ leaves which now n → b ≡ true
      → Walked which tasks xs (changed_at (ended_if (is_leaving which) n) now n) ys k (i + 1)
  Walked-leaves w within n is b told goes =
      record { along = WalkedAlong-dropped w.along within n is (ap not (told_before w n b told ∙ goes)) }

  -- a task that stays
  pub Walked-stays : Walked which tasks xs now ys k i → i < length ys → (n : ℕ) → n ≡ get_or ys i n
      → (b : Bool) → b ≡ leaves which now n → b ≡ false
      → Walked which tasks xs (changed_at (ended_if (is_leaving which) n) now n) (set ys k n) (k + 1) (i + 1)
  Walked-stays w within n is b told here =
      record { along = WalkedAlong-stays w.along within n is (ap not (told_before w n b told ∙ here)) }

  -- ---- its end

  pub tasks_walked : Walked which tasks xs now ys k i → length xs ≤ i → xs ≡ live_numbers tasks
      → now ≡ ended_where (is_leaving which) tasks
  tasks_walked w past live =
      w.along.changed
      ∙ ap (changed_along (ended_if (is_leaving which)) tasks) (take_all i xs past ∙ live)
      ∙ ended_along_live (is_leaving which) tasks

  pub live_walked : Walked which tasks xs now ys k i → length xs ≤ i → xs ≡ live_numbers tasks
      → take k ys ≡ live_numbers now
  live_walked w past live =
      FiltersInPlace-all w.along.staying past
      ∙ ap (filter (λ n. not (leaves which tasks n))) live
      ∙ live_stays (is_leaving which) tasks
      ∙ sym (ap live_numbers (tasks_walked w past live))
