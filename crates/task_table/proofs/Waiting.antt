-- Laws of children: of lists of them, and of groups that lose their parent.
use Rattle.std.proofs.Common.{◌≡◌, ℕ, ◌+◌, ◌<◌, ◌≤◌, Bool, true, false, cond, eqb, ltb, not, ◌&&◌, List, [], ◌∷◌, ◌++◌}
use Rattle.std.proofs.Common.{length, set, take, drop, get_or, refl, ap, sym, ◌∙◌, arith}
use Rattle.std.specs.Prelude.{Option, Some, None, is_some, filter, find}
use Rattle.std.specs.Option.{option_and_then, option_map, option_map_or}
use Rattle.std.specs.Ordering.{nat_cmp}
use Rattle.std.specs.FinMap.{FinMap, get, keys}
use Rattle.std.proofs.lemmas.Bool.{and_parts, eq-eqb, ltb-false}
use Rattle.std.proofs.lemmas.List.{append-nil, take_all, take-append-drop}
use Rattle.std.proofs.lemmas.List.Elements.{filter-append, filter_more}
use Rattle.std.proofs.lemmas.List.Filters.{FiltersInPlace-all}
use Rattle.std.proofs.lemmas.List.Folds.{find-append}
use Prim.Native.Nat.{suc}
use Rattle.std.specs.Option.{option_or as option_or_else}
use Rattle.std.proofs.Math.Seq.{drop-cons}
use Rattle.task_table.specs.declared.task.Group.{Group}
use Rattle.task_table.specs.declared.task.Status.{Status}
use Rattle.task_table.specs.declared.task.ReapEnd.TheVariants.{NotYet, Reaped}
use Rattle.task_table.specs.Entries.{passes, numbers_where, changed_at, each_changed}
use Rattle.task_table.specs.Reaps.{is_child, is_waited, children, end_among, none_ended, orphaned, reaped, status_of_group}
use Rattle.task_table.specs.Table.{has_ended, has_parent}
use Rattle.task_table.proofs.Changes.{changed_along, changed_along_all, get-changed_after, get-changed_at}
use Rattle.task_table.proofs.Changes.{keys-changed_at, get-each_changed, keys-each_changed}
use Rattle.task_table.proofs.Numbers.{filter_alike, filter_narrowed, among_where, where_narrowed}
use Rattle.task_table.proofs.Walking.{WalkedAlong, WalkedAlong-dropped, WalkedAlong-stays}

-- ---- lists of children

-- children are among the groups that have a parent
pub children_of_kept : (groups : FinMap nat_cmp Group) (parent : ℕ) (which : Option ℕ)
    → filter (is_child groups parent which) (numbers_where has_parent groups) ≡ children groups parent which
children_of_kept groups parent which =
    filter_narrowed (is_child groups parent which) (passes has_parent groups) (keys groups)
    (λ q h. known (get groups q) (and_parts _ (is_waited which q) h).0)
  where
    known : (o : Option Group) → option_map_or (λ group. has_parent group && eqb group.parent parent) o false ≡ true
        → option_map_or has_parent o false ≡ true
    known None h = h
    known (Some group) h = (and_parts (has_parent group) _ h).0

-- the first of a list's kept numbers that passes a test, where none before it does
pub found_at : (kept test : ℕ → Bool) (xs : List ℕ) (i x : ℕ) → i < length xs → x ≡ get_or xs i 0
    → find test (filter kept (take i xs)) ≡ None → kept x ≡ true → test x ≡ true → find test (filter kept xs) ≡ Some x
found_at kept test xs i x h is none k t =
    ap (λ ys. find test (filter kept ys)) (sym (take-append-drop i xs)
    ∙ ap (λ ys. take i xs ++ ys) (drop-cons xs i 0 h))
    ∙ ap (λ y. find test (filter kept (take i xs ++ (y ∷ drop (suc i) xs)))) (sym is)
    ∙ ap (find test) (filter-append kept (take i xs) (x ∷ drop (suc i) xs))
    ∙ ap (λ b. find test
    (filter kept (take i xs) ++ cond b (x ∷ filter kept (drop (suc i) xs)) (filter kept (drop (suc i) xs)))) k
    ∙ find-append test (filter kept (take i xs)) (x ∷ filter kept (drop (suc i) xs))
    ∙ ap (λ o. option_or_else o (cond (test x) (Some x) (find test (filter kept (drop (suc i) xs))))) none
    ∙ ap (λ b. cond b (Some x) (find test (filter kept (drop (suc i) xs)))) t

pub none_ended-push : (xs : List ℕ) (x : ℕ) → none_ended (xs ++ x ∷ []) ≡ NotYet
none_ended-push [] x = refl
none_ended-push (y ∷ xs) x = refl

-- ---- groups that lose their parent

orphaned_twice : (p : ℕ) (group : Group) → orphaned p (orphaned p group) ≡ orphaned p group
orphaned_twice p group =
    elim (eqb group.parent p) as (λ b. eqb group.parent p ≡ b → orphaned p (cond b (record group { parent = 0 }) group)
    ≡ cond b (record group { parent = 0 }) group) [
      | true ↦ λ _. elim (eqb 0 p) as (λ b. cond b (record group { parent = 0 }) (record group { parent = 0 })
          ≡ record group { parent = 0 }) [ true ↦ refl | false ↦ refl ]
      | false ↦ λ e. ap (λ b. cond b (record group { parent = 0 }) group) e
    ] refl

orphaned_none : (p : ℕ) (group : Group) → has_parent group ≡ false → orphaned p group ≡ group
orphaned_none p group none =
    let zero : group.parent ≡ 0 = zero_of group.parent none in
    elim (eqb group.parent p) as (λ b. cond b (record group { parent = 0 }) group ≡ group) [
      | true ↦
          λ i. record group { parent = sym zero i }
      | false ↦ refl
    ]
  where
    zero_of : (n : ℕ) → ltb 0 n ≡ false → n ≡ 0
    zero_of n h = let le = ltb-false 0 n h in omega arith

-- the groups with a parent are all that a lost parent changes
pub orphaned_along_children : (p : ℕ) (groups : FinMap nat_cmp Group)
    → changed_along (λ _. orphaned p) groups (numbers_where has_parent groups) ≡ each_changed (λ _. orphaned p) groups
orphaned_along_children p groups =
    changed_along_all (λ _. orphaned p) (λ _. orphaned_twice p) groups
    (numbers_where has_parent groups) (λ q group at out.
    orphaned_none p group (sym (ap (λ o. option_map_or has_parent o false) at)
    ∙ sym (among_where has_parent groups q) ∙ out))

-- one that lost its parent has none
pub orphan_without_parent : (groups : FinMap nat_cmp Group) (n : ℕ)
    → passes has_parent (changed_at (λ g. record g { parent = 0 }) groups n) n ≡ false
orphan_without_parent groups n =
    ap (λ o. option_map_or has_parent o false) (get-changed_at (λ (g : Group). record g { parent = 0 }) groups n n)
    ∙ ap (λ b. option_map_or has_parent
    (cond b (option_map (λ (g : Group). record g { parent = 0 }) (get groups n)) (get groups n)) false)
    (eq-eqb n n refl)
    ∙ at (get groups n)
  where
    at : (o : Option Group)
        → option_map_or has_parent (option_map (λ (g : Group). record g { parent = 0 }) o) false ≡ false
    at None = refl
    at (Some g) = refl

-- the groups with a parent after one lost it
children_after_orphan : (groups : FinMap nat_cmp Group) (n : ℕ)
    → filter (passes has_parent (changed_at (λ g. record g { parent = 0 }) groups n)) (numbers_where has_parent groups)
    ≡ numbers_where has_parent (changed_at (λ g. record g { parent = 0 }) groups n)
children_after_orphan groups n = where_narrowed has_parent groups _ (keys-changed_at _ groups n) (λ q h.
    before (eqb q n) (get groups q)
    (sym (ap (λ o. option_map_or has_parent o false) (get-changed_at (λ g. record g { parent = 0 }) groups n q))
    ∙ h))
  where
    before : (b : Bool) (o : Option Group)
        → option_map_or has_parent (cond b (option_map (λ (g : Group). record g { parent = 0 }) o) o) false ≡ true
        → option_map_or has_parent o false ≡ true
    before true None h = h
    before true (Some g) h = absurd (cc h)
    before false o h = h

-- they are the others
pub children_after_release : (groups : FinMap nat_cmp Group) (n : ℕ)
    → filter (λ q. not (eqb q n)) (numbers_where has_parent groups)
    ≡ numbers_where has_parent (changed_at (λ g. record g { parent = 0 }) groups n)
children_after_release groups n = filter_alike _ _ (numbers_where has_parent groups) (λ q among.
    other (eqb q n) (get groups q) (sym (among_where has_parent groups q) ∙ among)
    ∙ sym (ap (λ o. option_map_or has_parent o false) (get-changed_at (λ g. record g { parent = 0 }) groups n q)))
    ∙ children_after_orphan groups n
  where
    other : (b : Bool) (o : Option Group) → option_map_or has_parent o false ≡ true
        → not b ≡ option_map_or has_parent (cond b (option_map (λ (g : Group). record g { parent = 0 }) o) o) false
    other b None h = absurd (cc h)
    other true (Some g) h = refl
    other false (Some g) h = sym h

-- the groups with a parent after the children of one lost it
children_after_orphans : (p : ℕ) (groups : FinMap nat_cmp Group)
    → filter (passes has_parent (each_changed (λ _. orphaned p) groups)) (numbers_where has_parent groups)
    ≡ numbers_where has_parent (each_changed (λ _. orphaned p) groups)
children_after_orphans p groups =
    where_narrowed has_parent groups _ (keys-each_changed (λ _. orphaned p) (λ _. orphaned_twice p) groups) (λ q h.
    before (get groups q)
    (sym (ap (λ o. option_map_or has_parent o false) (get-each_changed (λ _. orphaned p) groups q)) ∙ h))
  where
    before : (o : Option Group) → option_map_or has_parent (option_map (orphaned p) o) false ≡ true
        → option_map_or has_parent o false ≡ true
    before None h = h
    before (Some group) h =
        elim (eqb group.parent p) as (λ b. has_parent (cond b (record group { parent = 0 }) group) ≡ true
        → has_parent group ≡ true) [ true ↦ λ e. absurd (cc e) | false ↦ λ e. e ] h

-- ---- the walk that takes the parent from the children of a group

-- of the first i groups with a parent the children of this one have lost it, and the others stand in the first k places
pub record Orphaned (p : ℕ) (groups : FinMap nat_cmp Group) (xs : List ℕ) (now : FinMap nat_cmp Group) (ys : List ℕ)
    (k i : ℕ) : Type 0 where
  pub along : WalkedAlong (λ _. orphaned p)
      (passes has_parent (each_changed (λ _. orphaned p) groups)) groups xs now ys k i

module _ {p : ℕ} {groups : FinMap nat_cmp Group} {xs : List ℕ} {now : FinMap nat_cmp Group}
    {ys : List ℕ} {k i : ℕ} where
  -- what is told of a group holds after the walk too
  told_after : Orphaned p groups xs now ys k i → (n : ℕ) (next : FinMap nat_cmp Group)
      → next ≡ changed_at (orphaned p) now n → (b : Bool) → b ≡ passes has_parent next n
      → passes has_parent (each_changed (λ _. orphaned p) groups) n ≡ b
  told_after w n next made b told =
      sym (told ∙ ap (λ m. passes has_parent m n) (made ∙ ap (λ m. changed_at (orphaned p) m n) w.along.changed)
      ∙ ap (λ o. option_map_or has_parent o false)
      (get-changed_after (λ _. orphaned p) (λ _. orphaned_twice p) groups (take i xs) n))

  -- a group that has no parent then
  pub Orphaned-lost : Orphaned p groups xs now ys k i → i < length ys → (n : ℕ) → n ≡ get_or ys i n
      → (next : FinMap nat_cmp Group) → next ≡ changed_at (orphaned p) now n → (b : Bool) → b ≡ passes has_parent next n
      → b ≡ false → Orphaned p groups xs next ys k (i + 1)
  Orphaned-lost w within n is next made b told goes =
      rw made (record { along = WalkedAlong-dropped w.along within n is (told_after w n next made b told ∙ goes) })

  -- a group that has one
  pub Orphaned-stays : Orphaned p groups xs now ys k i → i < length ys → (n : ℕ) → n ≡ get_or ys i n
      → (next : FinMap nat_cmp Group) → next ≡ changed_at (orphaned p) now n → (b : Bool) → b ≡ passes has_parent next n
      → b ≡ true → Orphaned p groups xs next (set ys k n) (k + 1) (i + 1)
  Orphaned-stays w within n is next made b told here =
      rw made (record { along = WalkedAlong-stays w.along within n is (told_after w n next made b told ∙ here) })

  pub groups_orphaned : Orphaned p groups xs now ys k i → length xs ≤ i → xs ≡ numbers_where has_parent groups
      → now ≡ each_changed (λ _. orphaned p) groups
  groups_orphaned w past are =
      w.along.changed
      ∙ ap (changed_along (λ _. orphaned p) groups) (take_all i xs past ∙ are)
      ∙ orphaned_along_children p groups

  pub children_orphaned : Orphaned p groups xs now ys k i → length xs ≤ i → xs ≡ numbers_where has_parent groups
      → take k ys ≡ numbers_where has_parent now
  children_orphaned w past are =
      FiltersInPlace-all w.along.staying past
      ∙ ap (filter (passes has_parent (each_changed (λ _. orphaned p) groups))) are
      ∙ children_after_orphans p groups
      ∙ sym (ap (numbers_where has_parent) (groups_orphaned w past are))

-- ---- a walk over children

-- a number's group, where it is a child that is waited for
abbrev pub child_at : FinMap nat_cmp Group → ℕ → Option ℕ → ℕ → Option Group
child_at groups parent which n = cond (is_child groups parent which n) (get groups n) None

child_is : (groups : FinMap nat_cmp Group) (parent : ℕ) (which : Option ℕ) (n : ℕ) (group : Group)
    → child_at groups parent which n ≡ Some group → (is_child groups parent which n ≡ true)
    × (get groups n ≡ Some group)
child_is groups parent which n group h =
    elim (is_child groups parent which n) as (λ b. cond b (get groups n) None ≡ Some group
    → (b ≡ true) × (get groups n ≡ Some group)) [ true ↦ λ e. (refl, e) | false ↦ λ e. absurd (cc e) ] h

no_child_is : (groups : FinMap nat_cmp Group) (parent : ℕ) (which : Option ℕ) (n : ℕ)
    → child_at groups parent which n ≡ None → is_child groups parent which n ≡ false
no_child_is groups parent which n h = at (is_child groups parent which n) refl h
  where
    at : (b : Bool) → is_child groups parent which n ≡ b → cond b (get groups n) None ≡ None → b ≡ false
    at true is none =
        absurd (cc (
          sym is,
          ap (λ o. option_map_or (λ (group : Group). has_parent group && eqb group.parent parent) o false
              && is_waited which n) none,
        ))
    at false is none = refl

-- an ended child is the answer where none before it has ended
pub reaped_at : (groups : FinMap nat_cmp Group) (parent : ℕ) (which : Option ℕ) (numbers : List ℕ) (i : ℕ)
    (group : Group) (status : Status) → i < length numbers
    → find (has_ended groups) (filter (is_child groups parent which) (take i numbers)) ≡ None
    → child_at groups parent which (get_or numbers i 0) ≡ Some group → group.ended ≡ Some status
    → Reaped (get_or numbers i 0) status ≡ end_among groups (filter (is_child groups parent which) numbers)
reaped_at groups parent which numbers i group status h none child ended =
    let n = get_or numbers i 0 in
    let there = child_is groups parent which n group child in
    let has : has_ended groups n ≡ true =
    ap (λ o. option_map_or (λ (g : Group). is_some g.ended) o false) there.1 ∙ ap is_some ended in
    let found = found_at (is_child groups parent which) (has_ended groups) numbers i n h refl none there.0 has in
    sym (
    ap (λ o. option_map_or (λ m. reaped m (status_of_group groups m)) o
    (none_ended (filter (is_child groups parent which) numbers))) found
    ∙ ap (reaped n) (ap (option_and_then (λ (g : Group). g.ended)) there.1 ∙ ended))

-- past a number that isn't a child's nothing changes
pub skipped_at : (groups : FinMap nat_cmp Group) (parent : ℕ) (which : Option ℕ) (numbers : List ℕ) (i : ℕ)
    → i < length numbers → child_at groups parent which (get_or numbers i 0) ≡ None
    → filter (is_child groups parent which) (take (i + 1) numbers)
    ≡ filter (is_child groups parent which) (take i numbers)
skipped_at groups parent which numbers i h child =
    let n = get_or numbers i 0 in
    filter_more (is_child groups parent which) numbers i 0 h
    ∙ ap (λ b. filter (is_child groups parent which) (take i numbers) ++ cond b (n ∷ []) [])
    (no_child_is groups parent which n child)
    ∙ append-nil (filter (is_child groups parent which) (take i numbers))

-- past a child that lives there is a child, and still none has ended
pub waited_at : (groups : FinMap nat_cmp Group) (parent : ℕ) (which : Option ℕ) (numbers : List ℕ) (i : ℕ)
    (group : Group) → i < length numbers
    → find (has_ended groups) (filter (is_child groups parent which) (take i numbers)) ≡ None
    → child_at groups parent which (get_or numbers i 0) ≡ Some group → group.ended ≡ None
    → (find (has_ended groups) (filter (is_child groups parent which) (take (i + 1) numbers)) ≡ None)
    × (NotYet ≡ none_ended (filter (is_child groups parent which) (take (i + 1) numbers)))
waited_at groups parent which numbers i group h none child lives =
    let n = get_or numbers i 0 in
    let before = filter (is_child groups parent which) (take i numbers) in
    let there = child_is groups parent which n group child in
    let has : has_ended groups n ≡ false =
    ap (λ o. option_map_or (λ (g : Group). is_some g.ended) o false) there.1 ∙ ap is_some lives in
    let more = filter_more (is_child groups parent which) numbers i 0 h
    ∙ ap (λ b. before ++ cond b (n ∷ []) []) there.0 in (
      ap (find (has_ended groups)) more ∙ find-append (has_ended groups) before (n ∷ [])
          ∙ ap (λ o. option_or_else o (cond (has_ended groups n) (Some n) None)) none
          ∙ ap (λ b. cond b (Some n) None) has,
      sym (ap none_ended more ∙ none_ended-push before n),
    )
