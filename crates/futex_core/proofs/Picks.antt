-- A pass over the sleepers that wakes the first on a word and moves all others together.
use Rattle.std.proofs.Common.{◌≡◌, ℕ, ◌+◌, ◌≤◌, ◌<◌, ◌==◌, ◌||◌, not, min, Bool, true, false, cond, List, [], ◌∷◌, ◌++◌}
use Rattle.std.proofs.Common.{filter, take, drop, length, get_or, set, refl, ap, sym, ◌∙◌, arith, append_assoc}
use Rattle.std.proofs.Common.{add-zero}
use Rattle.std.specs.List.{list_any}
use Rattle.std.proofs.lemmas.Bool.{eqb-false, ne_eqb, eq-eqb, or_left, or_right, cond-true, cond-false}
use Rattle.std.proofs.lemmas.List.{map-append, append-nil, take_all, take-append-le, length-take, length_push}
use Rattle.std.proofs.lemmas.List.{length-set, take_more, take_more_set, drop_more, drop-drop, drop-set-lt, get_or-drop}
use Rattle.std.proofs.lemmas.List.{take-append-drop}
use Rattle.std.proofs.lemmas.List.Elements.{filter-append}
use Rattle.std.proofs.lemmas.List.Folds.{list_any-append}
use Rattle.futex_core.specs.declared.keys.FutexKey.{FutexKey}
use Rattle.futex_core.specs.declared.waiters.Sleeper.{Sleeper}
use Rattle.futex_core.specs.Keys.{same_word}
use Rattle.futex_core.specs.Waiters.{FutexList, EachOnce, waiters_on, first_waiters, sleepers_without}
use Rattle.futex_core.proofs.Counts.{times, weight, times-append, times-cons, times_itself, times-take, times-filter}
use Rattle.futex_core.proofs.Counts.{not_found}
use Rattle.futex_core.proofs.Once.{tasks_of}

-- ---- one more sleeper at the end

waiters_on_parts : (sleepers : List Sleeper) (s : Sleeper) (key : FutexKey) → waiters_on (sleepers ++ s ∷ []) key
    ≡ waiters_on sleepers key ++ waiters_on (s ∷ []) key
waiters_on_parts sleepers s key =
    ap tasks_of (filter-append (λ s. same_word s.key key) sleepers (s ∷ []))
    ∙ map-append (λ s. s.task) (filter (λ s. same_word s.key key) sleepers) (filter (λ s. same_word s.key key) (s ∷ []))

-- it is one of the first n waiters where it sleeps on the word and fewer than n do before it
first_waiters_more : (sleepers : List Sleeper) (s : Sleeper) (key : FutexKey) (n : ℕ) → same_word s.key key ≡ true
    → length (first_waiters sleepers key n) < n → first_waiters (sleepers ++ s ∷ []) key n
    ≡ first_waiters sleepers key n ++ s.task ∷ []
first_waiters_more sleepers s key n on few =
    let waiting = waiters_on sleepers key in
    let fits : length waiting < n = omega (arith, few, length-take n waiting) in
    ap (take n) (waiters_on_parts sleepers s key
    ∙ ap (λ ss. waiting ++ tasks_of ss) (cond-true (same_word s.key key) (s ∷ []) [] on))
    ∙ take_all n (waiting ++ s.task ∷ []) (omega (arith, fits, length_push waiting s.task))
    ∙ ap (λ ts. ts ++ s.task ∷ []) (sym (take_all n waiting (omega (arith, fits))))

first_waiters_full : (sleepers : List Sleeper) (s : Sleeper) (key : FutexKey) (n : ℕ)
    → n ≤ length (first_waiters sleepers key n) → first_waiters (sleepers ++ s ∷ []) key n
    ≡ first_waiters sleepers key n
first_waiters_full sleepers s key n full =
    let waiting = waiters_on sleepers key in
    ap (take n) (waiters_on_parts sleepers s key)
    ∙ take-append-le n waiting (waiters_on (s ∷ []) key) (omega (arith, full, length-take n waiting))

first_waiters_other : (sleepers : List Sleeper) (s : Sleeper) (key : FutexKey) (n : ℕ) → same_word s.key key ≡ false
    → first_waiters (sleepers ++ s ∷ []) key n ≡ first_waiters sleepers key n
first_waiters_other sleepers s key n off =
    ap (take n) (waiters_on_parts sleepers s key
    ∙ ap (λ ss. waiters_on sleepers key ++ tasks_of ss) (cond-false (same_word s.key key) (s ∷ []) [] off)
    ∙ append-nil (waiters_on sleepers key))

-- where its task isn't taken out, it stays behind the others
sleepers_without_more : (sleepers : List Sleeper) (s : Sleeper) (ts : List ℕ) → list_any (λ t. t == s.task) ts ≡ false
    → sleepers_without (sleepers ++ s ∷ []) ts ≡ sleepers_without sleepers ts ++ s ∷ []
sleepers_without_more sleepers s ts absent =
    filter-append (λ s. not (list_any (λ t. t == s.task) ts)) sleepers (s ∷ [])
    ∙ ap (λ b. sleepers_without sleepers ts ++ cond (not b) (s ∷ []) []) absent

or_false : (b : Bool) → (b || false) ≡ b
or_false true = refl
or_false false = refl

-- a task that no sleeper has makes no difference
sleepers_without_same : (sleepers : List Sleeper) (task : ℕ) (ts : List ℕ) → times task (tasks_of sleepers) ≡ 0
    → sleepers_without sleepers (ts ++ task ∷ []) ≡ sleepers_without sleepers ts
sleepers_without_same [] task ts h = refl
sleepers_without_same (s ∷ sleepers) task ts h =
    ap (λ b. cond (not b) (s ∷ sleepers_without sleepers (ts ++ task ∷ []))
    (sleepers_without sleepers (ts ++ task ∷ []))) (alike (s.task == task) refl)
    ∙ ap (λ ss. cond (not (list_any (λ t. t == s.task) ts)) (s ∷ ss) ss)
    (sleepers_without_same sleepers task ts (omega (arith, h, times-cons task s.task (tasks_of sleepers))))
  where
    alike : (b : Bool) → (s.task == task) ≡ b → list_any (λ t. t == s.task) (ts ++ task ∷ [])
        ≡ list_any (λ t. t == s.task) ts
    alike true e = let one : weight (s.task == task) ≡ 1 =
        ap weight e in absurd (omega (arith, h, one, times-cons task s.task (tasks_of sleepers)))
    alike false e =
        list_any-append (λ t. t == s.task) ts (task ∷ [])
        ∙ ap (λ b. list_any (λ t. t == s.task) ts || (b || false))
        (ne_eqb task s.task (λ same. eqb-false s.task task e (sym same)))
        ∙ or_false (list_any (λ t. t == s.task) ts)

-- where its task is taken out too, the others stay
sleepers_without_woken : (sleepers : List Sleeper) (s : Sleeper) (ts : List ℕ) → times s.task (tasks_of sleepers) ≡ 0
    → sleepers_without (sleepers ++ s ∷ []) (ts ++ s.task ∷ []) ≡ sleepers_without sleepers ts
sleepers_without_woken sleepers s ts fresh =
    let all = ts ++ s.task ∷ [] in
    filter-append (λ s. not (list_any (λ t. t == s.task) all)) sleepers (s ∷ [])
    ∙ ap (λ b. sleepers_without sleepers all ++ cond (not b) (s ∷ []) [])
    (list_any-append (λ t. t == s.task) ts (s.task ∷ [])
    ∙ or_right (list_any (λ t. t == s.task) ts) (s.task == s.task || false)
    (or_left (s.task == s.task) false (eq-eqb s.task s.task refl)))
    ∙ append-nil (sleepers_without sleepers all)
    ∙ sleepers_without_same sleepers s.task ts fresh

-- ---- the pass

-- the sleepers before a place have other tasks than the one there
fresh_at : (sleepers : List Sleeper) (woken : List ℕ) (i : ℕ) (s : Sleeper)
    → EachOnce (record { sleepers = sleepers; woken = woken }) → i < length sleepers → s ≡ get_or sleepers i s
    → times s.task (tasks_of (take i sleepers)) ≡ 0
fresh_at sleepers woken i s h within is = omega (
  arith,
  h.once s.task,
  times-append s.task (tasks_of sleepers) woken,
  ap (λ ss. times s.task (tasks_of ss)) parts,
  ap (times s.task) (map-append (λ s. s.task) (take i sleepers) (s ∷ drop (i + 1) sleepers)),
  times-append s.task (tasks_of (take i sleepers)) (s.task ∷ tasks_of (drop (i + 1) sleepers)),
  times_itself s.task (tasks_of (drop (i + 1) sleepers)),
)
  where
    parts : sleepers ≡ take i sleepers ++ s ∷ drop (i + 1) sleepers
    parts = sym (take-append-drop i sleepers)
        ∙ ap (λ ss. take i sleepers ++ ss) (drop_more sleepers i s within
        ∙ ap (λ x. x ∷ drop (i + 1) sleepers) (sym is))

-- lists that are alike from a place on have one item there
same_at : (xs ys : List Sleeper) (i : ℕ) (d : Sleeper) → drop i xs ≡ drop i ys → get_or xs i d ≡ get_or ys i d
same_at xs ys i d e =
    sym (get_or-drop i xs 0 d ∙ ap (λ k. get_or xs k d) (add-zero i))
    ∙ ap (λ zs. get_or zs 0 d) e
    ∙ (get_or-drop i ys 0 d ∙ ap (λ k. get_or ys k d) (add-zero i))

-- what the pass has come to after i of the sleepers: those left stand in front, in order, and the count is of those
-- woken
pub record Picked (before : FutexList) (key : FutexKey) (n : ℕ) (sleepers : List Sleeper) (woken : List ℕ)
    (left count i : ℕ) : Type 0 where
  pub front : take left sleepers
      ≡ sleepers_without (take i before.sleepers) (first_waiters (take i before.sleepers) key n)
  pub rest : drop i sleepers ≡ drop i before.sleepers
  pub long : length sleepers ≡ length before.sleepers
  pub passed : left + count ≡ i
  pub woke : woken ≡ before.woken ++ first_waiters (take i before.sleepers) key n
  pub counted : count ≡ length (first_waiters (take i before.sleepers) key n)

pub picked_none : (sleepers : List Sleeper) (woken : List ℕ) (key : FutexKey) (n : ℕ)
    → Picked (record { sleepers = sleepers; woken = woken }) key n sleepers woken 0 0 0
picked_none sleepers woken key n =
    let nobody : first_waiters [] key n ≡ [] = take_all n [] (omega arith) in
    record {
      front = refl;
      rest = refl;
      long = refl;
      passed = omega arith;
      woke = sym (ap (λ ts. woken ++ ts) nobody ∙ append-nil woken);
      counted = sym (ap length nobody);
    }

module _ (before : FutexList) (key : FutexKey) (n : ℕ) (sleepers : List Sleeper) (woken : List ℕ) (left count i : ℕ)
    (s : Sleeper) (once : EachOnce before) (so_far : Picked before key n sleepers woken left count i)
    (within : i < length sleepers) (is : s ≡ get_or sleepers i s) where
  step : take (i + 1) before.sleepers ≡ take i before.sleepers ++ s ∷ []
  step = take_more before.sleepers i s (omega (arith, within, so_far.long))
      ∙ ap (λ x. take i before.sleepers ++ x ∷ []) (sym (is ∙ same_at sleepers before.sleepers i s so_far.rest))

  fresh : times s.task (tasks_of (take i before.sleepers)) ≡ 0
  fresh = fresh_at before.sleepers before.woken i s once (omega (arith, within, so_far.long)) (is
      ∙ same_at sleepers before.sleepers i s so_far.rest)

  rest_more : drop (i + 1) sleepers ≡ drop (i + 1) before.sleepers
  rest_more = sym (drop-drop 1 i sleepers) ∙ ap (drop 1) so_far.rest ∙ drop-drop 1 i before.sleepers

  pub picked_wakes : count < n → same_word s.key key ≡ true
      → Picked before key n sleepers (woken ++ s.task ∷ []) left (count + 1) (i + 1)
  picked_wakes few on =
      let before_it = take i before.sleepers in
      let ts = first_waiters before_it key n in
      let chosen : first_waiters (before_it ++ s ∷ []) key n ≡ ts ++ s.task ∷ [] =
      first_waiters_more before_it s key n on (omega (arith, few, so_far.counted)) in
      let now : first_waiters (take (i + 1) before.sleepers) key n ≡ ts ++ s.task ∷ [] =
      ap (λ ss. first_waiters ss key n) step ∙ chosen in
      record {
        front = so_far.front
            ∙ sym (ap (λ ss. sleepers_without ss (first_waiters ss key n)) step
            ∙ ap (sleepers_without (before_it ++ s ∷ [])) chosen ∙ sleepers_without_woken before_it s ts fresh);
        rest = rest_more;
        long = so_far.long;
        passed = omega (arith, so_far.passed);
        woke = ap (λ w. w ++ s.task ∷ []) so_far.woke ∙ append_assoc before.woken ts (s.task ∷ [])
            ∙ ap (λ us. before.woken ++ us) (sym now);
        counted = omega (arith, so_far.counted, ap length now, length_push ts s.task);
      }

  passes : first_waiters (take i before.sleepers ++ s ∷ []) key n ≡ first_waiters (take i before.sleepers) key n
      → Picked before key n (set sleepers left s) woken (left + 1) count (i + 1)
  passes chosen =
      let before_it = take i before.sleepers in
      let ts = first_waiters before_it key n in
      let now : first_waiters (take (i + 1) before.sleepers) key n ≡ ts =
      ap (λ ss. first_waiters ss key n) step ∙ chosen in
      let absent : list_any (λ t. t == s.task) ts ≡ false =
      not_found s.task ts
      (omega (
        arith,
        fresh,
        times-take s.task n (waiters_on before_it key),
        times-filter (λ s. s.task) (λ s. same_word s.key key) s.task before_it,
      )) in
      record {
        front = take_more_set sleepers left s (omega (arith, within, so_far.passed))
            ∙ ap (λ ss. ss ++ s ∷ []) so_far.front
            ∙ sym (ap (λ ss. sleepers_without ss (first_waiters ss key n)) step
            ∙ ap (sleepers_without (before_it ++ s ∷ [])) chosen ∙ sleepers_without_more before_it s ts absent);
        rest = drop-set-lt (i + 1) sleepers left s (omega (arith, so_far.passed)) ∙ rest_more;
        long = length-set sleepers left s ∙ so_far.long;
        passed = omega (arith, so_far.passed);
        woke = so_far.woke ∙ ap (λ us. before.woken ++ us) (sym now);
        counted = so_far.counted ∙ ap length (sym now);
      }

  pub picked_full : n ≤ count → Picked before key n (set sleepers left s) woken (left + 1) count (i + 1)
  picked_full full = passes (first_waiters_full (take i before.sleepers) s key n (omega (arith, full, so_far.counted)))

  pub picked_other : same_word s.key key ≡ false
      → Picked before key n (set sleepers left s) woken (left + 1) count (i + 1)
  picked_other off = passes (first_waiters_other (take i before.sleepers) s key n off)

-- after the last sleeper
pub picked_all : (before : FutexList) (key : FutexKey) (n : ℕ) (sleepers : List Sleeper) (woken : List ℕ)
    (left count i : ℕ) → Picked before key n sleepers woken left count i → length before.sleepers ≤ i
    → (take left sleepers ≡ sleepers_without before.sleepers (first_waiters before.sleepers key n))
    × (woken ≡ before.woken ++ first_waiters before.sleepers key n)
picked_all before key n sleepers woken left count i so_far past =
    let all : take i before.sleepers ≡ before.sleepers = take_all i before.sleepers past in (
      so_far.front ∙ ap (λ ss. sleepers_without ss (first_waiters ss key n)) all,
      so_far.woke
          ∙ ap (λ ss. before.woken ++ first_waiters ss key n) all,
    )

-- how many a wake wakes
pub how_many : (sleepers : List Sleeper) (key : FutexKey) (n : ℕ) → length (first_waiters sleepers key n)
    ≡ min n (length (waiters_on sleepers key))
how_many sleepers key n = length-take n (waiters_on sleepers key)
