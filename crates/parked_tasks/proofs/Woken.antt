-- Laws of tasks that are parked no more and looked at instead.
use Rattle.std.proofs.Common.{◌≡◌, ℕ, ◌<◌, ◌+◌, ◌||◌, ◌&&◌, ◌⊎◌, Bool, true, false, cond, List, length, get_or, take}
use Rattle.std.proofs.Common.{refl, ap, sym, ◌∙◌, subst, inl, inr}
use Rattle.std.specs.Prelude.{Option, Some, None, is_some}
use Rattle.std.specs.Ordering.{nat_cmp, eq_by_cmp}
use Rattle.std.specs.Cmp.{nat_cmp_total, unsigned_tied}
use Rattle.std.specs.FinMap as map
use Rattle.std.proofs.lemmas.Bool.{eqb-true}
use Rattle.std.proofs.lemmas.List.Folds.{list_any_more}
use Rattle.std.proofs.Math.Bool.{or-false}
use Rattle.sn_base.proofs.Maps.{get_of_empty, get-insert_same, get-insert_other}
use Rattle.kernel_model.proofs.NamedMaps.{same_or_other}
use Rattle.parked_tasks.specs.Parked.{WereParked, AreListed, HaveWoken}
use Rattle.parked_tasks.specs.Used.{AreMore, IsListedWith, has_used, is_listed_in}
use Rattle.parked_tasks.specs.Users.{AreNumbers, is_among}
use Rattle.parked_tasks.specs.declared.index.Index.{Index}
use Rattle.parked_tasks.specs.declared.used.Spot.{Spot}
use Rattle.parked_tasks.specs.declared.used.Used.{Used}
use Rattle.parked_tasks.proofs.Indexes.{Forgets, listed_with_more}

-- ---- what is there

there_of : {A : Type 0} (o : Option A) → is_some o ≡ true → (a : A) × (o ≡ Some a)
there_of None e = absurd (cc e)
there_of (Some a) e = (a, refl)

pub none_of : {A : Type 0} (o : Option A) → is_some o ≡ false → o ≡ None
none_of None e = refl
none_of (Some a) e = absurd (cc e)

-- what was not taken out
stayed : {A : Type 0} (b : Bool) (o : Option A) (a : A) → cond b None o ≡ Some a → (b ≡ false) × (o ≡ Some a)
stayed true o a e = absurd (cc e)
stayed false o a e = (refl, e)

-- ---- one task more is looked at, where it is parked

pub one_looked_at : {V : Type 0} (before after : map.FinMap nat_cmp V) (task : ℕ) (mark : V) (there : Bool)
    → there ≡ true → after ≡ map.insert before task mark → (other : ℕ)
    → map.contains_key after other ≡ (map.contains_key before other || (there && eq_by_cmp nat_cmp other task))
one_looked_at {V} before after task mark there is more other =
    ap (λ m. map.contains_key m other) more
    ∙ ap is_some (map.get-insert nat_cmp_total before task mark other)
    ∙ by (eq_by_cmp nat_cmp other task) (map.get before other)
    ∙ ap (λ b. map.contains_key before other || (b && eq_by_cmp nat_cmp other task)) (sym is)
  where
    by : (e : Bool) (o : Option V) → is_some (cond e (Some mark) o) ≡ (is_some o || (true && e))
    by true None = refl
    by true (Some v) = refl
    by false None = refl
    by false (Some v) = refl

-- ---- one task after another

-- those of some tasks that were parked are parked no more, and looked at
pub record AreLookedAt {V : Type 0} (tasks : List ℕ) (before after : map.FinMap nat_cmp Spot)
    (awake awake' : map.FinMap nat_cmp V) : Type 0 where
  pub parked : (task : ℕ) → map.get after task ≡ cond (is_among task tasks) None (map.get before task)
  pub looked_at : (task : ℕ) → map.contains_key awake' task
      ≡ (map.contains_key awake task || (is_among task tasks && map.contains_key before task))

more_out : {A : Type 0} (b e : Bool) (o : Option A) → cond e None (cond b None o) ≡ cond (b || e) None o
more_out true true o = refl
more_out true false o = refl
more_out false e o = refl

more_in : (a b e p q : Bool) → (e ≡ true → q ≡ cond b false p)
    → ((a || (b && p)) || (q && e)) ≡ (a || ((b || e) && p))
more_in true b e p q is = refl
more_in false true true true q is = refl
more_in false true true false q is = ap (λ x. x && true) (is refl)
more_in false true false true q is = refl
more_in false true false false true is = refl
more_in false true false false false is = refl
more_in false false true true q is = ap (λ x. x && true) (is refl)
more_in false false true false q is = ap (λ x. x && true) (is refl)
more_in false false false p true is = refl
more_in false false false p false is = refl

some_cond : {A : Type 0} (b : Bool) (o : Option A) → is_some (cond b None o) ≡ cond b false (is_some o)
some_cond true o = refl
some_cond false o = refl

module _ {V : Type 0} (before now : map.FinMap nat_cmp Spot) (awake awake' : map.FinMap nat_cmp V) (tasks : List ℕ)
    (i d : ℕ) (within : i < length tasks) (so_far : AreLookedAt (take i tasks) before now awake awake') where
  abbrev one : ℕ
  one = get_or tasks i d

  abbrev is_it : ℕ → Bool
  is_it task = eq_by_cmp nat_cmp task one

  among_more : (task : ℕ) → is_among task (take (i + 1) tasks) ≡ (is_among task (take i tasks) || is_it task)
  among_more task = list_any_more (eq_by_cmp nat_cmp task) tasks i d within

  is_parked_still : (task : ℕ) → is_it task ≡ true
      → map.contains_key now one ≡ cond (is_among task (take i tasks)) false (map.contains_key before task)
  is_parked_still task e =
      let same : task ≡ one = eqb-true task one (sym (unsigned_tied task one) ∙ e) in
      ap (map.contains_key now) (sym same) ∙ ap is_some (so_far.parked task)
      ∙ some_cond (is_among task (take i tasks)) (map.get before task)

  pub one_more_looked_at : (now' : map.FinMap nat_cmp Spot) (awake'' : map.FinMap nat_cmp V)
      → now' ≡ map.remove now one
      → ((task : ℕ) → map.contains_key awake'' task
      ≡ (map.contains_key awake' task || (map.contains_key now one && is_it task)))
      → AreLookedAt (take (i + 1) tasks) before now' awake awake''
  one_more_looked_at now' awake'' less more = record {
    parked = λ task.
        ap (λ m. map.get m task) less ∙ map.get-remove nat_cmp_total now one task
        ∙ ap (cond (is_it task) None) (so_far.parked task)
        ∙ more_out (is_among task (take i tasks)) (is_it task) (map.get before task)
        ∙ ap (λ b. cond b None (map.get before task)) (sym (among_more task));
    looked_at = λ task.
        more task
        ∙ ap (λ b. b || (map.contains_key now one && is_it task)) (so_far.looked_at task)
        ∙ more_in (map.contains_key awake task) (is_among task (take i tasks)) (is_it task)
        (map.contains_key before task) (map.contains_key now one) (is_parked_still task)
        ∙ ap (λ b. map.contains_key awake task || (b && map.contains_key before task)) (sym (among_more task));
  }

-- ---- what is left

module _ {V : Type 0} (tasks : List ℕ) (before after : map.FinMap nat_cmp Spot) (awake awake' : map.FinMap nat_cmp V)
    (looked : AreLookedAt tasks before after awake awake') where
  left_so : (task : ℕ) (spot : Spot) → map.get after task ≡ Some spot
      → (is_among task tasks ≡ false) × (map.get before task ≡ Some spot)
  left_so task spot e =
      stayed (is_among task tasks) (map.get before task) spot (sym (looked.parked task) ∙ e)

  pub are_left : WereParked before after
  are_left task spot e = (left_so task spot e).1

  pub numbers_looked_at : AreNumbers before → AreNumbers awake → AreNumbers awake'
  numbers_looked_at parked_numbers numbers task there =
      elim (was_either (map.contains_key awake task) (is_among task tasks) (map.contains_key before task)
      (sym (looked.looked_at task) ∙ there)) [
        | inl e ↦ numbers task e
        | inr e ↦ parked_numbers task e
      ]
    where
      was_either : (a b p : Bool) → (a || (b && p)) ≡ true → (a ≡ true) ⊎ (p ≡ true)
      was_either true b p e = inl refl
      was_either false true p e = inr e
      was_either false false p e = absurd (cc e)

  -- where each is among them that passes a test
  pub have_woken : (test : Spot → Bool)
      → ((task : ℕ) (spot : Spot) → map.get before task ≡ Some spot → test spot ≡ true → is_among task tasks ≡ true)
      → HaveWoken test before after awake awake'
  have_woken test passing = record {
    woken = λ task. is_among task tasks && map.contains_key before task;
    passing = λ task spot there passes.
        ap (λ b. b && map.contains_key before task) (passing task spot there passes) ∙ ap is_some there;
    only = λ task e. last (is_among task tasks) (map.contains_key before task) e;
    parked = λ task. looked.parked task ∙ by (is_among task tasks) (map.get before task);
    looked_at = looked.looked_at;
  }
    where
      last : (a b : Bool) → (a && b) ≡ true → b ≡ true
      last true b e = e
      last false b e = absurd (cc e)

      by : (b : Bool) (o : Option Spot) → cond b None o ≡ cond (b && is_some o) None o
      by true None = refl
      by true (Some spot) = refl
      by false o = refl

  -- those that are left are listed where one thing alone was forgotten, and all were among them that are listed with it
  pub listed_but : (index after_index : Index) (used : Used) → AreListed before index
      → ((task : ℕ) → is_among task tasks ≡ is_listed_in index used task) → Forgets index after_index used
      → AreListed after after_index
  listed_but index after_index used listed among forgets task spot e other has =
      let was = left_so task spot e in
      elim (forgets other task (listed task spot was.1 other has)) [
        | inl kept ↦ kept
        | inr same ↦ let there : is_listed_in index used task ≡ true =
            listed task spot was.1 used (ap (has_used spot) (sym same) ∙ has) in
            absurd (cc (there, sym (among task), was.0))
      ]

  -- and where all were among them, none is left
  pub none_left : ((task : ℕ) → is_among task tasks ≡ map.contains_key before task) → (task : ℕ)
      → map.get after task ≡ None
  none_left among task =
      looked.parked task ∙ ap (λ b. cond b None (map.get before task)) (among task) ∙ by (map.get before task)
    where
      by : (o : Option Spot) → cond (is_some o) None o ≡ None
      by None = refl
      by (Some spot) = refl

-- ---- who is parked is listed

pub listed_none : (parked : map.FinMap nat_cmp Spot) (index : Index) → ((task : ℕ) → map.get parked task ≡ None)
    → AreListed parked index
listed_none parked index none task spot e = absurd (cc (e, none task))

pub none_parked : (parked : map.FinMap nat_cmp Spot) → parked ≡ map.empty → (task : ℕ) → map.get parked task ≡ None
none_parked parked empty task = ap (λ m. map.get m task) empty ∙ get_of_empty task

pub listed_left : (before after : map.FinMap nat_cmp Spot) (index : Index) → WereParked before after
    → AreListed before index → AreListed after index
listed_left before after index left listed task spot e = listed task spot (left task spot e)

pub numbers_left : (before after : map.FinMap nat_cmp Spot) → WereParked before after → AreNumbers before
    → AreNumbers after
numbers_left before after left numbers task there =
    let spot = there_of (map.get after task) there in
    numbers task (ap is_some (left task spot.0 spot.1))

-- one task more
pub listed_one : (before after : map.FinMap nat_cmp Spot) (index after_index : Index) (task : ℕ) (spot : Spot)
    → AreListed before index → AreMore index after_index → IsListedWith after_index task spot
    → after ≡ map.insert before task spot → AreListed after after_index
listed_one before after index after_index task spot listed more itself is other s e =
    elim (same_or_other task other) [
      | inl same ↦ let named : spot ≡ s =
          some_same spot s (sym (get-insert_same before task spot) ∙ ap (map.get (map.insert before task spot)) same
          ∙ ap (λ m. map.get m other) (sym is) ∙ e) in
          subst (λ t. IsListedWith after_index t s) same
          (subst (λ (x : Spot). IsListedWith after_index task x) named itself)
      | inr apart ↦ listed_with_more index after_index other s more
          (listed other s
          (sym (get-insert_other before task other spot apart) ∙ ap (λ m. map.get m other) (sym is) ∙ e))
    ]
  where
    some_same : (a b : Spot) → Some a ≡ Some b → a ≡ b
    some_same a b e = cc e

pub listed_more_with : (before : map.FinMap nat_cmp Spot) (index after_index : Index) → AreListed before index
    → AreMore index after_index → AreListed before after_index
listed_more_with before index after_index listed more task spot e =
    listed_with_more index after_index task spot more (listed task spot e)

-- ---- one waking after another

either_way : (a b : Bool) → (a || b) ≡ true → (a ≡ true) ⊎ (b ≡ true)
either_way true b e = inl refl
either_way false b e = inr e

second_true : (a b : Bool) → b ≡ true → (a || b) ≡ true
second_true true b e = refl
second_true false b e = e

or_once_more : (a b e : Bool) → ((a || b) || e) ≡ (a || (b || e))
or_once_more true b e = refl
or_once_more false b e = refl

there_before : (b : Bool) (o : Option Spot) → is_some (cond b None o) ≡ true → is_some o ≡ true
there_before true o e = absurd (cc e)
there_before false o e = e

module _ {V : Type 0} (before after : map.FinMap nat_cmp Spot) (awake awake' : map.FinMap nat_cmp V) where
  -- each that passes another test passes this
  pub woken_by : (test other : Spot → Bool) → ((spot : Spot) → other spot ≡ true → test spot ≡ true)
      → HaveWoken test before after awake awake' → HaveWoken other before after awake awake'
  woken_by test other so did = record {
    woken = did.woken;
    passing = λ task spot there passes. did.passing task spot there (so spot passes);
    only = did.only;
    parked = did.parked;
    looked_at = did.looked_at;
  }

  module _ (first second : Spot → Bool) (between : map.FinMap nat_cmp Spot) (awake'' : map.FinMap nat_cmp V)
      (did : HaveWoken first before between awake awake'') (then : HaveWoken second between after awake'' awake') where
    pub woken_both : HaveWoken (λ spot. first spot || second spot) before after awake awake'
    woken_both = record {
      woken = λ task. did.woken task || then.woken task;
      passing = λ task spot there passes. woken_so task spot there passes (did.woken task) refl;
      only = λ task e.
          elim (either_way (did.woken task) (then.woken task) e) [
            | inl f ↦ did.only task f
            | inr f ↦ there_before (did.woken task) (map.get before task)
                (ap is_some (sym (did.parked task)) ∙ then.only task f)
          ];
      parked = λ task.
          then.parked task
          ∙ ap (cond (then.woken task) None) (did.parked task)
          ∙ more_out (did.woken task) (then.woken task) (map.get before task);
      looked_at = λ task.
          then.looked_at task
          ∙ ap (λ b. b || then.woken task) (did.looked_at task)
          ∙ or_once_more (map.contains_key awake task) (did.woken task) (then.woken task);
    }
      where
        woken_so : (task : ℕ) (spot : Spot) → map.get before task ≡ Some spot → (first spot || second spot) ≡ true
            → (b : Bool) → did.woken task ≡ b → (did.woken task || then.woken task) ≡ true
        woken_so task spot there passes true is = ap (λ b. b || then.woken task) is
        woken_so task spot there passes false is =
            elim (either_way (first spot) (second spot) passes) [
              | inl f ↦ absurd (cc (is, did.passing task spot there f))
              | inr f ↦ second_true (did.woken task) (then.woken task)
                  (then.passing task spot
                  (did.parked task ∙ ap (λ b. cond b None (map.get before task)) is ∙ there) f)
            ]

-- where none passes the test none is woken
pub woken_none : {V : Type 0} (test : Spot → Bool) (parked : map.FinMap nat_cmp Spot) (awake : map.FinMap nat_cmp V)
    → ((spot : Spot) → test spot ≡ false) → HaveWoken test parked parked awake awake
woken_none test parked awake fails = record {
  woken = λ task. false;
  passing = λ task spot there passes. absurd (cc (passes, fails spot));
  only = λ task e. absurd (cc e);
  parked = λ task. refl;
  looked_at = λ task. sym (or-false (map.contains_key awake task));
}
