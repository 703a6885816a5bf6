-- Laws of tasks by the name of something that each used.
use Rattle.std.proofs.Common.{◌≡◌, ◌≢◌, ℕ, ◌<◌, ◌^◌, ◌⊎◌, Bool, true, false, List, refl, ap, sym, ◌∙◌, subst, inl, inr}
use Rattle.std.proofs.Common.{arith}
use Rattle.std.specs.Prelude.{Option, Some, None, is_some, unwrap_or}
use Rattle.std.specs.Option.{option_map_or}
use Rattle.std.specs.Ordering.{nat_cmp}
use Rattle.std.specs.FinMap as map
use Rattle.std.proofs.lemmas.Bool.Decides.{nat_tests}
use Rattle.sn_base.proofs.Maps.{get_of_empty, get-insert_same, get-insert_other, get-remove_same, get-remove_other}
use Rattle.sn_base.specs.declared.made.Made.{Made}
use Rattle.kernel_model.specs.Names.{NamedMap, get_named, without_named}
use Rattle.kernel_model.proofs.NamedMaps.{same_or_other, one_name_or_two, get-with_same, get-with_other}
use Rattle.kernel_model.proofs.NamedMaps.{get-without_same, get-without_other}
use Rattle.parked_tasks.specs.Used.{same_made}
use Rattle.parked_tasks.specs.Users.{AreNumbers, is_among, is_listed, with_listed}

-- ---- two names

one_made : (m n : Made) → (m.place ≡ n.place) × (m.index ≡ n.index) → m ≡ n
one_made m n e =
    let by : m ≡ record { place = n.place; index = m.index } = ap (λ p. record { place = p; index = m.index }) e.0 in
    by ∙ ap (λ i. record { place = n.place; index = i }) e.1

is_other : (m n : Made) → (m.place ≢ n.place) ⊎ (m.index ≢ n.index) → same_made m n ≡ false
is_other m n (inl d) = grind (arith, nat_tests)
is_other m n (inr d) = grind (arith, nat_tests)

-- names that pass the test are one
pub made_same : (m n : Made) → same_made m n ≡ true → m ≡ n
made_same m n e =
    elim (one_name_or_two m.place m.index n.place n.index) [
      | inl same ↦ one_made m n same
      | inr two ↦ absurd (cc (e, is_other m n two))
    ]

-- ---- numbers of tasks

module _ {V : Type 0} where
  pub numbers_of_none : (tasks : map.FinMap nat_cmp V) → tasks ≡ map.empty → AreNumbers tasks
  numbers_of_none tasks e task there = absurd (cc (there, e, ap is_some (get_of_empty {V = V} task)))

  pub numbers_more : (before after : map.FinMap nat_cmp V) (k : ℕ) (v : V) → after ≡ map.insert before k v
      → k < 2 ^ 32 → AreNumbers before → AreNumbers after
  numbers_more before after k v e small numbers task there =
      elim (same_or_other k task) [
        | inl same ↦ let P : ℕ → Type 0 = λ n. n < 2 ^ 32 in subst P same small
        | inr other ↦ numbers task (sym (ap (λ m. map.contains_key m task) e
            ∙ ap is_some (get-insert_other before k task v other)) ∙ there)
      ]

  pub numbers_less : (before after : map.FinMap nat_cmp V) (k : ℕ) → after ≡ map.remove before k → AreNumbers before
      → AreNumbers after
  numbers_less before after k e numbers task there =
      elim (same_or_other k task) [
        | inl same ↦ absurd (cc (there, e, same, ap is_some (get-remove_same before k)))
        | inr other ↦ numbers task (sym (ap (λ m. map.contains_key m task) e
            ∙ ap is_some (get-remove_other before k task other)) ∙ there)
      ]

-- the keys of a map are its tasks
pub among_keys : {V : Type 0} (tasks : map.FinMap nat_cmp V) (keys : List ℕ) → keys ≡ map.keys tasks → (task : ℕ)
    → is_among task keys ≡ map.contains_key tasks task
among_keys tasks keys e task = ap (is_among task) e ∙ sym (map.contains_key-keys tasks task)

-- ---- the lists by name

-- whether a list that may be there has a task
abbrev has : {V : Type 0} → (task : ℕ) → (list : Option (map.FinMap nat_cmp V)) → Bool
has task list = option_map_or (λ ts. map.contains_key ts task) list false

-- a list that isn't there has nobody
of_list : {V : Type 0} (o : Option (map.FinMap nat_cmp V)) (task : ℕ)
    → map.contains_key (unwrap_or o map.empty) task ≡ has task o
of_list {V} None task = ap is_some (get_of_empty {V = V} task)
of_list (Some ts) task = refl

module _ {V : Type 0} (by_name : NamedMap (map.FinMap nat_cmp V)) (name : Made) where
  pub among_listed : (tasks : map.FinMap nat_cmp V) (keys : List ℕ)
      → Some tasks ≡ get_named by_name name.place name.index → keys ≡ map.keys tasks
      → (task : ℕ) → is_among task keys ≡ is_listed by_name name task
  among_listed tasks keys there e task = among_keys tasks keys e task ∙ ap (has task) there

  -- one task more
  module _ (task : ℕ) (mark : V) where
    abbrev here : map.FinMap nat_cmp V
    here = unwrap_or (get_named by_name name.place name.index) map.empty

    pub listed_itself : is_listed (with_listed by_name name task mark) name task ≡ true
    listed_itself =
        ap (has task) (get-with_same by_name name.place name.index (map.insert here task mark))
        ∙ ap is_some (get-insert_same here task mark)

    listed_here : (other : ℕ) → is_listed by_name name other ≡ true
        → is_listed (with_listed by_name name task mark) name other ≡ true
    listed_here other listed =
        elim (same_or_other task other) [
          | inl e ↦ ap (is_listed (with_listed by_name name task mark) name) (sym e) ∙ listed_itself
          | inr d ↦ ap (has other) (get-with_same by_name name.place name.index (map.insert here task mark))
              ∙ ap is_some (get-insert_other here task other mark d)
              ∙ of_list (get_named by_name name.place name.index) other ∙ listed
        ]

    pub listed_more : (n : Made) (other : ℕ) → is_listed by_name n other ≡ true
        → is_listed (with_listed by_name name task mark) n other ≡ true
    listed_more n other listed =
        elim (one_name_or_two name.place name.index n.place n.index) [
          | inl e ↦ let is : name ≡ n = one_made name n e in
              let P : Made → Type 0 = λ x. is_listed by_name x other ≡ true
              → is_listed (with_listed by_name name task mark) x other ≡ true in
              subst P is (listed_here other) listed
          | inr d ↦ ap (has other) (get-with_other by_name name.place name.index n.place n.index
              (map.insert here task mark) d) ∙ listed
        ]

  -- a name less
  pub forgotten : (task : ℕ) → is_listed (without_named by_name name.place name.index) name task ≡ false
  forgotten task = ap (has task) (get-without_same by_name name.place name.index)

  pub kept_or_forgotten : (n : Made) (task : ℕ) → is_listed by_name n task ≡ true
      → (is_listed (without_named by_name name.place name.index) n task ≡ true) ⊎ (n ≡ name)
  kept_or_forgotten n task listed =
      elim (one_name_or_two name.place name.index n.place n.index) [
        | inl e ↦ inr (sym (one_made name n e))
        | inr d ↦ inl (ap (has task) (get-without_other by_name name.place name.index n.place n.index d) ∙ listed)
      ]
