-- Laws of maps by name: what a name has after a change at that name, or at another.
use Rattle.std.proofs.Common.{◌≡◌, ◌≢◌, ℕ, refl, ap, sym, ◌∙◌, ◌⊎◌, inl, inr}
use Rattle.std.specs.Prelude.{Option, Some, None, true, false, is_some, unwrap_or}
use Rattle.std.specs.Option.{option_and_then, option_map}
use Rattle.std.specs.FinMap.{FinMap, get, insert, remove, empty, contains_key}
use Rattle.std.specs.Ordering.{nat_cmp}
use Rattle.kernel_model.specs.Names.{NamedMap, get_named, with_named, without_named}
use Rattle.std.specs.Cmp.{nat_cmp_total, tied_itself}
use Rattle.std.specs.FinMap.{nat_cmp-IsAntisymmetric}
use Rattle.std.specs.declared.cmp.Ordering.TheVariants.{Less, Equal, Greater}
use Rattle.sn_base.proofs.Maps.{get_of_empty, get-insert_same, get-insert_other, get-remove_same, get-remove_other}
use Rattle.sn_base.proofs.Maps.{insert_same, insert-insert, remove-insert, remove_absent}
use Rattle.sn_base.specs.declared.made.Made.{Made}
use Rattle.kernel_model.specs.entries.Parts.{set_named}

-- two numbers are one, or differ
pub same_or_other : (k q : ℕ) → (k ≡ q) ⊎ (k ≢ q)
same_or_other k q =
    elim (nat_cmp k q) as (λ o. nat_cmp k q ≡ o → (k ≡ q) ⊎ (k ≢ q)) [
      | Less ↦ λ p. inr (λ e. absurd (cc (p, ap (nat_cmp k) e, tied_itself nat_cmp_total k)))
      | Equal ↦ λ p. inl (nat_cmp-IsAntisymmetric k q p)
      | Greater ↦ λ p. inr (λ e. absurd (cc (p, ap (nat_cmp k) e, tied_itself nat_cmp_total k)))
    ] refl

-- two names are one, or differ in the place or in the index
pub one_name_or_two : (place index p i : ℕ) → ((place ≡ p) × (index ≡ i)) ⊎ ((place ≢ p) ⊎ (index ≢ i))
one_name_or_two place index p i =
    elim (same_or_other place p) [
      | inl e ↦ elim (same_or_other index i) [
        | inl f ↦ inl (e, f)
        | inr d ↦ inr (inr d)
      ]
      | inr d ↦ inr (inl d)
    ]

module _ {V : Type 0} where
  -- a place with no map has what an empty one has
  get_unwrapped : (o : Option (FinMap nat_cmp V)) (i : ℕ) → get (unwrap_or o empty) i ≡ option_and_then (λ m. get m i) o
  get_unwrapped None i = get_of_empty i
  get_unwrapped (Some m) i = refl

  -- what a name has once its place has the map m
  get_placed : (names : NamedMap V) (place : ℕ) (m : FinMap nat_cmp V) (i : ℕ)
      → get_named (insert names place m) place i ≡ get m i
  get_placed names place m i = ap (option_and_then (λ n. get n i)) (get-insert_same names place m)

  -- and a name of another place
  get_elsewhere : (names : NamedMap V) (place p : ℕ) (m : FinMap nat_cmp V) (i : ℕ) → place ≢ p
      → get_named (insert names place m) p i ≡ get_named names p i
  get_elsewhere names place p m i d = ap (option_and_then (λ n. get n i)) (get-insert_other names place p m d)

  -- a map that has at i what its place had changes no name of that index
  get_kept : (names : NamedMap V) (place : ℕ) (m : FinMap nat_cmp V) (i : ℕ) → get m i ≡ get_named names place i
      → (p : ℕ) → get_named (insert names place m) p i ≡ get_named names p i
  get_kept names place m i h p =
      elim (same_or_other place p) [
        | inl e ↦ ap (λ q. get_named (insert names place m) q i) (sym e) ∙ get_placed names place m i ∙ h
            ∙ ap (λ q. get_named names q i) e
        | inr d ↦ get_elsewhere names place p m i d
      ]

  -- the empty map has nothing
  pub get-no_names : (p i : ℕ) → get_named {V = V} empty p i ≡ None
  get-no_names p i = ap (option_and_then (λ n. get n i)) (get_of_empty p)

  -- ---- a value set

  pub get-with_same : (names : NamedMap V) (place index : ℕ) (v : V)
      → get_named (with_named names place index v) place index ≡ Some v
  get-with_same names place index v = get_placed names place _ index ∙ get-insert_same _ index v

  -- a name that differs in the place or in the index has what it had
  pub get-with_other : (names : NamedMap V) (place index p i : ℕ) (v : V) → (place ≢ p) ⊎ (index ≢ i)
      → get_named (with_named names place index v) p i ≡ get_named names p i
  get-with_other names place index p i v (inl d) = get_elsewhere names place p _ i d
  get-with_other names place index p i v (inr d) =
      get_kept names place _ i (get-insert_other _ index i v d ∙ get_unwrapped (get names place) i) p

  get-with_it : (names : NamedMap V) (place index p i : ℕ) (v : V) → (place ≡ p) × (index ≡ i)
      → get_named (with_named names place index v) p i ≡ Some v
  get-with_it names place index p i v e =
      ap (λ q. get_named (with_named names place index v) q i) (sym e.0)
      ∙ ap (get_named (with_named names place index v) place) (sym e.1) ∙ get-with_same names place index v

  -- so a name is the one that was set, and has the value, or is another, and has what it had
  pub get-with : (names : NamedMap V) (place index p i : ℕ) (v : V)
      → (((place ≡ p) × (index ≡ i)) × (get_named (with_named names place index v) p i ≡ Some v))
      ⊎ (((place ≢ p) ⊎ (index ≢ i)) × (get_named (with_named names place index v) p i ≡ get_named names p i))
  get-with names place index p i v =
      elim (one_name_or_two place index p i) [
        | inl e ↦ inl (e, get-with_it names place index p i v e)
        | inr d ↦ inr (d, get-with_other names place index p i v d)
      ]

  -- two maps that answer alike at a name do so once both have v at a name, be it that one or another
  pub with_alike : (m n : NamedMap V) (place index p i : ℕ) (v : V) → get_named m p i ≡ get_named n p i
      → get_named (with_named m place index v) p i ≡ get_named (with_named n place index v) p i
  with_alike m n place index p i v h =
      elim (get-with m place index p i v) [
        | inl a ↦ a.1 ∙ sym (get-with_it n place index p i v a.0)
        | inr a ↦ a.1 ∙ h ∙ sym (get-with_other n place index p i v a.0)
      ]

  -- to set what is there changes nothing
  pub with_same : (names : NamedMap V) (place index : ℕ) (v : V) → get_named names place index ≡ Some v
      → with_named names place index v ≡ names
  with_same names place index v e = by_place (get names place) refl e
    where
      by_place : (o : Option (FinMap nat_cmp V)) → get names place ≡ o → option_and_then (λ m. get m index) o ≡ Some v
          → insert names place (insert (unwrap_or (get names place) empty) index v) ≡ names
      by_place None g e = absurd (cc e)
      by_place (Some m) g e =
          ap (λ o. insert names place (insert (unwrap_or o empty) index v)) g
          ∙ ap (insert names place) (insert_same m index v e) ∙ insert_same names place m g

  -- what a place has once one of its names was set
  place_set : (m : NamedMap V) (p i : ℕ) (v : V)
      → unwrap_or (get (with_named m p i v) p) empty ≡ insert (unwrap_or (get m p) empty) i v
  place_set m p i v = ap (λ o. unwrap_or o empty) (get-insert_same m p _)

  -- two names of one place come to one change of that place
  pub both_set : (m : NamedMap V) (p i j : ℕ) (v w : V)
      → with_named (with_named m p i v) p j w ≡ insert m p (insert (insert (unwrap_or (get m p) empty) i v) j w)
  both_set m p i j v w =
      ap (λ n. insert (with_named m p i v) p (insert n j w)) (place_set m p i v) ∙ insert-insert m p _ _

  -- of two values of one name the last stays
  pub with-with : (m : NamedMap V) (p i : ℕ) (v w : V)
      → with_named (with_named m p i v) p i w ≡ with_named m p i w
  with-with m p i v w =
      both_set m p i i v w ∙ ap (insert m p) (insert-insert (unwrap_or (get m p) empty) i v w)

  -- ---- a value taken out

  pub get-without_same : (names : NamedMap V) (place index : ℕ)
      → get_named (without_named names place index) place index ≡ None
  get-without_same names place index = by_place (get names place) refl
    where
      by_place : (o : Option (FinMap nat_cmp V)) → get names place ≡ o
          → get_named (unwrap_or (option_map (λ m. insert names place (remove m index)) o) names) place index ≡ None
      by_place None e = ap (option_and_then (λ m. get m index)) e
      by_place (Some m) e = get_placed names place _ index ∙ get-remove_same m index

  -- a name that differs in the place or in the index has what it had
  pub get-without_other : (names : NamedMap V) (place index p i : ℕ) → (place ≢ p) ⊎ (index ≢ i)
      → get_named (without_named names place index) p i ≡ get_named names p i
  get-without_other names place index p i apart = by_place (get names place) refl apart
    where
      by_place : (o : Option (FinMap nat_cmp V)) → get names place ≡ o → (place ≢ p) ⊎ (index ≢ i)
          → get_named (unwrap_or (option_map (λ m. insert names place (remove m index)) o) names) p i
          ≡ get_named names p i
      by_place None e apart = refl
      by_place (Some m) e (inl d) = get_elsewhere names place p _ i d
      by_place (Some m) e (inr d) =
          get_kept names place _ i (get-remove_other m index i d ∙ sym (ap (option_and_then (λ n. get n i)) e)) p

  -- to take out what isn't there changes nothing
  pub without_absent : (names : NamedMap V) (place index : ℕ) → get_named names place index ≡ None
      → without_named names place index ≡ names
  without_absent names place index e = by_place (get names place) refl e
    where
      by_place : (o : Option (FinMap nat_cmp V)) → get names place ≡ o → option_and_then (λ m. get m index) o ≡ None
          → unwrap_or (option_map (λ m. insert names place (remove m index)) o) names ≡ names
      by_place None g e = refl
      by_place (Some m) g e =
          ap (insert names place) (remove_absent m index e) ∙ insert_same names place m g

  -- ---- a value that was set, taken back

  -- where the name had another
  pub back_with : (names : NamedMap V) (place index : ℕ) (v w : V) → get_named names place index ≡ Some w
      → with_named (with_named names place index v) place index w ≡ names
  back_with names place index v w e = with-with names place index v w ∙ with_same names place index w e

  -- a name of a place that has this map, once it was set and taken out
  without_set : (names : NamedMap V) (place index : ℕ) (v : V) (m : FinMap nat_cmp V) → get names place ≡ Some m
      → without_named (with_named names place index v) place index ≡ insert names place (remove m index)
  without_set names place index v m g =
      ap (λ o. without_named (insert names place (insert (unwrap_or o empty) index v)) place index) g
      ∙ ap (λ o. unwrap_or (option_map (λ n. insert (insert names place (insert m index v)) place (remove n index)) o)
      (insert names place (insert m index v))) (get-insert_same names place (insert m index v))
      ∙ insert-insert names place (insert m index v) (remove (insert m index v) index)
      ∙ ap (insert names place) (remove-insert m index v)

  -- where it had none, but its place had a map,
  pub back_without : (names : NamedMap V) (place index : ℕ) (v : V) → get_named names place index ≡ None
      → contains_key names place ≡ true → without_named (with_named names place index v) place index ≡ names
  back_without names place index v e had = by_place (get names place) refl e had
    where
      by_place : (o : Option (FinMap nat_cmp V)) → get names place ≡ o → option_and_then (λ m. get m index) o ≡ None
          → is_some o ≡ true → without_named (with_named names place index v) place index ≡ names
      by_place None g e had = absurd (cc had)
      by_place (Some m) g e had =
          without_set names place index v m g ∙ ap (insert names place) (remove_absent m index e)
          ∙ insert_same names place m g

  -- a name that has a value is without it, whatever it was set to before
  pub without-with : (names : NamedMap V) (place index : ℕ) (v w : V) → get_named names place index ≡ Some w
      → without_named (with_named names place index v) place index ≡ without_named names place index
  without-with names place index v w e = by_place (get names place) refl e
    where
      by_place : (o : Option (FinMap nat_cmp V)) → get names place ≡ o → option_and_then (λ m. get m index) o ≡ Some w
          → without_named (with_named names place index v) place index
          ≡ unwrap_or (option_map (λ m. insert names place (remove m index)) o) names
      by_place None g e = absurd (cc e)
      by_place (Some m) g e = without_set names place index v m g

  -- and where the place had none
  pub back_empty : (names : NamedMap V) (place index : ℕ) (v : V) → contains_key names place ≡ false
      → remove (with_named names place index v) place ≡ names
  back_empty names place index v had =
      remove-insert names place _ ∙ remove_absent names place (by_place (get names place) had)
    where
      by_place : (o : Option (FinMap nat_cmp V)) → is_some o ≡ false → o ≡ None
      by_place None had = refl
      by_place (Some m) had = absurd (cc had)

-- ---- of names in one piece

same_made : (n q : Made) → n.place ≡ q.place → n.index ≡ q.index → n ≡ q
same_made n q e f =
    let by : n ≡ record { place = q.place; index = n.index } = ap (λ p. record { place = p; index = n.index }) e in
    by ∙ ap (λ i. record { place = q.place; index = i }) f

differ : (n q : Made) → n ≢ q → (n.place ≢ q.place) ⊎ (n.index ≢ q.index)
differ n q apart =
    elim (one_name_or_two n.place n.index q.place q.index) [
      | inl e ↦ absurd (apart (same_made n q e.0 e.1))
      | inr d ↦ d
    ]

module _ {V : Type 0} where
  pub get-set_same : (n : Made) (content : Option V) (m : NamedMap V)
      → get_named (set_named n content m) n.place n.index ≡ content
  get-set_same n (Some value) m = get-with_same m n.place n.index value
  get-set_same n None m = get-without_same m n.place n.index

  pub get-set_other : (n q : Made) (content : Option V) (m : NamedMap V) → n ≢ q
      → get_named (set_named n content m) q.place q.index ≡ get_named m q.place q.index
  get-set_other n q (Some value) m apart =
      get-with_other m n.place n.index q.place q.index value (differ n q apart)
  get-set_other n q None m apart = get-without_other m n.place n.index q.place q.index (differ n q apart)

  set_alike_by : (n q : Made) (content : Option V) (a b : NamedMap V)
      → ((n.place ≡ q.place) × (n.index ≡ q.index)) ⊎ ((n.place ≢ q.place) ⊎ (n.index ≢ q.index))
      → get_named a q.place q.index ≡ get_named b q.place q.index
      → get_named (set_named n content a) q.place q.index ≡ get_named (set_named n content b) q.place q.index
  set_alike_by n q (Some value) a b which e = with_alike a b n.place n.index q.place q.index value e
  set_alike_by n q None a b (inl same) e =
      let is : n ≡ q = same_made n q same.0 same.1 in
      let gone : (m : NamedMap V) → get_named (set_named n None m) q.place q.index ≡ None
      = λ m. ap (λ (x : Made). get_named (set_named n None m) x.place x.index) (sym is)
      ∙ get-without_same m n.place n.index in
      gone a ∙ sym (gone b)
  set_alike_by n q None a b (inr apart) e =
      get-without_other a n.place n.index q.place q.index apart ∙ e
      ∙ sym (get-without_other b n.place n.index q.place q.index apart)

  pub get-set_alike : (n q : Made) (content : Option V) (a b : NamedMap V)
      → get_named a q.place q.index ≡ get_named b q.place q.index
      → get_named (set_named n content a) q.place q.index ≡ get_named (set_named n content b) q.place q.index
  get-set_alike n q content a b e =
      set_alike_by n q content a b (one_name_or_two n.place n.index q.place q.index) e

-- what a name has after each call, for `grind`
pub ruleset named_laws = (get-no_names, get-with_same, get-with_other, get-without_same, get-without_other)
