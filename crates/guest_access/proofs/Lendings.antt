-- Laws of shared areas that are handed in, and taken back.
use Rattle.std.proofs.Common.{◌≡◌, ◌≢◌, ℕ, Bool, true, false, cond, List, [], ◌∷◌, ◌++◌, Option, Some, None, refl, ap}
use Rattle.std.proofs.Common.{sym, ◌∙◌, ◌⊎◌, inl, inr, subst}
use Rattle.std.specs.Prelude.{is_some, unwrap_or, IsTrue, ◌==◌, ◌&&◌}
use Rattle.std.specs.Ordering.{nat_cmp}
use Rattle.std.specs.FinMap.{FinMap, get, insert, empty}
use Rattle.std.proofs.lemmas.Bool.{eqb-false}
use Rattle.sn_base.proofs.Maps.{get-insert_same, get-insert_other, insert-insert, same_by_get}
use Rattle.rv_table.specs.Areas.{is_area}
use Rattle.rv_table.specs.declared.error.Area.{Area}
use Rattle.mm_space.specs.Handed.{AreaState, InHand, area_in, zero_area}
use Rattle.kernel_model.specs.Names.{NamedMap, get_named, has_named, with_named, without_named}
use Rattle.kernel_model.proofs.NamedMaps.{same_or_other, one_name_or_two, get-with, get-with_same, get-with_other}
use Rattle.kernel_model.proofs.NamedMaps.{with_same}
use Rattle.kernel_model.proofs.NamedMaps.{get-without_same, get-without_other}
use Rattle.guest_access.specs.Lending.{with_hand, AreAlike, AreThere, names, IsLent}
use Rattle.guest_access.specs.Trying.{AreLent}

-- ---- values set one behind another

insert-swap : {V : Type 0} (m : FinMap nat_cmp V) (k q : ℕ) (v w : V) → k ≢ q
    → insert (insert m k v) q w ≡ insert (insert m q w) k v
insert-swap {V} m k q v w apart = same_by_get _ _ at
  where
    other : q ≢ k
    other = λ e. apart (sym e)

    at : (x : ℕ) → get (insert (insert m k v) q w) x ≡ get (insert (insert m q w) k v) x
    at x =
        elim (same_or_other q x) [
          | inl e ↦ ap (get (insert (insert m k v) q w)) (sym e) ∙ get-insert_same (insert m k v) q w
              ∙ sym (ap (get (insert (insert m q w) k v)) (sym e) ∙ get-insert_other (insert m q w) k q v apart
              ∙ get-insert_same m q w)
          | inr d ↦ get-insert_other (insert m k v) q x w d
              ∙ elim (same_or_other k x) [
                | inl e ↦ ap (get (insert m k v)) (sym e) ∙ get-insert_same m k v
                    ∙ sym (ap (get (insert (insert m q w) k v)) (sym e) ∙ get-insert_same (insert m q w) k v)
                | inr f ↦ get-insert_other m k x v f
                    ∙ sym (get-insert_other (insert m q w) k x v f ∙ get-insert_other m q x w d)
              ]
        ]

module _ {V : Type 0} where
  -- of two values of one name the last stays
  with-with : (m : NamedMap V) (place index : ℕ) (v w : V)
      → with_named (with_named m place index v) place index w ≡ with_named m place index w
  with-with m place index v w =
      ap (λ o. insert (with_named m place index v) place (insert (unwrap_or o empty) index w))
      (get-insert_same m place (insert (unwrap_or (get m place) empty) index v))
      ∙ ap (insert (with_named m place index v) place) (insert-insert (unwrap_or (get m place) empty) index v w)
      ∙ insert-insert m place (insert (unwrap_or (get m place) empty) index v)
      (insert (unwrap_or (get m place) empty) index w)

  -- values of two names may be set in either order
  swap_places : (m : NamedMap V) (place index p i : ℕ) (v w : V) → place ≢ p
      → with_named (with_named m place index v) p i w ≡ with_named (with_named m p i w) place index v
  swap_places m place index p i v w apart =
      ap (λ o. insert (with_named m place index v) p (insert (unwrap_or o empty) i w))
      (get-insert_other m place p (insert (unwrap_or (get m place) empty) index v) apart)
      ∙ insert-swap m place p (insert (unwrap_or (get m place) empty) index v)
      (insert (unwrap_or (get m p) empty) i w) apart
      ∙ sym (ap (λ o. insert (with_named m p i w) place (insert (unwrap_or o empty) index v))
      (get-insert_other m p place (insert (unwrap_or (get m p) empty) i w) (λ e. apart (sym e))))

  one_place : (m : NamedMap V) (place index i : ℕ) (v w : V)
      → with_named (with_named m place index v) place i w
      ≡ insert m place (insert (insert (unwrap_or (get m place) empty) index v) i w)
  one_place m place index i v w =
      ap (λ o. insert (with_named m place index v) place (insert (unwrap_or o empty) i w))
      (get-insert_same m place (insert (unwrap_or (get m place) empty) index v))
      ∙ insert-insert m place (insert (unwrap_or (get m place) empty) index v)
      (insert (insert (unwrap_or (get m place) empty) index v) i w)

  swap_indices : (m : NamedMap V) (place index i : ℕ) (v w : V) → index ≢ i
      → with_named (with_named m place index v) place i w ≡ with_named (with_named m place i w) place index v
  swap_indices m place index i v w apart =
      one_place m place index i v w
      ∙ ap (insert m place) (insert-swap (unwrap_or (get m place) empty) index i v w apart)
      ∙ sym (one_place m place i index w v)

  with-swap : (m : NamedMap V) (place index p i : ℕ) (v w : V) → (place ≢ p) ⊎ (index ≢ i)
      → with_named (with_named m place index v) p i w ≡ with_named (with_named m p i w) place index v
  with-swap m place index p i v w (inl apart) = swap_places m place index p i v w apart
  with-swap m place index p i v w (inr apart) =
      elim (same_or_other place p) [
        | inl e ↦ ap (λ q. with_named (with_named m place index v) q i w) (sym e)
            ∙ swap_indices m place index i v w apart
            ∙ ap (λ q. with_named (with_named m q i w) place index v) e
        | inr d ↦ swap_places m place index p i v w d
      ]

-- ---- those in hand put back

with_hand-last : (hand : List InHand) (h : InHand) (m : NamedMap AreaState)
    → with_hand (hand ++ h ∷ []) m ≡ with_hand hand (with_named m h.name.place h.name.index h.state)
with_hand-last [] h m = refl
with_hand-last (x ∷ hand) h m =
    ap (λ n. with_named n x.name.place x.name.index x.state) (with_hand-last hand h m)

-- what is set below one of the name is lost
over_one : (hand : List InHand) (m : NamedMap AreaState) (place index : ℕ) (v w : AreaState)
    → with_named (with_hand hand (with_named m place index v)) place index w
    ≡ with_named (with_hand hand m) place index w
over_one [] m place index v w = with-with m place index v w
over_one (h ∷ hand) m place index v w =
    elim (one_name_or_two h.name.place h.name.index place index) [
      | inl e ↦ here (over_one hand m place index v w) e.0 e.1
      | inr d ↦
          with-swap (with_hand hand (with_named m place index v)) h.name.place h.name.index place index h.state w d
          ∙ ap (λ n. with_named n h.name.place h.name.index h.state) (over_one hand m place index v w)
          ∙ sym (with-swap (with_hand hand m) h.name.place h.name.index place index h.state w d)
    ]
  where
    here : with_named (with_hand hand (with_named m place index v)) place index w
        ≡ with_named (with_hand hand m) place index w
        → h.name.place ≡ place → h.name.index ≡ index
        → with_named (with_named (with_hand hand (with_named m place index v)) h.name.place h.name.index h.state)
        place index w
        ≡ with_named (with_named (with_hand hand m) h.name.place h.name.index h.state) place index w
    here rest e f =
        ap (λ p. with_named (with_named (with_hand hand (with_named m place index v)) p h.name.index h.state)
        place index w) e
        ∙ ap (λ i. with_named (with_named (with_hand hand (with_named m place index v)) place i h.state)
        place index w) f
        ∙ with-with (with_hand hand (with_named m place index v)) place index h.state w
        ∙ rest
        ∙ sym (with-with (with_hand hand m) place index h.state w)
        ∙ sym (ap (λ i. with_named (with_named (with_hand hand m) place i h.state) place index w) f)
        ∙ sym (ap (λ p. with_named (with_named (with_hand hand m) p h.name.index h.state) place index w) e)

-- so what is put back last stays, of whatever has the same names below
over_hand : (hand other : List InHand) (m : NamedMap AreaState) → names hand ≡ names other
    → with_hand hand (with_hand other m) ≡ with_hand hand m
over_hand [] [] m e = refl
over_hand [] (o ∷ other) m e = absurd (cc e)
over_hand (h ∷ hand) [] m e = refl
over_hand (h ∷ hand) (o ∷ other) m e =
    let name : h.name ≡ o.name = cc e in
    let rest : names hand ≡ names other = cc e in
    ap (λ (n : Area). with_named (with_hand hand (with_named (with_hand other m) n.place n.index o.state)) h.name.place
    h.name.index h.state) (sym name)
    ∙ over_one hand (with_hand other m) h.name.place h.name.index o.state h.state
    ∙ ap (λ n. with_named n h.name.place h.name.index h.state) (over_hand hand other m rest)

-- ---- those in hand are there

has_by : {V : Type 0} (o : Option V) (v : V) → o ≡ Some v → is_some o ≡ true
has_by o v e = ap is_some e

has_with : (m : NamedMap AreaState) (place index p i : ℕ) (v : AreaState) → has_named m p i ≡ true
    → has_named (with_named m place index v) p i ≡ true
has_with m place index p i v has =
    elim (get-with m place index p i v) [
      | inl same ↦ ap is_some same.1
      | inr other ↦ ap is_some other.1 ∙ has
    ]

there_with : (hand : List InHand) (m : NamedMap AreaState) (place index : ℕ) (v : AreaState) → AreThere hand m
    → AreThere hand (with_named m place index v)
there_with [] m place index v there = tt
there_with (h ∷ hand) m place index v there =
    (has_with m place index h.name.place h.name.index v there.0, there_with hand m place index v there.1)

there_more : (hand : List InHand) (h : InHand) (m : NamedMap AreaState) → AreThere hand m
    → has_named m h.name.place h.name.index ≡ true → AreThere (hand ++ h ∷ []) m
there_more [] h m there has = (has, tt)
there_more (x ∷ hand) h m there has = (there.0, there_more hand h m there.1 has)

there_less : (hand : List InHand) (h : InHand) (m : NamedMap AreaState) → AreThere (hand ++ h ∷ []) m
    → AreThere hand m × (has_named m h.name.place h.name.index ≡ true)
there_less [] h m there = (tt, there.0)
there_less (x ∷ hand) h m there = let less = there_less hand h m there.1 in ((there.0, less.0), less.1)

-- the last is there, the others still are once it is put back, and then all are
pub there_rest : (all hand : List InHand) (h : InHand) (m : NamedMap AreaState) → all ≡ hand ++ h ∷ []
    → AreThere all m
    → (IsTrue (has_named m h.name.place h.name.index))
    × AreThere hand (with_named m h.name.place h.name.index h.state)
there_rest all hand h m e there =
    let less = there_less hand h m (subst (λ x. AreThere x m) e there) in
    (less.1, there_with hand m h.name.place h.name.index h.state less.0)

pub back_last : (all hand : List InHand) (h : InHand) (m : NamedMap AreaState) → all ≡ hand ++ h ∷ []
    → with_hand hand (with_named m h.name.place h.name.index h.state) ≡ with_hand all m
back_last all hand h m e = sym (ap (λ x. with_hand x m) e ∙ with_hand-last hand h m)

pub there_same : (hand other : List InHand) (m : NamedMap AreaState) → names other ≡ names hand → AreThere hand m
    → AreThere other m
there_same [] [] m e there = tt
there_same [] (o ∷ other) m e there = absurd (cc e)
there_same (h ∷ hand) [] m e there = tt
there_same (h ∷ hand) (o ∷ other) m e there =
    let name : o.name ≡ h.name = cc e in
    let rest : names other ≡ names hand = cc e in
    (ap (λ (n : Area). has_named m n.place n.index) name ∙ there.0, there_same hand other m rest there.1)

-- ---- one more is lent

-- a name that is not in hand has what it has in its place
pub apart_by : (a b : Area) → is_area a b ≡ false → (a.place ≢ b.place) ⊎ (a.index ≢ b.index)
apart_by a b e = by (a.place == b.place) (a.index == b.index) refl refl e
  where
    by : (x y : Bool) → (a.place == b.place) ≡ x → (a.index == b.index) ≡ y → (x && y) ≡ false
        → (a.place ≢ b.place) ⊎ (a.index ≢ b.index)
    by false y p q e = inl (eqb-false a.place b.place p)
    by true false p q e = inr (eqb-false a.index b.index q)
    by true true p q e = absurd (cc e)

pub get_unasked : (hand : List InHand) (name : Area) (m : NamedMap AreaState) → area_in name hand ≡ None
    → get_named (with_hand hand m) name.place name.index ≡ get_named m name.place name.index
get_unasked [] name m e = refl
get_unasked (h ∷ hand) name m e = by (get_unasked hand name m) (is_area h.name name) refl e
  where
    by : (area_in name hand ≡ None
        → get_named (with_hand hand m) name.place name.index ≡ get_named m name.place name.index)
        → (b : Bool) → is_area h.name name ≡ b → cond b (Some h.state) (area_in name hand) ≡ None
        → get_named (with_named (with_hand hand m) h.name.place h.name.index h.state) name.place name.index
        ≡ get_named m name.place name.index
    by rest true is e = absurd (cc e)
    by rest false is e =
        get-with_other (with_hand hand m) h.name.place h.name.index name.place name.index h.state
        (apart_by h.name name is)
        ∙ rest e

pub lent_more : (name : Area) (hand hand' : List InHand) (areas areas' all : NamedMap AreaState)
    → IsLent name hand hand' areas areas' → AreLent hand areas all → AreLent hand' areas' all
lent_more name hand hand' areas areas' all lent before = record {
  there = subst (λ x. AreThere x areas') (sym lent.handed) (subst (λ x. AreThere (hand
      ++ record { name = name; state = lent.state } ∷ []) x) (sym lent.left)
      (there_more hand (record { name = name; state = lent.state })
      (with_named areas name.place name.index (zero_area 0))
      (there_with hand areas name.place name.index (zero_area 0) before.there)
      (ap is_some (get-with_same areas name.place name.index (zero_area 0)))));
  back = ap (λ h. with_hand h areas') lent.handed
      ∙ ap (with_hand (hand ++ record { name = name; state = lent.state } ∷ [])) lent.left
      ∙ with_hand-last hand (record { name = name; state = lent.state })
      (with_named areas name.place name.index (zero_area 0))
      ∙ ap (with_hand hand) (with-with areas name.place name.index (zero_area 0) lent.state
      ∙ with_same areas name.place name.index lent.state lent.there)
      ∙ before.back;
}

-- what was in hand is put back over what it was
pub lent_left : (hand left : List InHand) (areas all : NamedMap AreaState) → AreLent hand areas all
    → names left ≡ names hand → with_hand left areas ≡ with_hand left all
lent_left hand left areas all lent same =
    sym (over_hand left hand areas same) ∙ ap (with_hand left) lent.back

-- ---- one that was set and taken out

nothing_there : (o : Option AreaState) → is_some o ≡ false → o ≡ None
nothing_there None e = refl
nothing_there (Some state) e = absurd (cc e)

-- where nothing was, all is as it was
pub taken_out : (m : NamedMap AreaState) (place index : ℕ) (v : AreaState) → has_named m place index ≡ false
    → AreAlike (without_named (with_named m place index v) place index) m
taken_out m place index v has p i =
    elim (one_name_or_two place index p i) [
      | inl e ↦
          let here : get_named (without_named (with_named m place index v) place index) place index
          ≡ get_named m place index
          = get-without_same (with_named m place index v) place index
          ∙ sym (nothing_there (get_named m place index) has) in
          rw (← e.0, ← e.1) here
      | inr d ↦ get-without_other (with_named m place index v) place index p i d ∙ get-with_other m place index p i v d
    ]
