-- Each step keeps the ties.
use Rattle.std.proofs.Common.{◌≡◌, ◌≢◌, ◌+◌, ◌≤◌, ℕ, zero, suc, List, [], ◌∷◌, ◌++◌, length, set, true, false, true≢false, refl, sym, ap, ◌∙◌, subst, ⊎_elim, arith}
use Rattle.std.specs.Prelude.{slice_index, sum_by}
use Rattle.std.proofs.lemmas.List.Sums.{sum_by-append, sum_by-cons}
use mathlib.Core.Option.{some, none, some-ne-none, some-injective}
use lib.ListN.{get_elem?}
use Rattle.atomic_table.specs.Table.{Me, step, keeps, Allows, Splits, Joins, opening}
use Rattle.atomic_table.proofs.Lists.{at_set, at_snoc, set_again}
use Rattle.pool_ties.specs.declared.rule.Note.{Note}
use Rattle.pool_ties.specs.declared.rule.View.{View}
use Rattle.pool_ties.specs.Tied.{knotted, sharing, idle, issuing, redeemed, SameNotes, held_by, Kept, Settles}

off : false ≡ true → ⊥
off e = true≢false (sym e)

-- what is held, after a change of one view
held_set : (f : View → ℕ) (views : List View) (id : ℕ) (v w : View) → get_elem? views id ≡ some v →
    sum_by f (set views id w) + f v ≡ sum_by f views + f w
held_set f [] id v w e = absurd (some-ne-none v (sym e))
held_set f (x ∷ xs) zero v w e = let q = ap f (some-injective x v e) in
    omega (arith, q, sum_by-cons f x xs, sum_by-cons f w xs)
held_set f (x ∷ xs) (suc id) v w e = let r = held_set f xs id v w e in
    omega (arith, r, sum_by-cons f x xs, sum_by-cons f x (set xs id w))

-- the knot is the first seat, and what it knows is what the rule says
abbrev pub Knows : List Note → List Note → List View → Type 0
Knows issued returned views = (id : ℕ) (v : View) → get_elem? views id ≡ some v → v.knot ≡ true → (id ≡ 0) ×
    (v.issued ≡ issued) × (v.returned ≡ returned)

-- after a change of the knot's own view
knows_set : (issued returned : List Note) (views : List View) (id : ℕ) (v w : View) → Knows issued returned views →
    get_elem? views id ≡ some v → v.knot ≡ true → Knows w.issued w.returned (set views id w)
knows_set issued returned views id v w h at knot j x e k =
    let one = h id v at knot in
    ⊎_elim
    (λ (t : (j ≡ id) ×
    (w ≡ x)). (t.0 ∙ one.0, sym (ap (λ (u : View). u.issued) t.1), sym (ap (λ (u : View). u.returned) t.1)))
    (λ (t : (j ≢ id) × (get_elem? views j ≡ some x)). absurd (t.0 ((h j x t.1 k).0 ∙ sym one.0)))
    (at_set views id j w x e)

-- after a view that is no knot's comes in another's place, or behind
knows_else : (issued returned : List Note) (views : List View) (id : ℕ) (w : View) → Knows issued returned views →
    w.knot ≡ false → Knows issued returned (set views id w)
knows_else issued returned views id w h plain j x e k =
    ⊎_elim
    (λ (t : (j ≡ id) × (w ≡ x)). absurd (off (sym plain ∙ (ap (λ (u : View). u.knot) t.1 ∙ k))))
    (λ (t : (j ≢ id) × (get_elem? views j ≡ some x)). h j x t.1 k)
    (at_set views id j w x e)

knows_snoc : (issued returned : List Note) (views : List View) (w : View) → Knows issued returned views →
    w.knot ≡ false → Knows issued returned (views ++ w ∷ [])
knows_snoc issued returned views w h plain j x e k =
    ⊎_elim
    (λ was. h j x was k)
    (λ (t : w ≡ x). absurd (off (sym plain ∙ (ap (λ (u : View). u.knot) t ∙ k))))
    (at_snoc views w x j e)

pub issues : (id : ℕ) (n : Note) (i r : List Note) → Splits Kept id (knotted i r) (issuing n (knotted i r)) (sharing n)
issues id n i r s h at =
    let v = knotted i r in
    let l = set s.views id (issuing n v) in
    let one = h.2 id v at refl in
    let wide = knows_snoc (n ∷ i) r l (sharing n) (knows_set h.0 h.1 s.views id v (issuing n v) h.2 at refl) refl in (
      n ∷ i,
      r,
      wide,
      λ g.
          let f = λ (u : View). sum_by g u.held in
          let a = sum_by-append f l (sharing n ∷ []) in
          let d = sum_by-cons f (sharing n) [] in
          let e = sum_by-cons g n [] in
          let k = sum_by-cons g n i in
          let b = held_set f s.views id v (issuing n v) at in
          let c = h.3 g in
          let p = ap (sum_by g) one.1 in
          let q = ap (sum_by g) one.2 in
          omega (arith, a, b, c, d, e, k, p, q),
    )

pub redeems : (id : ℕ) (i r : List Note) (other : ℕ) (n : Note) →
    Joins Kept id (knotted i r) other (sharing n) (redeemed (knotted i r) (sharing n)) idle
redeems id i r other n s h at apart there =
    let v = knotted i r in
    let w = redeemed v (sharing n) in
    let one = h.2 id v at refl in
    let l = set s.views id w in (
      i,
      n ∷ r,
      knows_else i (n ∷ r) l other idle (knows_set h.0 h.1 s.views id v w h.2 at refl) refl,
      λ g.
          let f = λ (u : View). sum_by g u.held in
          let a = held_set f l other (sharing n) idle there in
          let e = sum_by-cons g n [] in
          let k = sum_by-cons g n r in
          let b = held_set f s.views id v w at in
          let c = h.3 g in
          let p = ap (sum_by g) one.1 in
          let q = ap (sum_by g) one.2 in
          omega (arith, a, b, c, e, k, p, q),
    )

counts : (xs : List Note) → sum_by (λ _. 1) xs ≡ length xs
counts [] = refl
counts (x ∷ xs) = let r = counts xs in omega (arith, r, sum_by-cons {X = Note} (λ _. 1) x xs)

none_weigh : (g : Note → ℕ) (xs : List Note) → sum_by (λ _. 1) xs ≡ 0 → sum_by g xs ≡ 0
none_weigh g [] e = refl
none_weigh g (x ∷ xs) e = absurd (omega (arith, e, sum_by-cons {X = Note} (λ _. 1) x xs))

none_held : (g : Note → ℕ) (views : List View) → held_by (λ _. 1) views ≡ 0 → held_by g views ≡ 0
none_held g [] e = refl
none_held g (v ∷ vs) e =
    let all = λ (h : Note → ℕ). sum_by-cons (λ (u : View). sum_by h u.held) v vs in
    let a = none_weigh g v.held (omega (arith, e, all (λ _. 1))) in
    let b = none_held g vs (omega (arith, e, all (λ _. 1))) in
    omega (arith, a, b, all g)

same_notes : (i r : List Note) (views : List View) → ((h : Note → ℕ) → held_by h views + sum_by h r ≡ sum_by h i) →
    length i ≡ length r → SameNotes i r
same_notes i r views kept even g =
    let a = kept (λ _. 1) in
    let b = counts i in
    let c = counts r in
    let d = none_held g views (omega (arith, a, b, c)) in
    let e = kept g in
    omega (arith, d, e)

fewer_notes : (i r : List Note) (views : List View) → ((h : Note → ℕ) → held_by h views + sum_by h r ≡ sum_by h i) →
    length r ≤ length i
fewer_notes i r views kept =
    let a = kept (λ _. 1) in
    let b = counts i in
    let c = counts r in
    omega (arith, a, b, c)

pub settles : (slots id : ℕ) (i r : List Note) →
    Allows Kept slots id (knotted i r, []) 0 (λ n. n) (Settles (step slots 0 0 0 none) (knotted i r, []))
settles slots id i r s h homes at small =
    let v = knotted i r in
    let one = h.2 id v at refl in
    let balance : (g : Note → ℕ) → held_by g s.views + sum_by g r ≡ sum_by g i = λ g.
    let c = h.3 g in
    let p = ap (sum_by g) one.1 in
    let q = ap (sum_by g) one.2 in
    omega (arith, c, p, q)
    in (
      v,
      keeps,
      tt,
      subst (λ (l : List View). Kept record {
        words = set s.words 0 (slice_index s.words 0);
        homes = s.homes;
        views =
            l;
      }) (sym (set_again s.views id v at)) h,
      (
        fewer_notes i r s.views balance,
        same_notes i r s.views balance,
        refl,
      ),
    )

pub begins : Kept (opening (0 ∷ []) [] (knotted [] []))
begins = ([], [], one, (λ g. refl))
  where
    one : (id : ℕ) (v : View) → get_elem? (knotted [] [] ∷ []) id ≡ some v → v.knot ≡ true → (id ≡ 0) ×
        (v.issued ≡ []) × (v.returned ≡ [])
    one zero v e k = let q = some-injective _ _ e in
        (refl, sym (ap (λ (u : View). u.issued) q), sym (ap (λ (u : View). u.returned) q))
    one (suc id) v e k = absurd (some-ne-none v (sym e))

-- the steps, at a seat that is known
abbrev pub S : Type 0
S = Me Unit View

pub issues_as : (id : ℕ) (n : Note) (i r : List Note) (me : S) → me ≡ (knotted i r, []) →
    Splits Kept id me.0 (issuing n me.0) (sharing n)
issues_as id n i r me is = subst (λ (m : S). Splits Kept id m.0 (issuing n m.0) (sharing n)) (sym is) (issues id n i r)

pub redeems_as : (id : ℕ) (i r : List Note) (other : ℕ) (n : Note) (me share : S) → me ≡ (knotted i r, []) →
    share ≡ (sharing n, []) → Joins Kept id me.0 other share.0 (redeemed me.0 share.0) idle
redeems_as id i r other n me share p q =
    subst (λ (m : S × S). Joins Kept id m.0.0 other m.1.0 (redeemed m.0.0 m.1.0) idle) (λ k. (sym p k, sym q k))
    (redeems id i r other n)

pub settles_as : (slots id : ℕ) (i r : List Note) (me : S) → me ≡ (knotted i r, []) →
    Allows Kept slots id me 0 (λ n. n) (Settles (step slots 0 0 0 none) me)
settles_as slots id i r me is =
    subst (λ (m : S). Allows Kept slots id m 0 (λ n. n) (Settles (step slots 0 0 0 none) m)) (sym is)
    (settles slots id i r)
