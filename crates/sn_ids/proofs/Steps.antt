-- Each step keeps the rule of the numbers that were drawn.
use Rattle.std.proofs.Common.{◌≡◌, ◌≢◌, ◌⊎◌, ◌≤◌, ◌+◌, ◌==◌, ℕ, zero, suc, List, [], ◌∷◌, ◌++◌, length, set, refl, sym, ap, ◌∙◌, subst, ⊎_elim, inl, inr, arith}
use Rattle.std.specs.Prelude.{slice_set, slice_index}
use mathlib.Core.Option.{some, none, some-ne-none, some-injective}
use lib.ListN.{get_elem?}
use prog.Atomic.{either}
use Rattle.atomic_table.specs.Table.{Act, Me, State, Step, step, stepped, carried_after, Valid, keeps, Allows, Splits, Joins, opening}
use Rattle.atomic_table.proofs.Lists.{at_set, at_snoc, set_again, exchanged}
use Rattle.sn_ids.specs.declared.rule.View.{View}
use Rattle.sn_ids.specs.Drawn.{ApartFrom, EachOnce, AllApart, UpTo, holder_of, both_of, Kept, Looks, Draws}

abbrev pub Runs : Type 0
Runs = List (ℕ × ℕ)

-- facts of runs
further : (last more : ℕ) (runs : Runs) → last ≤ more → UpTo last runs → UpTo more runs
further last more [] le u = tt
further last more (run ∷ runs) le u = (u.0, (let b = u.1 in omega (arith, b, le)), further last more runs le u.2)

up_both : (last : ℕ) (runs others : Runs) → UpTo last runs → UpTo last others → UpTo last (runs ++ others)
up_both last [] others u w = w
up_both last (run ∷ runs) others u w = (u.0, u.1, up_both last runs others u.2 w)

from_both : (run : ℕ × ℕ) (runs others : Runs) → ApartFrom run runs → ApartFrom run others
    → ApartFrom run (runs ++ others)
from_both run [] others a b = b
from_both run (x ∷ runs) others a b = (a.0, from_both run runs others a.1 b)

once_both : (runs others : Runs) → EachOnce runs → EachOnce others → AllApart runs others → EachOnce (runs ++ others)
once_both [] others a b c = b
once_both (run ∷ runs) others a b c = (from_both run runs others a.0 c.0, once_both runs others a.1 b c.1)

all_left : (runs others rest : Runs) → AllApart runs rest → AllApart others rest → AllApart (runs ++ others) rest
all_left [] others rest a b = b
all_left (run ∷ runs) others rest a b = (a.0, all_left runs others rest a.1 b)

all_right : (rest runs others : Runs) → AllApart rest runs → AllApart rest others → AllApart rest (runs ++ others)
all_right [] runs others a b = tt
all_right (run ∷ rest) runs others a b = (from_both run runs others a.0 b.0, all_right rest runs others a.1 b.1)

all_none : (runs : Runs) → AllApart runs []
all_none [] = tt
all_none (run ∷ runs) = (tt, all_none runs)

-- numbers behind the last one are apart from all before
behind : (last count : ℕ) (runs : Runs) → UpTo last runs → ApartFrom (last + 1, count) runs
behind last count [] u = tt
behind last count (run ∷ runs) u = (inr u.1, behind last count runs u.2)

before : (last count : ℕ) (runs : Runs) → UpTo last runs → AllApart runs ((last + 1, count) ∷ [])
before last count [] u = tt
before last count (run ∷ runs) u = ((inl u.1, tt), before last count runs u.2)

one_more : (rest runs : Runs) (run : ℕ × ℕ) → AllApart rest (run ∷ []) → AllApart rest runs → AllApart rest (run ∷ runs)
one_more [] runs run a b = tt
one_more (x ∷ rest) runs run a b = ((a.0.0, b.0), one_more rest runs run a.1 b.1)

-- the two facts of all views
abbrev pub Each : ℕ → List View → Type 0
Each last views = (id : ℕ) (v : View) → get_elem? views id ≡ some v → UpTo last v.drawn × EachOnce v.drawn

abbrev pub Others : List View → Type 0
Others views = (id other : ℕ) (v w : View) → id ≢ other → get_elem? views id ≡ some v
    → get_elem? views other ≡ some w → AllApart v.drawn w.drawn

each_set : (last : ℕ) (views : List View) (by : ℕ) (w : View) → Each last views
    → UpTo last w.drawn × EachOnce w.drawn → Each last (set views by w)
each_set last views by w each mine j u e =
    ⊎_elim
    (λ (x : (j ≡ by) × (w ≡ u)). subst (λ (y : View). UpTo last y.drawn × EachOnce y.drawn) x.1 mine)
    (λ (x : (j ≢ by) × (get_elem? views j ≡ some u)). each j u x.1)
    (at_set views by j w u e)

-- the view of one seat changes, and is apart from all others
others_set : (views : List View) (by : ℕ) (w : View) → Others views
    → ((j : ℕ) (u : View) → j ≢ by → get_elem? views j ≡ some u
    → AllApart w.drawn u.drawn × AllApart u.drawn w.drawn) → Others (set views by w)
others_set views by w others mine i j u x far e f =
    ⊎_elim
    (λ (a : (i ≡ by) × (w ≡ u)).
    ⊎_elim
    (λ (b : (j ≡ by) × (w ≡ x)). absurd (far (a.0 ∙ sym b.0)))
    (λ (b : (j ≢ by) × (get_elem? views j ≡ some x)). subst (λ (y : View). AllApart y.drawn x.drawn) a.1
    (mine j x b.0 b.1).0)
    (at_set views by j w x f))
    (λ (a : (i ≢ by) × (get_elem? views i ≡ some u)).
    ⊎_elim
    (λ (b : (j ≡ by) × (w ≡ x)). subst (λ (y : View). AllApart u.drawn y.drawn) b.1 (mine i u a.0 a.1).1)
    (λ (b : (j ≢ by) × (get_elem? views j ≡ some x)). others i j u x far a.1 b.1)
    (at_set views by j w x f))
    (at_set views by i w u e)

same_words : (s : State (Unit {0}) View) (last : ℕ) → s.words ≡ last ∷ []
    → slice_set s.words 0 (slice_index s.words 0) ≡ last ∷ []
same_words s last is = subst (λ (ws : List ℕ). slice_set ws 0 (slice_index ws 0) ≡ last ∷ []) (sym is) refl

pub looks : (slots id : ℕ) (st : Step (Unit {0})) (v : View)
    → Allows Kept slots id (v, []) 0 (λ n. n) (Looks st (v, []))
looks slots id st v s h homes at small = (
  v,
  keeps,
  tt,
  subst (λ (l : List View). Kept record {
    words = slice_set s.words 0 (slice_index s.words 0);
    homes =
        s.homes;
    views = l;
  }) (sym (set_again s.views id v at)) (h.0, same_words s h.0 h.1, h.2, h.3),
  ((h.2 id v at).1, refl),
)

drawn : (id last count : ℕ) (v : View) (s : State (Unit {0}) View) (h : Kept s) → get_elem? s.views id ≡ some v
    → last ≡ h.0
    → Each (last + count) (set s.views id (holder_of ((last + 1, count) ∷ v.drawn)))
    × Others (set s.views id (holder_of ((last + 1, count) ∷ v.drawn)))
drawn id last count v s h at is =
    let le : h.0 ≤ last + count = omega (arith, is) in
    let up : (j : ℕ) (u : View) → get_elem? s.views j ≡ some u → UpTo last u.drawn =
    λ j u e. subst (λ (n : ℕ). UpTo n u.drawn) (sym is) (h.2 j u e).0 in
    let mine = h.2 id v at in (
      each_set (last + count) s.views id (holder_of ((last + 1, count) ∷ v.drawn))
          (λ j u e. (further h.0 (last + count) u.drawn le (h.2 j u e).0, (h.2 j u e).1)) (
            (omega arith, omega arith, further h.0 (last + count) v.drawn le mine.0),
            (behind last count v.drawn (up id v at), mine.1),
          ),
      others_set s.views id (holder_of ((last + 1, count) ∷ v.drawn)) h.3
          (λ j u far e. (
            (behind last count u.drawn (up j u e), h.3 id j v u (λ q. far (sym q)) at e),
            one_more u.drawn v.drawn (last + 1, count) (before last count u.drawn (up j u e)) (h.3 j id u v far e at),
          )),
    )

abbrev pub After : ℕ → ℕ → ℕ → State (Unit {0}) View → ℕ → View → ℕ → Type 0
After slots first second s id v to =
    (w : View) × (a : Act (Unit {0})) × Valid s.homes [] a × Kept (stepped s 0 to id [] w a)
    × Draws (step slots 0 first second none) (v, []) (slice_index s.words 0) (w, carried_after [] a)

hits : (slots id first count : ℕ) (v : View) (s : State (Unit {0}) View) (h : Kept s) → get_elem? s.views id ≡ some v
    → slice_index s.words 0 ≡ first
    → After slots first (first + count) s id v (first + count)
hits slots id first count v s h at is =
    let word : slice_index s.words 0 ≡ h.0 = ap (λ (ws : List ℕ). slice_index ws 0) h.1 in
    let new = drawn id first count v s h at (sym is ∙ word) in
    let mine = h.2 id v at in (
      holder_of ((first + 1, count) ∷ v.drawn),
      keeps,
      tt,
      (
        first + count,
        subst (λ (ws : List ℕ). slice_set ws 0 (first + count) ≡ (first + count) ∷ []) (sym h.1) refl,
        new.0,
        new.1,
      ),
      (
        refl,
        (behind first count v.drawn (subst (λ (n : ℕ). UpTo n v.drawn) (sym word ∙ is) mine.0), mine.1),
        (λ _ c e.
            let same : count ≡ c = omega (arith, e) in
            ap (λ (n : ℕ). (first + 1, n) ∷ v.drawn) same),
        (λ not. absurd (not is)),
      ),
    )

misses : (slots id first second : ℕ) (v : View) (s : State (Unit {0}) View) (h : Kept s)
    → get_elem? s.views id ≡ some v → slice_index s.words 0 ≢ first
    → After slots first second s id v (slice_index s.words 0)
misses slots id first second v s h at not = (
  v,
  keeps,
  tt,
  subst (λ (l : List View). Kept record {
    words = slice_set s.words 0 (slice_index s.words 0);
    homes =
        s.homes;
    views = l;
  }) (sym (set_again s.views id v at)) (h.0, same_words s h.0 h.1, h.2, h.3),
  (refl, (h.2 id v at).1, (λ is. absurd (not is)), (λ _. refl)),
)

pub draws : (slots id first count : ℕ) (v : View)
    → Allows Kept slots id (v, []) 0 (λ n. either (n == first) (first + count) n)
    (Draws (step slots 0 first (first + count) none) (v, []))
draws slots id first count v s h homes at small =
    exchanged (slice_index s.words 0) first (first + count) (After slots first (first + count) s id v)
    (hits slots id first count v s h at)
    (misses slots id first (first + count) v s h at)

-- a new seat has drawn nothing
at_end : {A : Type 0} (l : List A) (a b : A) (j : ℕ) → get_elem? (l ++ a ∷ []) j ≡ some b
    → (get_elem? l j ≡ some b) ⊎ ((j ≡ length l) × (a ≡ b))
at_end [] a b zero e = inr (refl, some-injective a b e)
at_end [] a b (suc j) e = absurd (some-ne-none b (sym e))
at_end (x ∷ xs) a b zero e = inl e
at_end (x ∷ xs) a b (suc j) e = ⊎_elim inl (λ t. inr (ap suc t.0, t.1)) (at_end xs a b j e)

others_more : (views : List View) → Others views → Others (views ++ holder_of [] ∷ [])
others_more views others i j u x far e f =
    ⊎_elim
    (λ (a : get_elem? views i ≡ some u).
    ⊎_elim
    (λ (b : get_elem? views j ≡ some x). others i j u x far a b)
    (λ (b : holder_of [] ≡ x). subst (λ (y : View). AllApart u.drawn y.drawn) b (all_none u.drawn))
    (at_snoc views (holder_of []) x j f))
    (λ (a : holder_of [] ≡ u). subst (λ (y : View). AllApart y.drawn x.drawn) a tt)
    (at_snoc views (holder_of []) u i e)

pub fresh : (id : ℕ) (v : View) → Splits Kept id v v (holder_of [])
fresh id v s h at =
    subst (λ (l : List View). Kept record { words = s.words; homes = s.homes; views = l ++ holder_of [] ∷ [] })
    (sym (set_again s.views id v at)) (
      h.0,
      h.1,
      (λ j u e. ⊎_elim (h.2 j u) (λ (x : holder_of [] ≡ u).
          subst (λ (y : View). UpTo h.0 y.drawn × EachOnce y.drawn) x (tt, tt)) (at_snoc s.views (holder_of []) u j e)),
      others_more s.views h.3,
    )

pub joins : (id : ℕ) (v : View) (other : ℕ) (u : View) → Joins Kept id v other u (both_of v u) (holder_of [])
joins id v other u s h at apart there =
    let w = both_of v u in
    let mine = h.2 id v at in
    let theirs_at : get_elem? s.views other ≡ some u =
    ⊎_elim (λ (t : (other ≡ id) × (w ≡ u)). absurd (apart t.0))
    (λ (t : (other ≢ id) × (get_elem? s.views other ≡ some u)). t.1) (at_set s.views id other w u there) in
    let theirs = h.2 other u theirs_at in
    let far : id ≢ other = λ e. apart (sym e) in
    let rest : (j : ℕ) (x : View) → j ≢ other → get_elem? s.views j ≡ some x → j ≢ id
    → AllApart w.drawn x.drawn × AllApart x.drawn w.drawn =
    λ j x off e on. (
      all_left v.drawn u.drawn x.drawn (h.3 id j v x (λ q. on (sym q)) at e)
          (h.3 other j u x (λ q. off (sym q)) theirs_at e),
      all_right x.drawn v.drawn u.drawn (h.3 j id x v on e at) (h.3 j other x u off e theirs_at),
    ) in (
      h.0,
      h.1,
      each_set h.0 (set s.views id w) other (holder_of [])
          (each_set h.0 s.views id w h.2 (
            up_both h.0 v.drawn u.drawn mine.0 theirs.0,
            once_both v.drawn u.drawn mine.1 theirs.1 (h.3 id other v u far at theirs_at),
          )) (tt, tt),
      merged s.views id other w h.3 rest,
    )
  where
    -- of two seats neither is the one that ended, unless its list is empty
    merged : (views : List View) (id other : ℕ) (w : View) → Others views
        → ((j : ℕ) (x : View) → j ≢ other → get_elem? views j ≡ some x → j ≢ id
        → AllApart w.drawn x.drawn × AllApart x.drawn w.drawn) → Others (set (set views id w) other (holder_of []))
    merged views id other w others rest i j a b far e f =
        ⊎_elim
        (λ (p : (i ≡ other) × (holder_of [] ≡ a)). subst (λ (y : View). AllApart y.drawn b.drawn) p.1 tt)
        (λ (p : (i ≢ other) × (get_elem? (set views id w) i ≡ some a)).
        ⊎_elim
        (λ (q : (j ≡ other) × (holder_of [] ≡ b)). subst (λ (y : View). AllApart a.drawn y.drawn) q.1
        (all_none a.drawn))
        (λ (q : (j ≢ other) × (get_elem? (set views id w) j ≡ some b)).
        ⊎_elim
        (λ (k : (i ≡ id) × (w ≡ a)).
        ⊎_elim
        (λ (l : (j ≡ id) × (w ≡ b)). absurd (far (k.0 ∙ sym l.0)))
        (λ (l : (j ≢ id) × (get_elem? views j ≡ some b)).
        subst (λ (y : View). AllApart y.drawn b.drawn) k.1 (rest j b q.0 l.1 l.0).0)
        (at_set views id j w b q.1))
        (λ (k : (i ≢ id) × (get_elem? views i ≡ some a)).
        ⊎_elim
        (λ (l : (j ≡ id) × (w ≡ b)). subst (λ (y : View). AllApart a.drawn y.drawn) l.1 (rest i a p.0 k.1 k.0).1)
        (λ (l : (j ≢ id) × (get_elem? views j ≡ some b)). others i j a b far k.1 l.1)
        (at_set views id j w b q.1))
        (at_set views id i w a p.1))
        (at_set (set views id w) other j (holder_of []) b f))
        (at_set (set views id w) other i (holder_of []) a e)

pub begins : Kept (opening (0 ∷ []) [] (holder_of []))
begins = (0, refl, each, others)
  where
    each : (id : ℕ) (v : View) → get_elem? (holder_of [] ∷ []) id ≡ some v → UpTo 0 v.drawn × EachOnce v.drawn
    each zero v e = subst (λ (y : View). UpTo 0 y.drawn × EachOnce y.drawn) (some-injective _ _ e) (tt, tt)
    each (suc id) v e = absurd (some-ne-none v (sym e))

    others : (id other : ℕ) (v w : View) → id ≢ other → get_elem? (holder_of [] ∷ []) id ≡ some v
        → get_elem? (holder_of [] ∷ []) other ≡ some w → AllApart v.drawn w.drawn
    others zero other v w far e f = subst (λ (y : View). AllApart y.drawn w.drawn) (some-injective _ _ e) tt
    others (suc id) other v w far e f = absurd (some-ne-none v (sym e))

-- the steps, at a seat that is known
abbrev pub S : Type 0
S = Me (Unit {0}) View

pub looks_as : (slots id : ℕ) (me : S) → me ≡ (holder_of me.0.drawn, [])
    → Allows Kept slots id me 0 (λ n. n) (Looks (step slots 0 0 0 none) me)
looks_as slots id me is =
    subst (λ (m : S). Allows Kept slots id m 0 (λ n. n) (Looks (step slots 0 0 0 none) m)) (sym is)
    (looks slots id (step slots 0 0 0 none) (holder_of me.0.drawn))

pub draws_as : (slots id first count : ℕ) (me : S) → me ≡ (holder_of me.0.drawn, [])
    → Allows Kept slots id me 0 (λ n. either (n == first) (first + count) n)
    (Draws (step slots 0 first (first + count) none) me)
draws_as slots id first count me is =
    subst (λ (m : S). Allows Kept slots id m 0 (λ n. either (n == first) (first + count) n)
    (Draws (step slots 0 first (first + count) none) m)) (sym is)
    (draws slots id first count (holder_of me.0.drawn))

pub found_as : (me now : S) → me ≡ (holder_of me.0.drawn, []) → now ≡ me → now ≡ (holder_of now.0.drawn, [])
found_as me now is same = subst (λ (m : S). m ≡ (holder_of m.0.drawn, [])) (sym same) is

pub joined : (me other now : S) → me ≡ (holder_of me.0.drawn, []) → now ≡ (both_of me.0 other.0, me.1)
    → now ≡ (holder_of now.0.drawn, [])
joined me other now is new =
    subst (λ (m : S). m ≡ (holder_of m.0.drawn, [])) (sym new)
    (ap (λ (l : List (ℕ × Unit {0})). (both_of me.0 other.0, l)) (ap (λ (m : S). m.1) is))

-- what an exchange drew that found what it was told
pub drawn_by : (slots first count found : ℕ) (me now : S)
    → Draws (step slots 0 first (first + count) none) me found now → found ≡ first
    → now.0.drawn ≡ (first + 1, count) ∷ me.0.drawn
drawn_by slots first count found me now d is = d.2 is count refl
