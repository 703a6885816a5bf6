-- A granted folder of which one more child was lent, or whose root or a child has met a fault.
use Rattle.std.proofs.Common.{◌≡◌, ◌≢◌, ℕ, zero, suc, ◌+◌, ◌<◌, ◌≤◌, ◌^◌, true, List, [], ◌∷◌, ◌++◌, length}
use Rattle.std.proofs.Common.{refl, ap, sym, ◌∙◌, subst, arith}
use Rattle.std.specs.Prelude.{Option, Some, option_map, slice_get, slice_set, if◌then◌else◌}
use Rattle.std.proofs.lemmas.Bool.{eq-eqb, ne_eqb}
use Rattle.std.proofs.lemmas.Option.{same_Some}
use Rattle.host_node.specs.Tree.{Shape, faults_of, child_of, lend_child, none_lent}
use Rattle.host_node.proofs.TreeLemmas.{is_lent-none_lent, none_lent-child_of}
use Rattle.kernel_model.specs.declared.opening.Rise.{Rise}
use Rattle.kernel_model.specs.files.Settled.{rise_in}
use Rattle.image_walk.specs.declared.granted.Numbering.{Numbering}
use Rattle.image_walk.specs.Granted.{LentChild, place_of_child}
use Rattle.image_walk.specs.Loading.{faulted_by}
use Rattle.image_walk.specs.Standing.{lend_all, IsNoneOf, StandUnlent, lent_from, StandsLent}
use Rattle.host_node.proofs.Apart.{apart}
use Rattle.image_walk.proofs.Trees.{faulted_by_none}
use Rattle.image_walk.proofs.Lending.{faults_of-lend_all, lend_all-more}
use Rattle.image_walk.proofs.Places.{IsThere, placed}

-- ---- one rise

pub rise_here : (ino : ℕ) (r : Rise) → r.ino ≡ ino → rise_in ino (r ∷ []) ≡ r.count
rise_here ino r e =
    let same : 0 + r.count ≡ r.count = omega arith in
    ap (λ b. 0 + (if b then r.count else 0)) (eq-eqb r.ino ino e) ∙ same

pub rise_elsewhere : (ino : ℕ) (r : Rise) → r.ino ≢ ino → rise_in ino (r ∷ []) ≡ 0
rise_elsewhere ino r d = ap (λ b. 0 + (if b then r.count else 0)) (ne_eqb r.ino ino d)

-- what children tell whose numbers a rise is below, or above
pub lent_from-below : (n : ℕ) (t : Shape) (names : List (List ℕ)) (r : Rise) → r.ino < n
    → lent_from n t names (r ∷ []) ≡ lent_from n t names []
lent_from-below n t [] r h = refl
lent_from-below n t (name ∷ names) r h =
    let differs : r.ino ≢ n = λ e. absurd (omega arith) in
    let next : r.ino < n + 1 = omega arith in
    ap
    (λ d. (name, option_map (faulted_by d) (child_of name t)) ∷ lent_from (n + 1) t names (r ∷ []))
    (rise_elsewhere n r differs)
    ∙ ap (λ (cs : List LentChild). (name, option_map (faulted_by 0) (child_of name t)) ∷ cs)
    (lent_from-below (n + 1) t names r next)

pub lent_from-above : (n : ℕ) (t : Shape) (names : List (List ℕ)) (r : Rise) → n + length names ≤ r.ino
    → lent_from n t names (r ∷ []) ≡ lent_from n t names []
lent_from-above n t [] r h = refl
lent_from-above n t (name ∷ names) r h =
    let below : n + suc (length names) ≤ r.ino = h in
    let differs : r.ino ≢ n = λ e. absurd (omega arith) in
    let next : n + 1 + length names ≤ r.ino = omega arith in
    ap
    (λ d. (name, option_map (faulted_by d) (child_of name t)) ∷ lent_from (n + 1) t names (r ∷ []))
    (rise_elsewhere n r differs)
    ∙ ap (λ (cs : List LentChild). (name, option_map (faulted_by 0) (child_of name t)) ∷ cs)
    (lent_from-above (n + 1) t names r next)

-- ---- one more child

there_more : (t : Shape) (names : List (List ℕ)) (name : List ℕ) → StandUnlent t names → IsNoneOf name names
    → IsThere (child_of name t) → StandUnlent t (names ++ name ∷ [])
there_more t [] name h new there = (there, tt, tt)
there_more t (other ∷ names) name h new there =
    (h.0, others names h.1, there_more t names name h.2 new.1 there)
  where
    others : (ns : List (List ℕ)) → IsNoneOf other ns → IsNoneOf other (ns ++ name ∷ [])
    others [] o = (apart other name new.0, tt)
    others (n ∷ ns) o = (o.0, others ns o.1)

lent_from-more : (n : ℕ) (t : Shape) (names : List (List ℕ)) (name : List ℕ) (rises : List Rise)
    → lent_from n t (names ++ name ∷ []) rises
    ≡ lent_from n t names rises
    ++ (name, option_map (faulted_by (rise_in (length names + n) rises)) (child_of name t)) ∷ []
lent_from-more n t [] name rises =
    let same : n ≡ 0 + n = omega arith in
    ap (λ ino. (name, option_map (faulted_by (rise_in ino rises)) (child_of name t)) ∷ []) same
lent_from-more n t (other ∷ names) name rises =
    let same : length names + (n + 1) ≡ suc (length names) + n = omega arith in
    ap (λ (cs : List LentChild). (other, option_map (faulted_by (rise_in n rises)) (child_of other t)) ∷ cs)
    (lent_from-more (n + 1) t names name rises
    ∙ ap
    (λ ino. lent_from (n + 1) t names rises
    ++ (name, option_map (faulted_by (rise_in ino rises)) (child_of name t)) ∷ []) same)

-- a child of a tree with nothing lent is there, and not lent
pub is_there : (t : Shape) (name : List ℕ) (s : Shape) → none_lent t ≡ true → child_of name t ≡ Some s
    → faults_of s < 2 ^ 64 → IsThere (child_of name t)
is_there t name s free e h =
    subst (λ (o : Option Shape). IsThere o) (sym e) (is_lent-none_lent s (none_lent-child_of name s t free e), h)

-- what the root tells, where the rises are not its
root_more : (num : Numbering) (t : Shape) (names : List (List ℕ)) (name : List ℕ) (rises : List Rise)
    → faults_of t < 2 ^ 64
    → rise_in num.root rises ≡ 0
    → Some (lend_child name (lend_all names t))
    ≡ Some (faulted_by (rise_in num.root rises) (lend_all (names ++ name ∷ []) t))
root_more num t names name rises h e =
    ap Some (sym (lend_all-more names name t))
    ∙ ap Some (sym (faulted_by_none (lend_all (names ++ name ∷ []) t)
    (subst (λ (n : ℕ). n < 2 ^ 64) (sym (faults_of-lend_all (names ++ name ∷ []) t)) h)))
    ∙ ap (λ d. Some (faulted_by d (lend_all (names ++ name ∷ []) t))) (sym e)

-- one more child was lent,
pub stands_more : (num : Numbering) (t : Shape) (names : List (List ℕ)) (name : List ℕ) (s : Shape)
    (root : Option Shape)
    (children : List LentChild) → StandsLent num t names [] root children → IsNoneOf name names
    → child_of name t ≡ Some s
    → faults_of s < 2 ^ 64
    → StandsLent num t (names ++ name ∷ []) [] (Some (lend_child name (lend_all names t)))
    (children ++ (name, Some s) ∷ [])
stands_more num t names name s root children st new e h = record {
  small = st.small;
  free = st.free;
  there = there_more t names name st.there new (is_there t name s st.free e h);
  root_tells = root_more num t names name [] st.small refl;
  children_tell =
      ap (λ (cs : List LentChild). cs ++ (name, Some s) ∷ []) st.children_tell
      ∙ sym (lent_from-more num.first t names name []
      ∙ ap (λ (o : Option Shape). lent_from num.first t names [] ++ (name, option_map (faulted_by 0) o) ∷ []) e
      ∙ ap (λ (x : Shape). lent_from num.first t names [] ++ (name, Some x) ∷ []) (faulted_by_none s h));
}

-- and it has met a fault
pub stands_more_risen : (num : Numbering) (low : num.root < num.first) (t : Shape) (names : List (List ℕ))
    (name : List ℕ) (s : Shape) (root : Option Shape)
    (children : List LentChild) (r : Rise) → StandsLent num t names [] root children → IsNoneOf name names
    → child_of name t ≡ Some s → faults_of s < 2 ^ 64 → r.ino ≡ length names + num.first
    → StandsLent num t (names ++ name ∷ []) (r ∷ []) (Some (lend_child name (lend_all names t)))
    (children ++ (name, Some (faulted_by r.count s)) ∷ [])
stands_more_risen num low t names name s root children r st new e h i = record {
  small = st.small;
  free = st.free;
  there = there_more t names name st.there new (is_there t name s st.free e h);
  root_tells =
      let differs : r.ino ≢ num.root = λ one. absurd (omega arith) in
      root_more num t names name (r ∷ []) st.small (rise_elsewhere num.root r differs);
  children_tell =
      let above : num.first + length names ≤ r.ino = omega arith in
      ap (λ (cs : List LentChild). cs ++ (name, Some (faulted_by r.count s)) ∷ []) st.children_tell
      ∙ sym (lent_from-more num.first t names name (r ∷ [])
      ∙ ap
      (λ (cs : List LentChild). cs
      ++ (name, option_map (faulted_by (rise_in (length names + num.first) (r ∷ []))) (child_of name t)) ∷ [])
      (lent_from-above num.first t names r above)
      ∙ ap
      (λ d. lent_from num.first t names [] ++ (name, option_map (faulted_by d) (child_of name t)) ∷ [])
      (rise_here (length names + num.first) r i)
      ∙ ap
      (λ (o : Option Shape). lent_from num.first t names [] ++ (name, option_map (faulted_by r.count) o) ∷ []) e);
}

-- the root has met a fault
pub stands_root_risen : (num : Numbering) (low : num.root < num.first) (t : Shape) (names : List (List ℕ))
    (root : Option Shape) (children : List LentChild) (r : Rise)
    → StandsLent num t names [] root children → r.ino ≡ num.root
    → StandsLent num t names (r ∷ []) (Some (faulted_by r.count (lend_all names t))) children
stands_root_risen num low t names root children r st i = record {
  small = st.small;
  free = st.free;
  there = st.there;
  root_tells = ap (λ d. Some (faulted_by d (lend_all names t))) (sym (rise_here num.root r i));
  children_tell =
      let below : r.ino < num.first = omega arith in st.children_tell ∙ sym (lent_from-below num.first t names r below);
}

-- ---- a child that was lent before has met a fault

set_risen : (n : ℕ) (t : Shape) (names : List (List ℕ)) (name : List ℕ) (s : Shape) (i : ℕ) (r : Rise)
    → slice_get (lent_from n t names []) i ≡ Some (name, child_of name t) → child_of name t ≡ Some s → r.ino ≡ i + n
    → lent_from n t names (r ∷ [])
    ≡ slice_set (lent_from n t names []) i (name, Some (faulted_by r.count s))
set_risen n t [] name s i r g e h = absurd (cc g)
set_risen n t (other ∷ names) name s zero r g e h =
    let same : other ≡ name = ap (λ (c : LentChild). c.0) (same_Some _ (name, child_of name t) g) in
    let here : r.ino ≡ n = omega arith in
    let below : r.ino < n + 1 = omega arith in
    ap (λ d. (other, option_map (faulted_by d) (child_of other t)) ∷ lent_from (n + 1) t names (r ∷ []))
    (rise_here n r here)
    ∙ ap (λ (m : List ℕ). (m, option_map (faulted_by r.count) (child_of m t)) ∷ lent_from (n + 1) t names (r ∷ [])) same
    ∙ ap (λ (o : Option Shape). (name, option_map (faulted_by r.count) o) ∷ lent_from (n + 1) t names (r ∷ [])) e
    ∙ ap (λ (cs : List LentChild). (name, Some (faulted_by r.count s)) ∷ cs) (lent_from-below (n + 1) t names r below)
set_risen n t (other ∷ names) name s (suc i) r g e h =
    let differs : r.ino ≢ n = λ same. absurd (omega arith) in
    let next : r.ino ≡ i + (n + 1) = omega arith in
    ap (λ d. (other, option_map (faulted_by d) (child_of other t)) ∷ lent_from (n + 1) t names (r ∷ []))
    (rise_elsewhere n r differs)
    ∙ ap (λ (cs : List LentChild). (other, option_map (faulted_by 0) (child_of other t)) ∷ cs)
    (set_risen (n + 1) t names name s i r g e next)

pub stands_child_risen : (num : Numbering) (low : num.root < num.first) (t : Shape) (names : List (List ℕ))
    (root : Option Shape) (children : List LentChild)
    (name : List ℕ) (i : ℕ) (s : Shape) (r : Rise) → StandsLent num t names [] root children
    → place_of_child name children
    ≡ Some i
    → child_of name t ≡ Some s → r.ino ≡ i + num.first
    → StandsLent num t names (r ∷ []) root (slice_set children i (name, Some (faulted_by r.count s)))
stands_child_risen num low t names root children name i s r st p e h =
    let found = placed num t names root children name i st p in record {
      small = st.small;
      free = st.free;
      there = st.there;
      root_tells =
          let differs : r.ino ≢ num.root = λ one. absurd (omega arith) in
          st.root_tells ∙ ap (λ d. Some (faulted_by d (lend_all names t))) (sym (rise_elsewhere num.root r differs));
      children_tell =
          ap (λ (cs : List LentChild). slice_set cs i (name, Some (faulted_by r.count s))) st.children_tell
          ∙ sym (set_risen num.first t names name s i r
          (subst (λ (cs : List LentChild). slice_get cs i ≡ Some
          (name, child_of name t)) st.children_tell found.child) e
          h);
    }
