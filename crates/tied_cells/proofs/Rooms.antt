-- The counts by key, and the room that is taken for them.
use Rattle.std.proofs.Common.{◌≡◌, ◌≢◌, inl, inr, ⊎_elim, ℕ, suc, ◌+◌, ◌-◌, ◌≤◌, ◌==◌, length, take, drop, get_or, List, [], ◌∷◌, ◌++◌, map, Bool, true, false, true≢false, refl, sym, ap, ◌∙◌, subst, arith}
use Rattle.std.specs.Prelude.{Option, Some, None, IsTrue, is_some, ◌||◌, ◌&&◌}
use Rattle.std.proofs.lemmas.Bool.Decides.{eqb_tells}
use Rattle.std.proofs.lemmas.List.{take_all}
use Rattle.std.specs.Prelude.{OnOk}
use Rattle.std.specs.declared.result.Result.{Result}
use Rattle.std.specs.declared.result.Result.TheVariants.{Ok, Err}
use Rattle.std.specs.Sync.Mutex.{mutex_guard_value}
use Rattle.std.specs.declared.sync.MutexGuard.{MutexGuard}
use Rattle.std.specs.FinMap as table
use Rattle.sn_base.proofs.Maps.{get-insert_same, get-insert_other}
use Rattle.tied_cells.specs.Machines.{Rules, times}
use Rattle.tied_cells.specs.Counts.{Counts, or_zero, count_in, HaveRoom, keys_of, in_counts}
use Rattle.tied_cells.specs.Rounds.{Pairs, KeptParts, Owing, changed_in, lent_of, lent_one, behind}
use Rattle.tied_cells.specs.declared.held.HeldPart.{HeldPart}

pub count_same : (counts : Counts) (key count : ℕ) → count_in (table.insert counts key count) key ≡ count
count_same counts key count = ap or_zero (get-insert_same counts key count)

pub count_other : (counts : Counts) (key count other : ℕ) → key ≢ other
    → count_in (table.insert counts key count) other ≡ count_in counts other
count_other counts key count other apart = ap or_zero (get-insert_other counts key other count apart)

-- a count of 0 where there was none changes no count
pub count_none : (counts : Counts) (key other : ℕ) → table.contains_key counts key ≡ false
    → count_in (table.insert counts key 0) other ≡ count_in counts other
count_none counts key other lacks =
    ⊎_elim
    (λ (t : ((key == other) ≡ true) × (key ≡ other)).
    subst (λ (k : ℕ). count_in (table.insert counts key 0) k ≡ count_in counts k) t.1
    (count_same counts key 0 ∙ sym (nothing (table.get counts key) lacks)))
    (λ (t : ((key == other) ≡ false) × (key ≢ other)). count_other counts key 0 other t.1)
    (eqb_tells key other)
  where
    nothing : (o : Option ℕ) → is_some o ≡ false → or_zero o ≡ 0
    nothing None e = refl
    nothing (Some x) e = absurd (true≢false e)

-- what has a count has one still
pub room_stays : (counts : Counts) (key count other : ℕ) → IsTrue (table.contains_key counts other)
    → IsTrue (table.contains_key (table.insert counts key count) other)
room_stays counts key count other there =
    ⊎_elim
    (λ (t : ((key == other) ≡ true) × (key ≡ other)).
    subst (λ (k : ℕ). IsTrue (table.contains_key (table.insert counts key count) k)) t.1
    (subst (λ (o : Option ℕ). IsTrue (is_some o)) (sym (get-insert_same counts key count)) refl))
    (λ (t : ((key == other) ≡ false) × (key ≢ other)). subst (λ (o : Option ℕ). IsTrue (is_some o))
    (sym (get-insert_other counts key other count t.1)) there)
    (eqb_tells key other)

pub rooms_stay : (counts : Counts) (key count : ℕ) (keys : List ℕ) → HaveRoom counts keys
    → HaveRoom (table.insert counts key count) keys
rooms_stay counts key count [] r = r
rooms_stay counts key count (k ∷ keys) r = (room_stays counts key count k r.0, rooms_stay counts key count keys r.1)

pub room_here : (counts : Counts) (key count : ℕ) → IsTrue (table.contains_key (table.insert counts key count) key)
room_here counts key count = subst (λ (o : Option ℕ). IsTrue (is_some o)) (sym (get-insert_same counts key count)) refl

-- the rooms of what is locked are those of what is lent, and of what comes back
module _ {P : Type 0} where
  one_more : (counts : Counts) (key : ℕ) (o : Option P) (rest : List (HeldPart P))
      → IsTrue (table.contains_key counts key) → HaveRoom counts (keys_of rest)
      → HaveRoom counts (keys_of (lent_one key o ++ rest))
  one_more counts key None rest a b = b
  one_more counts key (Some c) rest a b = (a, b)

  pub rooms_lent : {C : Type 0} (f : C → ℕ) (g : C → Option P) (counts : Counts) (cells : List C)
      → HaveRoom counts (map f cells) → HaveRoom counts (keys_of (lent_of (map (λ c. (f c, g c)) cells)))
  rooms_lent f g counts [] r = tt
  rooms_lent {C} f g counts (c ∷ cells) r =
      one_more counts (f c) (g c) (lent_of (map (λ x. (f x, g x)) cells)) r.0 (rooms_lent f g counts cells r.1)

  pub rooms_back : (counts : Counts) (lent behind : List (HeldPart P)) → KeptParts lent behind
      → HaveRoom counts (keys_of lent) → HaveRoom counts (keys_of behind)
  rooms_back counts [] [] k r = tt
  rooms_back counts [] (b ∷ bs) k r = elim k [ ]
  rooms_back counts (h ∷ hs) [] k r = elim k [ ]
  rooms_back counts (h ∷ hs) (b ∷ bs) k r =
      (subst (λ (j : ℕ). IsTrue (table.contains_key counts j)) (sym k.0.0) r.0, rooms_back counts hs bs k.1 r.1)

-- a part comes back changed, and its count is noted
module _ {P E : Type 0} (r : Rules P E) (now : List E) where
  rest_of : (part : HeldPart P) (rest : List (HeldPart P)) (k : ℕ) → (part.key == k) ≡ false
      → changed_in (part ∷ rest) k ≡ true → changed_in rest k ≡ true
  rest_of part rest k other is =
      sym (ap (λ (b : Bool). (part.changed && b) || changed_in rest k) other ∙ none part.changed) ∙ is
    where
      none : (b : Bool) → ((b && false) || changed_in rest k) ≡ changed_in rest k
      none true = refl
      none false = refl

  pub owing_counts : (counts : Counts) (key version : ℕ) (part : HeldPart P) (rest : List (HeldPart P))
      → part.key ≡ key → version ≡ times r key now → Owing r now (in_counts counts) (part ∷ rest)
      → Owing r now (in_counts (table.insert counts key version)) rest
  owing_counts counts key version part rest is v owing k x at =
      ⊎_elim
      (λ (t : ((key == k) ≡ true) × (key ≡ k)).
      inl (at.1 ∙ (ap (λ (j : ℕ). count_in (table.insert counts key version) j) (sym t.1)
      ∙ (count_same counts key version ∙ (v ∙ ap (λ (j : ℕ). times r j now) t.1)))))
      (λ (t : ((key == k) ≡ false) × (key ≢ k)).
      ⊎_elim inl
      (λ (o : (changed_in (part ∷ rest) k ≡ true) × (x + 1 ≡ times r k now)).
      inr (rest_of part rest k (ap (λ (j : ℕ). j == k) is ∙ t.0) o.0, o.1))
      (owing k x (at.0, at.1 ∙ count_other counts key version k t.1)))
      (eqb_tells key k)

  pub owing_kept : (at : ℕ → ℕ → Type 0) (part : HeldPart P) (rest : List (HeldPart P)) → part.changed ≡ false
      → Owing r now at (part ∷ rest) → Owing r now at rest
  owing_kept at part rest is owing k x a =
      ⊎_elim inl
      (λ (o : (changed_in (part ∷ rest) k ≡ true) × (x + 1 ≡ times r k now)).
      inr (sym (ap (λ (b : Bool). (b && part.key == k) || changed_in rest k) is) ∙ o.0, o.1))
      (owing k x a)

-- a first key has a count, and so have the others
pub rooms_first : {C : Type 0} (f : C → ℕ) (counts : Counts) (gs : List (MutexGuard C)) (g : MutexGuard C)
    → 1 ≤ length gs → g ≡ get_or gs 0 g → IsTrue (table.contains_key counts (f (mutex_guard_value g)))
    → HaveRoom counts (map f (behind (take (length gs - 1) (drop 1 gs)))) → HaveRoom counts (map f (behind gs))
rooms_first f counts [] g some is here others = absurd (omega arith)
rooms_first {C} f counts (x ∷ gs) g some is here others =
    let short : length gs ≤ length (x ∷ gs) - 1 = omega arith in (
      subst (λ (y : MutexGuard C). IsTrue (table.contains_key counts (f (mutex_guard_value y)))) is here,
      subst (λ (l : List (MutexGuard C)). HaveRoom counts (map f (behind l)))
          (take_all (length (x ∷ gs) - 1) gs short) others,
    )

pub on_ok : {A E : Type 0} {X Y : Type 0} (r : Result A E) → (X → Y) → OnOk r X → OnOk r Y
on_ok (Ok a) f x = f x
on_ok (Err e) f x = tt

pub nothing_due : {A B : Type 0} (R : A → B → Type 0) (xs : List A) (ys : List B) → length xs ≡ 0 → Pairs R xs ys
    → ys ≡ []
nothing_due R [] [] n p = refl
nothing_due R [] (y ∷ ys) n p = elim p [ ]
nothing_due R (x ∷ xs) ys n p = absurd (omega (arith, n))

-- none is left where dropping one leaves all
pub no_guards : {C : Type 0} (gs : List (MutexGuard C)) → gs ≡ drop 1 gs → length (behind gs) ≡ 0
no_guards [] e = refl
no_guards {C} (g ∷ gs) e = let n : suc (length gs) ≡ length gs = ap (λ (l : List (MutexGuard C)). length l) e in
    absurd (omega (arith, n))
