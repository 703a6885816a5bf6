-- What an opening execve came to, from how its walk went.
use Rattle.std.proofs.Common.{◌≡◌, ℕ, suc, ◌+◌, ◌<◌, ◌^◌, Bool, true, false, List, [], ◌∷◌, ◌++◌, length, refl, ap}
use Rattle.std.proofs.Common.{sym, ◌∙◌, subst, arith, length-append, inl, inr}
use Rattle.std.specs.Prelude.{Option, Some, None, Err, if◌then◌else◌, slice_get, slice_set}
use Rattle.std.proofs.lemmas.Option.{same_Some, get_or_from_slice_get, slice_get_within}
use Rattle.std.proofs.lemmas.List.{set-get_or}
use Rattle.host_node.specs.Tree.{Shape, faults_of, child_of, lend_child}
use Rattle.sn_errno.specs.declared.errno.Errno.{Errno}
use Rattle.sn_errno.specs.declared.errno.Errno.TheVariants.{EIO, ENOENT, EACCES}
use Rattle.kernel_model.specs.declared.opening.Given.{Given}
use Rattle.kernel_model.specs.declared.opening.Rise.{Rise}
use Rattle.kernel_model.specs.files.FileTree.{number_in, owner_executes}
use Rattle.kernel_model.specs.opening.Opening.{executed}
use Rattle.image_walk.specs.declared.granted.Numbering.{Numbering}
use Rattle.image_walk.specs.declared.loading.ImageAnswer.{ImageAnswer}
use Rattle.image_walk.specs.declared.loading.ImageAnswer.TheVariants.{Starts, Refuses, Memory}
use Rattle.image_walk.specs.declared.walk.WalkEnd.{WalkEnd}
use Rattle.image_walk.specs.Executing.{walked_by, walked_to, walked_among, fresh_for, fresh_by, rises_by, named_then}
use Rattle.image_walk.specs.Executing.{HasNumber, AnswersBy, Executes}
use Rattle.image_walk.specs.Granted.{LentChild, place_of_child}
use Rattle.image_walk.specs.Loading.{Loads, LoadsWhere, faulted_by}
use Rattle.image_walk.specs.Standing.{IsNumbering, StandsLent, lend_all, lent_from, numbers_from}
use Rattle.image_walk.specs.Walking.{NotSearched, LendsNone, LendsBy, LoadsAt, Walks, Unsearched, Known, Lent}
use Rattle.image_walk.specs.Walking.{WalksWhere}
use Rattle.image_walk.proofs.Lending.{child_of-lend_all, owner_executes-lend_all}
use Rattle.image_walk.proofs.Places.{IsThere, Placed, root_is, unplaced, placed}
use Rattle.image_walk.proofs.StandingMore.{stands_more, stands_more_risen, stands_root_risen, stands_child_risen}

-- as many children as names
lent_long : (n : ℕ) (t : Shape) (names : List (List ℕ)) (rises : List Rise)
    → length (lent_from n t names rises) ≡ length names
lent_long n t [] rises = refl
lent_long n t (name ∷ names) rises = ap suc (lent_long (n + 1) t names rises)

-- what is there, set again
set_found : {A : Type 0} (xs : List A) (i : ℕ) (x : A) → slice_get xs i ≡ Some x → slice_set xs i x ≡ xs
set_found xs i x e = ap (slice_set xs i) (sym (get_or_from_slice_get xs i x x e)) ∙ set-get_or xs i x

module _ (num : Numbering) (is : IsNumbering num) (t : Shape) (names : List (List ℕ)) (name : List ℕ) where
  -- what an execve did, by whether it drew a number, the node that it came to, and by how much that node's count rose
  pub record Did (after : Option Shape) (children : List LentChild) (drawn : Bool) (ino : ℕ) (risen : Option ℕ)
      (answer : ImageAnswer) : Type 0 where
    pub next : drawn ≡ true → ino ≡ length names + num.first
    pub unnumbered : drawn ≡ true → number_in name (numbers_from num.first names) ≡ None
    pub stands : StandsLent num t (named_then drawn names name) (rises_by ino risen) after children
    pub answers : AnswersBy num (walked_among num t names name) drawn (length (named_then drawn names name))
        (rises_by ino risen) answer

  -- ---- where the walk goes

  walk_searched : owner_executes t ≡ true
      → walked_among num t names name ≡ walked_to (number_in name (numbers_from num.first names))
      (walked_by (child_of name t))
  walk_searched x =
      ap (λ b. if b then walked_to (number_in name (numbers_from num.first names)) (walked_by (child_of name t))
      else record { draws = false; image = Err EACCES }) x

  walk_refused : owner_executes t ≡ false → walked_among num t names name ≡ record { draws = false; image = Err EACCES }
  walk_refused x =
      ap (λ b. if b then walked_to (number_in name (numbers_from num.first names)) (walked_by (child_of name t))
      else record { draws = false; image = Err EACCES }) x

  walk_missing : owner_executes t ≡ true → number_in name (numbers_from num.first names) ≡ None → child_of name t ≡ None
      → walked_among num t names name ≡ record { draws = false; image = Err ENOENT }
  walk_missing x n e =
      walk_searched x ∙ ap (λ o. walked_to o (walked_by (child_of name t))) n ∙ ap walked_by e

  walk_drawn : (s : Shape) → owner_executes t ≡ true → number_in name (numbers_from num.first names) ≡ None
      → child_of name t ≡ Some s → walked_among num t names name ≡ record { draws = true; image = executed s }
  walk_drawn s x n e = walk_searched x ∙ ap (λ o. walked_to o (walked_by (child_of name t))) n ∙ ap walked_by e

  walk_known : (s : Shape) (ino : ℕ) → owner_executes t ≡ true → number_in name (numbers_from num.first names)
      ≡ Some ino
      → child_of name t ≡ Some s → walked_among num t names name ≡ record { draws = false; image = executed s }
  walk_known s ino x n e =
      walk_searched x ∙ ap (λ o. walked_to o (walked_by (child_of name t))) n
      ∙ ap (λ o. walked_to (Some ino) (walked_by o)) e

  module _ (root : Option Shape) (children : List LentChild) (st : StandsLent num t names [] root children) where
    -- ---- nothing changed

    still : (after : Option Shape) (children' : List LentChild) → after ≡ Some (lend_all names t) → children' ≡ children
        → StandsLent num t names [] after children'
    still after children' a c =
        subst (λ (cs : List LentChild). StandsLent num t names [] after cs) (sym c)
        (subst (λ (o : Option Shape). StandsLent num t names [] o children)
        (root_is num t names root children st ∙ sym a) st)

    did_nothing : (after : Option Shape) (children' : List LentChild) (answer : ImageAnswer)
        → after ≡ Some (lend_all names t)
        → children' ≡ children → AnswersBy num (walked_among num t names name) false (length names) [] answer
        → Did after children' false num.root None answer
    did_nothing after children' answer a c answers = record {
      next = λ e. absurd (cc e);
      unnumbered = λ e. absurd (cc e);
      stands = still after children' a c;
      answers = answers;
    }

    did_fail : (after : Option Shape) (children' : List LentChild) (d : ℕ) (errno : Errno) → errno ≡ EIO → 0 < d
        → after ≡ Some (faulted_by d (lend_all names t)) → children' ≡ children
        → Did after children' false num.root (Some d) (Refuses errno)
    did_fail after children' d errno e h a c = record {
      next = λ f. absurd (cc f);
      unnumbered = λ f. absurd (cc f);
      stands =
          subst (λ (cs : List LentChild). StandsLent num t names
          (record { ino = num.root; count = d } ∷ []) after cs) (sym c)
          (subst (λ (o : Option Shape). StandsLent num t names (record { ino = num.root; count = d } ∷ []) o children)
          (sym a)
          (stands_root_risen num is.1 t names root children (record { ino = num.root; count = d }) st refl));
      answers = (ap (λ (x : Errno). Refuses x) e, h, inl refl);
    }

    -- ---- a root that its owner may not search

    executes_root : (b : Bool) → owner_executes (lend_all names t) ≡ b → owner_executes t ≡ b
    executes_root b x = sym (owner_executes-lend_all names t) ∙ x

    pub did_unsearched : (after : Option Shape) (children' : List LentChild) (risen : Option ℕ) (answer : ImageAnswer)
        → NotSearched (lend_all names t) after risen answer → children' ≡ children
        → Did after children' false num.root risen answer
    did_unsearched after children' None (Refuses errno) h c =
        did_nothing after children' (Refuses errno) h.2 c
        (walk_refused (executes_root false h.0) ∙ ap (λ (e : Errno). record { draws = false; image = Err e }) (sym h.1))
    did_unsearched after children' None Memory h c = did_nothing after children' Memory h c tt
    did_unsearched after children' None (Starts image) h c = absurd h
    did_unsearched after children' (Some d) (Refuses errno) h c = did_fail after children' d errno h.0 h.1 h.2 c
    did_unsearched after children' (Some d) Memory h c = absurd h
    did_unsearched after children' (Some d) (Starts image) h c = absurd h

    -- ---- a name that the root lacks

    did_missing : (after : Option Shape) (children' : List LentChild) (risen : Option ℕ) (answer : ImageAnswer)
        → owner_executes (lend_all names t) ≡ true → place_of_child name children ≡ None
        → LendsNone (lend_all names t) name after risen answer → children' ≡ children
        → Did after children' false num.root risen answer
    did_missing after children' None (Refuses errno) x p h c =
        let u = unplaced num t names [] root children name st p in
        did_nothing after children' (Refuses errno) h.0 c
        (walk_missing (executes_root true x) u.unnumbered (sym (child_of-lend_all name names t u.new) ∙ h.1)
        ∙ ap (λ (e : Errno). record { draws = false; image = Err e }) (sym h.2))
    did_missing after children' None Memory x p h c = absurd h
    did_missing after children' None (Starts image) x p h c = absurd h
    did_missing after children' (Some d) (Refuses errno) x p h c = did_fail after children' d errno h.0 h.1 h.2 c
    did_missing after children' (Some d) Memory x p h c = absurd h
    did_missing after children' (Some d) (Starts image) x p h c = absurd h

    -- ---- a child that was lent before

    children_long : length children ≡ length names
    children_long = ap length st.children_tell ∙ lent_long num.first t names []

    known_within : (place : ℕ) → place_of_child name children ≡ Some place
        → HasNumber num (length names) (place + num.first)
    known_within place p =
        let within : place < length children =
        slice_get_within children place _ (placed num t names root children name place st p).child in
        inr (omega arith, omega (arith, within, children_long))

    known_walk : (place : ℕ) (s : Shape) → owner_executes (lend_all names t) ≡ true
        → place_of_child name children ≡ Some place → child_of name t ≡ Some s
        → walked_among num t names name ≡ record { draws = false; image = executed s }
    known_walk place s x p e =
        walk_known s (place + num.first) (executes_root true x)
        (placed num t names root children name place st p).number e

    known_still : (after : Option Shape) (children' : List LentChild) (place : ℕ) (s : Shape) (told : Option Shape)
        (answer : ImageAnswer) → after ≡ Some (lend_all names t) → place_of_child name children ≡ Some place
        → children' ≡ slice_set children place (name, told) → child_of name t ≡ Some s → told ≡ Some s
        → AnswersBy num (walked_among num t names name) false (length names) [] answer
        → Did after children' false (place + num.first) None answer
    known_still after children' place s told answer a p c e same answers =
        let found = placed num t names root children name place st p in
        let back : slice_set children place (name, told) ≡ children =
        ap (λ o. slice_set children place (name, o)) (same ∙ sym e)
        ∙ set_found children place (name, child_of name t) found.child in
        record {
          next = λ f. absurd (cc f);
          unnumbered = λ f. absurd (cc f);
          stands = still after children' a (c ∙ back);
          answers = answers;
        }

    known_by : (after : Option Shape) (children' : List LentChild) (place : ℕ) (s : Shape) (told : Option Shape)
        (risen : Option ℕ) (answer : ImageAnswer) → owner_executes (lend_all names t) ≡ true
        → after ≡ Some (lend_all names t) → place_of_child name children ≡ Some place
        → children' ≡ slice_set children place (name, told) → child_of name t ≡ Some s → Loads s told risen answer
        → Did after children' false (place + num.first) risen answer
    known_by after children' place s told None (Starts image) x a p c e h =
        known_still after children' place s told (Starts image) a p c e h.1
        (known_walk place s x p e ∙ ap (λ i. record { draws = false; image = i }) h.0)
    known_by after children' place s told None (Refuses errno) x a p c e h =
        known_still after children' place s told (Refuses errno) a p c e h.1
        (known_walk place s x p e ∙ ap (λ i. record { draws = false; image = i }) h.0)
    known_by after children' place s told None Memory x a p c e h =
        known_still after children' place s told Memory a p c e h tt
    known_by after children' place s told (Some d) (Refuses errno) x a p c e h = record {
      next = λ f. absurd (cc f);
      unnumbered = λ f. absurd (cc f);
      stands =
          subst (λ (cs : List LentChild). StandsLent num t names
          (record { ino = place + num.first; count = d } ∷ []) after cs)
          (sym (c ∙ ap (λ o. slice_set children place (name, o)) h.2))
          (subst (λ (o : Option Shape). StandsLent num t names (record { ino = place + num.first; count = d } ∷ []) o
          (slice_set children place (name, Some (faulted_by d s))))
          (root_is num t names root children st ∙ sym a)
          (stands_child_risen num is.1 t names root children name place s
          (record { ino = place + num.first; count = d }) st p e refl));
      answers = (
        ap (λ (y : Errno). Refuses y) h.0,
        h.1,
        known_within place p,
      );
    }
    known_by after children' place s told (Some d) Memory x a p c e h = absurd h
    known_by after children' place s told (Some d) (Starts image) x a p c e h = absurd h

    pub did_known : (after : Option Shape) (children' : List LentChild) (place : ℕ) (risen : Option ℕ)
        (answer : ImageAnswer)
        → owner_executes (lend_all names t) ≡ true → after ≡ Some (lend_all names t)
        → place_of_child name children ≡ Some place → LoadsAt place children children' risen answer
        → Did after children' false (place + num.first) risen answer
    did_known after children' place risen answer x a p loads = by (child_of name t) refl found.there whole
      where
        found : Placed t name num.first names children place
        found = placed num t names root children name place st p

        child : loads.child ≡ (name, child_of name t)
        child = same_Some _ _ (sym loads.at ∙ found.child)

        whole : LoadsWhere (child_of name t) loads.told risen answer
        whole = subst (λ (c : LentChild). LoadsWhere c.1 loads.told risen answer) child loads.loads

        by : (o : Option Shape) → child_of name t ≡ o → IsThere o → LoadsWhere o loads.told risen answer
            → Did after children' false (place + num.first) risen answer
        by None e there h = absurd there
        by (Some s) e there h =
            known_by after children' place s loads.told risen answer x a p
            (loads.set ∙ ap (λ (c : LentChild). slice_set children place (c.0, loads.told)) child) e h.1

    -- ---- a child that is lent now

    lent_walk : (s : Shape) → owner_executes (lend_all names t) ≡ true → place_of_child name children ≡ None
        → child_of name t ≡ Some s → walked_among num t names name ≡ record { draws = true; image = executed s }
    lent_walk s x p e =
        walk_drawn s (executes_root true x) (unplaced num t names [] root children name st p).unnumbered e

    lent_still : (after : Option Shape) (children' : List LentChild) (ino : ℕ) (s : Shape) (told : Option Shape)
        (answer : ImageAnswer) → place_of_child name children ≡ None → child_of name t ≡ Some s → faults_of s < 2 ^ 64
        → after ≡ Some (lend_child name (lend_all names t)) → children' ≡ children ++ (name, told) ∷ []
        → ino ≡ length names + num.first → told ≡ Some s
        → AnswersBy num (walked_among num t names name) true (length (names ++ name ∷ [])) [] answer
        → Did after children' true ino None answer
    lent_still after children' ino s told answer p e small a c i same answers = record {
      next = λ f. i;
      unnumbered = λ f. (unplaced num t names [] root children name st p).unnumbered;
      stands =
          subst (λ (cs : List LentChild). StandsLent num t (names ++ name ∷ []) [] after cs)
          (sym (c ∙ ap (λ o. children ++ (name, o) ∷ []) same))
          (subst (λ (o : Option Shape). StandsLent num t (names ++ name ∷ []) [] o (children ++ (name, Some s) ∷ []))
          (sym a)
          (stands_more num t names name s root children st
          (unplaced num t names [] root children name st p).new e small));
      answers = answers;
    }

    lent_by : (after : Option Shape) (children' : List LentChild) (ino : ℕ) (s : Shape) (told : Option Shape)
        (risen : Option ℕ) (answer : ImageAnswer) → owner_executes (lend_all names t) ≡ true
        → place_of_child name children ≡ None
        → child_of name t ≡ Some s → faults_of s < 2 ^ 64 → after ≡ Some (lend_child name (lend_all names t))
        → children' ≡ children ++ (name, told) ∷ [] → ino ≡ length names + num.first → Loads s told risen answer
        → Did after children' true ino risen answer
    lent_by after children' ino s told None (Starts image) x p e small a c i h =
        lent_still after children' ino s told (Starts image) p e small a c i h.1
        (lent_walk s x p e ∙ ap (λ y. record { draws = true; image = y }) h.0)
    lent_by after children' ino s told None (Refuses errno) x p e small a c i h =
        lent_still after children' ino s told (Refuses errno) p e small a c i h.1
        (lent_walk s x p e ∙ ap (λ y. record { draws = true; image = y }) h.0)
    lent_by after children' ino s told None Memory x p e small a c i h =
        lent_still after children' ino s told Memory p e small a c i h tt
    lent_by after children' ino s told (Some d) (Refuses errno) x p e small a c i h =
        let longer : length (names ++ name ∷ []) ≡ length names + 1 = length-append names (name ∷ []) in
        record {
          next = λ f. i;
          unnumbered = λ f. (unplaced num t names [] root children name st p).unnumbered;
          stands =
              subst (λ (cs : List LentChild). StandsLent num t (names ++ name ∷ [])
              (record { ino = ino; count = d } ∷ []) after cs)
              (sym (c ∙ ap (λ o. children ++ (name, o) ∷ []) h.2))
              (subst (λ (o : Option Shape). StandsLent num t (names ++ name ∷ [])
              (record { ino = ino; count = d } ∷ []) o
              (children ++ (name, Some (faulted_by d s)) ∷ [])) (sym a)
              (stands_more_risen num is.1 t names name s root children (record { ino = ino; count = d }) st
              (unplaced num t names [] root children name st p).new e small i));
          answers = (ap (λ (y : Errno). Refuses y) h.0, h.1, inr (omega (arith, i), omega (arith, i, longer)));
        }
    lent_by after children' ino s told (Some d) Memory x p e small a c i h = absurd h
    lent_by after children' ino s told (Some d) (Starts image) x p e small a c i h = absurd h

    pub did_lent : (drawn : Bool) (after : Option Shape) (children' : List LentChild) (ino : ℕ) (risen : Option ℕ)
        (answer : ImageAnswer) → owner_executes (lend_all names t) ≡ true → place_of_child name children ≡ None
        → LendsBy num drawn (lend_all names t) name children children' after ino risen answer
        → Did after children' drawn ino risen answer
    did_lent true after children' ino risen answer x p h =
        let lends = h.0 in
        let u = unplaced num t names [] root children name st p in
        lent_by after children' ino lends.child lends.told risen answer x p
        (sym (child_of-lend_all name names t u.new) ∙ lends.there) lends.small lends.lent lends.pushed
        (h.1 ∙ ap (λ n. n + num.first) children_long) lends.loads
    did_lent false after children' ino risen answer x p h =
        subst (λ (n : ℕ). Did after children' false n risen answer) (sym h.2)
        (did_missing after children' risen answer x p h.0 h.1)

    -- ---- the walk, whichever way it went

    by_walk : (after : Option Shape) (children' : List LentChild) (step : WalkEnd)
        → Walks num (lend_all names t) name children children' after step
        → Did after children' step.drawn step.ino step.loaded.risen step.loaded.answer
    by_walk after children' step (Unsearched h c d i) =
        subst (λ (b : Bool). Did after children' b step.ino step.loaded.risen step.loaded.answer) (sym d)
        (subst (λ (n : ℕ). Did after children' false n step.loaded.risen step.loaded.answer) (sym i)
        (did_unsearched after children' step.loaded.risen step.loaded.answer h c))
    by_walk after children' step (Known x a d place p i loads) =
        subst (λ (b : Bool). Did after children' b step.ino step.loaded.risen step.loaded.answer) (sym d)
        (subst (λ (n : ℕ). Did after children' false n step.loaded.risen step.loaded.answer) (sym i)
        (did_known after children' place step.loaded.risen step.loaded.answer x a p loads))
    by_walk after children' step (Lent x p h) =
        did_lent step.drawn after children' step.ino step.loaded.risen step.loaded.answer x p h

    pub did : (after : Option Shape) (children' : List LentChild) (step : WalkEnd)
        → WalksWhere num root name children children' after step
        → Did after children' step.drawn step.ino step.loaded.risen step.loaded.answer
    did after children' step walks =
        by_walk after children' step
        (subst (λ (o : Option Shape). WalksWhere num o name children children' after step)
        (root_is num t names root children st) walks)

    drawn_as : (drawn : Bool) (ino : ℕ) → (drawn ≡ true → ino ≡ length names + num.first)
        → fresh_by num.root drawn ino name ≡ fresh_for num drawn names name
    drawn_as true ino next = ap (λ (n : ℕ). record { dir = num.root; name = name; ino = n } ∷ []) (next refl)
    drawn_as false ino next = refl

    pub executes_by : (after : Option Shape) (children' : List LentChild) (step : WalkEnd) (given : Given)
        → WalksWhere num root name children children' after step
        → given.fresh ≡ fresh_by num.root step.drawn step.ino name
        → given.rises ≡ rises_by step.ino step.loaded.risen
        → Executes num false t names name given step.loaded.answer after children'
    executes_by after children' step given walks fresh rises =
        let d = did after children' step walks in record {
          drawn = step.drawn;
          fresh = fresh ∙ drawn_as step.drawn step.ino d.next;
          unnumbered = d.unnumbered;
          stands =
              subst (λ (rs : List Rise). StandsLent num t (named_then step.drawn names name) rs after children')
              (sym rises)
              d.stands;
          answers =
              subst (λ (rs : List Rise). AnswersBy num (walked_among num t names name) step.drawn
              (length (named_then step.drawn names name)) rs step.loaded.answer) (sym rises) d.answers;
        }
