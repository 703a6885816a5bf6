-- What is read from a host's tree after something was put into it.
use Rattle.std.proofs.Common.{◌≡◌, ℕ, Bool, true, false, cond, ◌&&◌, List, Option, Some, None, is_some, refl, sym, ap}
use Rattle.std.proofs.Common.{◌∙◌, ◌⊎◌, inl, inr, ⊎_elim}
use Rattle.std.specs.Ordering.{nat_cmp, is_lt}
use Rattle.std.specs.Cmp.Lexicographic.{slice_cmp}
use Rattle.std.specs.Str.{bytes_eq}
use Rattle.std.proofs.lemmas.Cmp.{nat_list_eq_equiv}
use Rattle.std.proofs.lemmas.Slice.Eq.{bytes_eq-Decides}
use Rattle.host_node.specs.Tree.{Shape, Children, directory, file, link, lent, no_children, child, kind_of, faults_of}
use Rattle.host_node.specs.Tree.{with_faults, is_lent, is_directory, children_of, with_children, find_child}
use Rattle.host_node.specs.Tree.{replace_child, insert_child, put_child, child_of, with_child, lend_in, lend_child}
use Rattle.host_node.specs.Tree.{none_lent, none_lent_in}

-- a node with its own count is itself
pub with_faults_own : (t : Shape) → with_faults (faults_of t) t ≡ t
with_faults_own (directory mode faults entries) = refl
with_faults_own (file bytes mode faults) = refl
with_faults_own (link text faults) = refl
with_faults_own (lent kind) = refl

-- the last of two counts stays
pub with_faults_twice : (m n : ℕ) (t : Shape) → with_faults m (with_faults n t) ≡ with_faults m t
with_faults_twice m n (directory mode faults entries) = refl
with_faults_twice m n (file bytes mode faults) = refl
with_faults_twice m n (link text faults) = refl
with_faults_twice m n (lent kind) = refl

-- a node that stands here has the count that it was given
pub faults_of-with_faults : (n : ℕ) (t : Shape) → is_lent t ≡ false → faults_of (with_faults n t) ≡ n
faults_of-with_faults n (directory mode faults entries) h = refl
faults_of-with_faults n (file bytes mode faults) h = refl
faults_of-with_faults n (link text faults) h = refl
faults_of-with_faults n (lent kind) h = cc

-- a count changes nothing else: not the kind,
pub kind_of-with_faults : (n : ℕ) (t : Shape) → kind_of (with_faults n t) ≡ kind_of t
kind_of-with_faults n (directory mode faults entries) = refl
kind_of-with_faults n (file bytes mode faults) = refl
kind_of-with_faults n (link text faults) = refl
kind_of-with_faults n (lent kind) = refl

-- nor whether the node stands here,
pub is_lent-with_faults : (n : ℕ) (t : Shape) → is_lent (with_faults n t) ≡ is_lent t
is_lent-with_faults n (directory mode faults entries) = refl
is_lent-with_faults n (file bytes mode faults) = refl
is_lent-with_faults n (link text faults) = refl
is_lent-with_faults n (lent kind) = refl

-- nor its entries,
pub children_of-with_faults : (n : ℕ) (t : Shape) → children_of (with_faults n t) ≡ children_of t
children_of-with_faults n (directory mode faults entries) = refl
children_of-with_faults n (file bytes mode faults) = refl
children_of-with_faults n (link text faults) = refl
children_of-with_faults n (lent kind) = refl

-- nor whether anything below it stands with a borrower
pub none_lent-with_faults : (n : ℕ) (t : Shape) → none_lent (with_faults n t) ≡ none_lent t
none_lent-with_faults n (directory mode faults entries) = refl
none_lent-with_faults n (file bytes mode faults) = refl
none_lent-with_faults n (link text faults) = refl
none_lent-with_faults n (lent kind) = refl

-- a name is itself
same_name : (name : List ℕ) → bytes_eq name name ≡ true
same_name name = nat_list_eq_equiv.refl name

-- after a replacement the new node stands under the name, if something stood there
pub find-replace_same : (name : List ℕ) (s : Shape) (cs : Children) → is_some (find_child name cs) ≡ true
    → find_child name (replace_child name s cs) ≡ Some s
find-replace_same name s no_children h = cc
find-replace_same name s (child other t rest) h = by (bytes_eq name other) refl h (find-replace_same name s rest)
  where
    by : (b : Bool) → bytes_eq name other ≡ b → is_some (cond b (Some t) (find_child name rest)) ≡ true
        → (is_some (find_child name rest) ≡ true → find_child name (replace_child name s rest) ≡ Some s)
        → find_child name (cond b (child other s rest) (child other t (replace_child name s rest))) ≡ Some s
    by true e h more = rw e refl
    by false e h more = rw e (more h)

-- and under another name what stood there
pub find-replace_other : (m name : List ℕ) (s : Shape) (cs : Children) → bytes_eq m name ≡ false
    → find_child m (replace_child name s cs) ≡ find_child m cs
find-replace_other m name s no_children h = refl
find-replace_other m name s (child other t rest) h = by (bytes_eq name other) refl (find-replace_other m name s rest h)
  where
    by : (b : Bool) → bytes_eq name other ≡ b → find_child m (replace_child name s rest) ≡ find_child m rest
        → find_child m (cond b (child other s rest) (child other t (replace_child name s rest)))
        ≡ find_child m (child other t rest)
    by true e more =
        let differs : bytes_eq m other ≡ false = ap (bytes_eq m) (sym ((bytes_eq-Decides name other).0 e)) ∙ h in
        rw differs refl
    by false e more = ap (cond (bytes_eq m other) (Some t)) more

-- after an insertion the new node stands under the name, if nothing stood there
pub find-insert_same : (name : List ℕ) (s : Shape) (cs : Children) → find_child name cs ≡ None
    → find_child name (insert_child name s cs) ≡ Some s
find-insert_same name s no_children h = rw (same_name name) refl
find-insert_same name s (child other t rest) h =
    by (is_lt (slice_cmp nat_cmp name other)) (bytes_eq name other) refl h (find-insert_same name s rest)
  where
    by : (b q : Bool) → bytes_eq name other ≡ q → cond q (Some t) (find_child name rest) ≡ None
        → (find_child name rest ≡ None → find_child name (insert_child name s rest) ≡ Some s)
        → find_child name (cond b (child name s (child other t rest)) (child other t (insert_child name s rest)))
        ≡ Some s
    by true q e h more = rw (same_name name) refl
    by false true e h more = cc
    by false false e h more = rw e (more h)

-- and under another name what stood there
pub find-insert_other : (m name : List ℕ) (s : Shape) (cs : Children) → bytes_eq m name ≡ false
    → find_child m (insert_child name s cs) ≡ find_child m cs
find-insert_other m name s no_children h = rw h refl
find-insert_other m name s (child other t rest) h =
    by (is_lt (slice_cmp nat_cmp name other)) (find-insert_other m name s rest h)
  where
    by : (b : Bool) → find_child m (insert_child name s rest) ≡ find_child m rest
        → find_child m (cond b (child name s (child other t rest)) (child other t (insert_child name s rest)))
        ≡ find_child m (child other t rest)
    by true more = rw h refl
    by false more = ap (cond (bytes_eq m other) (Some t)) more

-- whether something is there, told by cases
some_or_none : {X : Type 0} (o : Option X) → (is_some o ≡ true) ⊎ (o ≡ None)
some_or_none None = inr refl
some_or_none (Some x) = inl refl

-- where something stands under the name, putting is replacing
pub put-replaces : (name : List ℕ) (s : Shape) (cs : Children) → is_some (find_child name cs) ≡ true
    → put_child name s cs ≡ replace_child name s cs
put-replaces name s cs h = ap (λ b. cond b (replace_child name s cs) (insert_child name s cs)) h

-- where nothing does, it is inserting
pub put-inserts : (name : List ℕ) (s : Shape) (cs : Children) → find_child name cs ≡ None
    → put_child name s cs ≡ insert_child name s cs
put-inserts name s cs h = ap (λ o. cond (is_some o) (replace_child name s cs) (insert_child name s cs)) h

-- a node that was put under a name stands there
pub find-put_same : (name : List ℕ) (s : Shape) (cs : Children) → find_child name (put_child name s cs) ≡ Some s
find-put_same name s cs =
    ⊎_elim (λ h. ap (find_child name) (put-replaces name s cs h) ∙ find-replace_same name s cs h)
    (λ h. ap (find_child name) (put-inserts name s cs h) ∙ find-insert_same name s cs h)
    (some_or_none (find_child name cs))

-- and under another name stands what stood there
pub find-put_other : (m name : List ℕ) (s : Shape) (cs : Children) → bytes_eq m name ≡ false
    → find_child m (put_child name s cs) ≡ find_child m cs
find-put_other m name s cs d =
    ⊎_elim (λ h. ap (find_child m) (put-replaces name s cs h) ∙ find-replace_other m name s cs d)
    (λ h. ap (find_child m) (put-inserts name s cs h) ∙ find-insert_other m name s cs d)
    (some_or_none (find_child name cs))

-- the last of two replacements under a name stays
replace-replace : (name : List ℕ) (s t : Shape) (cs : Children) → replace_child name s (replace_child name t cs)
    ≡ replace_child name s cs
replace-replace name s t no_children = refl
replace-replace name s t (child other u rest) = by (bytes_eq name other) refl (replace-replace name s t rest)
  where
    by : (b : Bool) → bytes_eq name other ≡ b → replace_child name s (replace_child name t rest)
        ≡ replace_child name s rest
        → replace_child name s (cond b (child other t rest) (child other u (replace_child name t rest)))
        ≡ cond b (child other s rest) (child other u (replace_child name s rest))
    by true e more = rw e refl
    by false e more = rw e (ap (child other u) more)

-- and so does that of an insertion and a replacement
replace-insert : (name : List ℕ) (s t : Shape) (cs : Children) → find_child name cs ≡ None
    → replace_child name s (insert_child name t cs) ≡ insert_child name s cs
replace-insert name s t no_children h = rw (same_name name) refl
replace-insert name s t (child other u rest) h =
    by (is_lt (slice_cmp nat_cmp name other)) (bytes_eq name other) refl h (replace-insert name s t rest)
  where
    by : (b q : Bool) → bytes_eq name other ≡ q → cond q (Some u) (find_child name rest) ≡ None
        → (find_child name rest ≡ None → replace_child name s (insert_child name t rest) ≡ insert_child name s rest)
        → replace_child name s (cond b (child name t (child other u rest)) (child other u (insert_child name t rest)))
        ≡ cond b (child name s (child other u rest)) (child other u (insert_child name s rest))
    by true q e h more = rw (same_name name) refl
    by false true e h more = cc
    by false false e h more = rw e (ap (child other u) (more h))

-- the last of two nodes that were put under a name stays
pub put-put : (name : List ℕ) (s t : Shape) (cs : Children)
    → put_child name s (put_child name t cs) ≡ put_child name s cs
put-put name s t cs =
    let there : is_some (find_child name (put_child name t cs)) ≡ true = ap is_some (find-put_same name t cs) in
    ⊎_elim (λ h. put-replaces name s (put_child name t cs) there ∙ ap (replace_child name s) (put-replaces name t cs h)
    ∙ replace-replace name s t cs ∙ sym (put-replaces name s cs h))
    (λ h. put-replaces name s (put_child name t cs) there ∙ ap (replace_child name s) (put-inserts name t cs h)
    ∙ replace-insert name s t cs h ∙ sym (put-inserts name s cs h))
    (some_or_none (find_child name cs))

replace_found : (name : List ℕ) (s : Shape) (cs : Children) → find_child name cs ≡ Some s → replace_child name s cs ≡ cs
replace_found name s no_children h = refl
replace_found name s (child other t rest) h = by (bytes_eq name other) h (replace_found name s rest)
  where
    by : (b : Bool) → cond b (Some t) (find_child name rest) ≡ Some s
        → (find_child name rest ≡ Some s → replace_child name s rest ≡ rest)
        → cond b (child other s rest) (child other t (replace_child name s rest)) ≡ child other t rest
    by true h more = cc
    by false h more = ap (child other t) (more h)

-- putting what stands under a name there changes nothing
pub put_found : (name : List ℕ) (s : Shape) (cs : Children) → find_child name cs ≡ Some s → put_child name s cs ≡ cs
put_found name s cs h = put-replaces name s cs (ap is_some h) ∙ replace_found name s cs h

-- what has a child is a directory
pub directory_from_child : (name : List ℕ) (t s : Shape) → child_of name t ≡ Some s → is_directory t ≡ true
directory_from_child name (directory mode faults entries) s h = refl
directory_from_child name (file bytes mode faults) s h = cc
directory_from_child name (link text faults) s h = cc
directory_from_child name (lent kind) s h = cc

-- a node that was put under a name of a directory is its child
pub child_of-with_same : (name : List ℕ) (s t : Shape) → is_directory t ≡ true
    → child_of name (with_child name s t) ≡ Some s
child_of-with_same name s (directory mode faults entries) h = find-put_same name s entries
child_of-with_same name s (file bytes mode faults) h = cc
child_of-with_same name s (link text faults) h = cc
child_of-with_same name s (lent kind) h = cc

-- and under another name stands what stood there
pub child_of-with_other : (m name : List ℕ) (s t : Shape) → bytes_eq m name ≡ false
    → child_of m (with_child name s t) ≡ child_of m t
child_of-with_other m name s (directory mode faults entries) d = find-put_other m name s entries d
child_of-with_other m name s (file bytes mode faults) d = refl
child_of-with_other m name s (link text faults) d = refl
child_of-with_other m name s (lent kind) d = refl

-- the last of two nodes that were put under a name of a node stays
pub with_child_twice : (name : List ℕ) (a b t : Shape) → with_child name a (with_child name b t) ≡ with_child name a t
with_child_twice name a b (directory mode faults entries) = ap (directory mode faults) (put-put name a b entries)
with_child_twice name a b (file bytes mode faults) = refl
with_child_twice name a b (link text faults) = refl
with_child_twice name a b (lent kind) = refl

-- putting a child where it stands changes nothing
pub with_child_found : (name : List ℕ) (s t : Shape) → child_of name t ≡ Some s → with_child name s t ≡ t
with_child_found name s (directory mode faults entries) h = ap (directory mode faults) (put_found name s entries h)
with_child_found name s (file bytes mode faults) h = refl
with_child_found name s (link text faults) h = refl
with_child_found name s (lent kind) h = refl

-- lending a child puts the place of a lent node under its name
pub lend_child_found : (name : List ℕ) (s t : Shape) → child_of name t ≡ Some s
    → lend_child name t ≡ with_child name (lent (kind_of s)) t
lend_child_found name s t h =
    let put : lend_in name (children_of t) ≡ put_child name (lent (kind_of s)) (children_of t) =
    rw h refl in
    ap (λ entries. with_children entries t) put

-- a child that comes back as it was lent leaves the directory as it was
pub with_child-lend : (name : List ℕ) (s t : Shape) → child_of name t ≡ Some s
    → with_child name s (lend_child name t) ≡ t
with_child-lend name s t h =
    ap (with_child name s) (lend_child_found name s t h) ∙ with_child_twice name s (lent (kind_of s)) t
    ∙ with_child_found name s t h

-- both parts of a test that passes
pub first_part : (a b : Bool) → (a && b) ≡ true → a ≡ true
first_part true b h = refl
first_part false b h = cc

pub second_part : (a b : Bool) → (a && b) ≡ true → b ≡ true
second_part true b h = h
second_part false b h = cc

pub both_parts : (a b : Bool) → a ≡ true → b ≡ true → (a && b) ≡ true
both_parts a b h g = rw (h, g) refl

-- of entries with nothing lent, none is lent in part
pub none_lent-find : (name : List ℕ) (s : Shape) (cs : Children) → none_lent_in cs ≡ true
    → find_child name cs ≡ Some s → none_lent s ≡ true
none_lent-find name s no_children n h = cc
none_lent-find name s (child other t rest) n h =
    by (bytes_eq name other) h (none_lent-find name s rest (second_part _ _ n))
  where
    by : (b : Bool) → cond b (Some t) (find_child name rest) ≡ Some s
        → (find_child name rest ≡ Some s → none_lent s ≡ true) → none_lent s ≡ true
    by true h more = let first = first_part (none_lent t) (none_lent_in rest) n in cc
    by false h more = more h

none_lent-replace : (name : List ℕ) (s : Shape) (cs : Children) → none_lent_in cs ≡ true → none_lent s ≡ true
    → none_lent_in (replace_child name s cs) ≡ true
none_lent-replace name s no_children n h = refl
none_lent-replace name s (child other t rest) n h =
    by (bytes_eq name other) (none_lent-replace name s rest (second_part _ _ n) h)
  where
    by : (b : Bool) → none_lent_in (replace_child name s rest) ≡ true
        → none_lent_in (cond b (child other s rest) (child other t (replace_child name s rest))) ≡ true
    by true more = both_parts (none_lent s) (none_lent_in rest) h (second_part (none_lent t) (none_lent_in rest) n)
    by false more =
        both_parts (none_lent t) (none_lent_in (replace_child name s rest))
        (first_part (none_lent t) (none_lent_in rest) n) more

none_lent-insert : (name : List ℕ) (s : Shape) (cs : Children) → none_lent_in cs ≡ true → none_lent s ≡ true
    → none_lent_in (insert_child name s cs) ≡ true
none_lent-insert name s no_children n h = both_parts (none_lent s) true h refl
none_lent-insert name s (child other t rest) n h =
    by (is_lt (slice_cmp nat_cmp name other)) (none_lent-insert name s rest (second_part _ _ n) h)
  where
    by : (b : Bool) → none_lent_in (insert_child name s rest) ≡ true
        → none_lent_in (cond b (child name s (child other t rest)) (child other t (insert_child name s rest))) ≡ true
    by true more = both_parts (none_lent s) (none_lent_in (child other t rest)) h n
    by false more =
        both_parts (none_lent t) (none_lent_in (insert_child name s rest))
        (first_part (none_lent t) (none_lent_in rest) n) more

-- entries with nothing lent stay so where a node with nothing lent is put
pub none_lent-put : (name : List ℕ) (s : Shape) (cs : Children) → none_lent_in cs ≡ true → none_lent s ≡ true
    → none_lent_in (put_child name s cs) ≡ true
none_lent-put name s cs n h =
    ⊎_elim (λ f. ap none_lent_in (put-replaces name s cs f) ∙ none_lent-replace name s cs n h)
    (λ f. ap none_lent_in (put-inserts name s cs f) ∙ none_lent-insert name s cs n h)
    (some_or_none (find_child name cs))

-- a child of a node with nothing lent has nothing lent
pub none_lent-child_of : (name : List ℕ) (s t : Shape) → none_lent t ≡ true
    → child_of name t ≡ Some s → none_lent s ≡ true
none_lent-child_of name s (directory mode faults entries) n h = none_lent-find name s entries n h
none_lent-child_of name s (file bytes mode faults) n h = cc
none_lent-child_of name s (link text faults) n h = cc
none_lent-child_of name s (lent kind) n h = cc

-- a node with nothing lent stays so where a child with nothing lent is put
pub none_lent-with_child : (name : List ℕ) (s t : Shape) → none_lent t ≡ true → none_lent s ≡ true
    → none_lent (with_child name s t) ≡ true
none_lent-with_child name s (directory mode faults entries) n h = none_lent-put name s entries n h
none_lent-with_child name s (file bytes mode faults) n h = refl
none_lent-with_child name s (link text faults) n h = refl
none_lent-with_child name s (lent kind) n h = cc

-- a node with nothing lent stands here itself
pub is_lent-none_lent : (t : Shape) → none_lent t ≡ true → is_lent t ≡ false
is_lent-none_lent (directory mode faults entries) n = refl
is_lent-none_lent (file bytes mode faults) n = refl
is_lent-none_lent (link text faults) n = refl
is_lent-none_lent (lent kind) n = cc
