-- A granted folder whose children are back is as it was but for the counts of failed calls, and so is the world.
use Rattle.std.proofs.Common.{◌≡◌, ℕ, ◌+◌, Bool, true, false, cond, List, [], ◌∷◌, refl, ap, sym, ◌∙◌, subst}
use Rattle.std.specs.Prelude.{Option, Some, None, option_map, option_and_then, is_some}
use Rattle.std.specs.Ordering.{nat_cmp, is_lt}
use Rattle.std.specs.Cmp.Lexicographic.{slice_cmp}
use Rattle.std.specs.Str.{bytes_eq}
use Rattle.std.proofs.lemmas.Option.{same_Some}
use Rattle.host_node.specs.Tree.{Shape, Children, directory, file, link, lent, no_children, child, child_of}
use Rattle.host_node.specs.Tree.{children_of, find_child, insert_child, put_child, replace_child, with_child}
use Rattle.host_node.specs.Tree.{with_children, with_faults}
use Rattle.host_node.specs.Routes.{put_subtree, subtree}
use Rattle.host_node.proofs.TreeLemmas.{with_child_found}
use Rattle.host_node.proofs.RouteLemmas.{put_step, no_step, put_subtree_found}
use Rattle.kernel_model.specs.declared.opening.Rise.{Rise}
use Rattle.kernel_model.specs.files.FileTree.{with_plain}
use Rattle.kernel_model.specs.files.Settled.{rise_in}
use Rattle.image_walk.specs.declared.granted.Numbering.{Numbering}
use Rattle.image_walk.specs.Granted.{LentChild, GivesBack, put_all}
use Rattle.image_walk.specs.Loading.{faulted_by}
use Rattle.image_walk.specs.Standing.{StandUnlent, lend_all, lent_from}
use Rattle.image_walk.proofs.Commuting.{put_all_lent}
use Rattle.run_opening.specs.Openings.{IsStanding}
use Rattle.sentry_run.specs.Uncounted.{uncounted, all_uncounted, AreAlikeUncounted}

-- ---- one directory

found_uncounted : (name : List ℕ) (entries : Children)
    → find_child name (all_uncounted entries) ≡ option_map uncounted (find_child name entries)
found_uncounted name no_children = refl
found_uncounted name (child other shape rest) = by (bytes_eq name other) (found_uncounted name rest)
  where
    by : (b : Bool) → find_child name (all_uncounted rest) ≡ option_map uncounted (find_child name rest)
        → cond b (Some (uncounted shape)) (find_child name (all_uncounted rest))
        ≡ option_map uncounted (cond b (Some shape) (find_child name rest))
    by true more = refl
    by false more = more

replaced_uncounted : (name : List ℕ) (new : Shape) (entries : Children)
    → all_uncounted (replace_child name new entries) ≡ replace_child name (uncounted new) (all_uncounted entries)
replaced_uncounted name new no_children = refl
replaced_uncounted name new (child other shape rest) =
    by (bytes_eq name other) (replaced_uncounted name new rest)
  where
    by : (b : Bool)
        → all_uncounted (replace_child name new rest) ≡ replace_child name (uncounted new) (all_uncounted rest)
        → all_uncounted (cond b (child other new rest) (child other shape (replace_child name new rest)))
        ≡ cond b (child other (uncounted new) (all_uncounted rest))
        (child other (uncounted shape) (replace_child name (uncounted new) (all_uncounted rest)))
    by true more = refl
    by false more = ap (child other (uncounted shape)) more

inserted_uncounted : (name : List ℕ) (new : Shape) (entries : Children)
    → all_uncounted (insert_child name new entries) ≡ insert_child name (uncounted new) (all_uncounted entries)
inserted_uncounted name new no_children = refl
inserted_uncounted name new (child other shape rest) =
    by (is_lt (slice_cmp nat_cmp name other)) (inserted_uncounted name new rest)
  where
    by : (b : Bool)
        → all_uncounted (insert_child name new rest) ≡ insert_child name (uncounted new) (all_uncounted rest)
        → all_uncounted (cond b (child name new (child other shape rest))
        (child other shape (insert_child name new rest)))
        ≡ cond b (child name (uncounted new) (child other (uncounted shape) (all_uncounted rest)))
        (child other (uncounted shape) (insert_child name (uncounted new) (all_uncounted rest)))
    by true more = refl
    by false more = ap (child other (uncounted shape)) more

some_uncounted : (o : Option Shape) → is_some (option_map uncounted o) ≡ is_some o
some_uncounted None = refl
some_uncounted (Some s) = refl

put_uncounted : (name : List ℕ) (new : Shape) (entries : Children)
    → all_uncounted (put_child name new entries) ≡ put_child name (uncounted new) (all_uncounted entries)
put_uncounted name new entries =
    by (is_some (find_child name entries))
    ∙ ap (λ b. cond b (replace_child name (uncounted new) (all_uncounted entries))
    (insert_child name (uncounted new) (all_uncounted entries)))
    (sym (ap is_some (found_uncounted name entries) ∙ some_uncounted (find_child name entries)))
  where
    by : (b : Bool) → all_uncounted (cond b (replace_child name new entries) (insert_child name new entries))
        ≡ cond b (replace_child name (uncounted new) (all_uncounted entries))
        (insert_child name (uncounted new) (all_uncounted entries))
    by true = replaced_uncounted name new entries
    by false = inserted_uncounted name new entries

child_uncounted : (name : List ℕ) (t : Shape) → child_of name (uncounted t) ≡ option_map uncounted (child_of name t)
child_uncounted name (directory mode faults entries) = found_uncounted name entries
child_uncounted name (file bytes mode faults) = refl
child_uncounted name (link text faults) = refl
child_uncounted name (lent kind) = refl

with_uncounted : (name : List ℕ) (new t : Shape)
    → uncounted (with_child name new t) ≡ with_child name (uncounted new) (uncounted t)
with_uncounted name new (directory mode faults entries) = ap (directory mode 0) (put_uncounted name new entries)
with_uncounted name new (file bytes mode faults) = refl
with_uncounted name new (link text faults) = refl
with_uncounted name new (lent kind) = refl

faults_uncounted : (n : ℕ) (t : Shape) → uncounted (with_faults n t) ≡ uncounted t
faults_uncounted n (directory mode faults entries) = refl
faults_uncounted n (file bytes mode faults) = refl
faults_uncounted n (link text faults) = refl
faults_uncounted n (lent kind) = refl

faulted_uncounted : (d : ℕ) (t : Shape) → uncounted (faulted_by d t) ≡ uncounted t
faulted_uncounted d t = faults_uncounted _ t

-- a child that is put where one stands that is the same but for its counts changes nothing but counts
child_alike : (name : List ℕ) (s new t : Shape) → child_of name t ≡ Some s → AreAlikeUncounted new s
    → AreAlikeUncounted (with_child name new t) t
child_alike name s new t there alike =
    with_uncounted name new t ∙ ap (λ x. with_child name x (uncounted t)) alike
    ∙ with_child_found name (uncounted s) (uncounted t) (child_uncounted name t ∙ ap (option_map uncounted) there)

-- ---- children that go back

plain_alike : (name : List ℕ) (d : ℕ) (t tree : Shape) → AreAlikeUncounted tree t
    → AreAlikeUncounted (with_plain name (option_map (faulted_by d) (child_of name t)) tree) t
plain_alike name d t tree alike = by (child_of name t) refl
  where
    by : (o : Option Shape) → child_of name t ≡ o
        → AreAlikeUncounted (with_plain name (option_map (faulted_by d) o) tree) t
    by None e = alike
    by (Some s) e =
        with_uncounted name (faulted_by d s) tree ∙ ap (with_child name (uncounted (faulted_by d s))) alike
        ∙ sym (with_uncounted name (faulted_by d s) t)
        ∙ child_alike name s (faulted_by d s) t e (faulted_uncounted d s)

all_alike : (n : ℕ) (t : Shape) (names : List (List ℕ)) (rises : List Rise) (tree : Shape) → AreAlikeUncounted tree t
    → AreAlikeUncounted (put_all (lent_from n t names rises) tree) t
all_alike n t [] rises tree alike = alike
all_alike n t (name ∷ names) rises tree alike =
    all_alike (n + 1) t names rises (with_plain name (option_map (faulted_by (rise_in n rises)) (child_of name t)) tree)
    (plain_alike name (rise_in n rises) t tree alike)

-- trees that are alike are so behind the same children
same_plain : (name : List ℕ) (o : Option Shape) (t other : Shape) → AreAlikeUncounted t other
    → AreAlikeUncounted (with_plain name o t) (with_plain name o other)
same_plain name None t other alike = alike
same_plain name (Some s) t other alike =
    with_uncounted name s t ∙ ap (with_child name (uncounted s)) alike ∙ sym (with_uncounted name s other)

same_all : (children : List LentChild) (t other : Shape) → AreAlikeUncounted t other
    → AreAlikeUncounted (put_all children t) (put_all children other)
same_all [] t other alike = alike
same_all (c ∷ children) t other alike =
    same_all children (with_plain c.0 c.1 t) (with_plain c.0 c.1 other) (same_plain c.0 c.1 t other alike)

-- what a standing folder gives back
pub back_alike : (num : Numbering) (t : Shape) (root : Option Shape) (children : List LentChild)
    → IsStanding num t root children → (after : Shape) → GivesBack root children (Some after)
    → AreAlikeUncounted after t
back_alike num t root children s after gives =
    let h = s.stands in
    let lent : List LentChild = lent_from num.first t s.names s.rises in
    let top : Shape = faulted_by (rise_in num.root s.rises) (lend_all s.names t) in
    let is : after ≡ put_all lent top =
    same_Some after (put_all lent top)
    (subst (λ (cs : List LentChild). GivesBack (Some top) cs (Some after)) h.children_tell
    (subst (λ (o : Option Shape). GivesBack o children (Some after)) h.root_tells gives)) in
    ap uncounted is
    ∙ same_all lent top (lend_all s.names t) (faulted_uncounted (rise_in num.root s.rises) (lend_all s.names t))
    ∙ ap uncounted (put_all_lent num.first t s.rises s.names t h.there h.there)
    ∙ all_alike num.first t s.names s.rises t refl

-- ---- the world

subtree_uncounted : (names : List (List ℕ)) (world : Shape)
    → subtree names (uncounted world) ≡ option_map uncounted (subtree names world)
subtree_uncounted [] world = refl
subtree_uncounted (name ∷ names) world =
    ap (option_and_then (subtree names)) (child_uncounted name world)
    ∙ by (subtree_uncounted names) (child_of name world)
  where
    by : ((t : Shape) → subtree names (uncounted t) ≡ option_map uncounted (subtree names t)) → (o : Option Shape)
        → option_and_then (subtree names) (option_map uncounted o)
        ≡ option_map uncounted (option_and_then (subtree names) o)
    by each None = refl
    by each (Some s) = each s

world_uncounted : (names : List (List ℕ)) (new world : Shape)
    → uncounted (put_subtree names new world) ≡ put_subtree names (uncounted new) (uncounted world)
world_uncounted [] new world = refl
world_uncounted (name ∷ names) new world = by (world_uncounted names new) (child_of name world) refl
  where
    by : ((t : Shape) → uncounted (put_subtree names new t) ≡ put_subtree names (uncounted new) (uncounted t))
        → (o : Option Shape) → child_of name world ≡ o
        → uncounted (put_subtree (name ∷ names) new world)
        ≡ put_subtree (name ∷ names) (uncounted new) (uncounted world)
    by each None e =
        ap uncounted (no_step name names new world e)
        ∙ sym (no_step name names (uncounted new) (uncounted world)
        (child_uncounted name world ∙ ap (option_map uncounted) e))
    by each (Some s) e =
        ap uncounted (put_step name names new world s e)
        ∙ with_uncounted name (put_subtree names new s) world
        ∙ ap (λ x. with_child name x (uncounted world)) (each s)
        ∙ sym (put_step name names (uncounted new) (uncounted world) (uncounted s)
        (child_uncounted name world ∙ ap (option_map uncounted) e))

-- a world in which a folder is alike is alike
pub world_alike : (names : List (List ℕ)) (t new world : Shape) → subtree names world ≡ Some t
    → AreAlikeUncounted new t → AreAlikeUncounted (put_subtree names new world) world
world_alike names t new world there alike =
    world_uncounted names new world ∙ ap (λ x. put_subtree names x (uncounted world)) alike
    ∙ put_subtree_found names (uncounted t) (uncounted world)
    (subtree_uncounted names world ∙ ap (option_map uncounted) there)
