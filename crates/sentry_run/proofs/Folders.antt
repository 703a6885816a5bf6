-- Folders of mounts, none of which is in another: what is put where one is leaves the others.
use Rattle.std.proofs.Common.{◌≡◌, ℕ, suc, ◌+◌, ◌≤◌, Bool, true, false, ◌&&◌, ◌||◌, not, List, [], ◌∷◌, ◌++◌, length}
use Rattle.std.proofs.Common.{refl}
use Rattle.std.proofs.Common.{ap, sym, ◌∙◌, subst, arith, take}
use Rattle.std.specs.Prelude.{Option, Some, None, if◌then◌else◌, is_none, is_some, option_and_then, option_map, ⊤}
use Rattle.std.specs.List.{list_any, starts_with}
use Rattle.std.specs.Str.{bytes_eq}
use lib.Pointwise.{pointwise}
use Rattle.std.proofs.lemmas.Cmp.{nat_list_eq_equiv}
use Rattle.host_node.specs.declared.kind.Kind.TheVariants.{Dir}
use Rattle.host_node.specs.Tree.{Shape, lent, none_lent}
use Rattle.host_node.specs.Routes.{directory_at, put_subtree, subtree}
use Rattle.host_node.proofs.Apart.{are_apart, are_apart_sym, directory_at_apart, is_free_apart, put_apart}
use Rattle.host_node.proofs.Apart.{subtree_apart}
use Rattle.host_node.proofs.RouteLemmas.{is_free-none_lent, put-put_subtree, put_subtree_found, put_subtree-back}
use Rattle.host_node.proofs.RouteLemmas.{subtree-directory_at}
use Rattle.mount_file.specs.Rules.{clashes, has_clash, has_root, is_in, is_same_place}
use Rattle.mount_file.specs.declared.mounts.Mount.{Mount}
use Rattle.kernel_model.specs.declared.kernel.Kernel.{Kernel}
use Rattle.kernel_model.specs.files.Numbers.{count_up}
use Rattle.kernel_model.specs.files.Settled.{outside, settled, tree_now, with_grant}
use Rattle.kernel_model.specs.opening.Opening.{root_among}
use Rattle.image_walk.specs.Standing.{no_left}
use Rattle.run_opening.specs.Trees.{HaveTrees}
use Rattle.run_opening.proofs.Roots.{root_within}
use Rattle.sentry_run.specs.Granted.{CanGrantAll, IsUngranted, root_names}
use Rattle.sentry_run.specs.Outcome.{first_lacking, granted}

-- ---- folders apart

-- neither of two tests passes
neither : (a b : Bool) → (a || b) ≡ false → (a ≡ false) × (b ≡ false)
neither true b h = cc
neither false b h = (refl, h)

-- of two folders neither is in the other
apart_folders : (names others : List (List ℕ)) → is_in names others ≡ false → are_apart others names ≡ true
apart_folders [] others h = let e = (neither (starts_with bytes_eq [] others) true h).1 in cc
apart_folders (name ∷ names) [] h = cc
apart_folders (name ∷ names) (other ∷ others) h =
    by (bytes_eq name other) (bytes_eq other name) (nat_list_eq_equiv.symm name other) h (apart_folders names others)
  where
    by : (b c : Bool) → b ≡ c
        → ((c && pointwise bytes_eq others (take (length others) names))
        || (b && pointwise bytes_eq names (take (length names) others))) ≡ false
        → (is_in names others ≡ false → are_apart others names ≡ true)
        → (not c || are_apart others names) ≡ true
    by true true e h more = more h
    by false false e h more = refl
    by true false e h more = cc
    by false true e h more = cc

-- a folder is apart from those of these mounts
abbrev pub AreApartFrom : List (List ℕ) → List Mount → Type 0
AreApartFrom names [] = ⊤
AreApartFrom names (m ∷ mounts) = (are_apart m.folder.names names ≡ true) × AreApartFrom names mounts

apart_from : (m : Mount) (mounts : List Mount) → list_any (clashes m) mounts ≡ false
    → AreApartFrom m.folder.names mounts
apart_from m [] h = tt
apart_from m (x ∷ mounts) h =
    let (first, rest) = neither (clashes m x) (list_any (clashes m) mounts) h in
    let (places, folders) = neither (is_same_place m.at x.at) (is_in m.folder.names x.folder.names) first in
    (apart_folders m.folder.names x.folder.names folders, apart_from m mounts rest)

-- the first of mounts no two of which clash is apart from the others, no two of which clash
pub clash_none : (m : Mount) (mounts : List Mount) → has_clash (m ∷ mounts) ≡ false
    → AreApartFrom m.folder.names mounts × (has_clash mounts ≡ false)
clash_none m mounts h =
    let (first, rest) = neither (list_any (clashes m) mounts) (has_clash mounts) h in
    (apart_from m mounts first, rest)

-- ---- what is granted of folders apart

-- the trees of folders are there as they were, when something is put where another is
pub granted_apart : (names : List (List ℕ)) (new : Shape) (mounts : List Mount) (world : Shape)
    → AreApartFrom names mounts → granted mounts (put_subtree names new world) ≡ granted mounts world
granted_apart names new [] world h = refl
granted_apart names new (m ∷ mounts) world h =
    ap (option_and_then (λ t. option_map (λ ts. t ∷ ts) (granted mounts (put_subtree names new world))))
    (directory_at_apart m.folder.names names new world h.0)
    ∙ ap (λ o. option_and_then (λ t. option_map (λ ts. t ∷ ts) o) (directory_at m.folder.names world))
    (granted_apart names new mounts world h.1)

-- and the first that lacks is
pub lacking_apart : (names : List (List ℕ)) (new : Shape) (number : ℕ) (mounts : List Mount) (world : Shape)
    → AreApartFrom names mounts
    → first_lacking number mounts (put_subtree names new world) ≡ first_lacking number mounts world
lacking_apart names new number [] world h = refl
lacking_apart names new number (m ∷ mounts) world h =
    ap (λ o. if is_some o then first_lacking (number + 1) mounts (put_subtree names new world) else Some number)
    (directory_at_apart m.folder.names names new world h.0)
    ∙ ap (λ o. if is_some (directory_at m.folder.names world) then o else Some number)
    (lacking_apart names new (number + 1) mounts world h.1)

-- they can be granted, as they could
can_apart : (names : List (List ℕ)) (new : Shape) (mounts : List Mount) (world : Shape) → AreApartFrom names mounts
    → CanGrantAll mounts (Some world) → CanGrantAll mounts (Some (put_subtree names new world))
can_apart names new [] world h can = tt
can_apart names new (m ∷ mounts) world h can = (
  is_free_apart m.folder.names names new world h.0 ∙ can.0,
  can_apart names new mounts world h.1 can.1,
)

can_untold : (mounts : List Mount) → CanGrantAll mounts None
can_untold [] = tt
can_untold (m ∷ mounts) = (tt, can_untold mounts)

pub can_lent : (names : List (List ℕ)) (mounts : List Mount) (world between : Option Shape)
    → AreApartFrom names mounts → CanGrantAll mounts world
    → between ≡ option_map (put_subtree names (lent Dir)) world → CanGrantAll mounts between
can_lent names mounts None between h can e =
    subst (λ (o : Option Shape). CanGrantAll mounts o) (sym e) (can_untold mounts)
can_lent names mounts (Some w) between h can e =
    subst (λ (o : Option Shape). CanGrantAll mounts o) (sym e) (can_apart names (lent Dir) mounts w h can)

-- in a world of which nothing is lent, each can be
can_all : (mounts : List Mount) (world : Shape) → none_lent world ≡ true → CanGrantAll mounts (Some world)
can_all [] world h = tt
can_all (m ∷ mounts) world h = (is_free-none_lent m.folder.names world h, can_all mounts world h)

pub can_ungranted : (mounts : List Mount) (world : Option Shape) → IsUngranted world → CanGrantAll mounts world
can_ungranted mounts None h = can_untold mounts
can_ungranted mounts (Some w) h = can_all mounts w h

-- ---- the folder of the mount at `/`

-- it is apart from one that is apart from all
pub root_apart : (names : List (List ℕ)) (mounts : List Mount) → has_root mounts ≡ true → AreApartFrom names mounts
    → are_apart (root_names mounts) names ≡ true
root_apart names [] root h = cc
root_apart names (m ∷ mounts) root h = by m.at root (λ r. root_apart names mounts r h.1)
  where
    by : (at : Option (List ℕ)) → (is_none at || has_root mounts) ≡ true
        → (has_root mounts ≡ true → are_apart (root_names mounts) names ≡ true)
        → are_apart (if is_some at then root_names mounts else m.folder.names) names ≡ true
    by None r more = h.0
    by (Some name) r more = more r

-- another folder that comes back as it was is in its place, whatever became of that one
pub root_back : (names : List (List ℕ)) (mounts : List Mount) (s tree world : Shape) → has_root mounts ≡ true
    → AreApartFrom names mounts → subtree names world ≡ Some s
    → put_subtree names s (put_subtree (root_names mounts) tree (put_subtree names (lent Dir) world))
    ≡ put_subtree (root_names mounts) tree world
root_back names mounts s tree world root h there =
    sym (put_apart (root_names mounts) names tree s (put_subtree names (lent Dir) world)
    (root_apart names mounts root h))
    ∙ ap (put_subtree (root_names mounts) tree) (put_subtree-back names s (lent Dir) world there)

pub root_leaves : (names : List (List ℕ)) (mounts : List Mount) (tree world : Shape) → has_root mounts ≡ true
    → AreApartFrom names mounts → subtree names (put_subtree (root_names mounts) tree world) ≡ subtree names world
root_leaves names mounts tree world root h =
    subtree_apart names (root_names mounts) tree world
    (are_apart_sym names (root_names mounts) ∙ root_apart names mounts root h)

-- outside all grants nothing is new, whatever became of it
pub outside_root : (mounts : List Mount) (tree world : Shape) → has_root mounts ≡ true → has_clash mounts ≡ false
    → outside mounts (put_subtree (root_names mounts) tree world) ≡ outside mounts world
outside_root [] tree world root clash = cc
outside_root (m ∷ mounts) tree world root clash =
    by m.at root (λ r. outside_root mounts tree (put_subtree m.folder.names (lent Dir) world) r apart.1)
  where
    apart : AreApartFrom m.folder.names mounts × (has_clash mounts ≡ false)
    apart = clash_none m mounts clash

    by : (at : Option (List ℕ)) → (is_none at || has_root mounts) ≡ true
        → (has_root mounts ≡ true
        → outside mounts (put_subtree (root_names mounts) tree (put_subtree m.folder.names (lent Dir) world))
        ≡ outside mounts (put_subtree m.folder.names (lent Dir) world))
        → outside mounts (put_subtree m.folder.names (lent Dir)
        (put_subtree (if is_some at then root_names mounts else m.folder.names) tree world))
        ≡ outside mounts (put_subtree m.folder.names (lent Dir) world)
    by None r more = ap (outside mounts) (put-put_subtree m.folder.names (lent Dir) tree world)
    by (Some name) r more =
        ap (outside mounts) (sym (put_apart (root_names mounts) m.folder.names tree (lent Dir) world
        (root_apart m.folder.names mounts r apart.0)))
        ∙ more r

-- ---- the granted trees, one by one

pub record Parted (m : Mount) (mounts : List Mount) (world : Shape) (trees : List Shape) : Type 0 where
  pub tree : Shape
  pub rest : List Shape
  pub are : trees ≡ tree ∷ rest
  pub there : directory_at m.folder.names world ≡ Some tree
  pub others : granted mounts world ≡ Some rest

-- the tree of the first, and those of the others
pub parted : (m : Mount) (mounts : List Mount) (world : Shape) (trees : List Shape)
    → granted (m ∷ mounts) world ≡ Some trees → Parted m mounts world trees
parted m mounts world trees h = by (directory_at m.folder.names world) (granted mounts world) refl refl h
  where
    by : (o : Option Shape) (p : Option (List Shape)) → directory_at m.folder.names world ≡ o
        → granted mounts world ≡ p → option_and_then (λ t. option_map (λ ts. t ∷ ts) p) o ≡ Some trees
        → Parted m mounts world trees
    by None p e f g = cc
    by (Some t) None e f g = cc
    by (Some t) (Some ts) e f g =
        let same : trees ≡ t ∷ ts = cc in
        record { tree = t; rest = ts; are = same; there = e; others = f }

pub granted_first : (m : Mount) (mounts : List Mount) (world t : Shape) (trees : List Shape)
    → directory_at m.folder.names world ≡ Some t → granted mounts world ≡ Some trees
    → granted (m ∷ mounts) world ≡ Some (t ∷ trees)
granted_first m mounts world t trees e f =
    ap (λ o. option_and_then (λ x. option_map (λ xs. x ∷ xs) (granted mounts world)) o) e
    ∙ ap (option_map (λ xs. t ∷ xs)) f

-- ---- the world with each grant in its place

put_found : (names : List (List ℕ)) (t world : Shape) → directory_at names world ≡ Some t
    → put_subtree names t world ≡ world
put_found names t world h = put_subtree_found names t world (subtree-directory_at names t world h)

-- one whose trees are those of the grants is as it was
settled_same : (mounts : List Mount) (first : ℕ) (trees : List Shape) (k : Kernel) (world : Shape)
    → granted mounts world ≡ Some trees → HaveTrees k first trees
    → settled mounts (count_up first (length mounts)) (tree_now k no_left) world ≡ world
unfolding count_up
settled_same [] first trees k world g have = refl
settled_same (m ∷ mounts) first trees k world g have =
    let p = parted m mounts world trees g in
    let h : HaveTrees k first (p.tree ∷ p.rest) = subst (λ (ts : List Shape). HaveTrees k first ts) p.are have in
    ap (λ o. settled mounts (count_up (first + 1) (length mounts)) (tree_now k no_left)
    (with_grant m.folder.names o world)) h.0
    ∙ ap (settled mounts (count_up (first + 1) (length mounts)) (tree_now k no_left))
    (put_found m.folder.names p.tree world p.there)
    ∙ settled_same mounts (first + 1) p.rest k world p.others h.1

no_items : {A : Type 0} (first : ℕ) (x : A) (xs : List A) → first ≡ first + suc (length xs) → ⊥
no_items first x xs e = absurd (omega arith)

-- where the mount at `/` has another tree, that is in its place
pub settled_root : (mounts : List Mount) (first : ℕ) (before behind : List Shape) (t tree : Shape) (k : Kernel)
    (world : Shape) → granted mounts world ≡ Some (before ++ t ∷ behind)
    → root_among first mounts ≡ first + length before → has_root mounts ≡ true → has_clash mounts ≡ false
    → HaveTrees k first (before ++ tree ∷ behind)
    → settled mounts (count_up first (length mounts)) (tree_now k no_left) world
    ≡ put_subtree (root_names mounts) tree world
unfolding count_up
settled_root [] first before behind t tree k world g place root clash have = cc
settled_root (m ∷ mounts) first before behind t tree k world g place root clash have =
    by m.at before place root g have
    (λ bs e r g h. settled_root mounts (first + 1) bs behind t tree k world g e r apart.1 h)
  where
    apart : AreApartFrom m.folder.names mounts × (has_clash mounts ≡ false)
    apart = clash_none m mounts clash

    rest : Shape → Shape
    rest w = settled mounts (count_up (first + 1) (length mounts)) (tree_now k no_left) w

    by : (at : Option (List ℕ)) (before : List Shape)
        → (if is_some at then root_among (first + 1) mounts else first) ≡ first + length before
        → (is_none at || has_root mounts) ≡ true → granted (m ∷ mounts) world ≡ Some (before ++ t ∷ behind)
        → HaveTrees k first (before ++ tree ∷ behind)
        → ((bs : List Shape) → root_among (first + 1) mounts ≡ first + 1 + length bs → has_root mounts ≡ true
        → granted mounts world ≡ Some (bs ++ t ∷ behind) → HaveTrees k (first + 1) (bs ++ tree ∷ behind)
        → settled mounts (count_up (first + 1) (length mounts)) (tree_now k no_left) world
        ≡ put_subtree (root_names mounts) tree world)
        → settled mounts (count_up (first + 1) (length mounts)) (tree_now k no_left)
        (with_grant m.folder.names (tree_now k no_left first) world)
        ≡ put_subtree (if is_some at then root_names mounts else m.folder.names) tree world
    by None [] place r g h more =
        let p = parted m mounts world (t ∷ behind) g in
        let same : p.rest ≡ behind = let is = p.are in cc in
        let others : granted mounts (put_subtree m.folder.names tree world) ≡ Some behind =
        granted_apart m.folder.names tree mounts world apart.0 ∙ p.others ∙ ap Some same in
        ap (λ o. settled mounts (count_up (first + 1) (length mounts)) (tree_now k no_left)
        (with_grant m.folder.names o world)) h.0
        ∙ settled_same mounts (first + 1) behind k (put_subtree m.folder.names tree world) others h.1
    by None (b ∷ bs) place r g h more = absurd (no_items first b bs place)
    by (Some name) [] place r g h more =
        let within = root_within (first + 1) mounts r in
        let here : root_among (first + 1) mounts ≡ first + 0 = place in
        let low : first + 1 ≤ root_among (first + 1) mounts = within.0 in
        absurd (omega arith)
    by (Some name) (b ∷ bs) place r g h more =
        let p = parted m mounts world (b ∷ (bs ++ t ∷ behind)) g in
        let first_is : p.tree ≡ b = let is = p.are in cc in
        let rest_is : p.rest ≡ bs ++ t ∷ behind = let is = p.are in cc in
        let here : root_among (first + 1) mounts ≡ first + suc (length bs) = place in
        let next : root_among (first + 1) mounts ≡ first + 1 + length bs = omega arith in
        ap (λ o. settled mounts (count_up (first + 1) (length mounts)) (tree_now k no_left)
        (with_grant m.folder.names o world)) h.0
        ∙ ap (settled mounts (count_up (first + 1) (length mounts)) (tree_now k no_left))
        (put_found m.folder.names b world (p.there ∙ ap Some first_is))
        ∙ more bs next r (p.others ∙ ap Some rest_is) h.1

-- the tree of the mount at `/` stands where its folder is
pub root_found : (mounts : List Mount) (first : ℕ) (before behind : List Shape) (t world : Shape)
    → granted mounts world ≡ Some (before ++ t ∷ behind) → root_among first mounts ≡ first + length before
    → has_root mounts ≡ true → directory_at (root_names mounts) world ≡ Some t
root_found [] first before behind t world g place root = cc
root_found (m ∷ mounts) first before behind t world g place root =
    by m.at before place root g (λ bs e r g. root_found mounts (first + 1) bs behind t world g e r)
  where
    by : (at : Option (List ℕ)) (before : List Shape)
        → (if is_some at then root_among (first + 1) mounts else first) ≡ first + length before
        → (is_none at || has_root mounts) ≡ true → granted (m ∷ mounts) world ≡ Some (before ++ t ∷ behind)
        → ((bs : List Shape) → root_among (first + 1) mounts ≡ first + 1 + length bs → has_root mounts ≡ true
        → granted mounts world ≡ Some (bs ++ t ∷ behind) → directory_at (root_names mounts) world ≡ Some t)
        → directory_at (if is_some at then root_names mounts else m.folder.names) world ≡ Some t
    by None [] place r g more =
        let p = parted m mounts world (t ∷ behind) g in
        let same : p.tree ≡ t = let is = p.are in cc in
        p.there ∙ ap Some same
    by None (b ∷ bs) place r g more = absurd (no_items first b bs place)
    by (Some name) [] place r g more =
        let within = root_within (first + 1) mounts r in
        let here : root_among (first + 1) mounts ≡ first + 0 = place in
        let low : first + 1 ≤ root_among (first + 1) mounts = within.0 in
        absurd (omega arith)
    by (Some name) (b ∷ bs) place r g more =
        let p = parted m mounts world (b ∷ (bs ++ t ∷ behind)) g in
        let rest_is : p.rest ≡ bs ++ t ∷ behind = let is = p.are in cc in
        let here : root_among (first + 1) mounts ≡ first + suc (length bs) = place in
        let next : root_among (first + 1) mounts ≡ first + 1 + length bs = omega arith in
        more bs next r (p.others ∙ ap Some rest_is)

-- a folder that is missing is not granted
pub lacking_none : (number : ℕ) (mounts : List Mount) (world : Shape) (n : ℕ)
    → first_lacking number mounts world ≡ Some n → granted mounts world ≡ None
lacking_none number [] world n h = cc
lacking_none number (m ∷ mounts) world n h =
    by (directory_at m.folder.names world) h (lacking_none (number + 1) mounts world n)
  where
    by : (o : Option Shape) → (if is_some o then first_lacking (number + 1) mounts world else Some number) ≡ Some n
        → (first_lacking (number + 1) mounts world ≡ Some n → granted mounts world ≡ None)
        → option_and_then (λ t. option_map (λ ts. t ∷ ts) (granted mounts world)) o ≡ None
    by None h more = refl
    by (Some t) h more = ap (option_map (λ ts. t ∷ ts)) (more h)
