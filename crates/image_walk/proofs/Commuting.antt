-- Children that go back over a tree of which they were lent: it is as if none had been lent.
use Rattle.std.proofs.Common.{◌≡◌, ℕ, ◌+◌, true, false, List, [], ◌∷◌, refl, ap, sym, ◌∙◌, subst}
use Rattle.std.specs.Prelude.{Option, Some, None, option_map, is_some}
use Rattle.std.specs.Str.{bytes_eq}
use Rattle.host_node.specs.Tree.{Shape, lent, kind_of, child_of, with_child, lend_child}
use Rattle.host_node.proofs.Apart.{apart, with_apart}
use Rattle.host_node.proofs.TreeLemmas.{lend_child_found, with_child_twice, child_of-with_other}
use Rattle.kernel_model.specs.declared.opening.Rise.{Rise}
use Rattle.kernel_model.specs.files.FileTree.{with_plain}
use Rattle.kernel_model.specs.files.Settled.{rise_in}
use Rattle.image_walk.specs.Granted.{put_all}
use Rattle.image_walk.specs.Loading.{faulted_by}
use Rattle.image_walk.specs.Standing.{lend_all, IsNoneOf, StandUnlent, lent_from}
use Rattle.image_walk.proofs.Trees.{child_of-lend_other, child_of-lend_same}
use Rattle.image_walk.proofs.Lending.{still_there}
use Rattle.image_walk.proofs.Places.{IsThere}

-- ---- two names

there_some : (o : Option Shape) → IsThere o → is_some o ≡ true
there_some None h = absurd h
there_some (Some s) h = refl

-- one that is lent and one that is put
lend_apart : (n m : List ℕ) (x t : Shape) → bytes_eq m n ≡ false → is_some (child_of n t) ≡ true
    → IsThere (child_of m t) → with_child n x (lend_child m t) ≡ lend_child m (with_child n x t)
lend_apart n m x t d hn hm = by (child_of m t) refl hm
  where
    by : (o : Option Shape) → child_of m t ≡ o → IsThere o
        → with_child n x (lend_child m t) ≡ lend_child m (with_child n x t)
    by None e h = absurd h
    by (Some s) e h =
        ap (with_child n x) (lend_child_found m s t e)
        ∙ with_apart n m x (lent (kind_of s)) t d hn (ap is_some e)
        ∙ sym (lend_child_found m s (with_child n x t) (child_of-with_other m n x t d ∙ e))

-- ---- all of them

-- one that is put where others are lent
put-lend_all : (name : List ℕ) (x : Shape) (names : List (List ℕ)) (t : Shape) → is_some (child_of name t) ≡ true
    → IsNoneOf name names → StandUnlent t names
    → with_child name x (lend_all names t) ≡ lend_all names (with_child name x t)
put-lend_all name x [] t there new h = refl
put-lend_all name x (m ∷ names) t there new h =
    put-lend_all name x names (lend_child m t)
    (ap is_some (child_of-lend_other name m t (apart m name new.0)) ∙ there) new.1 (still_there m names t h.1 h.2)
    ∙ ap (lend_all names) (lend_apart name m x t new.0 there h.0)

-- the others stay there where one is put
still_there_put : (name : List ℕ) (x : Shape) (names : List (List ℕ)) (t : Shape) → IsNoneOf name names
    → StandUnlent t names → StandUnlent (with_child name x t) names
still_there_put name x [] t new h = tt
still_there_put name x (m ∷ names) t new h = (
  subst (λ (o : Option Shape). IsThere o) (sym (child_of-with_other m name x t new.0)) h.0,
  h.1,
  still_there_put name x names t new.1 h.2,
)

put_lent : (name : List ℕ) (x t : Shape) → IsThere (child_of name t)
    → with_child name x (lend_child name t) ≡ with_child name x t
put_lent name x t h = by (child_of name t) refl h
  where
    by : (o : Option Shape) → child_of name t ≡ o → IsThere o
        → with_child name x (lend_child name t) ≡ with_child name x t
    by None e h = absurd h
    by (Some s) e h =
        ap (with_child name x) (lend_child_found name s t e) ∙ with_child_twice name x (lent (kind_of s)) t

lent_some : (name : List ℕ) (t : Shape) → IsThere (child_of name t)
    → is_some (child_of name (lend_child name t)) ≡ true
lent_some name t h = by (child_of name t) refl h
  where
    by : (o : Option Shape) → child_of name t ≡ o → IsThere o → is_some (child_of name (lend_child name t)) ≡ true
    by None e h = absurd h
    by (Some s) e h = ap is_some (child_of-lend_same name t s e)

-- what one more child that goes back does
one_put : (name : List ℕ) (o : Option Shape) (names : List (List ℕ)) (tree : Shape) → is_some o ≡ true
    → IsThere (child_of name tree) → IsNoneOf name names → StandUnlent tree names
    → with_plain name o (lend_all names (lend_child name tree)) ≡ lend_all names (with_plain name o tree)
one_put name None names tree some there new h = absurd (cc some)
one_put name (Some x) names tree some there new h =
    put-lend_all name x names (lend_child name tree) (lent_some name tree there) new (still_there name names tree new h)
    ∙ ap (lend_all names) (put_lent name x tree there)

plain_there : (name : List ℕ) (o : Option Shape) (names : List (List ℕ)) (tree : Shape) → is_some o ≡ true
    → IsNoneOf name names → StandUnlent tree names → StandUnlent (with_plain name o tree) names
plain_there name None names tree some new h = absurd (cc some)
plain_there name (Some x) names tree some new h = still_there_put name x names tree new h

faulted_some : (d : ℕ) (o : Option Shape) → IsThere o → is_some (option_map (faulted_by d) o) ≡ true
faulted_some d None h = absurd h
faulted_some d (Some s) h = refl

-- all children put over the tree of which they were lent
pub put_all_lent : (n : ℕ) (t : Shape) (rises : List Rise) (names : List (List ℕ)) (tree : Shape) → StandUnlent t names
    → StandUnlent tree names
    → put_all (lent_from n t names rises) (lend_all names tree) ≡ put_all (lent_from n t names rises) tree
put_all_lent n t rises [] tree h g = refl
put_all_lent n t rises (name ∷ names) tree h g =
    let back : Option Shape = option_map (faulted_by (rise_in n rises)) (child_of name t) in
    let some : is_some back ≡ true = faulted_some (rise_in n rises) (child_of name t) h.0 in
    ap (put_all (lent_from (n + 1) t names rises)) (one_put name back names tree some g.0 g.1 g.2)
    ∙ put_all_lent (n + 1) t rises names (with_plain name back tree) h.2 (plain_there name back names tree some g.1 g.2)
