-- The order of names by their bytes, and what keeps entries in it.
use Rattle.std.proofs.Common.{◌≡◌, ℕ, ◌+◌, Bool, true, false, cond, List, [], ◌∷◌, Some, None, refl, ◌∙◌, zero, suc}
use Rattle.std.proofs.Common.{not}
use Rattle.std.specs.declared.cmp.Ordering.{Ordering}
use Rattle.std.specs.declared.cmp.Ordering.TheVariants.{Less, Equal, Greater}
use Rattle.std.specs.Ordering.{nat_cmp, is_lt, is_eq, ordering_reverse}
use Rattle.std.specs.Cmp.Lexicographic.{slice_cmp}
use Rattle.std.specs.Str.{bytes_eq}
use Rattle.std.specs.List.{position_or_len, insert}
use Rattle.std.proofs.lemmas.Cmp.{nat_list_cmp_total}
use Rattle.std.proofs.lemmas.Map.Text.{is_eq-slice_cmp}
use Rattle.host_node.specs.declared.tree.TreeEntry.{TreeEntry}
use Rattle.host_node.specs.Tree.{Shape, find_child}
use Rattle.host_node.specs.Order.{IsBelowAll, IsAscending}
use Rattle.host_node.specs.Levels.{children_from, entry_names, comes_before}
use Rattle.host_node.proofs.EntryLemmas.{insert_more}

-- a name that neither comes before another nor is the same comes behind it
pub is_behind : (a b : List ℕ) → is_lt (slice_cmp nat_cmp a b) ≡ false → bytes_eq a b ≡ false
    → slice_cmp nat_cmp b a ≡ Less
is_behind a b l e = by (slice_cmp nat_cmp a b) l (is_eq-slice_cmp a b ∙ e) (nat_list_cmp_total.antisymm b a)
  where
    by : (o : Ordering) → is_lt o ≡ false → is_eq o ≡ false → slice_cmp nat_cmp b a ≡ ordering_reverse o
        → slice_cmp nat_cmp b a ≡ Less
    by Less f g h = cc
    by Equal f g h = cc
    by Greater f g h = h

-- a name that comes before another is less
pub is_less : (o : Ordering) → is_lt o ≡ true → o ≡ Less
is_less Less h = refl
is_less Equal h = cc
is_less Greater h = cc

-- a name below one that is below others is below them
pub below_all_before : (a b : List ℕ) (names : List (List ℕ)) → slice_cmp nat_cmp a b ≡ Less
    → IsBelowAll b names → IsBelowAll a names
below_all_before a b [] l h = tt
below_all_before a b (n ∷ names) l h = (nat_list_cmp_total.trans a b n l h.0, below_all_before a b names l h.1)

-- a name stays below others where a greater one goes in among them
pub below_all_insert : (a : List ℕ) (es : List TreeEntry) (i : ℕ) (e : TreeEntry) → slice_cmp nat_cmp a e.name ≡ Less
    → IsBelowAll a (entry_names es)
    → IsBelowAll a (entry_names (insert es i e))
below_all_insert a [] zero e l h = (l, tt)
below_all_insert a [] (suc i) e l h = (l, tt)
below_all_insert a (x ∷ xs) zero e l h = (l, h)
below_all_insert a (x ∷ xs) (suc i) e l h = (h.0, below_all_insert a xs i e l h.1)

-- an entry under a free name that goes in before the first greater name leaves the entries in order
pub ascending_insert : (name : List ℕ) (t : Shape) (es : List TreeEntry) → IsAscending (entry_names es)
    → find_child name (children_from es) ≡ None
    → IsAscending (entry_names (insert es (position_or_len (comes_before name) es) (record { name = name; tree = t })))
ascending_insert name t [] h f = (tt, tt)
ascending_insert name t (x ∷ xs) h f =
    by (comes_before name x) refl (bytes_eq name x.name) refl f (ascending_insert name t xs h.1)
  where
    n : ℕ
    n = position_or_len (comes_before name) xs

    new : TreeEntry
    new = record { name = name; tree = t }

    by : (b : Bool) → comes_before name x ≡ b → (q : Bool) → bytes_eq name x.name ≡ q
        → cond q (Some x.tree) (find_child name (children_from xs)) ≡ None
        → (find_child name (children_from xs) ≡ None → IsAscending (entry_names (insert xs n new)))
        → IsAscending (entry_names (insert (x ∷ xs) (cond (not b) (1 + n) 0) new))
    by b l true e g more = cc
    by true l false e g more =
        let less = is_less (slice_cmp nat_cmp name x.name) l in
        ((less, below_all_before name x.name (entry_names xs) less h.0), h)
    by false l false e g more =
        rw (insert_more x xs n new) (below_all_insert x.name xs n new (is_behind name x.name l e) h.0, more g)
