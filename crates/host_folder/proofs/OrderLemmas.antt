-- The order of what a folder lists, as entries are added to it.
use Rattle.std.proofs.Common.{◌≡◌, ℕ, true, List, [], ◌∷◌, ◌++◌, refl, ap, ◌∙◌, sym, subst, ◌+◌, ◌-◌, ◌<◌, arith}
use Rattle.std.proofs.Common.{length, take, Some, slice_get}
use Rattle.std.specs.declared.cmp.Ordering.{Ordering}
use Rattle.std.specs.declared.cmp.Ordering.TheVariants.{Less, Equal, Greater}
use Rattle.std.specs.Ordering.{nat_cmp, is_lt}
use Rattle.std.specs.Cmp.Lexicographic.{slice_cmp}
use Rattle.std.proofs.lemmas.List.{take_more, take_all}
use Rattle.std.proofs.lemmas.Option.{slice_get_within, get_or_from_slice_get}
use Rattle.std.proofs.lemmas.Cmp.{nat_list_cmp_total}
use Rattle.host_node.specs.declared.listing.Listed.{Listed}
use Rattle.host_node.specs.Order.{IsBelowAll, IsAscending, names_of}

-- what is less is so
pub is_less : (o : Ordering) → is_lt o ≡ true → o ≡ Less
is_less Less h = refl
is_less Equal h = cc
is_less Greater h = cc

-- a name below the last of some is below what is greater
pub below_push : (name : List ℕ) (ls : List Listed) (last e : Listed) → slice_cmp nat_cmp last.name e.name ≡ Less
    → IsBelowAll name (names_of (ls ++ last ∷ [])) → IsBelowAll name (names_of ((ls ++ last ∷ []) ++ e ∷ []))
below_push name [] last e l h = (h.0, (nat_list_cmp_total.trans name last.name e.name h.0 l, tt))
below_push name (x ∷ xs) last e l h = (h.0, below_push name xs last e l h.1)

-- what is greater than the last goes in behind it
pub ascending_push : (ls : List Listed) (last e : Listed) → slice_cmp nat_cmp last.name e.name ≡ Less
    → IsAscending (names_of (ls ++ last ∷ []))
    → IsAscending (names_of ((ls ++ last ∷ []) ++ e ∷ []))
ascending_push [] last e l h = ((l, tt), (tt, tt))
ascending_push (x ∷ xs) last e l h = (below_push x.name xs last e l h.0, ascending_push xs last e l h.1)

-- what goes in at the end is greater than the last
pub less_behind : (ls : List Listed) (last e : Listed) → IsAscending (names_of ((ls ++ last ∷ []) ++ e ∷ []))
    → slice_cmp nat_cmp last.name e.name ≡ Less
less_behind [] last e h = h.0.0
less_behind (x ∷ xs) last e h = less_behind xs last e h.1

-- a list ends with its last element
pub ends_with_last : (ls : List Listed) (last : Listed) → slice_get ls (length ls - 1) ≡ Some last
    → ls ≡ take (length ls - 1) ls ++ last ∷ []
ends_with_last ls last h =
    let i = length ls - 1 in
    let within : i < length ls = slice_get_within ls i last h in
    let all : take (i + 1) ls ≡ ls = take_all (i + 1) ls (omega arith) in
    sym all ∙ take_more ls i last within ∙ ap (λ x. take i ls ++ x ∷ []) (get_or_from_slice_get ls i last last h)

-- what is greater than the last, if there is one, goes in at the end
pub ascending_behind : (ls : List Listed) (last e : Listed) → slice_get ls (length ls - 1) ≡ Some last
    → slice_cmp nat_cmp last.name e.name ≡ Less
    → IsAscending (names_of ls) → IsAscending (names_of (ls ++ e ∷ []))
ascending_behind ls last e here l h =
    let same = ends_with_last ls last here in
    let P : List Listed → Type 0 = λ xs. IsAscending (names_of xs) in
    subst (λ xs. P (xs ++ e ∷ [])) (sym same) (ascending_push (take (length ls - 1) ls) last e l (subst P same h))

-- what goes in at the end is greater than the last, if there is one
pub ascending_last : (ls : List Listed) (last e : Listed) → slice_get ls (length ls - 1) ≡ Some last
    → IsAscending (names_of (ls ++ e ∷ []))
    → slice_cmp nat_cmp last.name e.name ≡ Less
ascending_last ls last e here h =
    let same = ends_with_last ls last here in
    let P : List Listed → Type 0 = λ xs. IsAscending (names_of (xs ++ e ∷ [])) in
    less_behind (take (length ls - 1) ls) last e (subst P same h)
