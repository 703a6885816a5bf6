-- The lines of the groups, number by number.
use Rattle.std.proofs.Common.{◌≡◌, ℕ, List, [], ◌∷◌, ◌++◌, map, refl, ap, ◌∙◌, cond, true, false, T, Bool, ◌&&◌}
use Rattle.std.specs.Prelude.{Option, Some, None}
use Rattle.std.specs.List.{flat_map}
use Rattle.std.specs.Ordering.{nat_cmp, eq_by_cmp, is_eq, is_lt}
use Rattle.std.specs.declared.cmp.Ordering.{Ordering}
use Rattle.std.specs.declared.cmp.Ordering.TheVariants.{Less, Equal, Greater}
use Rattle.std.specs.Cmp.{nat_cmp_total, eq_by_cmp_equiv, tied_itself}
use Rattle.std.specs.FinMap.{FinMap, get, entries, keys, find, is_sorted, entries_sorted, get-entries}
use Rattle.std.specs.FinMap.Entries.{below_all}
use Rattle.kernel_model.specs.printed.Printed.{group_text, groups_text}
use Rattle.task_table.specs.declared.task.Group.{Group}

first : (a b : Bool) → T (a && b) → T a
first true b h = tt
first false b h = absurd h

second : (a b : Bool) → T (a && b) → T b
second true b h = h
second false b h = absurd h

not_equal : (o : Ordering) → T (is_lt o) → is_eq o ≡ false
not_equal Less h = refl
not_equal Equal h = absurd h
not_equal Greater h = absurd h

above : (k q : ℕ) → T (is_lt (nat_cmp k q)) → eq_by_cmp nat_cmp q k ≡ false
above k q h = (eq_by_cmp_equiv nat_cmp_total).symm q k ∙ not_equal (nat_cmp k q) h

-- each of these entries is what a look-up in all of them finds
abbrev pub Found : List (ℕ × Group) → List (ℕ × Group) → Type 0
Found all [] = Unit {0}
Found all (e ∷ es) = (find nat_cmp e.0 all ≡ Some e.1) × Found all es

found_behind : (e0 : ℕ × Group) (all es : List (ℕ × Group)) → T (below_all nat_cmp e0.0 es) → Found all es
    → Found (e0 ∷ all) es
found_behind e0 all [] below found = tt
found_behind e0 all (e ∷ es) below found = (
  ap (λ b. cond b (Some e0.1) (find nat_cmp e.0 all)) (above e0.0 e.0 (first _ _ below)) ∙ found.0,
  found_behind e0 all es (second _ _ below) found.1,
)

found_each : (es : List (ℕ × Group)) → T (is_sorted nat_cmp es) → Found es es
found_each [] sorted = tt
found_each (e ∷ es) sorted = (
  ap (λ o. cond (is_eq o) (Some e.1) (find nat_cmp e.0 es)) (tied_itself nat_cmp_total e.0),
  found_behind e es es (first _ _ sorted) (found_each es (second _ _ sorted)),
)

-- the line of a group, if there is one
abbrev pub line_of : ℕ → Option Group → List ℕ
line_of number (Some group) = group_text (number, group)
line_of number None = []

-- the line of the group of that number in a map, if there is one
abbrev pub line_at : FinMap nat_cmp Group → ℕ → List ℕ
line_at m number = line_of number (get m number)

lines_found : (m : FinMap nat_cmp Group) (es : List (ℕ × Group)) → Found (entries m) es
    → flat_map (line_at m) (map (λ e. e.0) es) ≡ groups_text es
lines_found m [] found = refl
lines_found m (e ∷ es) found =
    let here : get m e.0 ≡ Some e.1 = get-entries m e.0 ∙ found.0 in
    let rest : flat_map (line_at m) (map (λ q. q.0) es) ≡ groups_text es = lines_found m es found.1 in
    ap (λ o. line_of e.0 o ++ flat_map (line_at m) (map (λ q. q.0) es)) here ∙ ap (λ text. group_text e ++ text) rest

-- the lines of all numbers are those of all groups
pub lines_of_keys : (m : FinMap nat_cmp Group) → flat_map (line_at m) (keys m) ≡ groups_text (entries m)
lines_of_keys m = lines_found m (entries m) (found_each (entries m) (entries_sorted m))
