-- Each call has one row in the table of calls, so its number and its name are those of that row.
use Rattle.std.proofs.Common.{◌≡◌, ℕ, List, [], ◌∷◌, Bool, true, false, cond, ◌==◌, refl, sym, ◌∙◌, ap, subst, map}
use Rattle.std.specs.Prelude.{Option, Some, None, option_map, unwrap_or, find, codes, ◌++◌}
use Rattle.std.specs.Fmt.{decimal}
use Rattle.std.specs.Option.{option_map_or}
use Rattle.std.proofs.lemmas.Bool.{eqb-true}
use Rattle.sn_errno.specs.declared.calls.CallNo.{CallNo}
use Rattle.sn_errno.specs.Calls.{CallRow, calls, row_numbered, call_numbered, row_for, name_for, known_name, call_name}

-- each row of the table is the first with its call
firsts : map (λ row. row_for row.1) calls ≡ map (λ row. Some row) calls
firsts = refl

-- what a look-up finds has the number, and is the first row with its call
record Found (number : ℕ) (row : CallRow) : Type 0 where
  number_is : row.0 ≡ number
  is_first : row_for row.1 ≡ Some row

-- a look-up in rows that are each the first with its call
found_in : (rows : List CallRow) → map (λ row. row_for row.1) rows ≡ map (λ row. Some row) rows
    → (number : ℕ) (row : CallRow)
    → find (λ row. row.0 == number) rows ≡ Some row → Found number row
found_in [] h number row e = cc
found_in (first ∷ rows) h number row e = by (first.0 == number) refl e (found_in rows (cc) number row)
  where
    by : (b : Bool) → (first.0 == number) ≡ b → cond b (Some first) (find (λ row. row.0 == number) rows) ≡ Some row
        → (find (λ row. row.0 == number) rows ≡ Some row → Found number row) → Found number row
    by true same e rest =
        let it : first ≡ row = cc in
        subst (Found number) it (record { number_is = eqb-true first.0 number same; is_first = cc })
    by false other e rest = rest e

-- the row behind a call that a look-up finds
found : (number : ℕ) (call : CallNo) → call_numbered number ≡ Some call
    → (row : CallRow) × (row_numbered number ≡ Some row)
    × (row.1 ≡ call) × Found number row
unfolding call_numbered row_numbered
found number call e = by (find (λ row. row.0 == number) calls) refl e
  where
    by : (o : Option CallRow) → find (λ row. row.0 == number) calls ≡ o → option_map (λ row. row.1) o ≡ Some call
        → (row : CallRow) × (find (λ row. row.0 == number) calls ≡ Some row) × (row.1 ≡ call) × Found number row
    by None f e = cc
    by (Some row) f e = (row, f, (cc), found_in calls firsts number row f)

-- no two numbers have one call
pub only_number : (number other : ℕ) (call : CallNo) → call_numbered number ≡ Some call → call_numbered other
    ≡ Some call
    → number ≡ other
only_number number other call e h =
    let f = found number call e in
    let g = found other call h in
    let same : f.0 ≡ g.0 = cc (ap row_for f.2, ap row_for g.2) in
    cc

-- the name beside a number of this call
pub name_beside : (number : ℕ) (call : CallNo) → call_numbered number ≡ Some call → known_name number
    ≡ Some (name_for call)
unfolding known_name
name_beside number call e =
    let f = found number call e in
    ap (option_map (λ row. row.2)) f.1 ∙ ap (λ o. Some (option_map_or (λ row. row.2) o [])) (sym f.3.is_first)
    ∙ ap (λ c. Some (name_for c)) f.2

-- a call with a name is printed as that name
pub printed_known : (number : ℕ) (name : List ℕ) → known_name number ≡ Some name → call_name number ≡ name
unfolding call_name
printed_known number name h = ap (λ o. unwrap_or o (codes "call" ++ decimal number)) h

-- a number that no call has is printed as `call` and the number
pub printed_unknown : (number : ℕ) → call_numbered number ≡ None → call_name number ≡ codes "call" ++ decimal number
unfolding call_numbered known_name call_name
printed_unknown number h = by (row_numbered number) refl h
  where
    by : (o : Option CallRow) → row_numbered number ≡ o → option_map (λ row. row.1) o ≡ None
        → unwrap_or (option_map (λ row. row.2) (row_numbered number)) (codes "call" ++ decimal number)
        ≡ codes "call" ++ decimal number
    by None e h = ap (λ o. unwrap_or (option_map (λ row. row.2) o) (codes "call" ++ decimal number)) e
    by (Some row) e h = cc
