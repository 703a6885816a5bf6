-- What is kept of a knot and its shares, and what each step does.
use Rattle.std.specs.Prelude.{◌≡◌, ◌+◌, ◌≤◌, ◌++◌, ℕ, List, [], ◌∷◌, true, false, length, sum_by}
use mathlib.Core.Option.{some}
use lib.ListN.{get_elem?}
use Rattle.atomic_table.specs.Table.{State, Step, Me}
use Rattle.pool_ties.specs.declared.rule.Note.{Note}
use Rattle.pool_ties.specs.declared.rule.View.{View}
use Rattle.pool_ties.specs.Names.{no_note}

abbrev pub knotted : List Note → List Note → View
knotted issued returned = record { knot = true; issued = issued; returned = returned; held = [] }

abbrev pub sharing : Note → View
sharing n = record { knot = false; issued = []; returned = []; held = n ∷ [] }

abbrev pub idle : View
idle = record { knot = false; issued = []; returned = []; held = [] }

-- the note that a share holds
abbrev pub first_of : List Note → Note
first_of [] = no_note
first_of (n ∷ ns) = n

abbrev pub first_held : View → Note
first_held v = first_of v.held

abbrev pub issuing : Note → View → View
issuing n v = record { knot = v.knot; issued = n ∷ v.issued; returned = v.returned; held = v.held }

abbrev pub redeemed : View → View → View
redeemed v w = record { knot = v.knot; issued = v.issued; returned = w.held ++ v.returned; held = v.held }

-- the same notes, each as often: however they are weighed, they weigh the same
abbrev pub SameNotes : List Note → List Note → Type 0
SameNotes xs ys = (h : Note → ℕ) → sum_by h xs ≡ sum_by h ys

-- what all seats hold, by weight
abbrev pub held_by : (Note → ℕ) → List View → ℕ
held_by h views = sum_by (λ (v : View). sum_by h v.held) views

-- the first seat alone is the knot, and what was issued is what came back and what seats hold
abbrev pub Kept : State Unit View → Type 0
Kept s = (issued : List Note) × (returned : List Note)
    × ((id : ℕ) (v : View) → get_elem? s.views id ≡ some v → v.knot ≡ true → (id ≡ 0) × (v.issued ≡ issued) ×
    (v.returned ≡ returned))
    × ((h : Note → ℕ) → held_by h s.views + sum_by h returned ≡ sum_by h issued)

-- no more came back than were issued, and where as many did, they are the same
abbrev pub Settles : Step Unit → Me Unit View → ℕ → Me Unit View → Type 0
Settles st me n now = (length me.0.returned ≤ length me.0.issued) ×
    (length me.0.issued ≡ length me.0.returned → SameNotes me.0.issued me.0.returned) × (now ≡ me)
