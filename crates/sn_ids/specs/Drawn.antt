-- Runs of numbers that were drawn, what holds of all of them at all times, and what each atomic step tells.
use Rattle.std.specs.Prelude.{◌≡◌, ◌≢◌, ◌⊎◌, ◌<◌, ◌≤◌, ◌+◌, ℕ, List, [], ◌∷◌, ◌++◌}
use mathlib.Core.Option.{some}
use lib.ListN.{get_elem?}
use Rattle.atomic_table.specs.Table.{State, Step, Me}
use Rattle.sn_ids.specs.declared.rule.View.{View}

-- two runs, each its first number and how many there are in a row, have no number in common
-- profile
abbrev pub Apart : (run other : ℕ × ℕ) → Type 0
Apart run other = (run.0 + run.1 ≤ other.0) ⊎ (other.0 + other.1 ≤ run.0)

-- a run has no number in common with any of these
-- profile
abbrev pub ApartFrom : ℕ × ℕ → List (ℕ × ℕ) → Type 0
ApartFrom run [] = Unit {0}
ApartFrom run (other ∷ others) = Apart run other × ApartFrom run others

-- no two of these runs have a number in common
-- profile
abbrev pub EachOnce : List (ℕ × ℕ) → Type 0
EachOnce [] = Unit {0}
EachOnce (run ∷ runs) = ApartFrom run runs × EachOnce runs

-- no run of the first list has a number in common with one of the second
-- profile
abbrev pub AllApart : (runs others : List (ℕ × ℕ)) → Type 0
AllApart [] others = Unit {0}
AllApart (run ∷ runs) others = ApartFrom run others × AllApart runs others

-- the numbers of these runs are above 0, and at most the last
-- profile
abbrev pub UpTo : ℕ → List (ℕ × ℕ) → Type 0
UpTo last [] = Unit {0}
UpTo last (run ∷ runs) = (0 < run.0) × (run.0 + run.1 ≤ last + 1) × UpTo last runs

-- what a seat knows that has drawn these
-- profile
abbrev pub holder_of : List (ℕ × ℕ) → View
holder_of runs = record { drawn = runs }

-- what a seat knows that has taken in another
-- profile
abbrev pub both_of : View → View → View
both_of v w = record { drawn = v.drawn ++ w.drawn }

-- the word is the last number drawn; no number is above it, and none was drawn twice, by one seat or by two
-- profile
abbrev pub Kept : State (Unit {0}) View → Type 0
Kept s = (last : ℕ) × (s.words ≡ last ∷ []) × ((id : ℕ) (v : View) → get_elem? s.views id ≡ some v
    → UpTo last v.drawn × EachOnce v.drawn)
    × ((id other : ℕ) (v w : View) → id ≢ other → get_elem? s.views id ≡ some v → get_elem? s.views other ≡ some w
    → AllApart v.drawn w.drawn)

-- a load finds that no number was drawn twice
-- profile
abbrev pub Looks : Step (Unit {0}) → Me (Unit {0}) View → ℕ → Me (Unit {0}) View → Type 0
Looks st me found now = EachOnce me.0.drawn × (now ≡ me)

-- an exchange that finds what it was told draws the numbers from there to its second operand; else it draws nothing
-- profile
abbrev pub Draws : Step (Unit {0}) → Me (Unit {0}) View → ℕ → Me (Unit {0}) View → Type 0
Draws st me found now = (now ≡ (holder_of now.0.drawn, me.1)) × EachOnce now.0.drawn
    × ((found ≡ st.first) → (count : ℕ) → st.second ≡ st.first + count
    → now.0.drawn ≡ (st.first + 1, count) ∷ me.0.drawn)
    × ((found ≢ st.first) → now ≡ me)
