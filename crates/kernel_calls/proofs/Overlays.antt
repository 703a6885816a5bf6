-- States behind areas that were left in hand.
use Rattle.std.proofs.Common.{◌≡◌, Bool, true, false, cond, List, [], ◌∷◌, ◌++◌, Option, Some, refl, ap, sym, ◌∙◌}
use Rattle.std.specs.Prelude.{is_some, ◌==◌, ◌&&◌}
use Rattle.std.proofs.lemmas.Bool.{eqb-true}
use Rattle.rv_table.specs.Areas.{is_area}
use Rattle.rv_table.specs.declared.error.Area.{Area}
use Rattle.mm_space.specs.Handed.{AreaState, InHand, area_in}
use Rattle.kernel_model.specs.Names.{NamedMap, get_named, with_named}
use Rattle.kernel_model.specs.declared.kernel.Part.TheVariants.{OfTasks, OfTask, OfSpace, OfArea, OfTable}
use Rattle.kernel_model.specs.declared.kernel.Part.TheVariants.{OfDescription}
use Rattle.kernel_model.specs.declared.kernel.Part.TheVariants.{OfPipe, OfNode, OfSleepers, OfConsole, OfFaults}
use Rattle.kernel_model.specs.entries.Areas.{left_in, over}
use Rattle.kernel_model.specs.entries.Parts.{Parts, Prog, done, look, outcome_in}
use Rattle.kernel_model.proofs.NamedMaps.{get-with_same, get-with_other}
use Rattle.guest_access.specs.Lending.{AreThose, with_hand}
use Rattle.guest_access.proofs.Lendings.{apart_by}

-- a state in which these areas are as they were left in hand
abbrev pub overlay : List InHand → Parts → Parts
overlay hand s OfTasks = s OfTasks
overlay hand s (OfTask task) = s (OfTask task)
overlay hand s (OfSpace name) = s (OfSpace name)
overlay hand s (OfArea name) = left_in hand name (s (OfArea name))
overlay hand s (OfTable name) = s (OfTable name)
overlay hand s (OfDescription name) = s (OfDescription name)
overlay hand s (OfPipe name) = s (OfPipe name)
overlay hand s (OfNode ino) = s (OfNode ino)
overlay hand s OfSleepers = s OfSleepers
overlay hand s OfConsole = s OfConsole
overlay hand s OfFaults = s OfFaults

-- what is done over areas is what is done in that state
pub outcome-over : {A : Type 0} (hand : List InHand) (s : Parts) (tree : Prog A)
    → outcome_in s (over hand tree) ≡ outcome_in (overlay hand s) tree
outcome-over hand s (done a) = refl
outcome-over hand s (look (OfArea name) next) = outcome-over hand s (next (left_in hand name (s (OfArea name))))
outcome-over hand s (look OfTasks next) = outcome-over hand s (next (s OfTasks))
outcome-over hand s (look (OfTask task) next) = outcome-over hand s (next (s (OfTask task)))
outcome-over hand s (look (OfSpace name) next) = outcome-over hand s (next (s (OfSpace name)))
outcome-over hand s (look (OfTable name) next) = outcome-over hand s (next (s (OfTable name)))
outcome-over hand s (look (OfDescription name) next) = outcome-over hand s (next (s (OfDescription name)))
outcome-over hand s (look (OfPipe name) next) = outcome-over hand s (next (s (OfPipe name)))
outcome-over hand s (look (OfNode ino) next) = outcome-over hand s (next (s (OfNode ino)))
outcome-over hand s (look OfSleepers next) = outcome-over hand s (next (s OfSleepers))
outcome-over hand s (look OfConsole next) = outcome-over hand s (next (s OfConsole))
outcome-over hand s (look OfFaults next) = outcome-over hand s (next (s OfFaults))

-- ---- areas put back

-- those of two lists are those of one behind the other
pub with_hand-append : (a b : List InHand) (m : NamedMap AreaState)
    → with_hand (a ++ b) m ≡ with_hand a (with_hand b m)
with_hand-append [] b m = refl
with_hand-append (h ∷ a) b m = ap (λ n. with_named n h.name.place h.name.index h.state) (with_hand-append a b m)

same_place : (a b : Area) → is_area a b ≡ true → a.place ≡ b.place
same_place a b e = by (a.place == b.place) (a.index == b.index) refl e
  where
    by : (x y : Bool) → (a.place == b.place) ≡ x → (x && y) ≡ true → a.place ≡ b.place
    by true y p e = eqb-true a.place b.place p
    by false y p e = absurd (cc e)

same_index : (a b : Area) → is_area a b ≡ true → a.index ≡ b.index
same_index a b e = by (a.place == b.place) (a.index == b.index) refl e
  where
    by : (x y : Bool) → (a.index == b.index) ≡ y → (x && y) ≡ true → a.index ≡ b.index
    by true true p e = eqb-true a.index b.index p
    by true false p e = absurd (cc e)
    by false y p e = absurd (cc e)

-- what was in hand, or else what there was
abbrev or_else : Option AreaState → Option AreaState → Option AreaState
or_else content o = cond (is_some o) o content

-- a name has what was in hand of it, or else what it had
pub get-with_hand : (hand : List InHand) (name : Area) (m : NamedMap AreaState)
    → get_named (with_hand hand m) name.place name.index ≡ left_in hand name (get_named m name.place name.index)
get-with_hand [] name m = refl
get-with_hand (h ∷ hand) name m = by (get-with_hand hand name m) (is_area h.name name) refl
  where
    by : get_named (with_hand hand m) name.place name.index
        ≡ or_else (get_named m name.place name.index) (area_in name hand)
        → (b : Bool) → is_area h.name name ≡ b
        → get_named (with_named (with_hand hand m) h.name.place h.name.index h.state) name.place name.index
        ≡ or_else (get_named m name.place name.index) (cond b (Some h.state) (area_in name hand))
    by rest true is =
        ap (λ p. get_named (with_named (with_hand hand m) p h.name.index h.state) name.place name.index)
        (same_place h.name name is)
        ∙ ap (λ i. get_named (with_named (with_hand hand m) name.place i h.state) name.place name.index)
        (same_index h.name name is)
        ∙ get-with_same (with_hand hand m) name.place name.index h.state
    by rest false is =
        get-with_other (with_hand hand m) h.name.place h.name.index name.place name.index h.state
        (apart_by h.name name is)
        ∙ rest

-- so the areas of that state are those put back
pub those_over : (hand : List InHand) (s : Parts) (all : NamedMap AreaState) → AreThose s all
    → AreThose (overlay hand s) (with_hand hand all)
those_over hand s all those name = ap (left_in hand name) (those name) ∙ sym (get-with_hand hand name all)
