-- What a turn gives back: its task, the child of a fork, and what the task tells of it from then on.
use Rattle.std.specs.Prelude.{List, [], ◌∷◌, Option as Maybe, Some, None}
use Rattle.pool_turn.specs.declared.turn.TurnEnd.{TurnEnd}
use Rattle.pool_turn.specs.declared.turn.TurnEnd.TheVariants.{Ready, Forked, Parked, Ended, Full, Memory}
use Rattle.pool_turn.specs.declared.turn.Last.{Last}
use Rattle.pool_turn.specs.declared.turn.Last.TheVariants.{New, GoesOn, Waits, Over, NoRoom}

-- the task that a turn gives back
-- profile
abbrev pub task_of : {K : Type 0} → TurnEnd K → Maybe K
task_of (Ready t) = Some t
task_of (Forked t c) = Some t
task_of (Parked t) = Some t
task_of (Ended t) = Some t
task_of (Full t) = Some t
task_of Memory = None

-- the child that a turn makes, if it makes one
-- profile
abbrev pub children_of : {K : Type 0} → TurnEnd K → List K
children_of (Ready t) = []
children_of (Forked t c) = c ∷ []
children_of (Parked t) = []
children_of (Ended t) = []
children_of (Full t) = []
children_of Memory = []

-- what the task of a turn tells of it
-- profile
abbrev pub last_of : {K : Type 0} → TurnEnd K → Last
last_of (Ready t) = GoesOn
last_of (Forked t c) = GoesOn
last_of (Parked t) = Waits
last_of (Ended t) = Over
last_of (Full t) = NoRoom
last_of Memory = New
