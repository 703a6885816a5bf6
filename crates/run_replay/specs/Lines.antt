-- The line that tells what doing a trace again came to.
use Rattle.std.specs.Prelude.{List, ℕ, ◌++◌, codes}
use Rattle.std.specs.Fmt.{decimal}
use Rattle.run_replay.specs.declared.replays.Replayed.{Replayed}
use Rattle.run_replay.specs.declared.replays.Replayed.TheVariants.{Same, Unopened, Step, Text, Beyond}

-- the line of an answer
-- profile
abbrev pub replay_line : Replayed → List ℕ
replay_line (Same entries) = codes "replay: " ++ decimal entries ++ codes " entries done again\n"
replay_line (Unopened task) = codes "replay: task " ++ decimal task ++ codes " is not opened so\n"
replay_line (Step done) = codes "replay: " ++ decimal done ++ codes " entries done again, the next is no step\n"
replay_line (Text same) = codes "replay: the text is another behind " ++ decimal same ++ codes " bytes\n"
replay_line Beyond = codes "replay: too many tasks or entries\n"

-- the exit status of an answer
-- profile
abbrev pub replay_status : Replayed → ℕ
replay_status (Same entries) = 0
replay_status (Unopened task) = 1
replay_status (Step done) = 1
replay_status (Text same) = 1
replay_status Beyond = 1
