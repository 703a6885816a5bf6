-- Wait statuses.
use Rattle.std.specs.Prelude.{ℕ, ◌*◌}
use Rattle.task_table.specs.declared.task.Status.{Status}
use Rattle.task_table.specs.declared.task.Status.TheVariants.{Exited, Killed}

-- the number that stands for a status: the code in the second byte, or the signal in the low seven bits
-- wait4(2), WEXITSTATUS, WTERMSIG
abbrev pub status_number : Status → ℕ
status_number (Exited code) = code * 256
status_number (Killed signal) = signal
