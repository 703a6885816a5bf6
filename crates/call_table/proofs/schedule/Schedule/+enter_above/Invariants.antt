-- The numbers above grow fewer.
use Rattle.std.proofs.Common.{◌-◌, ◌^◌}
use Rattle.call_table.proofs.schedule.Schedule.+enter_above.Given as goal

abbrev pub decreases-enter_above : goal.decreases-enter_above
decreases-enter_above l = 2 ^ 32 - l.after
