-- The command of the words, as the kernel's definitions see it.
use Rattle.sentry_run.specs.declared.words.Command.{Command}
use Rattle.kernel_model.specs.Words.{Command as Run}

-- the run that a command asks for: its mount file's name as bytes
-- profile
abbrev pub command_of : Command → Run
command_of c = record { mounts = c.mounts.now; workers = c.workers; trace = c.trace }
