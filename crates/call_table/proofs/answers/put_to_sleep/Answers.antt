-- What a task that goes to sleep leaves as it was.
use Rattle.std.proofs.Common.{refl}
use Rattle.call_table.proofs.Moves.{moves_asleep}
use Rattle.call_table.proofs.answers.put_to_sleep.Goals as goal

pub returns-clause-moves : goal.returns-clause-moves
returns-clause-moves c = λ memory.
    moves_asleep c.args.task memory _ c.args.cells.now _ c.args.key refl c.in_ok-sleep.ensures.ok refl refl refl
    (record {
      registers = λ other apart. refl;
      spaces = λ name apart. refl;
    })
