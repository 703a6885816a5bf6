use Rattle.worker_pool.proofs.desk.Desk.take.Given as goal

-- what is noted of the task as it is taken
abbrev pub ghosts-issue : goal.ghosts-issue
ghosts-issue g a =
    record {
      note = record {
        number = g.T.Turn.number a.of.now.task;
        forked = g.T.Turn.forked a.of.now.task;
        began =
            a.of.now.began;
      };
    }
