use Rattle.book_times.proofs.run.Given as goal

-- the tables that were just made
abbrev pub ghosts-measure-J-OfHistory : goal.ghosts-measure-J-OfHistory
ghosts-measure-J-OfHistory g a = record { history = a.history.table.shared.table_id }

abbrev pub ghosts-measure-J-OfTies : goal.ghosts-measure-J-OfTies
ghosts-measure-J-OfTies g a = record { ties = a.ties.table.shared.table_id }
