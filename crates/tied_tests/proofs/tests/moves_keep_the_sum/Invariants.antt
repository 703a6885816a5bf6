use Rattle.tied_tests.proofs.tests.moves_keep_the_sum.Given as goal

-- the tables that were just made
abbrev pub ghosts-moves_of-J-OfHistory : goal.ghosts-moves_of-J-OfHistory
ghosts-moves_of-J-OfHistory g a = record { history = a.history.table.shared.table_id }

abbrev pub ghosts-moves_of-J-OfTies : goal.ghosts-moves_of-J-OfTies
ghosts-moves_of-J-OfTies g a = record { ties = a.ties.table.shared.table_id }
