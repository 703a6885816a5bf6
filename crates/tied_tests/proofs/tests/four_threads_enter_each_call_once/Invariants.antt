use Rattle.tied_tests.proofs.tests.four_threads_enter_each_call_once.Given as goal

-- the tables that were just made
abbrev pub ghosts-race_of-J-OfHistory : goal.ghosts-race_of-J-OfHistory
ghosts-race_of-J-OfHistory g a = record { history = a.history.table.shared.table_id }

abbrev pub ghosts-race_of-J-OfTies : goal.ghosts-race_of-J-OfTies
ghosts-race_of-J-OfTies g a = record { ties = a.ties.table.shared.table_id }
