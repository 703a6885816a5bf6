use Rattle.tied_tests.proofs.tests.keys_end_below_2_to_the_63.Given as goal

-- the tables that were just made
abbrev pub ghosts-keys_of-J-OfHistory : goal.ghosts-keys_of-J-OfHistory
ghosts-keys_of-J-OfHistory g a = record { history = a.history.table.shared.table_id }

abbrev pub ghosts-keys_of-J-OfTies : goal.ghosts-keys_of-J-OfTies
ghosts-keys_of-J-OfTies g a = record { ties = a.ties.table.shared.table_id }
