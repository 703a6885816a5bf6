use Rattle.tied_tests.proofs.tests.a_look_goes_stale_and_the_book_is_full.Given as goal

-- the tables that were just made
abbrev pub ghosts-turns_of-J-OfHistory : goal.ghosts-turns_of-J-OfHistory
ghosts-turns_of-J-OfHistory g a = record { history = a.history.table.shared.table_id }

abbrev pub ghosts-turns_of-J-OfTies : goal.ghosts-turns_of-J-OfTies
ghosts-turns_of-J-OfTies g a = record { ties = a.ties.table.shared.table_id }
