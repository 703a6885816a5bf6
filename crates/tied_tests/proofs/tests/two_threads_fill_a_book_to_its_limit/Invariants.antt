use Rattle.tied_tests.proofs.tests.two_threads_fill_a_book_to_its_limit.Given as goal

-- the tables that were just made
abbrev pub ghosts-limit_of-J-OfHistory : goal.ghosts-limit_of-J-OfHistory
ghosts-limit_of-J-OfHistory g a = record { history = a.history.table.shared.table_id }

abbrev pub ghosts-limit_of-J-OfTies : goal.ghosts-limit_of-J-OfTies
ghosts-limit_of-J-OfTies g a = record { ties = a.ties.table.shared.table_id }
