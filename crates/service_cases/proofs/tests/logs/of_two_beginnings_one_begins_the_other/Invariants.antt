use Rattle.board_log.specs.History.{no_table}
use Rattle.service_cases.proofs.tests.logs.of_two_beginnings_one_begins_the_other.Given as goal

-- the history that was just opened
abbrev pub ghosts-compared : goal.ghosts-compared
ghosts-compared g a = record { book = a.opened; table = no_table }
