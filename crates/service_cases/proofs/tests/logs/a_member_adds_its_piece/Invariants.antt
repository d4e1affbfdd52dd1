use Rattle.board_log.specs.History.{no_history}
use Rattle.service_cases.proofs.tests.logs.a_member_adds_its_piece.Given as goal

-- the roll that was just opened
abbrev pub ghosts-enrolled : goal.ghosts-enrolled
ghosts-enrolled a = record { book = no_history; table = a.opened.table.shared.table_id }
