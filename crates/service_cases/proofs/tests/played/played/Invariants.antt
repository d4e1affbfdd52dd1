use Rattle.std.proofs.Common.{◌≡◌}
use Rattle.report_book.specs.Small.{small_table}
use Rattle.service_cases.proofs.tests.played.played.Given as goal

-- the tables of two tasks, for one reporter and one link
abbrev pub ghosts-on_profile : goal.ghosts-on_profile
ghosts-on_profile g a = record { belongs = λ reports table. table ≡ small_table 2 reports; reporters = 1; tasks = 2; links = 1 }
