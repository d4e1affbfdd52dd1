use Rattle.std.proofs.Common.{◌≡◌, length}
use Rattle.service_cases.proofs.tests.books.a_book_is_full_at_the_limit.Given as goal

abbrev pub invariant-loop-place : goal.invariant-loop-place
invariant-loop-place g l = record { tasks : l.book.tasks ≡ 1; links : length l.book.capacities ≡ 1 }
