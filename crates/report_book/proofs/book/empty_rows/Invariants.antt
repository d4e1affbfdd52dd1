use Rattle.std.proofs.Common.{ℕ, ◌≡◌, length, []}
use Rattle.bwe_specs.specs.Lists.{lists_of}
use Rattle.report_book.specs.Book.{row_at}
use Rattle.report_book.proofs.book.empty_rows.Given as goal

abbrev pub invariant-loop : goal.invariant-loop
invariant-loop l = record { count : length l.rows.items ≡ l.counter; empty : (number : ℕ) → row_at (lists_of l.rows.items) number ≡ [] }
