use Rattle.std.proofs.Common.{length, arith, ap}
use Rattle.report_book.specs.Book.{Book}
use Rattle.service_cases.proofs.tests.books.the_last_report_of_a_prefix_counts.Goals as goal

pub push-requires-2 : goal.push-requires-2
push-requires-2 g c =
    let links = ap (λ (book : Book). length book.capacities) c.in_ok-push.ensures.ok in
    let links' = ap (λ (book : Book). length book.capacities) c.in_ok-book.ensures in
    record { fit = c.capacity.ensures c.push.new.self.tasks (length c.push.new.self.capacities) (omega (arith, links, links')) }

pub push-requires-4 : goal.push-requires-4
push-requires-4 g c =
    let tasks = ap (λ (book : Book). book.tasks) c.in_ok-push.ensures.ok in
    let tasks' = ap (λ (book : Book). book.tasks) c.in_ok-book.ensures in
    let tasks'' = ap (λ (book : Book). book.tasks) c.in_ok-push-2.ensures.ok in
    let tasks''' = ap (λ (book : Book). book.tasks) c.in_ok-push-3.ensures.ok in
    record { fit = c.demand-3.ensures c.push-3.new.self.tasks (length c.push-3.new.self.capacities) (omega (arith, tasks, tasks', tasks'', tasks''')) }
