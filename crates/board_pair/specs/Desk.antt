-- What is published and what waits to be.
use Rattle.std.specs.Prelude.{List, fold}
use Rattle.board_pair.specs.declared.pair.Posting.{Posting}

-- the value that readers take, and the operations that wait to be published
pub record Desk (P O : Type 0) : Type 0 where
  pub shown : P
  pub waiting : List O

-- the pair after all that waits
abbrev pub last_of : {T : Type 0} → Desk (Posting T) (Posting T) → Posting T
last_of desk = fold (λ before news. news) desk.shown desk.waiting
