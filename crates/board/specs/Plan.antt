-- Which tables belong to a plan, for the crates above.
pub use Rattle.board_pair.specs.Plan.{NamesTables, AreOfOnePlan}
