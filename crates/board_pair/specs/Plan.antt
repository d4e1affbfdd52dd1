-- Which tables belong to a plan, for the crates above.
pub use Rattle.board_log.specs.Plan.{NamesTables, AreOfOnePlan}
