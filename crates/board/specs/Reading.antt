-- What contracts see of a reader's pass, for the crates above.
pub use Rattle.board_pair.specs.Reading.{Reading, IsNewReader}
