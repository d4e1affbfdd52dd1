pub mod TwoPart
