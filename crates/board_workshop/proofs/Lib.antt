pub mod Absorbing
