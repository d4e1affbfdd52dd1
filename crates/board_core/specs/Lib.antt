pub mod CoreRun
pub mod Laws
pub mod Core
