pub mod Tiered
pub mod Tables
pub mod Fillings
pub mod Laws
pub mod TierLaws
pub mod Places
