mod Configured
mod OfGroup
