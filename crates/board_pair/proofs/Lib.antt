pub mod CoreReads
