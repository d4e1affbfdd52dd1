mod Versions
mod LongInputs
