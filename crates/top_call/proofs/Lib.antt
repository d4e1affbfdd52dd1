pub mod RunsAreLegal
pub mod Statuses
mod WhatRan
pub mod Solved
