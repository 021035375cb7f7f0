-- Refusals with their numbers, and the answers of the entry points.
pub mod Refusal
pub mod Answer
pub mod Written
pub mod Outcome
