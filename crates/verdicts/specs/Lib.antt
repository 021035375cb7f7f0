-- Verdicts: what judging answers.
pub mod Both
pub mod Verdict
pub mod Report
pub mod Code
