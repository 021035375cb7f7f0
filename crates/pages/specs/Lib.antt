-- Pages of rules: what judging a page answers, and what its caller sees.
pub mod Page
pub mod Met
pub mod Walks
pub mod Code
