-- The rule language: texts, terms, rules and formulas; how they are written and how they are read.
pub mod Bytes
pub mod Term
pub mod Rule
pub mod Choosing
pub mod Code
