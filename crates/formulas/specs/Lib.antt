-- Rule to formula and formula to rule: what the entry points answer.
pub mod Formulas
pub mod Quantifiers
pub mod Code
