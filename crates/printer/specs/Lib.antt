-- What the writers of terms, tests, clauses, rules and formulas leave in a sheet.
pub mod Code
