-- Laws of the rule language: read what was written, equal texts are equal rules, lengths.
pub mod BytesLaws
pub mod TermLaws
pub mod Fuel
pub mod RuleLaws
pub mod Closed
pub mod PartLaws
pub mod Length
pub mod ChoosingLaws
pub mod Slices
pub mod ArenaLaws
pub mod NameLaws
pub mod NumberLaws
pub mod ReadingLaws
pub mod TestLaws
pub mod FormulaLaws
pub mod ClauseLaws
