-- Laws of the checks on a rule: kinds, variables, lengths.
pub mod TableLaws
pub mod NodeLaws
pub mod KindLaws
pub mod SurplusLaws
pub mod VariableLaws
pub mod ShapeLaws
pub mod WalkLaws
pub mod LengthLaws
pub mod FormulaLengthLaws
pub mod AcceptLaws
pub mod ChoiceLaws
pub mod CheckedLaws
pub mod ParseLaws
pub mod Examples
