-- Laws of formulas, and the theorems on what the entry points answer.
pub mod DepthLaws
pub mod RebuildLaws
pub mod WrittenLaws
pub mod ReduceLaws
pub mod PartLaws
pub mod Theorems
