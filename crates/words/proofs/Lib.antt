-- The laws of words.
pub mod WordsLaws
pub mod RelationLaws
pub mod BitsLaws
pub mod LoopLaws
pub mod OutsideLaws
