-- Laws of states, and of the sessions in them.
pub mod LayLaws
pub mod RowLaws
pub mod SplitLaws
pub mod CurrentLaws
pub mod StateLaws
pub mod StepLaws
