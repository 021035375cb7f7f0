-- Laws of the tables as a reader sees them.
pub mod FirstsLaws
pub mod CutLaws
pub mod PassLaws
pub mod AlikeLaws
pub mod SeenLaws
pub mod KeepLaws
pub mod MadeLaws
pub mod TurnLaws
pub mod Examples
pub mod ReplacingLaws
