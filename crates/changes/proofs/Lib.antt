-- Laws of sessions that open and close.
pub mod EveryLaws
pub mod PassesLaws
pub mod CountLaws
pub mod DueLaws
pub mod ReplacedLaws
pub mod MadeLaws
