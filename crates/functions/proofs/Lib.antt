-- The laws of the functions.
pub mod SectionLaws
pub mod FunctionsLaws
pub mod UserLaws
pub mod DoneLaws
