-- Laws of a reader's sheet.
pub mod BeyondLaws
pub mod LineLaws
pub mod SheetLaws
