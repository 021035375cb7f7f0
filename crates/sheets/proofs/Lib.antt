-- Laws on the lines of a sheet.
pub mod LineLaws
pub mod ShortLaws
pub mod SheetLaws
pub mod TotalLaws
pub mod TurnLaws
pub mod WordLaws
pub mod JudgedLaws
pub mod AlikeLaws
pub mod Demands
