-- Laws of pages: their lines, their quantifier parts, the tallies, what is written and what is answered.
pub mod LineLaws
pub mod PartLaws
pub mod SortLaws
pub mod GatherLaws
pub mod SheafLaws
pub mod WholeLaws
pub mod TallyLaws
pub mod WritingLaws
pub mod PageLaws
pub mod WalkLaws
pub mod MetLaws
pub mod ReportLaws
pub mod AlikeLaws
