-- Laws of verdicts: tables that are read, rules that are parsed, ruling, writing; what a verdict reports.
pub mod OutcomeLaws
pub mod VerdictLaws
pub mod RulingLaws
pub mod SheetLaws
pub mod LoadedLaws
pub mod HeldLaws
pub mod ParsedLaws
pub mod TurnLaws
pub mod CountedLaws
pub mod JudgedLaws
pub mod ReportLaws
pub mod AlikeLaws
pub mod BothLaws
pub mod GivenLaws
