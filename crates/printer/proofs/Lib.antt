-- Laws of what the writers leave in a sheet.
pub mod PrintedLaws
pub mod TextLaws
pub mod PrintsLaws
pub mod RuleTextLaws
pub mod RulePrintsLaws
