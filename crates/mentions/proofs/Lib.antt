-- Laws of rules that mention sessions and of those that do not.
pub mod StandsLaws
pub mod MentionLaws
pub mod ApartLaws
pub mod UnmentionedLaws
pub mod SameLaws
