-- Laws of lines that share a walk: their rules in one tree, one line after the other at a place of the walk, the words of the lines, the counts.
pub mod ClausesLaws
pub mod GatheringLaws
pub mod LineLaws
pub mod WalkLaws
pub mod StandingLaws
pub mod LayingLaws
pub mod TogetherLaws
pub mod FailedLaws
pub mod AddedLaws
pub mod LookedLaws
