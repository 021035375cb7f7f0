-- Laws of judging by a plan: filling it in, counting by it, orders, the first breaking choice.
pub mod PlanningLaws
pub mod PlannedLaws
pub mod CountingLaws
pub mod DescendLaws
pub mod WalkingLaws
pub mod NothingLaws
