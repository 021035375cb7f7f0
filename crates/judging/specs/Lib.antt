-- Judging by a plan. Nothing that a reader has to believe: the walk along an order is defined in walks.
pub mod Code
