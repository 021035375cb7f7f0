-- The search for an order to count along. Nothing that a reader has to believe: what it finds is tested before it is used.
pub mod Code
