-- Choices, the walk along an order, the test of an order, the share.
pub mod Choices
pub mod Walk
pub mod Order
pub mod Share
pub mod Meaning
pub mod Code
