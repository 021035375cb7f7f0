-- Which rules are accepted: kinds, and the refusals 11 to 15.
pub mod Kind
pub mod Accept
pub mod Code
