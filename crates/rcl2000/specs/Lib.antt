-- The tracker's calls.
pub mod Calls
pub mod Day
pub mod Examples
pub mod Code
