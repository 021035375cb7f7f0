-- The tables as a reader sees them, who holds a word of users.
pub mod Cut
pub mod Alike
pub mod Code
