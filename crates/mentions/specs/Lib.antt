-- Which rules mention sessions.
pub mod Mention
