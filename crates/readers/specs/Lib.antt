-- The day sheet of a reader, who holds a word of users.
pub mod Reader
pub mod Code
