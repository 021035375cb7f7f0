-- Sessions that open and close: the change of tables, and what refuses it.
pub mod Change
pub mod Code
