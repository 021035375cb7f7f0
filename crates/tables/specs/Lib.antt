-- The tables: their record, the functions of Figure 2 on them, the checks on the whole, leavers as sentences, what accepted tables are,
-- reading them from bytes, their bytes, the flat words that hold them, and what the readers in code give.
pub mod Tables
pub mod Functions
pub mod Checks
pub mod Leavers
pub mod Accepted
pub mod Bytes
pub mod Reading
pub mod Encode
pub mod Flat
pub mod Code
