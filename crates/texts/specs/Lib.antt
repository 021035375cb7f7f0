-- Texts: pieces that are written one after another, decimal numbers, and the pieces of a text between separators.
pub mod Decimal
pub mod Pieces
pub mod Scan
pub mod Code
