-- The fields of the commands that the program `conformance` reads and of its answers.
pub mod Hex
pub mod Numbers
pub mod Code
