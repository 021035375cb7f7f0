-- Lines that share a walk. Nothing that a reader has to believe: what a line's verdict is, is defined below.
pub mod Code
