-- One rule's verdict, kept current while sessions open and close.
pub mod State
pub mod Code
