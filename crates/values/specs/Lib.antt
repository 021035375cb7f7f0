-- Values of terms, truth of rules, and the sets of the variables.
pub mod Items
pub mod Values
pub mod Truth
pub mod Sets
pub mod Ceiling
pub mod Naming
pub mod Code
