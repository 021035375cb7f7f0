-- What only the code needs: nobody has to believe these definitions to read what the entry points promise.
pub mod Tally
pub mod Among
pub mod Clauses
pub mod Summed
pub mod Context
pub mod Kept
pub mod Turning
