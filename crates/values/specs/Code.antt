-- What only the code needs: nobody has to believe these definitions to read what the entry points promise.
pub mod Cache
pub mod Clauses
pub mod Levels
pub mod Nodes
pub mod Plan
pub mod Multiplied
