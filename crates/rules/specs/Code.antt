-- What only the code needs: nobody has to believe these definitions to read what the entry points promise.
pub mod Lengths
pub mod Numbers
pub mod Parsed
pub mod Surplus
pub mod Thing
pub mod Variables
