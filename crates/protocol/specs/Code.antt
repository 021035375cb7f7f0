-- What only the code needs: nobody has to believe these definitions to read what the entry points promise.
pub mod Taken
