-- What only the code needs: nobody has to believe these definitions to read what the entry points promise.
pub mod Part
pub mod Gathering
pub mod Lines
pub mod Laying
pub mod Together
