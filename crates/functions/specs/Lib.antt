-- What a row of Done says; the functions themselves are defined beside the tables.
pub mod Done
