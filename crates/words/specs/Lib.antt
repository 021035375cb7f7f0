-- Sets as words, and relations between their items.
pub mod Words
pub mod Relations
