-- The day sheet: the text of one line, the total, and the sheet as the list of its lines.
pub mod Line
pub mod Total
pub mod Sheet
pub mod Promise
pub mod Code
