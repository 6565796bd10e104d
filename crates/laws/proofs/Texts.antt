-- Texts and their units, read and written
pub mod UnitsRead
pub mod UnitsWritten
pub mod TextsBack
