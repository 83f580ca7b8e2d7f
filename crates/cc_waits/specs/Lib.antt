pub mod Line
pub mod WrongLines
pub mod Bell
pub mod WrongBells
