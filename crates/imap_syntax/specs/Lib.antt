-- Rules of the grammar, and the strings, numbers, sets, flags and dates that are read and written by them.
pub mod Rule
pub mod First
pub mod Reading
pub mod Lexical
pub mod Sets
pub mod Writing
pub mod Atoms
pub mod Keywords
pub mod SystemFlags
pub mod Flags
pub mod Moments
pub mod Calendar
pub mod Dates
pub mod Written
pub mod FieldNames
pub mod WrittenDates
pub mod DayNumbers
