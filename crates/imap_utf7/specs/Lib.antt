-- Modified UTF-7.
pub mod Laws
pub mod Reading
pub mod Shifts
pub mod Spelling
pub mod Writing
