-- What a seat keeps, and when it agrees with a journal.
pub mod Keeping
pub mod Settling
