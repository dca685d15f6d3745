pub mod Keeping
pub mod Renaming
pub mod Telling
pub mod Entered
pub mod Named
pub mod Whole
