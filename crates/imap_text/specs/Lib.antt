-- Definitions of lines, header and text, fields, and folds.
pub mod Lines
pub mod Sections
pub mod Fields
pub mod Found
pub mod Folds
pub mod Places
pub mod Runs
