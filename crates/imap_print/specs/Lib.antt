-- Responses as they are printed, their sets and flags, and what a client reads of them.
pub mod Literals
pub mod Words
pub mod Strings
pub mod Sets
pub mod Flags
pub mod Fetched
pub mod Mailboxes
pub mod Printed
pub mod Ranges
pub mod ReadBack
pub mod Lines
pub mod Pieces
