-- The commands of IMAP4rev1.
pub mod Asked
pub mod Enable
pub mod Named
pub mod Names
pub mod Part
pub mod Rewritten
pub mod Scan
pub mod Writing
