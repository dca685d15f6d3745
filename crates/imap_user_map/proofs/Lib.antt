pub mod Changed
pub mod Entries
pub mod KeptValues
pub mod Within
