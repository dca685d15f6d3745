-- The mailboxes that rows hold.
pub mod Parts
pub mod Holding
