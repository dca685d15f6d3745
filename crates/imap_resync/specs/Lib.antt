-- What a client that was away is told: the messages that went, and SELECT and EXAMINE with parameters.
pub mod UidSet
pub mod Vanished
pub mod Select
pub mod Client
