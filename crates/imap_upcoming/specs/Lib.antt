-- What a session is told after a change that is to come.
pub mod Asked
pub mod Changed
pub mod InStep
pub mod Left
pub mod Readable
pub mod Sources
