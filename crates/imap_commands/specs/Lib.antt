-- Commands: their names, what spells each request, and the one spelling that is written.
pub mod Verb
pub mod commands
pub mod Reading
pub mod Spells
pub mod Writing
pub mod WrittenFrames
pub mod OneCommand
