-- What each command is answered, one file a group of commands.
pub mod Session
