pub mod Agreed
pub mod LetGo
pub mod Passed
pub mod Sending
