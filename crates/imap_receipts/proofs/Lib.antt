pub mod Counted
pub mod LetGo
