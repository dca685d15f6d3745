-- Messages in three tables, and the same as if they stood in one.
pub mod Split
pub mod Parts
pub mod Laws
pub mod Joining
pub mod Up
pub mod Taking
pub mod Copying
pub mod Adopting
pub mod Loading
pub mod Unique
pub mod OneTable
pub mod Writing
pub mod Going
