pub mod Vanishing
pub mod Changing
pub mod Following
pub mod Fitting
