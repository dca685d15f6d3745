pub mod Below
pub mod Fitting
pub mod Plain
