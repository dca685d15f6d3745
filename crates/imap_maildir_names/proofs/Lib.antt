pub mod Found
pub mod Paths
pub mod Pushes
pub mod RoundTrip
