-- Seats at a host.
pub mod Seats
-- what those above say of halls
pub use Rattle.imap_serve.specs.Hall
