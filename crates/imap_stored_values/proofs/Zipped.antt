-- Rows that are read in turn.
pub use Rattle.imap_tables.proofs.Zipped.{HasRead, read_end, read_never, read_next, read_start}
