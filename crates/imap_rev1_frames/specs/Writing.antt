-- A command that is written word by word.
use Rattle.std.specs.Prelude.{◌≡◌, ℕ, List, ◌++◌}
use Rattle.imap_rev1_frames.specs.declared.asked.Asked.{Asked}
use Rattle.imap_rev1_frames.specs.declared.scan.Scan.{Scan}
use Rattle.imap_rev1_frames.specs.declared.writing.Writing.{Writing}
use Rattle.imap_rev1_frames.specs.Scan.{written_from, asked_from, left_from}

-- what is written once these octets have come, which are the last of the line
abbrev pub all_written : Writing → List ℕ → List ℕ
all_written w octets = w.out.items ++ written_from w.held w.scan w.word.items octets

abbrev pub all_asked : Writing → List ℕ → List Asked
all_asked w octets = w.asked.items ++ asked_from w.held w.scan w.word.items octets

abbrev pub scan_after : Writing → List ℕ → Scan
scan_after w octets = left_from w.held w.scan w.word.items octets

-- What `front` comes to after `old`, that `rest` comes to after `new`.
pub record GoesOn (front rest : List ℕ) (old new : Writing) : Type 0 where
  pub out : all_written new rest ≡ all_written old front
  pub asked : all_asked new rest ≡ all_asked old front
  pub scan : scan_after new rest ≡ scan_after old front
