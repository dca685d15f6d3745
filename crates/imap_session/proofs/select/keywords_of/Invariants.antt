use Rattle.std.proofs.Common.{◌≡◌, drop}
use Rattle.imap_session.specs.Select.{keywords_of, with_keywords}
use Rattle.imap_session.proofs.select.keywords_of.Given as goal

abbrev pub invariant-loop-place : goal.invariant-loop-place
invariant-loop-place l = with_keywords l.keywords (drop l.place l.rows) ≡ keywords_of l.rows
