use Rattle.std.proofs.Common.{◌≡◌, ◌≢◌, ℕ, List, [], length}
use denote.Shadow.{shadow}
use denote.Text.{Utf8}
use Rattle.imap_syntax.specs.Keywords.{AreKeywords}
use Rattle.imap_records.specs.Columns.{keywords_text}
use Rattle.imap_stored_values.proofs.Words.{IsCut}
use Rattle.imap_stored_values.proofs.values.words_in.Given as goal

abbrev pub invariant-loop-word : goal.invariant-loop-word
invariant-loop-word l = record {
  cut : (others : List (List ℕ)) → others ≢ [] → AreKeywords others → keywords_text others ≡ l.text → IsCut others l.words l.rest;
  utf8 : shadow (Utf8 l.rest);
}

abbrev pub decreases-loop-word : goal.decreases-loop-word
decreases-loop-word l = length l.rest
