use Rattle.std.proofs.Common.{length}
use denote.Text.{Utf8}
use denote.Shadow.{shadow}
use Rattle.imap_answer.specs.Lines.{IsPlain}
use Rattle.imap_listing.proofs.Hierarchy.{Above}
use Rattle.imap_listing.proofs.levels.push_levels.Given as goal

abbrev pub invariant-loop-above : goal.invariant-loop-above
invariant-loop-above l = record {
  utf8 : shadow (Utf8 l.rest);
  plain : IsPlain l.rest;
  above : Above l.levels.items l.initial.levels.items l.rest l.name;
}

abbrev pub decreases-loop-above : goal.decreases-loop-above
decreases-loop-above l = length l.rest
