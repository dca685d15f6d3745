use Rattle.imap_rev1.proofs.Fetches.{asks_sections, asks_section, asks_macro, tells_as_asked, tells_label, tells_listed_label, prints_unlabelled, prints_notices}
use Rattle.imap_rev1.proofs.laws.tells_labels.Goals as goal

pub returns : goal.returns
returns c = record {
  sections = asks_sections;
  section = asks_section;
  macros = asks_macro;
  as_asked = tells_as_asked;
  label = tells_label;
  listed = tells_listed_label;
  unlabelled = prints_unlabelled;
  notices = prints_notices;
}
