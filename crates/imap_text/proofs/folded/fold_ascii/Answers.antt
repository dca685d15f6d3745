use Rattle.imap_text.proofs.Ascii.{lowered}
use Rattle.imap_text.proofs.folded.fold_ascii.Goals as goal

pub returns : goal.returns
returns c = lowered _ _ _ _ _ _ c.requires c.in_ok-text.ensures.items c.in_ok-extend_from_slice.ensures.items c.as_mut_slice.ensures.value c.as_mut_slice.ensures.len c.make_ascii_lowercase.ensures.after
