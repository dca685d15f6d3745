use Rattle.imap_nfc.proofs.Nfc.{composed-nfc}
use Rattle.imap_nfc.proofs.laws.composed_texts_stay.Goals as goal

pub returns : goal.returns
returns c = composed-nfc
