use Rattle.std.proofs.Common.{refl}
use Rattle.std.specs.Prelude.{chars}
use Rattle.std.proofs.lemmas.Str.{IsUtf8-from_is_utf8}
use Rattle.imap_nfc.specs.Nfc.{composed}
use Rattle.imap_nfc.proofs.Nfc.{is_nfc-composed}
use Rattle.imap_nfc.proofs.laws.texts_are_composed.Goals as goal

pub returns : goal.returns
returns c = λ text utf8. is_nfc-composed (composed text) (chars text) (IsUtf8-from_is_utf8 (composed text) utf8) refl
