use Rattle.std.proofs.Common.{◌≡◌, ◌∙◌, sym, rules}
use Rattle.unicode_normalization.proofs.IterLemmas.{Spells-chars}
use Rattle.imap_rights.proofs.Texts.{read_composed}
use Rattle.imap_rights.proofs.identifier.is_plainly_composed.Goals as goal

pub returns-in-Yes-clause-value : goal.returns-in-Yes-clause-value
returns-in-Yes-clause-value c =
    (λ _. sym (c.is_nfc_quick.ensures.value _ (Spells-chars _ _ c.utf8.text c.chars.ensures.rest)) ∙ c.in-Yes.is, λ _. search rules)

pub returns-in-Yes-clause-read : goal.returns-in-Yes-clause-read
returns-in-Yes-clause-read c = λ _. read_composed c.args.text.now c.utf8.text (c.is_nfc_quick.ensures.yes _ (Spells-chars _ _ c.utf8.text c.chars.ensures.rest) c.in-Yes.is)

pub returns-in_default : goal.returns-in_default
returns-in_default c =
    record {
      value = (
        λ is. absurd (search rules),
        λ quick. absurd (c.in_default.not-Yes (c.is_nfc_quick.ensures.value _ (Spells-chars _ _ c.utf8.text c.chars.ensures.rest) ∙ quick)),
      );
      read = λ is. absurd (search rules);
    }
