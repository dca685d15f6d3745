use Rattle.std.proofs.Common.{◌∙◌, sym}
use Rattle.imap_names.proofs.UserLaws.{is_user_name-nfc}
use Rattle.imap_names.proofs.user_name.spells_user.Goals as goal

pub returns-then-composed : goal.returns-then-composed
returns-then-composed c =
    c.has_user_form.ensures ∙ sym (is_user_name-nfc c.args.text.now c.utf8.text (c.in_ok-composed.ensures.answer.0 c.if-composed.true))
