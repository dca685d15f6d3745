use Rattle.std.proofs.Common.{◌∙◌, ap, sym}
use Rattle.std.proofs.lemmas.Str.{IsUtf8-string_bytes}
use Rattle.std.specs.Prelude.{chars}
use Rattle.imap_utf7.specs.Spelling.{encoded}
use Rattle.imap_utf7.proofs.Read.{decoded_none, decoded_some}
use Rattle.imap_utf7.proofs.decoding.decode.Goals as goal

pub returns-then-eq : goal.returns-then-eq
returns-then-eq c =
    let again = c.as_bytes.ensures.value ∙ c.in_ok-spelling.ensures ∙ ap (λ l. encoded (chars l)) c.as_str.ensures.value in
    decoded_some c.args.octets.now _ _ (IsUtf8-string_bytes c.in_ok-text.text) c.in_ok-text.ensures again (sym c.eq.ensures ∙ c.if-eq.true)

pub returns-else-eq : goal.returns-else-eq
returns-else-eq c =
    let again = c.as_bytes.ensures.value ∙ c.in_ok-spelling.ensures ∙ ap (λ l. encoded (chars l)) c.as_str.ensures.value in
    decoded_none c.args.octets.now _ _ (IsUtf8-string_bytes c.in_ok-text.text) c.in_ok-text.ensures again (sym c.eq.ensures ∙ c.if-eq.false)
