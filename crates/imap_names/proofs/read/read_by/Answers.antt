use Rattle.std.proofs.Common.{◌≡◌, Result, string_bytes, option_copied, subst, sym, ap, ◌∙◌}
use Rattle.std.proofs.lemmas.Str.{IsUtf8-string_bytes}
use Rattle.std.specs.Prelude.{chars, IsUtf8}
use Rattle.imap_names.specs.declared.error.NameError.{NameError}
use Rattle.imap_names.specs.Answer.{AnswersIfMemory}
use Rattle.imap_names.specs.Name.{Name}
use Rattle.imap_names.specs.Reading.{name_at, read_by}
use Rattle.imap_nfc.specs.Nfc.{composed}
use Rattle.imap_names.specs.Valid.{is_prefix_word}
use Rattle.imap_nfc.proofs.Nfc.{is_nfc-composed}
use Rattle.imap_names.proofs.ReadLaws.{read_by-text, read_by-no_text, read_by-prefix_word, IsUtf8-prefix_word}
use Rattle.imap_names.proofs.read.read_by.Goals as goal

pub returns-in_default-clause-read : goal.returns-in_default-clause-read
returns-in_default-clause-read c _ = read_by-no_text _ c.args.text.now c.in_default.ensures.cases.0

pub returns-in_default-clause-bare : goal.returns-in_default-clause-bare
returns-in_default-clause-bare c word = absurd (c.in_default.ensures.cases.0 (IsUtf8-prefix_word c.args.text.now word))

pub returns-then-is_prefix_word-clause-read : goal.returns-then-is_prefix_word-clause-read
returns-then-is_prefix_word-clause-read c _ =
    read_by-prefix_word (option_copied c.args.own) c.args.text.now
    (ap is_prefix_word (sym c.in-Ok.ensures.cases.0) ∙ sym c.is_prefix_word.ensures ∙ c.if-is_prefix_word.true)

pub name_at-requires : goal.name_at-requires
name_at-requires c =
    is_nfc-composed (string_bytes c.in_ok-path.path) (chars c.parts_of-parts.result.path.now) (IsUtf8-string_bytes c.in_ok-path.path) c.in_ok-path.ensures

pub returns-clause-read : goal.returns-clause-read
returns-clause-read c =
    let own = option_copied c.args.own in
    let text = c.in-Ok.ensures.cases.0 in
    let parts = c.parts_of-parts.ensures in
    let meant : read_by own c.args.text.now ≡ name_at own c.parts_of-parts.result.namespace c.as_str.result.now (string_bytes c.in_ok-path.path) =
    ap (read_by own) (sym text)
    ∙ read_by-text own c.in-Ok.text.now c.as_str.result.now (string_bytes c.in_ok-path.path) (subst IsUtf8 (sym text) c.in-Ok.ensures.cases.1)
    (c.as_str.ensures.value ∙ c.in_ok-owner.ensures ∙ ap composed parts.owner)
    (c.in_ok-path.ensures ∙ ap composed parts.path)
    ∙ ap (λ n. name_at own n c.as_str.result.now (string_bytes c.in_ok-path.path)) (sym parts.namespace) in
    subst (λ (m : Result Name NameError). AnswersIfMemory c.name_at.result m) (sym meant) c.name_at.ensures.read
