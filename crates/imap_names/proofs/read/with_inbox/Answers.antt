use Rattle.std.proofs.Common.{◌≡◌, ◌++◌, Some, None, rules, sym, ap, ◌∙◌, string_bytes}
use Rattle.std.specs.Prelude.{codes}
use Rattle.std.specs.List.{list_any}
use Rattle.imap_names.specs.Text.{components_of, is_delimiter}
use Rattle.imap_names.specs.Valid.{is_inbox_word, held_path}
use Rattle.imap_names.proofs.Parts.{split_first, components_of-front, components_of-whole}
use Rattle.imap_names.proofs.InboxWord.{held_path-front, held_path-alone, held_path-other}
use Rattle.imap_names.proofs.read.with_inbox.Goals as goal

pub returns-then-spells_inbox : goal.returns-then-spells_inbox
returns-then-spells_inbox c =
    let parts = split_first c.as_str.result.now (Some (c.in-Some.first, c.in-Some.more)) c.in-Some.ensures.cases in
    let held : held_path (string_bytes c.args.path) ≡ codes "INBOX/" ++ c.in-Some.more.now =
    held_path-front _ c.in-Some.first.now c.in-Some.more.now (sym c.as_str.ensures.value ∙ parts.0) parts.1 (sym c.if-spells_inbox.ensures) in
    rw held (search rules)

pub returns-else-spells_inbox : goal.returns-else-spells_inbox
returns-else-spells_inbox c =
    let parts = split_first c.as_str.result.now (Some (c.in-Some.first, c.in-Some.more)) c.in-Some.ensures.cases in
    let path : string_bytes c.args.path ≡ _ = sym c.as_str.ensures.value ∙ parts.0 in
    sym (held_path-other _ c.in-Some.first.now _ (ap components_of path ∙ components_of-front c.in-Some.first.now c.in-Some.more.now parts.1) (sym c.if-spells_inbox.ensures))

pub returns-then-spells_inbox-2 : goal.returns-then-spells_inbox-2
returns-then-spells_inbox-2 c =
    let path = c.as_str.ensures.value in
    let whole = split_first c.as_str.result.now None c.in-None.ensures.cases in
    let held : held_path (string_bytes c.args.path) ≡ codes "INBOX" =
    held_path-alone (string_bytes c.args.path) (ap (list_any is_delimiter) (sym path) ∙ whole) (ap is_inbox_word (sym c.as_str-in-None.ensures.value) ∙ sym c.if-spells_inbox-2.ensures) in
    rw held (search rules)

pub returns-else-spells_inbox-2 : goal.returns-else-spells_inbox-2
returns-else-spells_inbox-2 c =
    let path = c.as_str.ensures.value in
    let whole = split_first c.as_str.result.now None c.in-None.ensures.cases in
    sym (held_path-other (string_bytes c.args.path) (string_bytes c.args.path) _ (components_of-whole (string_bytes c.args.path) (ap (list_any is_delimiter) (sym path) ∙ whole))
    (ap is_inbox_word (sym c.as_str-in-None.ensures.value) ∙ sym c.if-spells_inbox-2.ensures))
