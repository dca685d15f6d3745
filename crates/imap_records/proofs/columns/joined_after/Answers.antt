use Rattle.std.proofs.Common.{rules, ◌≡◌, ◌++◌, sym, ap, subst, ◌∙◌}
use Rattle.std.specs.Str.{IsAscii}
use Rattle.imap_syntax.specs.Atoms.{IsAtom}
use Rattle.imap_records.specs.Columns.{words_behind}
use Rattle.imap_records.proofs.Texts.{atom_ascii, joined_is}
use Rattle.imap_records.proofs.columns.joined_after.Goals as goal

pub returns-clause-words : goal.returns-clause-words
returns-clause-words c =
    let first : c.extend_from_slice.new.self.items ≡ c.args.first.now = search rules in
    c.in_ok-push_words.ensures.words ∙ ap (λ t. t ++ words_behind c.args.more.now) first ∙ sym (joined_is c.args.first.now c.args.more.now)

pub returns-clause-ascii : goal.returns-clause-ascii
returns-clause-ascii c =
    let first : c.extend_from_slice.new.self.items ≡ c.args.first.now = search rules in
    c.in_ok-push_words.ensures.ascii (subst IsAscii (sym first) (atom_ascii c.args.first.now (subst IsAtom c.as_slice.ensures.octets c.as_slice.ensures.valid)))
