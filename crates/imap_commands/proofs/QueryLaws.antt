-- The laws of FETCH and SEARCH.
use Rattle.std.proofs.Common.{refl}
use Rattle.imap_syntax.specs.declared.set.Numbering.{Numbering}
use Rattle.imap_syntax.proofs.RuleLaws.{Lawful, ended_lawful, then_lawful, then_follows, give_lawful, give_follows, octet_lawful, octet_then_follows}
use Rattle.imap_syntax.proofs.Ends.{AtCr}
use Rattle.imap_syntax.proofs.Sets.{message_set_lawful}
use Rattle.imap_query.proofs.Fetching.{fetch_items_lawful, modifiers_lawful, modifiers_follow}
use Rattle.imap_query.proofs.Searching as query
use Rattle.imap_commands.specs.declared.command.Command.TheVariants as command
use Rattle.imap_commands.specs.commands.Messages.{fetch, search}

pub fetch_lawful : (numbering : Numbering) → Lawful AtCr (fetch numbering)
fetch_lawful numbering =
    ended_lawful (octet_lawful 32) (λ u.
    then_lawful message_set_lawful
    (λ messages. ended_lawful (octet_lawful 32) (λ v.
    then_lawful fetch_items_lawful
    (λ items. then_lawful modifiers_lawful (λ all. give_lawful _) (λ all. give_follows _))
    (λ items. then_follows modifiers_follow (λ all. give_follows _))))
    (λ messages. octet_then_follows _ 32 (λ rest. refl)))

pub search_lawful : (numbering : Numbering) → Lawful AtCr (search numbering)
search_lawful numbering = query.search_lawful (command.Search numbering)
