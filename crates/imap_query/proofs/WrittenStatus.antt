-- Items of STATUS are written as they are spelt.
use Rattle.imap_syntax.specs.Lexical.{is_astring_char}
use Rattle.imap_syntax.specs.Writing.{word}
use Rattle.imap_syntax.proofs.Writing.{Writes, word_writes}
use Rattle.imap_query.specs.declared.status.TheConstants.{STATUS_ITEMS}
use Rattle.imap_query.specs.StatusWords.{status_name}
use Rattle.imap_query.specs.Status.{status_item}

pub status_item_writes : Writes status_item (word status_name)
status_item_writes = word_writes is_astring_char status_name STATUS_ITEMS
