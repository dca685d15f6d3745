-- What STATUS asks for (RFC 9051, section 9).
use Rattle.imap_syntax.specs.Rule.{Rule, keyword}
use Rattle.imap_syntax.specs.Lexical.{is_astring_char}
use Rattle.imap_query.specs.declared.status.StatusItem.{StatusItem}
use Rattle.imap_query.specs.declared.status.TheConstants.{STATUS_ITEMS}
use Rattle.imap_query.specs.StatusWords.{status_name}

-- `status-att`
abbrev pub status_item : Rule StatusItem
status_item = keyword is_astring_char status_name STATUS_ITEMS
