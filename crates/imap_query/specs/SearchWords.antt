-- The words of SEARCH, in capitals (RFC 9051, section 9; RFC 7162, section 7).
use Rattle.std.specs.Prelude.{ℕ, List, codes}
use Rattle.imap_query.specs.declared.search.SearchReturn.{SearchReturn}
use Rattle.imap_query.specs.declared.search.SearchReturn.TheVariants as search_return
use Rattle.imap_query.specs.declared.search_word.SearchWord.{SearchWord}
use Rattle.imap_query.specs.declared.search_word.SearchWord.TheVariants as search_word
use Rattle.imap_query.specs.declared.search_word.EntryType.{EntryType}
use Rattle.imap_query.specs.declared.search_word.EntryType.TheVariants as entry_type

abbrev pub search_return_name : SearchReturn → List ℕ
search_return_name search_return.Min = codes "MIN"
search_return_name search_return.Max = codes "MAX"
search_return_name search_return.All = codes "ALL"
search_return_name search_return.Count = codes "COUNT"
search_return_name search_return.Save = codes "SAVE"

abbrev pub search_name : SearchWord → List ℕ
search_name search_word.All = codes "ALL"
search_name search_word.Answered = codes "ANSWERED"
search_name search_word.Bcc = codes "BCC"
search_name search_word.Before = codes "BEFORE"
search_name search_word.Body = codes "BODY"
search_name search_word.Cc = codes "CC"
search_name search_word.Deleted = codes "DELETED"
search_name search_word.Draft = codes "DRAFT"
search_name search_word.Flagged = codes "FLAGGED"
search_name search_word.From = codes "FROM"
search_name search_word.Header = codes "HEADER"
search_name search_word.Keyword = codes "KEYWORD"
search_name search_word.Larger = codes "LARGER"
search_name search_word.ModSeq = codes "MODSEQ"
search_name search_word.Not = codes "NOT"
search_name search_word.On = codes "ON"
search_name search_word.Or = codes "OR"
search_name search_word.Seen = codes "SEEN"
search_name search_word.SentBefore = codes "SENTBEFORE"
search_name search_word.SentOn = codes "SENTON"
search_name search_word.SentSince = codes "SENTSINCE"
search_name search_word.Since = codes "SINCE"
search_name search_word.Smaller = codes "SMALLER"
search_name search_word.Subject = codes "SUBJECT"
search_name search_word.Text = codes "TEXT"
search_name search_word.To = codes "TO"
search_name search_word.Uid = codes "UID"
search_name search_word.Unanswered = codes "UNANSWERED"
search_name search_word.Undeleted = codes "UNDELETED"
search_name search_word.Undraft = codes "UNDRAFT"
search_name search_word.Unflagged = codes "UNFLAGGED"
search_name search_word.Unkeyword = codes "UNKEYWORD"
search_name search_word.Unseen = codes "UNSEEN"

abbrev pub entry_type_name : EntryType → List ℕ
entry_type_name entry_type.All = codes "ALL"
entry_type_name entry_type.Private = codes "PRIV"
entry_type_name entry_type.Shared = codes "SHARED"
