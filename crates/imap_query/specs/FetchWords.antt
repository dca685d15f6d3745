-- The words of FETCH, in capitals (RFC 9051, section 9; RFC 7162, section 7).
use Rattle.std.specs.Prelude.{ℕ, Bool, ◌==◌, ◌||◌, List, codes}
use Rattle.std.specs.Char.{is_ascii_alphabetic}
use Rattle.imap_query.specs.declared.fetch_word.FetchWord.{FetchWord}
use Rattle.imap_query.specs.declared.fetch_word.FetchWord.TheVariants as fetch_word
use Rattle.imap_query.specs.declared.fetch_word.SectionWord.{SectionWord}
use Rattle.imap_query.specs.declared.fetch_word.SectionWord.TheVariants as section_word
use Rattle.imap_query.specs.declared.fetch_word.ModifierWord.{ModifierWord}
use Rattle.imap_query.specs.declared.fetch_word.ModifierWord.TheVariants as modifier_word

-- what the words of sections are made of: letters and .
abbrev pub is_section_char : ℕ → Bool
is_section_char b = is_ascii_alphabetic b || b == 46

abbrev pub fetch_name : FetchWord → List ℕ
fetch_name fetch_word.All = codes "ALL"
fetch_name fetch_word.Binary = codes "BINARY"
fetch_name fetch_word.BinaryPeek = codes "BINARY.PEEK"
fetch_name fetch_word.BinarySize = codes "BINARY.SIZE"
fetch_name fetch_word.Body = codes "BODY"
fetch_name fetch_word.BodyPeek = codes "BODY.PEEK"
fetch_name fetch_word.BodyStructure = codes "BODYSTRUCTURE"
fetch_name fetch_word.Envelope = codes "ENVELOPE"
fetch_name fetch_word.Fast = codes "FAST"
fetch_name fetch_word.Flags = codes "FLAGS"
fetch_name fetch_word.Full = codes "FULL"
fetch_name fetch_word.InternalDate = codes "INTERNALDATE"
fetch_name fetch_word.ModSeq = codes "MODSEQ"
fetch_name fetch_word.Rfc822Size = codes "RFC822.SIZE"
fetch_name fetch_word.Uid = codes "UID"

abbrev pub section_name : SectionWord → List ℕ
section_name section_word.Fields = codes "HEADER.FIELDS"
section_name section_word.FieldsNot = codes "HEADER.FIELDS.NOT"
section_name section_word.Header = codes "HEADER"
section_name section_word.Mime = codes "MIME"
section_name section_word.Text = codes "TEXT"

abbrev pub modifier_name : ModifierWord → List ℕ
modifier_name modifier_word.ChangedSince = codes "CHANGEDSINCE"
modifier_name modifier_word.Vanished = codes "VANISHED"
