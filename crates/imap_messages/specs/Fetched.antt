-- What is sent of a message (RFC 9051, sections 6.4.5 and 7.5.2; RFC 7162, section 3.1.4.2).
use Rattle.std.specs.Prelude.{ℕ, Bool, true, false, ◌||◌, List, [], ◌∷◌, length, map, Option, Some, None}
use Rattle.std.specs.Prelude.{if◌then◌else◌, refl}
use Rattle.std.specs.Coded.{Coded, code_by, coded×, coded_bool, coded_list}
use Rattle.imap_mailbox.specs.Rows.{Row}
use Rattle.imap_print.specs.declared.fetch.FetchedItems.{FetchedItems}
use Rattle.imap_print.specs.declared.flag.FlagSet.{FlagSet}
use Rattle.imap_print.specs.declared.response.Response.{Response}
use Rattle.imap_print.specs.declared.response.Response.TheVariants as response
use Rattle.imap_query.specs.contracts.fetch.BodySection.{the_row as body_row}
use Rattle.imap_query.specs.declared.fetch.BodySection.{BodySection}
use Rattle.imap_query.specs.declared.fetch.FetchItem.{FetchItem}
use Rattle.imap_query.specs.declared.fetch.FetchItem.TheVariants as item
use Rattle.imap_targets.specs.Notices.{flag_set}
use Rattle.imap_messages.specs.BodySections.{fetched_section, with_section}

-- ---- what is wanted of each message

pub record Wanted : Type 0 where
  pub uid : Bool
  pub flags : Bool
  pub internal_date : Bool
  pub size : Bool
  pub mod_seq : Bool
  pub sections : List BodySection

abbrev pub wanted_code : Coded Wanted
wanted_code =
    code_by (Bool × (Bool × (Bool × (Bool × (Bool × List BodySection)))))
    (coded× coded_bool (coded× coded_bool (coded× coded_bool (coded× coded_bool
    (coded× coded_bool (coded_list body_row.coded))))))
    (λ w. (w.uid, (w.flags, (w.internal_date, (w.size, (w.mod_seq, w.sections))))))
    (λ p. record {
      uid = p.0;
      flags = p.1.0;
      internal_date = p.1.1.0;
      size = p.1.1.1.0;
      mod_seq = p.1.1.1.1.0;
      sections = p.1.1.1.1.1;
    }) (λ _. refl)

abbrev pub with_item : Wanted → FetchItem → Wanted
with_item wanted item.Uid = record wanted { uid = true }
with_item wanted item.Flags = record wanted { flags = true }
with_item wanted item.InternalDate = record wanted { internal_date = true }
with_item wanted item.Rfc822Size = record wanted { size = true }
with_item wanted item.ModSeq = record wanted { mod_seq = true }
with_item wanted (item.Section body) = record wanted { sections = with_section wanted.sections body }
with_item wanted item.Unserved = wanted

abbrev pub with_items : Wanted → List FetchItem → Wanted
with_items wanted [] = wanted
with_items wanted (i ∷ items) = with_items (with_item wanted i) items

-- UID FETCH sends the UID, and a session that enabled CONDSTORE is sent the mod-sequence, without being asked
abbrev pub wanted_of : (by_uid condstore : Bool) → List FetchItem → Wanted
wanted_of by_uid condstore items = with_items (record {
  uid = by_uid;
  flags = false;
  internal_date = false;
  size = false;
  mod_seq = condstore;
  sections = [];
}) items

-- ---- what is sent

abbrev pub if_wanted : {X : Type 0} → Bool → X → Option X
if_wanted wanted x = if wanted then Some x else None

abbrev pub flags_shown : Row → FlagSet
flags_shown row = flag_set row.flags row.seen

abbrev pub size_shown : Row → ℕ
size_shown row = length row.octets

-- FLAGS is sent too if the command has set `\Seen`
abbrev pub fetched_items : Wanted → (set : Bool) → Row → FetchedItems
fetched_items wanted set row = record {
  uid = if_wanted wanted.uid row.uid;
  flags = if_wanted (wanted.flags || set) (flags_shown row);
  internal_date = if_wanted wanted.internal_date row.date;
  size = if_wanted wanted.size (size_shown row);
  mod_seq = if_wanted wanted.mod_seq row.number;
  sections = map (fetched_section row.octets) wanted.sections;
}

abbrev pub fetch_line : Wanted → (set : Bool) → (number : ℕ) → Row → Response
fetch_line wanted set number row = response.Fetch number (fetched_items wanted set row)
