-- Each response is printed as one line.
use Rattle.std.proofs.Common.{◌≡◌, ℕ, ◌/◌, ◌%◌, ◌<◌, Bool, true, false, cond, ◌&&◌, eqb, nat_lt, List, [], ◌∷◌, ◌++◌, Option, Some, None, refl, ap, ◌∙◌, map, flat_map, arith}
use Rattle.std.proofs.lemmas.Bool.Decides.{nat_tests}
use Rattle.std.specs.Prelude.{codes, filter}
use Rattle.std.specs.Fmt.{decimal}
use Rattle.std.specs.List.{list_all, concat, AllByRecursion}
use Rattle.imap_rights.specs.Rights.{bits, has_any, letters, letters_of}
use Rattle.imap_rights.specs.declared.rights.Rights.{Rights}
use Rattle.imap_print.specs.declared.copied.CopiedUids.{CopiedUids}
use Rattle.imap_print.specs.declared.enabled.EnabledCapabilities.{EnabledCapabilities}
use Rattle.imap_print.specs.declared.response.Code.{Code}
use Rattle.imap_print.specs.declared.response.Code.TheVariants as code
use Rattle.imap_print.specs.declared.response.Farewell.{Farewell}
use Rattle.imap_print.specs.declared.response.Farewell.TheVariants as farewell
use Rattle.imap_print.specs.declared.response.Refusal.{Refusal}
use Rattle.imap_print.specs.declared.response.Refusal.TheVariants as refusal
use Rattle.imap_print.specs.declared.response.Response.{Response}
use Rattle.imap_print.specs.declared.response.Response.TheVariants as response
use Rattle.imap_print.specs.declared.search.SearchResults.{SearchResults}
use Rattle.imap_print.specs.declared.acl.AclEntry.{AclEntry}
use Rattle.imap_query.specs.declared.status.StatusItem.{StatusItem}
use Rattle.imap_query.specs.declared.status.StatusItem.TheVariants as item
use Rattle.imap_query.specs.StatusWords.{status_name}
use Rattle.imap_print.specs.declared.status.StatusValue.{StatusValue}
use Rattle.imap_print.specs.declared.list.Children.{Children}
use Rattle.imap_print.specs.declared.list.Children.TheVariants as children
use Rattle.imap_print.specs.declared.list.ListAttributes.{ListAttributes}
use Rattle.imap_print.specs.declared.flag.FlagSet.{FlagSet}
use Rattle.imap_syntax.specs.declared.month.Month.{Month}
use Rattle.imap_syntax.specs.declared.month.Month.TheVariants as month
use Rattle.imap_syntax.specs.Calendar.{month_name}
use Rattle.imap_syntax.specs.Moments.{Day, Offset, Moment}
use Rattle.imap_syntax.specs.WrittenDates.{digit, two_digits, sign, fixed_day_text, fixed_date_text, zone_text, clock_text, date_time}
use Rattle.imap_query.specs.declared.fetch.Section.{Section}
use Rattle.imap_query.specs.declared.fetch.Section.TheVariants as section
use Rattle.imap_print.specs.declared.fetch.FetchedSection.{FetchedSection}
use Rattle.imap_print.specs.declared.fetch.FetchedItems.{FetchedItems}
use Rattle.imap_print.specs.Words.{before_each, joined, given, given_by}
use Rattle.imap_print.specs.Strings.{name_text}
use Rattle.imap_print.specs.Sets.{Range, runs, range_text, set_text}
use Rattle.imap_print.specs.Flags.{system_flags, flag_words, flags_text, permanent_text, every_system_flag}
use Rattle.imap_print.specs.Fetched.{section_text, origin_text, body_text, item_words, fetched_words, fetched_text}
use Rattle.imap_print.specs.Mailboxes.{children_words, attributes_text, value_text, values_text, entry_text, grantable_text}
use Rattle.imap_print.specs.Printed.{farewell_text, refusal_text, tag_text, copied_text, code_text, done_text, enabled_words, earlier_text, results_words, line_text, printed}
use Rattle.imap_print.specs.Lines.{IsPlain, IsHeld, section_names, flags_keywords, given_tag, texts, literals, EachIsOneLine, AllAreRead}
use Rattle.imap_print.proofs.Reader.{Settles, settled, settles-append, one_line, is_quiet, Quiet, quiet, quiet-append, quiet_settles, quiet_decimal, tagged, quoted_settles, name_settles, literal_settles, AllPlain, plain_words_settle, AllSettle, all_settle-append, before_each_settles, words_settle}
use Rattle.imap_syntax.proofs.Writing.{both_true}

-- ---- numbers and sets

pub number_settles : (n : ℕ) → Settles (decimal n)
number_settles n = quiet_settles (quiet_decimal n)

range_by : (range : Range) (b : Bool) → Quiet (cond b (decimal range.first) (decimal range.first ++ codes ":" ++ decimal range.last))
range_by range true = quiet_decimal range.first
range_by range false = quiet-append (quiet-append (quiet_decimal range.first) (quiet (codes ":") refl)) (quiet_decimal range.last)

further_ranges : (ranges : List Range) → Quiet (before_each 44 (map range_text ranges))
further_ranges [] = quiet [] refl
further_ranges (range ∷ ranges) = quiet-append (quiet-append (quiet (44 ∷ []) refl) (range_by range (eqb range.first range.last))) (further_ranges ranges)

ranges_quiet : (ranges : List Range) → Quiet (joined 44 (map range_text ranges))
ranges_quiet [] = quiet [] refl
ranges_quiet (range ∷ ranges) = quiet-append (range_by range (eqb range.first range.last)) (further_ranges ranges)

set_settles : (numbers : List ℕ) → Settles (set_text numbers)
set_settles numbers = quiet_settles (ranges_quiet (runs numbers))

-- ---- words

given_settles : (b : Bool) (word : List ℕ) → Settles word → AllSettle (given b word)
given_settles true word s = (s, tt)
given_settles false word s = tt

given_by_settles : {A : Type 0} (text : A → List ℕ) → ((a : A) → Settles (text a)) → (o : Option A) → AllSettle (given_by text o)
given_by_settles text s None = tt
given_by_settles text s (Some a) = (s a, tt)

map_settles : {A : Type 0} (text : A → List ℕ) → ((a : A) → Settles (text a)) → (values : List A) → AllSettle (map text values)
map_settles text s [] = tt
map_settles text s (a ∷ more) = (s a, map_settles text s more)

-- ---- flags

all_plain : (words : List (List ℕ)) → AllByRecursion IsPlain words → AllPlain words
all_plain [] h = tt
all_plain (word ∷ words) h = (h.0, all_plain words h.1)

all_plain-append : (words more : List (List ℕ)) → AllPlain words → AllPlain more → AllPlain (words ++ more)
all_plain-append [] more h k = k
all_plain-append (word ∷ words) more h k = (h.0, all_plain-append words more h.1 k)

given_plain : (b : Bool) (word : List ℕ) → IsPlain word → AllPlain (given b word)
given_plain true word p = (p, tt)
given_plain false word p = tt

system_plain : (flags : FlagSet) → AllPlain (system_flags flags)
system_plain flags =
    all_plain-append _ _
    (all_plain-append _ _
    (all_plain-append _ _
    (all_plain-append (given flags.answered (codes "\\Answered")) (given flags.deleted (codes "\\Deleted")) (given_plain flags.answered _ refl) (given_plain flags.deleted _ refl))
    (given_plain flags.draft (codes "\\Draft") refl))
    (given_plain flags.flagged (codes "\\Flagged") refl))
    (given_plain flags.seen (codes "\\Seen") refl)

flag_words_plain : (flags : FlagSet) → AllByRecursion IsPlain flags.keywords → AllPlain (flag_words flags)
flag_words_plain flags h = all_plain-append (system_flags flags) flags.keywords (system_plain flags) (all_plain flags.keywords h)

flags_settle : (flags : FlagSet) → AllByRecursion IsPlain flags.keywords → Settles (flags_text flags)
flags_settle flags h = plain_words_settle (flag_words flags) (flag_words_plain flags h)

permanent_settles : (flags : FlagSet) (any : Bool) → AllByRecursion IsPlain flags.keywords → Settles (permanent_text flags any)
permanent_settles flags any h =
    plain_words_settle (flag_words flags ++ given any (codes "\\*")) (all_plain-append (flag_words flags) (given any (codes "\\*")) (flag_words_plain flags h) (given_plain any _ refl))

every_plain : AllPlain every_system_flag
every_plain = (refl, (refl, (refl, (refl, (refl, tt)))))

-- ---- mailboxes

children_settle : (c : Children) → AllSettle (children_words c)
children_settle children.Omitted = tt
children_settle children.Has = (settled _ refl, tt)
children_settle children.HasNo = (settled _ refl, tt)

attributes_settle : (attributes : ListAttributes) → Settles (attributes_text attributes)
attributes_settle attributes =
    words_settle _
    (all_settle-append (given attributes.non_existent (codes "\\NonExistent") ++ children_words attributes.children) (given attributes.subscribed (codes "\\Subscribed"))
    (all_settle-append (given attributes.non_existent (codes "\\NonExistent")) (children_words attributes.children) (given_settles attributes.non_existent _ (settled _ refl)) (children_settle attributes.children))
    (given_settles attributes.subscribed _ (settled _ refl)))

item_settles : (i : StatusItem) → Settles (status_name i)
item_settles item.Messages = settled _ refl
item_settles item.UidNext = settled _ refl
item_settles item.UidValidity = settled _ refl
item_settles item.Unseen = settled _ refl
item_settles item.Deleted = settled _ refl
item_settles item.Size = settled _ refl
item_settles item.HighestModSeq = settled _ refl

value_settles : (value : StatusValue) → Settles (value_text value)
value_settles value = settles-append (settles-append (item_settles value.item) (settled (codes " ") refl)) (number_settles value.value)

values_settle : (values : List StatusValue) → Settles (values_text values)
values_settle values = words_settle (map value_text values) (map_settles value_text value_settles values)

letters_quiet : (rights : ℕ) (table : List (ℕ × ℕ)) → list_all (λ row. is_quiet row.0) table ≡ true → list_all is_quiet (map (λ row. row.0) (filter (λ row. has_any rights row.1) table)) ≡ true
letters_quiet rights [] h = refl
letters_quiet rights (row ∷ table) h =
    let parts = both_true (is_quiet row.0) (list_all (λ r. is_quiet r.0) table) h in
    let more = letters_quiet rights table parts.1 in
    elim (has_any rights row.1) as (λ b. list_all is_quiet (map (λ r. r.0) (cond b (row ∷ filter (λ r. has_any rights r.1) table) (filter (λ r. has_any rights r.1) table))) ≡ true) [
      | true ↦ ap (λ (b : Bool). b && list_all is_quiet (map (λ r. r.0) (filter (λ r. has_any rights r.1) table))) parts.0 ∙ more
      | false ↦ more
    ]

rights_settle : (rights : Rights) → Settles (letters_of (bits rights))
unfolding letters_of
rights_settle rights = quiet_settles (quiet (letters_of (bits rights)) (letters_quiet (bits rights) letters refl))

entry_settles : (entry : AclEntry) → IsPlain entry.identifier → Settles (entry_text entry)
entry_settles entry plain = settles-append (settles-append (name_settles entry.identifier plain) (settled (codes " ") refl)) (rights_settle entry.rights)

entries_settle : (entries : List AclEntry) → AllByRecursion IsPlain (map (λ entry. entry.identifier) entries) → AllSettle (map entry_text entries)
entries_settle [] h = tt
entries_settle (entry ∷ entries) h = (entry_settles entry h.0, entries_settle entries h.1)

grantable_settles : (owner : Bool) → Settles (grantable_text owner)
grantable_settles true = settled _ refl
grantable_settles false = settled _ refl

-- ---- what was fetched

names_settle : (names : List (List ℕ)) → AllByRecursion IsPlain names → AllSettle (map name_text names)
names_settle [] h = tt
names_settle (name ∷ names) h = (name_settles name h.0, names_settle names h.1)

pub section_settles : (s : Section) → AllByRecursion IsPlain (section_names s) → Settles (section_text s)
section_settles section.Whole h = settled _ refl
section_settles section.Header h = settled _ refl
section_settles section.Text h = settled _ refl
section_settles (section.Fields names) h = settles-append (settled (codes "HEADER.FIELDS ") refl) (words_settle (map name_text names) (names_settle names h))
section_settles (section.FieldsNot names) h = settles-append (settled (codes "HEADER.FIELDS.NOT ") refl) (words_settle (map name_text names) (names_settle names h))

origin_settles : (origin : Option ℕ) → Settles (origin_text origin)
origin_settles None = settled _ refl
origin_settles (Some n) = settles-append (settles-append (settled (codes "<") refl) (number_settles n)) (settled (codes ">") refl)

pub body_settles : (body : FetchedSection) → AllByRecursion IsPlain (section_names body.section) → IsHeld (concat body.octets) → Settles (body_text body)
body_settles body h held =
    settles-append
    (settles-append (settles-append (settles-append (settles-append (settled (codes "BODY[") refl) (section_settles body.section h)) (settled (codes "]") refl)) (origin_settles body.origin)) (settled (codes " ") refl))
    (literal_settles (concat body.octets) held)

parted : {A : Type 0} (P : A → Type 0) (xs ys : List A) → AllByRecursion P (xs ++ ys) → AllByRecursion P xs × AllByRecursion P ys
parted P [] ys h = (tt, h)
parted P (x ∷ xs) ys h = let more = parted P xs ys h.1 in ((h.0, more.0), more.1)

pub bodies_settle : (bodies : List FetchedSection) → AllByRecursion IsPlain (flat_map (λ body. section_names body.section) bodies) → AllByRecursion IsHeld (map (λ body. concat body.octets) bodies) → AllSettle (map body_text bodies)
bodies_settle [] h held = tt
bodies_settle (body ∷ bodies) h held =
    let names = parted IsPlain (section_names body.section) (flat_map (λ b. section_names b.section) bodies) h in
    (body_settles body names.0 held.0, bodies_settle bodies names.1 held.1)

fetched_flags_settle : (flags : Option FlagSet) → AllByRecursion IsPlain (flags_keywords flags) → AllSettle (given_by (λ set. codes "FLAGS " ++ flags_text set) flags)
fetched_flags_settle None h = tt
fetched_flags_settle (Some flags) h = (settles-append (settled (codes "FLAGS ") refl) (flags_settle flags h), tt)

-- ---- dates

digit_quiet : (n : ℕ) → is_quiet (digit n) ≡ true
digit_quiet n = let lt : n % 10 < 10 = omega arith in grind (arith, nat_tests)

two_quiet : (n : ℕ) → Quiet (two_digits n)
two_quiet n = let tens = digit_quiet (n / 10) in let ones = digit_quiet n in quiet (two_digits n) (rw (tens, ones) refl)

either_quiet : (b : Bool) {x y : List ℕ} → Quiet x → Quiet y → Quiet (cond b x y)
either_quiet true q r = q
either_quiet false q r = r

month_quiet : (m : Month) → Quiet (month_name m)
month_quiet month.Jan = quiet _ refl
month_quiet month.Feb = quiet _ refl
month_quiet month.Mar = quiet _ refl
month_quiet month.Apr = quiet _ refl
month_quiet month.May = quiet _ refl
month_quiet month.Jun = quiet _ refl
month_quiet month.Jul = quiet _ refl
month_quiet month.Aug = quiet _ refl
month_quiet month.Sep = quiet _ refl
month_quiet month.Oct = quiet _ refl
month_quiet month.Nov = quiet _ refl
month_quiet month.Dec = quiet _ refl

-- a quiet octet before quiet octets
before_quiet : (octet : ℕ) → is_quiet octet ≡ true → {octets : List ℕ} → Quiet octets → Quiet (octet ∷ octets)
before_quiet octet h q = quiet-append (quiet (octet ∷ []) (rw h refl)) q

day_quiet : (day : ℕ) → Quiet (fixed_day_text day)
day_quiet day = either_quiet (nat_lt day 10) (before_quiet 32 refl (before_quiet (digit day) (digit_quiet day) (quiet [] refl))) (two_quiet day)

date_quiet : (date : Day) → Quiet (fixed_date_text date)
date_quiet date =
    quiet-append (day_quiet date.day)
    (before_quiet 45 refl
    (quiet-append (month_quiet date.month) (before_quiet 45 refl (quiet-append (two_quiet (date.year / 100)) (two_quiet date.year)))))

sign_quiet : (west : Bool) → is_quiet (sign west) ≡ true
sign_quiet true = refl
sign_quiet false = refl

zone_quiet : (zone : Offset) → Quiet (zone_text zone)
zone_quiet zone = before_quiet (sign zone.west) (sign_quiet zone.west) (quiet-append (two_quiet zone.hours) (two_quiet zone.minutes))

clock_quiet : (time : Moment) → Quiet (clock_text time)
clock_quiet time =
    quiet-append (two_quiet time.hour) (before_quiet 58 refl (quiet-append (two_quiet time.minute) (before_quiet 58 refl (two_quiet time.second))))

date_time_settles : (time : Moment) → Settles (date_time.text time)
date_time_settles time =
    let text = quiet-append (date_quiet time.date) (before_quiet 32 refl (quiet-append (clock_quiet time) (before_quiet 32 refl (zone_quiet time.zone)))) in
    quiet_settles (before_quiet 34 refl (quiet-append text (quiet (34 ∷ []) refl)))

dated_settles : (date : Option Moment) → AllSettle (given_by (λ time. codes "INTERNALDATE " ++ date_time.text time) date)
dated_settles date = given_by_settles _ (λ time. settles-append (settled (codes "INTERNALDATE ") refl) (date_time_settles time)) date

-- ---- lines

named_settles : (name : List ℕ) → Settles name → (o : Option ℕ) → AllSettle (given_by (λ n. name ++ decimal n) o)
named_settles name s o = given_by_settles (λ n. name ++ decimal n) (λ n. settles-append s (number_settles n)) o

mod_seq_settles : (o : Option ℕ) → AllSettle (given_by (λ n. codes "MODSEQ (" ++ decimal n ++ codes ")") o)
mod_seq_settles o = given_by_settles _ (λ n. settles-append (settles-append (settled (codes "MODSEQ (") refl) (number_settles n)) (settled (codes ")") refl)) o

pub items_settle : (items : FetchedItems) → AllByRecursion IsPlain (flags_keywords items.flags) → AllSettle (item_words items)
items_settle items plain =
    all_settle-append _ _
    (all_settle-append _ _
    (all_settle-append _ _
    (all_settle-append _ _ (named_settles (codes "UID ") (settled _ refl) items.uid) (fetched_flags_settle items.flags plain))
    (dated_settles items.internal_date))
    (named_settles (codes "RFC822.SIZE ") (settled _ refl) items.size))
    (mod_seq_settles items.mod_seq)

fetched_settles : (items : FetchedItems) → AllByRecursion IsPlain (flags_keywords items.flags ++ flat_map (λ body. section_names body.section) items.sections) → AllByRecursion IsHeld (map (λ body. concat body.octets) items.sections)
    → Settles (fetched_text items)
fetched_settles items h held =
    let plain = parted IsPlain (flags_keywords items.flags) (flat_map (λ body. section_names body.section) items.sections) h in
    words_settle (fetched_words items) (all_settle-append _ _ (items_settle items plain.0) (bodies_settle items.sections plain.1 held))

results_settle : (results : SearchResults) → AllSettle (results_words results)
results_settle results =
    all_settle-append _ _
    (all_settle-append _ _
    (all_settle-append _ _
    (all_settle-append _ _ (named_settles (codes "MIN ") (settled _ refl) results.min) (named_settles (codes "MAX ") (settled _ refl) results.max))
    (given_by_settles (λ all. codes "ALL " ++ set_text all) (λ all. settles-append (settled (codes "ALL ") refl) (set_settles all)) results.all))
    (named_settles (codes "COUNT ") (settled _ refl) results.count))
    (named_settles (codes "MODSEQ ") (settled _ refl) results.mod_seq)

copied_settles : (copied : CopiedUids) → Settles (copied_text copied)
copied_settles copied =
    settles-append
    (settles-append (settles-append (settles-append (settles-append (settled (codes "COPYUID ") refl) (number_settles copied.validity)) (settled (codes " ") refl)) (set_settles copied.source)) (settled (codes " ") refl))
    (set_settles copied.target)

code_settles : (c : Code) → Settles (code_text c)
code_settles code.ReadWrite = settled _ refl
code_settles code.ReadOnly = settled _ refl
code_settles (code.AppendUid validity uid) = settles-append (settles-append (settles-append (settled (codes "APPENDUID ") refl) (number_settles validity)) (settled (codes " ") refl)) (number_settles uid)
code_settles (code.CopyUid copied) = copied_settles copied
code_settles (code.HighestModSeq mod_seq) = settles-append (settled (codes "HIGHESTMODSEQ ") refl) (number_settles mod_seq)
code_settles (code.Modified numbers) = settles-append (settled (codes "MODIFIED ") refl) (set_settles numbers)

done_settles : (tag : List ℕ) (c : Option Code) → IsPlain tag → Settles (tag ++ done_text c)
done_settles tag None plain = tagged tag (codes "OK done") plain refl
done_settles tag (Some c) plain =
    let reply : Settles (codes "OK [" ++ code_text c ++ codes "] done") = settles-append (settles-append (settled (codes "OK [") refl) (code_settles c)) (settled (codes "] done") refl) in
    tagged tag (codes "OK [" ++ code_text c ++ codes "] done") plain reply.is

farewell_settles : (f : Farewell) → Settles (farewell_text f)
farewell_settles farewell.LoggingOut = settled _ refl
farewell_settles farewell.LimitReached = settled _ refl
farewell_settles farewell.IdleTooLong = settled _ refl
farewell_settles farewell.MailboxUnavailable = settled _ refl

refusal_settles : (r : Refusal) → Settles (refusal_text r)
refusal_settles refusal.NonExistent = settled _ refl
refusal_settles refusal.NoPerm = settled _ refl
refusal_settles refusal.AlreadyExists = settled _ refl
refusal_settles refusal.HasChildren = settled _ refl
refusal_settles refusal.Cannot = settled _ refl
refusal_settles refusal.Limit = settled _ refl
refusal_settles refusal.OverQuota = settled _ refl
refusal_settles refusal.TryCreate = settled _ refl
refusal_settles refusal.ExpungeIssued = settled _ refl
refusal_settles refusal.InUse = settled _ refl
refusal_settles refusal.Unavailable = settled _ refl
refusal_settles refusal.BadCharset = settled _ refl
refusal_settles refusal.Malformed = settled _ refl
refusal_settles refusal.WrongState = settled _ refl

tag_settles : (tag : Option (List ℕ)) → AllByRecursion IsPlain (given_tag tag) → Settles (tag_text tag ++ codes " ")
tag_settles None h = settled _ refl
tag_settles (Some tag) h = tagged tag [] h.0 refl

earlier_settles : (earlier : Bool) → Settles (earlier_text earlier)
earlier_settles true = settled _ refl
earlier_settles false = settled _ refl

enabled_settle : (enabled : EnabledCapabilities) → AllSettle (enabled_words enabled)
enabled_settle enabled =
    all_settle-append (given enabled.condstore (codes "CONDSTORE") ++ given enabled.imap4rev2 (codes "IMAP4rev2")) (given enabled.qresync (codes "QRESYNC"))
    (all_settle-append (given enabled.condstore (codes "CONDSTORE")) (given enabled.imap4rev2 (codes "IMAP4rev2")) (given_settles enabled.condstore _ (settled _ refl)) (given_settles enabled.imap4rev2 _ (settled _ refl)))
    (given_settles enabled.qresync _ (settled _ refl))

between_settles : (front : List ℕ) (n : ℕ) (back : List ℕ) → Settles front → Settles back → Settles (front ++ (decimal n ++ back))
between_settles front n back s t = settles-append s (settles-append (number_settles n) t)

line_settles : (reply : Response) → AllByRecursion IsPlain (texts reply) → AllByRecursion IsHeld (literals reply) → Settles (line_text reply)
line_settles response.Greeting h held = settled _ refl
line_settles response.Capability h held = settled _ refl
line_settles (response.Bye f) h held = settles-append (settled (codes "* BYE ") refl) (farewell_settles f)
line_settles (response.Done tag c) h held = done_settles tag c h.0
line_settles (response.Refused tag r) h held = settles-append (tag_settles tag h) (refusal_settles r)
line_settles response.Ready h held = settled _ refl
line_settles response.Idling h held = settled _ refl
line_settles response.Namespace h held = settled _ refl
line_settles (response.Enabled enabled) h held = settles-append (settled (codes "* ENABLED") refl) (before_each_settles _ (enabled_settle enabled))
line_settles (response.List attributes mailbox) h held =
    settles-append (settles-append (settles-append (settled (codes "* LIST ") refl) (attributes_settle attributes)) (settled (codes " \"/\" ") refl)) (name_settles mailbox h.0)
line_settles response.ListRoot h held = settled _ refl
line_settles (response.Status mailbox items) h held =
    settles-append (settles-append (settles-append (settled (codes "* STATUS ") refl) (name_settles mailbox h.0)) (settled (codes " ") refl)) (values_settle items)
line_settles (response.Acl mailbox entries) h held = settles-append (settles-append (settled (codes "* ACL ") refl) (name_settles mailbox h.0)) (before_each_settles _ (entries_settle entries h.1))
line_settles (response.MyRights mailbox rights) h held =
    settles-append (settles-append (settles-append (settled (codes "* MYRIGHTS ") refl) (name_settles mailbox h.0)) (settled (codes " ") refl)) (rights_settle rights)
line_settles (response.ListRights mailbox identifier owner) h held =
    settles-append
    (settles-append (settles-append (settles-append (settles-append (settled (codes "* LISTRIGHTS ") refl) (name_settles mailbox h.0)) (settled (codes " ") refl)) (name_settles identifier h.1.0)) (settled (codes " ") refl))
    (grantable_settles owner)
line_settles (response.Flags keywords) h held =
    settles-append (settled (codes "* FLAGS ") refl) (plain_words_settle (every_system_flag ++ keywords) (all_plain-append every_system_flag keywords every_plain (all_plain keywords h)))
line_settles (response.PermanentFlags flags any) h held =
    settles-append (settles-append (settled (codes "* OK [PERMANENTFLAGS ") refl) (permanent_settles flags any h)) (settled (codes "] flags kept") refl)
line_settles (response.Exists n) h held = between_settles (codes "* ") n (codes " EXISTS") (settled _ refl) (settled _ refl)
line_settles (response.Expunge n) h held = between_settles (codes "* ") n (codes " EXPUNGE") (settled _ refl) (settled _ refl)
line_settles (response.Vanished earlier uids) h held = settles-append (settles-append (settled (codes "* VANISHED ") refl) (earlier_settles earlier)) (set_settles uids)
line_settles response.Closed h held = settled _ refl
line_settles (response.UidValidity n) h held = between_settles (codes "* OK [UIDVALIDITY ") n (codes "] validity") (settled _ refl) (settled _ refl)
line_settles (response.UidNext n) h held = between_settles (codes "* OK [UIDNEXT ") n (codes "] next") (settled _ refl) (settled _ refl)
line_settles (response.HighestModSeq n) h held = between_settles (codes "* OK [HIGHESTMODSEQ ") n (codes "] highest") (settled _ refl) (settled _ refl)
line_settles (response.Moved copied) h held =
    settles-append (settles-append (settled (codes "* OK [") refl) (copied_settles copied)) (settled (codes "] moved") refl)
line_settles (response.Fetch number items) h held =
    settles-append (settles-append (settles-append (settled (codes "* ") refl) (number_settles number)) (settled (codes " FETCH ") refl)) (fetched_settles items h held)
line_settles (response.Search tag uid results) h held =
    settles-append (settles-append (settles-append (settled (codes "* ESEARCH (TAG ") refl) (quoted_settles tag h.0)) (settled (codes ")") refl))
    (before_each_settles _ (all_settle-append (given uid (codes "UID")) (results_words results) (given_settles uid _ (settled _ refl)) (results_settle results)))

pub each_is_one_line : EachIsOneLine
each_is_one_line reply rest h = one_line (line_text reply) rest (line_settles reply h.plain h.held)

pub all_are_read : AllAreRead
all_are_read [] h = refl
all_are_read (reply ∷ responses) h = (printed responses, refl, each_is_one_line reply (printed responses) h.0, all_are_read responses h.1)
