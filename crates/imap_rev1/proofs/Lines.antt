-- Each reply is told in lines that a client reads.
use Rattle.std.proofs.Common.{◌≡◌, ◌∙◌, ℕ, Bool, true, false, cond, List, [], ◌∷◌, ◌++◌, Option, Some, None, refl, flat_map, ap, append_assoc, append-nil, subst, drop}
use Rattle.std.specs.Prelude.{codes}
use Rattle.std.specs.List.{concat, AllByRecursion, list_any}
use Rattle.imap_lex.specs.Framing.{crlf}
use Rattle.imap_print.specs.declared.fetch.FetchedItems.{FetchedItems}
use Rattle.imap_print.specs.declared.list.ListAttributes.{ListAttributes}
use Rattle.imap_print.specs.declared.response.Response.{Response}
use Rattle.imap_print.specs.declared.response.Response.TheVariants as response
use Rattle.imap_print.specs.declared.search.SearchResults.{SearchResults}
use Rattle.imap_print.specs.declared.status.StatusValue.{StatusValue}
use Rattle.imap_print.specs.Lines.{after_line, text, AreReadFrom, IsPrintable}
use Rattle.imap_print.specs.Mailboxes.{value_text}
use Rattle.imap_print.specs.Printed.{line}
use Rattle.imap_print.proofs.Reader.{Settles, settled, settles-append, one_line, Quiet, quiet, quiet-append, quiet_settles, quiet_decimal, name_settles, AllSettle, words_settle}
use Rattle.imap_print.proofs.OneLine.{each_is_one_line as printed_line}
use Rattle.imap_query.specs.declared.status.StatusItem.{StatusItem}
use Rattle.imap_query.specs.declared.status.StatusItem.TheVariants as item
use Rattle.imap_query.specs.StatusWords.{status_name}
use Rattle.imap_rev1_frames.specs.declared.asked.Asked.{Asked}
use Rattle.imap_rev1.specs.declared.rev1.Rules.{Rules}
use Rattle.imap_rev1.specs.Rev1.{rev1, rules_for, lines_by, told_by, recent_text, greeting_text, capability_text, search_text, numbers_text, set_numbers, mod_seq_text, lsub_text, item_text, items_words, first_recent, status_text, is_search, is_select, is_lsub}
use Rattle.imap_rev1_frames.specs.Asked.{is_labelled}
use Rattle.imap_rev1.specs.Labels.{fetch_text}
use Rattle.imap_rev1_frames.specs.Named.{named_by}
use Rattle.imap_rev1.proofs.Labelled.{fetch_settles}
use Rattle.imap_rev1.proofs.PlainNames.{IsPlainAsked, all_plain}
use Rattle.imap_rev1.specs.Laws.{EachIsOneLine, AllAreRead, IsOneLine}
use Rattle.imap_dialect.specs.Telling.{retold}

-- ---- texts

numbers_quiet : (numbers : List ℕ) → Quiet (numbers_text numbers)
numbers_quiet [] = quiet [] refl
numbers_quiet (n ∷ numbers) = quiet-append (quiet-append (quiet (32 ∷ []) refl) (quiet_decimal n)) (numbers_quiet numbers)

mod_seq_quiet : (m : Option ℕ) → Quiet (mod_seq_text m)
mod_seq_quiet None = quiet [] refl
mod_seq_quiet (Some n) = quiet-append (quiet-append (quiet (codes " (MODSEQ ") refl) (quiet_decimal n)) (quiet (codes ")") refl)

search_settles : (results : SearchResults) → Settles (search_text results)
search_settles results = quiet_settles (quiet-append (quiet-append (quiet (codes "* SEARCH") refl) (numbers_quiet (set_numbers results.all))) (mod_seq_quiet results.mod_seq))

item_quiet : (item : StatusItem) → Quiet (status_name item)
item_quiet item.Messages = quiet _ refl
item_quiet item.UidNext = quiet _ refl
item_quiet item.UidValidity = quiet _ refl
item_quiet item.Unseen = quiet _ refl
item_quiet item.Deleted = quiet _ refl
item_quiet item.Size = quiet _ refl
item_quiet item.HighestModSeq = quiet _ refl

value_settles : (value : StatusValue) → Settles (value_text value)
value_settles value = quiet_settles (quiet-append (quiet-append (item_quiet value.item) (quiet (codes " ") refl)) (quiet_decimal value.value))

item_settles : (is_recent : Bool) (value : StatusValue) → Settles (item_text is_recent value)
item_settles true value = settled _ refl
item_settles false value = value_settles value

items_settle : (asked : List Asked) (values : List StatusValue) → AllSettle (items_words asked values)
items_settle asked [] = tt
items_settle asked (value ∷ values) = (item_settles (first_recent asked) value, items_settle (drop 1 asked) values)

-- ---- lines

printed_one : (reply : Response) → IsPrintable reply → AllByRecursion IsOneLine (line reply ∷ [])
printed_one reply h = ((λ rest. printed_line reply rest h), tt)

pub settled_one : (octets : List ℕ) → Settles octets → AllByRecursion IsOneLine ((octets ++ crlf) ∷ [])
settled_one octets s = ((λ rest. one_line octets rest s), tt)

search_one : (b : Bool) (tag : List ℕ) (uid : Bool) (results : SearchResults) → IsPrintable (response.Search tag uid results) → AllByRecursion IsOneLine (cond b ((search_text results ++ crlf) ∷ []) (line (response.Search tag uid results) ∷ []))
search_one true tag uid results h = settled_one (search_text results) (search_settles results)
search_one false tag uid results h = printed_one (response.Search tag uid results) h

exists_one : (b : Bool) (n : ℕ) → IsPrintable (response.Exists n) → AllByRecursion IsOneLine (cond b (line (response.Exists n) ∷ (recent_text ++ crlf) ∷ []) (line (response.Exists n) ∷ []))
exists_one true n h = ((λ rest. printed_line (response.Exists n) rest h), settled_one recent_text (settled _ refl))
exists_one false n h = printed_one (response.Exists n) h

list_one : (b : Bool) (attributes : ListAttributes) (mailbox : List ℕ) → IsPrintable (response.List attributes mailbox) → AllByRecursion IsOneLine (cond b ((lsub_text mailbox ++ crlf) ∷ []) (line (response.List attributes mailbox) ∷ []))
list_one true attributes mailbox h = settled_one (lsub_text mailbox) (settles-append (settled (codes "* LSUB () \"/\" ") refl) (name_settles mailbox h.plain.0))
list_one false attributes mailbox h = printed_one (response.List attributes mailbox) h

status_one : (asked : List Asked) (mailbox : List ℕ) (values : List StatusValue) → IsPrintable (response.Status mailbox values) → AllByRecursion IsOneLine ((status_text asked mailbox values ++ crlf) ∷ [])
status_one asked mailbox values h =
    settled_one (status_text asked mailbox values)
    (settles-append (settles-append (settles-append (settled (codes "* STATUS ") refl) (name_settles mailbox h.plain.0)) (settled (codes " ") refl)) (words_settle (items_words asked values) (items_settle asked values)))

fetch_one : (b : Bool) (all : List Asked) (number : ℕ) (items : FetchedItems) → AllByRecursion IsPlainAsked all → IsPrintable (response.Fetch number items)
    → AllByRecursion IsOneLine (cond b ((fetch_text all number items ++ crlf) ∷ []) (line (response.Fetch number items) ∷ []))
fetch_one true all number items plain h = settled_one (fetch_text all number items) (fetch_settles all number items plain h)
fetch_one false all number items plain h = printed_one (response.Fetch number items) h

pub told_one : (rules : Rules) (reply : Response) → AllByRecursion IsPlainAsked rules.asked → IsPrintable reply → AllByRecursion IsOneLine (lines_by rules reply)
told_one rules response.Greeting plain h = settled_one greeting_text (settled _ refl)
told_one rules response.Capability plain h = settled_one capability_text (settled _ refl)
told_one rules (response.Search tag uid results) plain h = search_one (is_search rules.named) tag uid results h
told_one rules (response.Exists n) plain h = exists_one (is_select rules.named) n h
told_one rules (response.List attributes mailbox) plain h = list_one (is_lsub rules.named) attributes mailbox h
told_one rules (response.Status mailbox values) plain h = status_one rules.asked mailbox values h
told_one rules (response.Bye a) plain h = printed_one (response.Bye a) h
told_one rules (response.Done a b) plain h = printed_one (response.Done a b) h
told_one rules (response.Refused a b) plain h = printed_one (response.Refused a b) h
told_one rules response.Ready plain h = printed_one response.Ready h
told_one rules response.Idling plain h = printed_one response.Idling h
told_one rules response.Namespace plain h = printed_one response.Namespace h
told_one rules (response.Enabled a) plain h = printed_one (response.Enabled a) h
told_one rules response.ListRoot plain h = printed_one response.ListRoot h
told_one rules (response.Acl a b) plain h = printed_one (response.Acl a b) h
told_one rules (response.MyRights a b) plain h = printed_one (response.MyRights a b) h
told_one rules (response.ListRights a b c) plain h = printed_one (response.ListRights a b c) h
told_one rules (response.Flags a) plain h = printed_one (response.Flags a) h
told_one rules (response.PermanentFlags a b) plain h = printed_one (response.PermanentFlags a b) h
told_one rules (response.Expunge a) plain h = printed_one (response.Expunge a) h
told_one rules (response.Vanished a b) plain h = printed_one (response.Vanished a b) h
told_one rules response.Closed plain h = printed_one response.Closed h
told_one rules (response.UidValidity a) plain h = printed_one (response.UidValidity a) h
told_one rules (response.UidNext a) plain h = printed_one (response.UidNext a) h
told_one rules (response.HighestModSeq a) plain h = printed_one (response.HighestModSeq a) h
told_one rules (response.Moved a) plain h = printed_one (response.Moved a) h
told_one rules (response.Fetch number items) plain h = fetch_one (list_any is_labelled rules.asked) rules.asked number items plain h

pub each_is_one_line : EachIsOneLine
each_is_one_line state by reply h = told_one (rules_for state by) reply (all_plain (named_by state.rev2 by) by) h

-- ---- all lines

one_by : (b : Bool) (x y : List ℕ) → concat (cond b (x ∷ []) (y ∷ [])) ≡ cond b x y
one_by true x y = append-nil x
one_by false x y = append-nil y

two_by : (b : Bool) (x y z : List ℕ) → concat (cond b (x ∷ y ∷ []) (z ∷ [])) ≡ cond b (x ++ y) z
two_by true x y z = ap (λ l. x ++ l) (append-nil y)
two_by false x y z = append-nil z

-- the lines are the octets
pub lines_are : (rules : Rules) (reply : Response) → concat (lines_by rules reply) ≡ told_by rules reply
lines_are rules response.Greeting = append-nil _
lines_are rules response.Capability = append-nil _
lines_are rules (response.Search tag uid results) = one_by (is_search rules.named) (search_text results ++ crlf) (line (response.Search tag uid results))
lines_are rules (response.Exists n) = two_by (is_select rules.named) (line (response.Exists n)) (recent_text ++ crlf) (line (response.Exists n))
lines_are rules (response.List attributes mailbox) = one_by (is_lsub rules.named) (lsub_text mailbox ++ crlf) (line (response.List attributes mailbox))
lines_are rules (response.Status mailbox values) = append-nil (status_text rules.asked mailbox values ++ crlf)
lines_are rules (response.Bye a) = append-nil (line (response.Bye a))
lines_are rules (response.Done a b) = append-nil (line (response.Done a b))
lines_are rules (response.Refused a b) = append-nil (line (response.Refused a b))
lines_are rules response.Ready = append-nil (line response.Ready)
lines_are rules response.Idling = append-nil (line response.Idling)
lines_are rules response.Namespace = append-nil (line response.Namespace)
lines_are rules (response.Enabled a) = append-nil (line (response.Enabled a))
lines_are rules response.ListRoot = append-nil (line response.ListRoot)
lines_are rules (response.Acl a b) = append-nil (line (response.Acl a b))
lines_are rules (response.MyRights a b) = append-nil (line (response.MyRights a b))
lines_are rules (response.ListRights a b c) = append-nil (line (response.ListRights a b c))
lines_are rules (response.Flags a) = append-nil (line (response.Flags a))
lines_are rules (response.PermanentFlags a b) = append-nil (line (response.PermanentFlags a b))
lines_are rules (response.Expunge a) = append-nil (line (response.Expunge a))
lines_are rules (response.Vanished a b) = append-nil (line (response.Vanished a b))
lines_are rules response.Closed = append-nil (line response.Closed)
lines_are rules (response.UidValidity a) = append-nil (line (response.UidValidity a))
lines_are rules (response.UidNext a) = append-nil (line (response.UidNext a))
lines_are rules (response.HighestModSeq a) = append-nil (line (response.HighestModSeq a))
lines_are rules (response.Moved a) = append-nil (line (response.Moved a))
lines_are rules (response.Fetch number items) = one_by (list_any is_labelled rules.asked) (fetch_text rules.asked number items ++ crlf) (line (response.Fetch number items))

pub read_more : (lines more : List (List ℕ)) (stream : List ℕ) → AllByRecursion IsOneLine lines → AreReadFrom more stream → AreReadFrom (lines ++ more) (concat lines ++ stream)
read_more [] more stream h k = k
read_more (l ∷ lines) more stream h k =
    let rest = concat lines ++ stream in
    let is : (l ++ concat lines) ++ stream ≡ l ++ rest = append_assoc l (concat lines) stream in
    (rest, is, ap (after_line text) is ∙ h.0 rest, read_more lines more stream h.1 k)

pub all_are_read : AllAreRead
all_are_read state by [] h = refl
all_are_read state by (reply ∷ replies) h =
    let rules = rules_for state by in
    let rest = retold rev1 state by replies in
    subst (λ l. AreReadFrom (lines_by rules reply ++ flat_map (lines_by rules) replies) (l ++ rest)) (lines_are rules reply)
    (read_more (lines_by rules reply) (flat_map (lines_by rules) replies) rest (told_one rules reply (all_plain (named_by state.rev2 by) by) h.0) (all_are_read state by replies h.1))
