-- Replies that are told with names in modified UTF-7.
use Rattle.std.proofs.Common.{◌≡◌, ◌∙◌, ap, sym, refl, subst, ℕ, Bool, true, false, cond, ◌||◌, List, [], ◌∷◌, ◌++◌, append-nil, flat_map, Option, Some, None}
use Rattle.std.specs.Prelude.{codes}
use Rattle.std.specs.List.{AllByRecursion, concat, list_any}
use Rattle.imap_lex.specs.Framing.{crlf}
use Rattle.imap_print.specs.declared.acl.AclEntry.{AclEntry}
use Rattle.imap_print.specs.declared.enabled.EnabledCapabilities.{EnabledCapabilities}
use Rattle.imap_print.specs.declared.list.ListAttributes.{ListAttributes}
use Rattle.imap_print.specs.declared.response.Response.{Response}
use Rattle.imap_print.specs.declared.response.Response.TheVariants as response
use Rattle.imap_print.specs.declared.status.StatusValue.{StatusValue}
use Rattle.imap_rights.specs.declared.rights.Rights.{Rights}
use Rattle.imap_print.specs.Lines.{AreReadFrom, IsPlain, IsPrintable}
use Rattle.imap_print.specs.Words.{before_each, given}
use Rattle.imap_print.proofs.Wording.{before_each-append}
use Rattle.imap_print.proofs.Reader.{Quiet, quiet, quiet-append, quiet_settles}
use Rattle.imap_dialect.specs.Telling.{retold}
use Rattle.imap_rev1_frames.specs.Enable.{asks_utf8}
use Rattle.imap_rev1.specs.declared.rev1.Rules.{Rules}
use Rattle.imap_rev1.specs.Laws.{IsOneLine, names_capabilities}
use Rattle.imap_rev1.specs.NameLaws.{AllAreRead, EachIsOneLine, EndsByEnabled, PlainRepliesStay, PrintsConditions, PrintsOthers, StaysEnabled, StaysUntilEnabled, accepted_lines, named_lines}
use Rattle.imap_rev1.specs.Rev1.{rules_for, told_by}
use Rattle.imap_rev1.specs.Shown.{name_in, named_or_same, other_shown, shown_by, shown_reply}
use Rattle.imap_rev1.specs.Utf7.{accepted_by, accepted_text, ends_names, told_accepted, told_echoed, utf7_rev1}
use Rattle.imap_rev1_frames.specs.Named.{named_by}
use Rattle.imap_rev1.proofs.PlainNames.{IsPlainAsked, all_plain}
use Rattle.imap_rev1.proofs.Lines.{lines_are, read_more, settled_one, told_one}
use Rattle.imap_rev1.proofs.Rev1Rules.{prints_others as rev1_prints_others}
use Rattle.imap_rev1.proofs.Told.{plain_shown, shown_plain}

-- ---- a reply with another name

list_printable : (attributes : ListAttributes) (mailbox : List ℕ) (o : Option (List ℕ)) → ((s : List ℕ) → o ≡ Some s → IsPlain s)
    → IsPrintable (response.List attributes mailbox) → IsPrintable (named_or_same (response.List attributes mailbox) o)
list_printable attributes mailbox None plain h = h
list_printable attributes mailbox (Some s) plain h = record { plain = (plain s refl, tt); held = h.held }

status_printable : (mailbox : List ℕ) (values : List StatusValue) (o : Option (List ℕ)) → ((s : List ℕ) → o ≡ Some s → IsPlain s)
    → IsPrintable (response.Status mailbox values) → IsPrintable (named_or_same (response.Status mailbox values) o)
status_printable mailbox values None plain h = h
status_printable mailbox values (Some s) plain h = record { plain = (plain s refl, tt); held = h.held }

acl_printable : (mailbox : List ℕ) (entries : List AclEntry) (o : Option (List ℕ)) → ((s : List ℕ) → o ≡ Some s → IsPlain s)
    → IsPrintable (response.Acl mailbox entries) → IsPrintable (named_or_same (response.Acl mailbox entries) o)
acl_printable mailbox entries None plain h = h
acl_printable mailbox entries (Some s) plain h = record { plain = (plain s refl, h.plain.1); held = h.held }

rights_printable : (mailbox : List ℕ) (rights : Rights) (o : Option (List ℕ)) → ((s : List ℕ) → o ≡ Some s → IsPlain s)
    → IsPrintable (response.MyRights mailbox rights) → IsPrintable (named_or_same (response.MyRights mailbox rights) o)
rights_printable mailbox rights None plain h = h
rights_printable mailbox rights (Some s) plain h = record { plain = (plain s refl, tt); held = h.held }

list_rights_printable : (mailbox identifier : List ℕ) (owner : Bool) (o : Option (List ℕ)) → ((s : List ℕ) → o ≡ Some s → IsPlain s)
    → IsPrintable (response.ListRights mailbox identifier owner) → IsPrintable (named_or_same (response.ListRights mailbox identifier owner) o)
list_rights_printable mailbox identifier owner None plain h = h
list_rights_printable mailbox identifier owner (Some s) plain h = record { plain = (plain s refl, h.plain.1); held = h.held }

shown_printable : (reply : Response) → IsPrintable reply → IsPrintable (shown_reply reply)
shown_printable (response.List attributes mailbox) h = list_printable attributes mailbox (other_shown mailbox) (shown_plain mailbox) h
shown_printable (response.Status mailbox values) h = status_printable mailbox values (other_shown mailbox) (shown_plain mailbox) h
shown_printable (response.Acl mailbox entries) h = acl_printable mailbox entries (other_shown mailbox) (shown_plain mailbox) h
shown_printable (response.MyRights mailbox rights) h = rights_printable mailbox rights (other_shown mailbox) (shown_plain mailbox) h
shown_printable (response.ListRights mailbox identifier owner) h =
    list_rights_printable mailbox identifier owner (other_shown mailbox) (shown_plain mailbox) h
shown_printable _ h = h

either_printable : (utf8 : Bool) (reply : Response) → IsPrintable reply → IsPrintable (cond utf8 reply (shown_reply reply))
either_printable true reply h = h
either_printable false reply h = shown_printable reply h

-- ---- lines

each_quiet : (given_one : Bool) (word : List ℕ) → Quiet word → Quiet (before_each 32 (given given_one word))
each_quiet true word q = quiet-append (quiet-append (quiet (32 ∷ []) refl) q) (quiet [] refl)
each_quiet false word q = quiet [] refl

words_quiet : (xs ys zs : List (List ℕ)) → Quiet (before_each 32 xs) → Quiet (before_each 32 ys) → Quiet (before_each 32 zs) → Quiet (before_each 32 ((xs ++ ys) ++ zs))
words_quiet xs ys zs p q r =
    subst Quiet (sym (before_each-append 32 (xs ++ ys) zs ∙ ap (λ (l : List ℕ). l ++ before_each 32 zs) (before_each-append 32 xs ys))) (quiet-append (quiet-append p q) r)

accepted_quiet : (enabled : EnabledCapabilities) → Quiet (accepted_text enabled)
accepted_quiet enabled =
    quiet-append
    (quiet-append (quiet (codes "* ENABLED") refl)
    (words_quiet (given enabled.condstore (codes "CONDSTORE")) (given enabled.imap4rev2 (codes "IMAP4rev2")) (given enabled.qresync (codes "QRESYNC"))
    (each_quiet enabled.condstore (codes "CONDSTORE") (quiet _ refl)) (each_quiet enabled.imap4rev2 (codes "IMAP4rev2") (quiet _ refl)) (each_quiet enabled.qresync (codes "QRESYNC") (quiet _ refl))))
    (quiet (codes " UTF8=ACCEPT") refl)

accepted_one : (rules : Rules) (reply : Response) (o : Option EnabledCapabilities) → AllByRecursion IsPlainAsked rules.asked → IsPrintable reply
    → AllByRecursion IsOneLine (accepted_lines rules reply o)
accepted_one rules reply None plain h = told_one rules reply plain h
accepted_one rules reply (Some enabled) plain h = settled_one (accepted_text enabled) (quiet_settles (accepted_quiet enabled))

accepted_are : (rules : Rules) (reply : Response) (o : Option EnabledCapabilities) → concat (accepted_lines rules reply o) ≡ told_accepted rules reply o
accepted_are rules reply None = lines_are rules reply
accepted_are rules reply (Some enabled) = append-nil (accepted_text enabled ++ crlf)

pub each_is_one_line : EachIsOneLine
each_is_one_line state by reply h =
    let shown = cond state.utf8 reply (shown_reply reply) in
    accepted_one (rules_for state.rev1 by) shown (accepted_by (asks_utf8 by) shown) (all_plain (named_by state.rev1.rev2 by) by) (either_printable state.utf8 reply h)

pub all_are_read : AllAreRead
all_are_read state by [] h = refl
all_are_read state by (reply ∷ replies) h =
    let shown = cond state.utf8 reply (shown_reply reply) in
    let rest = retold utf7_rev1 state by replies in
    subst (λ l. AreReadFrom (named_lines state by reply ++ flat_map (named_lines state by) replies) (l ++ rest))
    (accepted_are (rules_for state.rev1 by) shown (accepted_by (asks_utf8 by) shown))
    (read_more (named_lines state by reply) (flat_map (named_lines state by) replies) rest (each_is_one_line state by reply h.0) (all_are_read state by replies h.1))

-- ---- replies that are printed

accepted_none : (reply : Response) → accepted_by false reply ≡ None
accepted_none (response.Enabled enabled) = refl
accepted_none _ = refl

not_echoed : (rules : Rules) (echoes : Bool) (reply : Response) → echoes ≡ false → told_echoed rules echoes reply ≡ told_by rules reply
not_echoed rules echoes reply e =
    ap (λ b. told_accepted rules reply (accepted_by b reply)) e ∙ ap (told_accepted rules reply) (accepted_none reply)

named_names : (o : Option (List ℕ)) (reply : Response) → names_capabilities reply ≡ false → names_capabilities (named_or_same reply o) ≡ false
named_names None reply h = h
named_names (Some s) (response.List attributes mailbox) h = refl
named_names (Some s) (response.Status mailbox values) h = refl
named_names (Some s) (response.Acl mailbox entries) h = refl
named_names (Some s) (response.MyRights mailbox rights) h = refl
named_names (Some s) (response.ListRights mailbox identifier owner) h = refl
named_names (Some s) _ h = h

shown_names : (o : Option (List ℕ)) (reply : Response) → name_in reply ≡ o → names_capabilities reply ≡ false → names_capabilities (shown_reply reply) ≡ false
shown_names None reply e h = rw e h
shown_names (Some name) reply e h = rw e (named_names (other_shown name) reply h)

pub prints_others : PrintsOthers
prints_others state by reply h asks names utf8 =
    ap (λ b. told_echoed (rules_for state.rev1 by) (asks_utf8 by) (cond b reply (shown_reply reply))) utf8
    ∙ not_echoed (rules_for state.rev1 by) (asks_utf8 by) (shown_reply reply) asks
    ∙ rev1_prints_others state.rev1 by (shown_reply reply) h (shown_names (name_in reply) reply refl names)

same_either : (b : Bool) (reply : Response) → cond b reply reply ≡ reply
same_either true reply = refl
same_either false reply = refl

pub prints_conditions : PrintsConditions
prints_conditions state by (response.Bye farewell) h =
    ap (told_echoed (rules_for state.rev1 by) (asks_utf8 by)) (same_either state.utf8 (response.Bye farewell))
prints_conditions state by (response.Done tag code) h =
    ap (told_echoed (rules_for state.rev1 by) (asks_utf8 by)) (same_either state.utf8 (response.Done tag code))
prints_conditions state by (response.Refused tag refusal) h =
    ap (told_echoed (rules_for state.rev1 by) (asks_utf8 by)) (same_either state.utf8 (response.Refused tag refusal))
prints_conditions state by _ h = absurd cc

pub plain_replies_stay : PlainRepliesStay
plain_replies_stay = (
  λ reply e. ap (shown_by reply) e,
  λ reply name e is. ap (shown_by reply) e ∙ ap (named_or_same reply) (plain_shown name is),
)

-- ---- ENABLE

none_any : (p : Response → Bool) (replies : List Response) → AllByRecursion (λ reply. p reply ≡ false) replies → list_any p replies ≡ false
none_any p [] h = refl
none_any p (reply ∷ replies) h = rw (h.0, none_any p replies h.1) refl

or_false : (b c : Bool) → c ≡ false → (b || c) ≡ b
or_false true c h = refl
or_false false c h = h

pub stays_until_enabled : StaysUntilEnabled
stays_until_enabled state frame replies h =
    or_false state.utf8 (list_any (ends_names (asks_utf8 (Some frame))) replies) (none_any (ends_names (asks_utf8 (Some frame))) replies h)

pub stays_enabled : StaysEnabled
stays_enabled state frame replies h = rw h refl

pub ends_by_enabled : EndsByEnabled
ends_by_enabled state h = (
  λ frame. rw h refl,
  λ by reply asks. ap (λ b. told_echoed (rules_for state.rev1 by) (asks_utf8 by) (cond b reply (shown_reply reply))) h
      ∙ not_echoed (rules_for state.rev1 by) (asks_utf8 by) reply asks,
)
