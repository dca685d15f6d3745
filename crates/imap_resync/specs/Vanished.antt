-- VANISHED (EARLIER): the messages that went (RFC 7162, sections 3.2.6 and 3.2.10).
use Rattle.std.specs.Prelude.{ℕ, ◌-◌, ◌==◌, nat_lt, Bool, true, ◌&&◌, List, [], ◌∷◌, filter, Option, Some, None}
use Rattle.std.specs.FinMap as map
use Rattle.std.specs.List.{list_any, range_with_len}
use Rattle.imap_mailbox.specs.Rows.{first_uid}
use Rattle.imap_mailbox.specs.Shown.{Content}
use Rattle.imap_names.specs.Name.{Name}
use Rattle.imap_print.specs.declared.response.Response.{Response}
use Rattle.imap_print.specs.declared.response.Response.TheVariants as response
use Rattle.imap_view.specs.Seen.{Seen}
use Rattle.imap_view.specs.View.{View}
use Rattle.imap_resync.specs.UidSet.{UidSet, includes}

-- the message with the UID went with a mod-sequence greater than `since`
abbrev pub went_after : (since : ℕ) → (gone : List (ℕ × ℕ)) → (uid : ℕ) → Bool
went_after since gone uid = list_any (λ g. (g.0 == uid) && nat_lt since g.1) gone

-- of the UIDs that were given, in their order, those of messages that went so late
abbrev pub vanished : (next since : ℕ) → Option UidSet → (gone : List (ℕ × ℕ)) → List ℕ
vanished next since uids gone =
    let given = range_with_len first_uid (next - first_uid) in
    filter (λ uid. went_after since gone uid && includes uids uid) given

-- no line for none
abbrev pub earlier_line : List ℕ → List Response
earlier_line [] = []
earlier_line (uid ∷ uids) = response.Vanished true (uid ∷ uids) ∷ []

-- ---- in what a user sees

abbrev pub vanished_of : (since : ℕ) → Option UidSet → Option Content → List ℕ
vanished_of since uids None = []
vanished_of since uids (Some content) = vanished content.next since uids content.gone

abbrev pub vanished_seen : (since : ℕ) → Option UidSet → Option Seen → List ℕ
vanished_seen since uids None = []
vanished_seen since uids (Some seen) = vanished_of since uids seen.messages.content

-- of the mailbox of this name
abbrev pub vanished_in : View → Name → (since : ℕ) → Option UidSet → List ℕ
vanished_in view name since uids = vanished_seen since uids (map.get view.seen name)
