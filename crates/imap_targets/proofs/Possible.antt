-- Messages of a mailbox that a user may read may be changed by that user.
use Rattle.std.proofs.Common.{◌≡◌, ℕ, ◌+◌, ◌≤◌, Bool, true, false, cond, ◌||◌, ◌&&◌, List, [], ◌∷◌, eqb, filter, length, zero, suc, take, Option, Some, None, refl, sym, ap, subst, ◌∙◌, arith}
use Rattle.std.specs.Prelude.{nat_le, option_and_then}
use Rattle.std.specs.FinMap as map
use Rattle.std.proofs.lemmas.Bool.{and_from, and_parts, eq-eqb, le-leb}
use Rattle.imap_session.specs.Fit.{IsViewed}
use Rattle.imap_batch.specs.declared.batch.Batch.{Batch}
use Rattle.imap_batch.specs.declared.batch.NewMessage.{NewMessage}
use Rattle.imap_batch.specs.Batch.{are_known, event_count, has_few_keywords, mark_uids}
use Rattle.imap_batch.specs.Seen.{CanChange, HasRoomToAdd}
use Rattle.imap_mailbox.specs.Held.{IsKept}
use Rattle.imap_mailbox.specs.Lent.{row_uids}
use Rattle.imap_mailbox.specs.Rows.{Row, first_uid, is_among}
use Rattle.imap_mailbox.specs.Shown.{Content, content_of}
use Rattle.imap_mailbox.specs.Summary.{Rises, Summary}
use Rattle.imap_mailbox.proofs.Bounds.{rows_in_order}
use Rattle.imap_modseq.specs.Numbers.{max_events}
use Rattle.imap_names.specs.Name.{Name}
use Rattle.imap_rights.specs.Effective.{effective}
use Rattle.imap_rights.specs.Rights.{has_any, read, visible_rights}
use Rattle.imap_view.specs.Mailbox.{Mailbox}
use Rattle.imap_view.specs.declared.readable.Readable.{Readable}
use Rattle.imap_view.specs.MessagesAfter.{IsPossibleAt, MayAskOf}
use Rattle.imap_view.specs.Readable.{readable_by, readable_in, readable_of}
use Rattle.imap_view.specs.Seen.{Seen, is_root, owner_of, rights_shown, seen_at, seen_by_rights}
use Rattle.imap_view.specs.View.{View}
use Rattle.imap_view.proofs.Views.{get_seen}
use Rattle.imap_targets.specs.Left.{events_left}

-- ---- UIDs of rows

or_true : (b : Bool) → b || true ≡ true
or_true true = refl
or_true false = refl

pub known_more : (l u : ℕ) (uids us : List ℕ) → are_known l uids us ≡ true → are_known l uids (u ∷ us) ≡ true
known_more l u [] us e = refl
known_more l u (uid ∷ uids) us e =
    let first = and_parts (nat_le l uid) (is_among uid us && are_known (uid + 1) uids us) e in
    let rest = and_parts (is_among uid us) (are_known (uid + 1) uids us) first.1 in
    and_from (nat_le l uid) (is_among uid (u ∷ us) && are_known (uid + 1) uids (u ∷ us)) first.0
    (and_from (is_among uid (u ∷ us)) (are_known (uid + 1) uids (u ∷ us)) (ap (λ b. eqb u uid || b) rest.0 ∙ or_true (eqb u uid)) (known_more (uid + 1) u uids us rest.1))

-- those of some rows, in their order
pub chosen_known : (p : Row → Bool) (l low high : ℕ) (rows : List Row) → l ≤ low → Rises low high (row_uids rows) → are_known l (row_uids (filter p rows)) (row_uids rows) ≡ true
chosen_known p l low high [] le h = refl
chosen_known p l low high (r ∷ rows) le h = by (p r) (λ k below. chosen_known p k (r.uid + 1) high rows below h.1)
  where
    at : low ≤ r.uid
    at = h.0

    uids : List ℕ
    uids = row_uids (filter p rows)

    by : (b : Bool) → ((k : ℕ) → k ≤ r.uid + 1 → are_known k (row_uids (filter p rows)) (row_uids rows) ≡ true)
        → are_known l (row_uids (cond b (r ∷ filter p rows) (filter p rows))) (r.uid ∷ row_uids rows) ≡ true
    by true later =
        and_from (nat_le l r.uid) (is_among r.uid (r.uid ∷ row_uids rows) && are_known (r.uid + 1) uids (r.uid ∷ row_uids rows)) (le-leb l r.uid (omega (arith, le, at)))
        (and_from (is_among r.uid (r.uid ∷ row_uids rows)) (are_known (r.uid + 1) uids (r.uid ∷ row_uids rows)) (ap (λ b. b || is_among r.uid (row_uids rows)) (eq-eqb r.uid r.uid refl))
        (known_more (r.uid + 1) r.uid uids (row_uids rows) (later (r.uid + 1) (omega arith))))
    by false later = known_more l r.uid uids (row_uids rows) (later l (omega (arith, le, at)))

-- and the first of these
pub taken_known : (n l : ℕ) (uids us : List ℕ) → are_known l uids us ≡ true → are_known l (take n uids) us ≡ true
taken_known zero l uids us e = refl
taken_known (suc n) l [] us e = refl
taken_known (suc n) l (uid ∷ uids) us e =
    let first = and_parts (nat_le l uid) (is_among uid us && are_known (uid + 1) uids us) e in
    let rest = and_parts (is_among uid us) (are_known (uid + 1) uids us) first.1 in
    and_from (nat_le l uid) (is_among uid us && are_known (uid + 1) (take n uids) us) first.0
    (and_from (is_among uid us) (are_known (uid + 1) (take n uids) us) rest.0 (taken_known n (uid + 1) uids us rest.1))

-- ---- what a view shows of messages

some_one : {X : Type 0} (a b : X) → Some a ≡ Some b → a ≡ b
some_one a b e = cc e

pub record IsContent (user : List ℕ) (c : Content) : Type 0 where
  pub summary : Summary
  pub kept : IsKept summary
  pub is : c ≡ content_of user summary

module _ (view : View) (viewed : IsViewed view) (name : Name) (seen : Seen) (c : Content) (shows : seen.messages.content ≡ Some c) where
  abbrev rights_on : Mailbox → ℕ
  rights_on mailbox = effective view.user (owner_of view.site name) view.site.groups mailbox.acl

  abbrev shown : Mailbox → Seen
  shown mailbox = seen_by_rights view.site view.user (rights_on mailbox) mailbox

  by_right : (mailbox : Mailbox) → IsKept mailbox.messages → (p : Bool) → cond p (Some (content_of view.user mailbox.messages)) None ≡ Some c → IsContent view.user c
  by_right mailbox kept true e = record { summary = mailbox.messages; kept = kept; is = sym (some_one (content_of view.user mailbox.messages) c e) }
  by_right mailbox kept false e = absurd (cc e)

  by_tests : (mailbox : Mailbox) → IsKept mailbox.messages → (root visible : Bool) → cond root None (cond visible (Some (shown mailbox)) None) ≡ Some seen → IsContent view.user c
  by_tests mailbox kept true visible e = absurd (cc e)
  by_tests mailbox kept false false e = absurd (cc e)
  by_tests mailbox kept false true e =
      let r = rights_shown (rights_on mailbox) in
      by_right mailbox kept (r.read || r.admin) (ap (λ (k : Seen). k.messages.content) (some_one (shown mailbox) seen e) ∙ shows)

  by_mailbox : (o : Option Mailbox) → map.get viewed.world.mailboxes name ≡ o → option_and_then (seen_at view.site view.user name) o ≡ Some seen → IsContent view.user c
  by_mailbox None there e = absurd (cc e)
  by_mailbox (Some mailbox) there e = by_tests mailbox (viewed.kept.at name mailbox there) (is_root name) (has_any (rights_on mailbox) visible_rights) e

  content_is : map.get view.seen name ≡ Some seen → IsContent view.user c
  content_is is =
      by_mailbox (map.get viewed.world.mailboxes name) refl
      (sym (get_seen view.site view.user viewed.world name) ∙ ap (λ (v : View). map.get v.seen name) (sym viewed.is) ∙ is)

-- ---- what may be asked

none_added : (room : Option ℕ) → HasRoomToAdd 0 room
none_added None = refl
none_added (Some n) = omega arith

-- what a batch that adds nothing asks of the rows of a mailbox
pub record ChangesRows (batch : Batch) (mailbox : Readable) : Type 0 where
  pub none : batch.added ≡ []
  pub keywords : has_few_keywords batch ≡ true
  pub events : event_count batch ≤ events_left mailbox
  pub marked : are_known 0 (mark_uids batch.marks) (row_uids mailbox.rows) ≡ true
  pub expunged : are_known 0 batch.expunged (row_uids mailbox.rows) ≡ true

module _ (view : View) (viewed : IsViewed view) (name : Name) (mailbox : Readable) where
  -- the content that is shown
  pub record IsRead (seen : Seen) : Type 0 where
    pub content : Content
    pub shows : seen.messages.content ≡ Some content
    pub is : IsContent view.user content
    pub validity : ℕ
    pub same : mailbox ≡ (record {
      validity = validity;
      next_uid = content.next;
      highest = 1 + (content.shared + content.own);
      own = content.own;
      rows = content.rows;
    })

  read_by : (seen : Seen) → map.get view.seen name ≡ Some seen → (b : Bool) (v : Option ℕ) (o : Option Content) → seen.messages.content ≡ o
      → cond b (readable_by v o) None ≡ Some mailbox → IsRead seen
  read_by seen is false v o shows e = absurd (cc e)
  read_by seen is true None o shows e = absurd (cc e)
  read_by seen is true (Some validity) None shows e = absurd (cc e)
  read_by seen is true (Some validity) (Some c) shows e =
      record { content = c; shows = shows; is = content_is view viewed name seen c shows is; validity = validity; same = sym (some_one _ mailbox e) }

  rise_by : (o : Option Seen) → map.get view.seen name ≡ o → option_and_then readable_of o ≡ Some mailbox → (high : ℕ) × Rises first_uid high (row_uids mailbox.rows)
  rise_by None is e = absurd (cc e)
  rise_by (Some seen) is e =
      let read = read_by seen is (has_any seen.rights read) seen.validity seen.messages.content refl e in
      let order = rows_in_order read.is.summary view.user read.is.kept in (
        read.is.summary.next,
        subst (λ (rs : List Row). Rises first_uid read.is.summary.next (row_uids rs)) (sym (ap (λ (k : Content). k.rows) read.is.is) ∙ sym (ap (λ (m : Readable). m.rows) read.same)) order.uids,
      )

  -- UIDs of rows rise
  pub rows_rise : readable_in view name ≡ Some mailbox → (high : ℕ) × Rises first_uid high (row_uids mailbox.rows)
  rows_rise e = rise_by (map.get view.seen name) refl e

  module _ (batch : Batch) (changes : ChangesRows batch mailbox) where
    can_change : (seen : Seen) → IsRead seen → CanChange batch seen.messages.content
    can_change seen read =
        let few : read.content.shared ≤ max_events = subst (λ (k : Content). k.shared ≤ max_events) (sym read.is.is) read.is.kept.few in
        let left = ap events_left read.same in
        let rows = ap (λ (m : Readable). m.rows) read.same in
        subst (CanChange batch) (sym read.shows) (
          omega (arith, few, left, changes.events),
          ap (λ (rs : List Row). are_known 0 (mark_uids batch.marks) (row_uids rs)) (sym rows) ∙ changes.marked,
          ap (λ (rs : List Row). are_known 0 batch.expunged (row_uids rs)) (sym rows) ∙ changes.expunged,
        )

    by_seen : (o : Option Seen) → map.get view.seen name ≡ o → option_and_then readable_of o ≡ Some mailbox → IsPossibleAt batch o
    by_seen None is e = absurd (cc e)
    by_seen (Some seen) is e = record {
      keywords = changes.keywords;
      room = subst (λ (ms : List NewMessage). HasRoomToAdd (length ms) seen.messages.room) (sym changes.none) (none_added seen.messages.room);
      content = can_change seen (read_by seen is (has_any seen.rights read) seen.validity seen.messages.content refl e);
    }

    -- its user may ask for it
    pub may_change : readable_in view name ≡ Some mailbox → batch.user ≡ view.user → MayAskOf view (record { name = name; batch = batch })
    may_change e own = record { own = own; possible = by_seen (map.get view.seen name) refl e }
