-- What a user may ask of a mailbox into which messages are copied, and of the one that they are taken from.
use Rattle.std.proofs.Common.{◌≡◌, ℕ, suc, ◌+◌, ◌≤◌, Bool, true, false, cond, ◌||◌, not, List, [], ◌∷◌, filter, length, Option, Some, None, refl, sym, ap, subst, ◌∙◌, arith}
use Rattle.std.specs.Prelude.{nat_lt, option_and_then}
use Rattle.std.specs.List.{list_all}
use Rattle.std.specs.FinMap as map
use Rattle.std.proofs.lemmas.Bool.{and_from, ltb-false, le-ltb}
use Rattle.imap_answer.specs.Fit.{IsViewed}
use Rattle.imap_batch.specs.declared.batch.Batch.{Batch}
use Rattle.imap_batch.specs.declared.batch.NewMessage.{NewMessage}
use Rattle.imap_batch.specs.Batch.{are_known}
use Rattle.imap_batch.specs.Seen.{CanChange, HasRoomToAdd, IsPossible}
use Rattle.imap_mailbox.specs.Flags.{has_too_many, max_keywords}
use Rattle.imap_mailbox.specs.Held.{IsKept}
use Rattle.imap_mailbox.specs.Lent.{row_uids}
use Rattle.imap_mailbox.specs.Order.{AreOfFewKeywords}
use Rattle.imap_mailbox.specs.Rows.{Row, first_uid}
use Rattle.imap_mailbox.specs.Shown.{Content, content_of}
use Rattle.imap_mailbox.specs.Summary.{Rises, Summary, room_of}
use Rattle.imap_mailbox.proofs.Bounds.{rows_in_order}
use Rattle.imap_modseq.specs.Numbers.{max_events}
use Rattle.imap_names.specs.Name.{Name}
use Rattle.imap_rights.specs.Effective.{effective}
use Rattle.imap_rights.specs.Rights.{administer, has_any, insert, read, visible_rights, write}
use Rattle.imap_world.specs.Mailbox.{Mailbox}
use Rattle.imap_view.specs.declared.readable.Readable.{Readable}
use Rattle.imap_view.specs.Readable.{readable_by, readable_of}
use Rattle.imap_view.specs.Seen.{Seen, is_root, owner_of, seen_at, seen_by_rights}
use Rattle.imap_view.specs.View.{View}
use Rattle.imap_view.proofs.Views.{get_seen}
use Rattle.imap_targets.specs.Left.{events_left}
use Rattle.imap_changes.specs.Copies.{copies_of, flags_kept}
use Rattle.imap_batch.specs.Batch.{adding}
use Rattle.imap_changes.specs.Transfer.{lacks_move_events, lacks_room, room_left}

-- ---- keywords

-- a copy has no more than the message
few_kept : (rights : ℕ) (r : Row) → length r.flags.keywords ≤ max_keywords → not (has_too_many (flags_kept rights r.flags)) ≡ true
few_kept rights r few = by (has_any rights write)
  where
    by : (w : Bool) → not (nat_lt max_keywords (length (cond w r.flags.keywords []))) ≡ true
    by true = ap not (le-ltb max_keywords (length r.flags.keywords) few)
    by false = refl

pub few_copies : (rights : ℕ) (rows : List Row) → AreOfFewKeywords rows → list_all (λ (m : NewMessage). not (has_too_many m.flags)) (copies_of rights rows) ≡ true
few_copies rights [] few = refl
few_copies rights (r ∷ rows) few =
    and_from (not (has_too_many (flags_kept rights r.flags))) (list_all (λ (m : NewMessage). not (has_too_many m.flags)) (copies_of rights rows)) (few_kept rights r few.0) (few_copies rights rows few.1)

pub few_chosen : (p : Row → Bool) (rows : List Row) → AreOfFewKeywords rows → AreOfFewKeywords (filter p rows)
few_chosen p [] few = tt
few_chosen p (r ∷ rows) few = by (p r) (few_chosen p rows few.1)
  where
    by : (b : Bool) → AreOfFewKeywords (filter p rows) → AreOfFewKeywords (cond b (r ∷ filter p rows) (filter p rows))
    by true rest = (few.0, rest)
    by false rest = rest

-- ---- a mailbox that is seen

some_same : {X : Type 0} (a b : X) → Some a ≡ Some b → a ≡ b
some_same a b e = cc e

module _ (view : View) (viewed : IsViewed view) (name : Name) where
  abbrev shown : ℕ → Mailbox → Seen
  shown rights mailbox = seen_by_rights view.site view.user rights mailbox

  -- it is what is shown of a mailbox that is there
  pub record IsShown (seen : Seen) : Type 0 where
    pub rights : ℕ
    pub mailbox : Mailbox
    pub kept : IsKept mailbox.messages
    pub same : shown rights mailbox ≡ seen

  shown_by : (seen : Seen) (mailbox : Mailbox) → IsKept mailbox.messages → (rights : ℕ) (root visible : Bool) → cond root None (cond visible (Some (shown rights mailbox)) None) ≡ Some seen → IsShown seen
  shown_by seen mailbox kept rights true visible e = absurd (cc e)
  shown_by seen mailbox kept rights false false e = absurd (cc e)
  shown_by seen mailbox kept rights false true e = record { rights = rights; mailbox = mailbox; kept = kept; same = some_same (shown rights mailbox) seen e }

  shown_at : (seen : Seen) (o : Option Mailbox) → map.get viewed.world.mailboxes name ≡ o → option_and_then (seen_at view.site view.user name) o ≡ Some seen → IsShown seen
  shown_at seen None there e = absurd (cc e)
  shown_at seen (Some mailbox) there e =
      let rights = effective view.user (owner_of view.site name) view.site.groups mailbox.acl in
      shown_by seen mailbox (viewed.kept.at name mailbox there) rights (is_root name) (has_any rights visible_rights) e

  pub shown_is : (seen : Seen) → map.get view.seen name ≡ Some seen → IsShown seen
  shown_is seen is =
      shown_at seen (map.get viewed.world.mailboxes name) refl
      (sym (get_seen view.site view.user viewed.world name) ∙ ap (λ (v : View). map.get v.seen name) (sym viewed.is) ∙ is)

-- ---- a mailbox that is read

-- what is read of it is the content
pub record IsReadOf (mailbox : Readable) (c : Content) (s : Summary) : Type 0 where
  pub rows : c.rows ≡ mailbox.rows
  pub few : s.shared ≤ max_events
  pub left : s.shared + events_left mailbox ≡ max_events
  pub rise : Rises first_uid mailbox.next_uid (row_uids mailbox.rows)
  pub keywords : AreOfFewKeywords mailbox.rows

module _ (view : View) (m : Mailbox) (kept : IsKept m.messages) where
  abbrev content : Content
  content = content_of view.user m.messages

  read_of_content : (mailbox : Readable) → mailbox ≡ (record {
    validity = m.validity;
    next_uid = content.next;
    highest = 1 + (content.shared + content.own);
    own = content.own;
    rows = content.rows;
  }) → IsReadOf mailbox content m.messages
  read_of_content mailbox same =
      let order = rows_in_order m.messages view.user kept in
      let few = kept.few in
      subst (λ (r : Readable). IsReadOf r content m.messages) (sym same) (record {
        rows = refl;
        few = few;
        left = omega (arith, few);
        rise = order.uids;
        keywords = order.keywords;
      })

  pub read_by_rights : (rights : ℕ) (mailbox : Readable) → readable_of (seen_by_rights view.site view.user rights m) ≡ Some mailbox → IsReadOf mailbox content m.messages
  read_by_rights rights mailbox = by (has_any rights read) (has_any rights administer)
    where
      by : (r a : Bool) → cond r (readable_by (cond (r || a) (Some m.validity) None) (cond (r || a) (Some content) None)) None ≡ Some mailbox → IsReadOf mailbox content m.messages
      by false a e = absurd (cc e)
      by true a e = read_of_content mailbox (sym (some_same _ mailbox e))

-- ---- what is possible

has_room : (room : Option ℕ) (count : ℕ) → nat_lt (room_left room) (suc count) ≡ false → HasRoomToAdd (suc count) room
has_room None count e = absurd (omega (arith, ltb-false 0 (suc count) e))
has_room (Some n) count e = let le = ltb-false n (suc count) e in omega (arith, le)

module _ (view : View) (m : Mailbox) (kept : IsKept m.messages) (rights : ℕ) where
  abbrev seen : Seen
  seen = seen_by_rights view.site view.user rights m

  -- a message or more may be added
  pub may_add : (copies : List NewMessage) (count : ℕ) → length copies ≡ suc count → list_all (λ (n : NewMessage). not (has_too_many n.flags)) copies ≡ true → lacks_room seen (suc count) ≡ false
      → IsPossible (adding view.user copies) seen.messages
  may_add copies count long few room = record {
    keywords = and_from (list_all (λ (n : NewMessage). not (has_too_many n.flags)) copies) true few refl;
    room = subst (λ n. HasRoomToAdd n seen.messages.room) (sym long) (has_room seen.messages.room count room);
    content = by (has_any rights read) (has_any rights administer) (has_any rights insert) room;
  }
    where
      fits : nat_lt (room_left (Some (room_of view.site.limits.max_messages m.messages))) (suc count) ≡ false → CanChange (adding view.user copies) (Some (content_of view.user m.messages))
      fits e =
          let le = ltb-false (room_of view.site.limits.max_messages m.messages) (suc count) e in
          let bound = kept.few in
          let enough : m.messages.shared + (length copies + (0 + 0)) ≤ max_events = omega (arith, le, bound, long) in
          (enough, refl, refl)

      by : (r a i : Bool) → nat_lt (room_left (cond (r || (i || a)) (Some (room_of view.site.limits.max_messages m.messages)) None)) (suc count) ≡ false
          → CanChange (adding view.user copies) (cond (r || a) (Some (content_of view.user m.messages)) None)
      by true a i e = fits e
      by false true true e = fits e
      by false true false e = fits e
      by false false i e = (refl, refl)

  -- and messages that are read may be expunged after that
  pub may_move : (mailbox : Readable) → readable_of seen ≡ Some mailbox → (copies : List NewMessage) (uids : List ℕ) (count : ℕ) → length copies ≡ suc count → length uids ≡ suc count
      → list_all (λ (n : NewMessage). not (has_too_many n.flags)) copies ≡ true → lacks_room seen (suc count) ≡ false → lacks_move_events mailbox true (suc count) ≡ false
      → are_known 0 uids (row_uids mailbox.rows) ≡ true → IsPossible (record { user = view.user; added = copies; marks = []; expunged = uids }) seen.messages
  may_move mailbox reads copies uids count long also few room events known = record {
    keywords = and_from (list_all (λ (n : NewMessage). not (has_too_many n.flags)) copies) true few refl;
    room = subst (λ n. HasRoomToAdd n seen.messages.room) (sym long) (has_room seen.messages.room count room);
    content = by (has_any rights read) (has_any rights administer) reads;
  }
    where
      batch : Batch
      batch = record { user = view.user; added = copies; marks = []; expunged = uids }

      reading : IsReadOf mailbox (content_of view.user m.messages) m.messages
      reading = read_by_rights view m kept rights mailbox reads

      fits : CanChange batch (Some (content_of view.user m.messages))
      fits =
          let le = ltb-false (events_left mailbox) (suc count + suc count) events in
          let left = reading.left in
          let enough : m.messages.shared + (length copies + (0 + length uids)) ≤ max_events = omega (arith, le, left, long, also) in
          (enough, refl, ap (λ (rs : List Row). are_known 0 uids (row_uids rs)) reading.rows ∙ known)

      by : (r a : Bool) → cond r (readable_by (cond (r || a) (Some m.validity) None) (cond (r || a) (Some (content_of view.user m.messages)) None)) None ≡ Some mailbox
          → CanChange batch (cond (r || a) (Some (content_of view.user m.messages)) None)
      by true a e = fits
      by false a e = absurd (cc e)
