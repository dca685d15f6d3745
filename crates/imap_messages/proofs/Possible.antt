-- A message may be put into a mailbox that is seen with room.
use Rattle.std.proofs.Common.{◌≡◌, ℕ, zero, suc, ◌+◌, ◌≤◌, Bool, true, false, cond, ◌||◌, ◌&&◌, not, List, [], ◌∷◌, Option, Some, None, refl, sym, ap, subst, ◌∙◌, true≢false, arith}
use Rattle.std.specs.Prelude.{option_and_then}
use Rattle.std.specs.FinMap as map
use Rattle.imap_answer.specs.Fit.{IsViewed}
use Rattle.imap_batch.specs.declared.batch.NewMessage.{NewMessage}
use Rattle.imap_batch.specs.Seen.{CanChange, HasRoomToAdd, IsPossible}
use Rattle.imap_mailbox.specs.Flags.{has_too_many}
use Rattle.imap_mailbox.specs.Shown.{content_of}
use Rattle.imap_mailbox.specs.Summary.{Summary, room_of}
use Rattle.imap_modseq.specs.Numbers.{max_events}
use Rattle.imap_names.specs.Name.{Name}
use Rattle.imap_rights.specs.Effective.{effective}
use Rattle.imap_rights.specs.Rights.{has_any, visible_rights}
use Rattle.imap_world.specs.Mailbox.{Mailbox}
use Rattle.imap_view.specs.Seen.{Seen, is_root, owner_of, rights_shown, seen_at, seen_by_rights}
use Rattle.imap_view.specs.View.{View}
use Rattle.imap_view.proofs.Views.{get_seen}
use Rattle.imap_batch.specs.Batch.{adding}
use Rattle.imap_messages.specs.Append.{is_full}

-- ---- one mailbox

has_room : (room : Option ℕ) → is_full room ≡ false → HasRoomToAdd 1 room
has_room None full = absurd (true≢false full)
has_room (Some zero) full = absurd (true≢false full)
has_room (Some (suc n)) full = omega arith

module _ (user : List ℕ) (most : ℕ) (s : Summary) (m : NewMessage) (few : s.shared ≤ max_events) where
  can_change : (p x : Bool) → HasRoomToAdd 1 (cond x (Some (room_of most s)) None) → CanChange (adding user (m ∷ [])) (cond p (Some (content_of user s)) None)
  can_change false x room = (refl, refl)
  can_change true true room =
      let left : s.shared + 1 ≤ max_events = omega (arith, room, few) in
      (left, refl, refl)
  can_change true false room = absurd (omega (arith, room))

-- ---- of a view

some_one : (a b : Seen) → Some a ≡ Some b → a ≡ b
some_one a b e = cc e

module _ (view : View) (viewed : IsViewed view) (name : Name) (seen : Seen) (m : NewMessage) (room : is_full seen.messages.room ≡ false) where
  abbrev rights_on : Mailbox → ℕ
  rights_on mailbox = effective view.user (owner_of view.site name) view.site.groups mailbox.acl

  abbrev shows : Mailbox → Seen
  shows mailbox = seen_by_rights view.site view.user (rights_on mailbox) mailbox

  by_tests : (mailbox : Mailbox) → mailbox.messages.shared ≤ max_events → (root visible : Bool) → cond root None (cond visible (Some (shows mailbox)) None) ≡ Some seen → CanChange (adding view.user (m ∷ [])) seen.messages.content
  by_tests mailbox few true visible e = absurd (cc e)
  by_tests mailbox few false false e = absurd (cc e)
  by_tests mailbox few false true e =
      let same = some_one (shows mailbox) seen e in
      let r = rights_shown (rights_on mailbox) in
      subst (λ (k : Seen). CanChange (adding view.user (m ∷ [])) k.messages.content) same
      (can_change view.user view.site.limits.max_messages mailbox.messages m few (r.read || r.admin) (r.read || (r.insert || r.admin))
      (subst (λ (k : Seen). HasRoomToAdd 1 k.messages.room) (sym same) (has_room seen.messages.room room)))

  by_mailbox : (o : Option Mailbox) → map.get viewed.world.mailboxes name ≡ o → option_and_then (seen_at view.site view.user name) o ≡ Some seen → CanChange (adding view.user (m ∷ [])) seen.messages.content
  by_mailbox None there e = absurd (cc e)
  by_mailbox (Some mailbox) there e = by_tests mailbox (viewed.kept.at name mailbox there).few (is_root name) (has_any (rights_on mailbox) visible_rights) e

  pub possible : map.get view.seen name ≡ Some seen → has_too_many m.flags ≡ false → IsPossible (adding view.user (m ∷ [])) seen.messages
  possible is few = record {
    keywords = ap (λ b. (not b && true) && true) few;
    room = has_room seen.messages.room room;
    content = by_mailbox (map.get viewed.world.mailboxes name) refl
        (sym (get_seen view.site view.user viewed.world name) ∙ ap (λ (v : View). map.get v.seen name) (sym viewed.is) ∙ is);
  }
