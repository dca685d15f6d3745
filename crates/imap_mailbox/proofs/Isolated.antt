-- How each change shows to a user.
use Rattle.std.proofs.Common.{◌≡◌, ℕ, ◌+◌, ◌-◌, Bool, true, false, cond, ◌||◌, List, length, map, Some, None, option_map, refl, sym, ap, ◌∙◌, arith}
use Rattle.std.proofs.lemmas.List.{length_push, length-map}
use Rattle.imap_mailbox.specs.Rows.{Arrival, Event, Shared, SeenSet, row_step, gone_step, IsGiven}
use Rattle.imap_mailbox.specs.History.{room_by}
use Rattle.imap_mailbox.specs.Own.{Own, own_at}
use Rattle.imap_mailbox.specs.Summary.{Summary, message_of, with_arrival, step, with_seen, rows_of, gone_of, room_of, row_in, gone_in, own_with, IsSound}
use Rattle.imap_mailbox.specs.Shown.{content_of, shown_to, content_after, content_with_seen, room_in, AnothersSeenIsHidden, AddIsSeenAsRoom, event_seen, EventIsSeen, OwnSeenIsSeen}
use Rattle.imap_mailbox.proofs.Merged.{own_at-same, own_at-other}
use Rattle.imap_mailbox.proofs.Rising.{taken_below}
use Rattle.imap_mailbox.proofs.Joined.{mark_all, taken_stay}
use Rattle.imap_mailbox.proofs.Fitting.{next_after, shared_after, own_after, last_of_fits, rows_step, taken_step}

pub anothers_seen_is_hidden : AnothersSeenIsHidden
anothers_seen_is_hidden most user other r s uid seen apart = λ i. record {
  content = cond (r.read || r.admin) (Some (record {
    next = s.next;
    shared = s.shared;
    own = length (own_at-other s.own user other s.shared uid seen apart i).befores;
    rows = map (row_in (own_at-other s.own user other s.shared uid seen apart i)) s.messages;
    gone = map (gone_in (own_at-other s.own user other s.shared uid seen apart i)) s.gone;
  })) None;
  room = cond (r.read || (r.insert || r.admin)) (Some (room_of most s)) None;
}

own_stays : (e : Event) (s : Summary) (user : List ℕ) → own_at (step e s).own user ≡ own_at s.own user
own_stays e s user = ap (λ own. own_at own user) (own_after e s)

pub shows_after : (user : List ℕ) (s : Summary) (e : Event) → IsSound s → IsGiven s.next (Shared e) → content_of user (step e s) ≡ content_after e (content_of user s)
shows_after user s e h given = λ i. record {
  next = next_after e s i;
  shared = shared_after e s i;
  own = length (own_stays e s user i).befores;
  rows = new_rows i;
  gone = new_gone i;
}
  where
    new_rows : rows_of (step e s) user ≡ row_step (2 + (s.shared + length (own_at s.own user).befores)) (Shared e) (rows_of s user)
    new_rows = ap (λ own. map (row_in own) (step e s).messages) (own_stays e s user) ∙ sym (rows_step e s (own_at s.own user) given (h.fits user))

    new_gone : gone_of (step e s) user ≡ gone_step (2 + (s.shared + length (own_at s.own user).befores)) (Shared e) (gone_of s user)
    new_gone = ap (λ own. map (gone_in own) (step e s).gone) (own_stays e s user) ∙ sym (taken_step e s (own_at s.own user) (h.fits user))

pub shows_marked : (user : List ℕ) (s : Summary) (uid : ℕ) (seen : Bool) → IsSound s → content_of user (with_seen user uid seen s) ≡ content_with_seen uid seen (content_of user s)
shows_marked user s uid seen h = λ i. record {
  next = s.next;
  shared = s.shared;
  own = new_own i;
  rows = new_rows i;
  gone = new_gone i;
}
  where
    new_own : length (own_at (own_with s.own user s.shared uid seen) user).befores ≡ length (own_at s.own user).befores + 1
    new_own = ap (λ (o : Own). length o.befores) (own_at-same s.own user s.shared uid seen) ∙ length_push (own_at s.own user).befores s.shared

    new_rows : rows_of (with_seen user uid seen s) user ≡ row_step (2 + (s.shared + length (own_at s.own user).befores)) (SeenSet uid seen) (rows_of s user)
    new_rows = ap (λ own. map (row_in own) s.messages) (own_at-same s.own user s.shared uid seen) ∙ sym (mark_all (own_at s.own user) s.shared (h.fits user).order (last_of_fits s.shared s.next (own_at s.own user) (h.fits user)) uid seen s.messages h.place)

    new_gone : gone_of (with_seen user uid seen s) user ≡ gone_of s user
    new_gone = ap (λ own. map (gone_in own) s.gone) (own_at-same s.own user s.shared uid seen) ∙ sym (taken_stay (own_at s.own user) s.shared (h.fits user).order (last_of_fits s.shared s.next (own_at s.own user) (h.fits user)) uid seen s.gone (taken_below 0 s.shared s.gone h.places))

pub room_seen : (most : ℕ) (user : List ℕ) (s : Summary) → room_of most s ≡ room_in most (content_of user s)
room_seen most user s = ap (λ n. room_by most n s.next s.shared) (sym (length-map s.messages (row_in (own_at s.own user))))

pub event_is_seen : EventIsSeen
event_is_seen most user r s e may h given =
    (λ i. record {
      content = cond (may i) (Some (shows_after user s e h given i)) None;
      room = cond (any i) (Some ((room_seen most user (step e s) ∙ ap (room_in most) (shows_after user s e h given)) i)) None;
    })
    ∙ ap (λ b. event_seen most e (record { content = cond b (Some (content_of user s)) None; room = (shown_to most user r s).room })) (sym may)
  where
    any : (r.read || (r.insert || r.admin)) ≡ true
    any = grind arith

pub own_seen_is_seen : OwnSeenIsSeen
own_seen_is_seen most user r s uid seen h = λ i. record { content = part (r.read || r.admin) i; room = cond (r.read || (r.insert || r.admin)) (Some (room_of most s)) None }
  where
    part : (b : Bool) → cond b (Some (content_of user (with_seen user uid seen s))) None ≡ option_map (content_with_seen uid seen) (cond b (Some (content_of user s)) None)
    part true = ap Some (shows_marked user s uid seen h)
    part false = refl

room_less : (most a b n : ℕ) → room_by most (a + 1) (b + 1) (n + 1) ≡ room_by most a b n - 1
room_less most a b n = omega arith

room_added : (most : ℕ) (s : Summary) (m : Arrival) → m.uid ≡ s.next → room_of most (with_arrival m s) ≡ room_of most s - 1
room_added most s m next = (λ i. room_by most (length_push s.messages (message_of s.shared m) i) (next i + 1) (s.shared + 1)) ∙ room_less most (length s.messages) s.next s.shared

pub add_is_seen_as_room : AddIsSeenAsRoom
add_is_seen_as_room most user r s m no_rows next = (λ i. record {
  content = cond (no_rows i) (Some (content_of user (with_arrival m s))) None;
  room = part (r.read || (r.insert || r.admin)) i;
})
  where
    part : (b : Bool) → cond b (Some (room_of most (with_arrival m s))) None ≡ option_map (λ n. n - 1) (cond b (Some (room_of most s)) None)
    part true = ap Some (room_added most s m next)
    part false = refl
