-- How changes that are decided already show to a user.
use Rattle.std.proofs.Common.{◌≡◌, ℕ, Bool, true, false, cond, ◌||◌, List, [], ◌∷◌, Some, None, refl, sym, ap, ◌∙◌, arith}
use Rattle.imap_mailbox.specs.Rows.{FlagsSet, Expunged, is_among}
use Rattle.imap_mailbox.specs.Own.{own_at}
use Rattle.imap_mailbox.specs.Summary.{Summary, with_flags, with_expunge, with_seen, is_there, IsSound}
use Rattle.imap_mailbox.specs.Calls.{if_there}
use Rattle.imap_mailbox.specs.Expunging.{with_expunges}
use Rattle.imap_mailbox.specs.Shown.{Content, content_of, shown_to, content_after, content_with_seen, if_shown, content_without, content_expunged, room_in, expunges_seen, DecidedIsSeen, ExpungesAreSeen}
use Rattle.imap_mailbox.proofs.Fitting.{sound_step}
use Rattle.imap_mailbox.proofs.Lending.{uids_lent}
use Rattle.imap_mailbox.proofs.Isolated.{shows_after, shows_marked, room_seen}

pub sound_without : (uid : ℕ) (s : Summary) → IsSound s → IsSound (if_there uid (with_expunge uid s) s)
sound_without uid s h = by (is_there uid s) refl
  where
    by : (b : Bool) → is_there uid s ≡ b → IsSound (cond b (with_expunge uid s) s)
    by true t = sound_step (Expunged uid) s tt t h
    by false f = h

-- a change that is made only if a message has the UID
pub shows_there : (user : List ℕ) (uid : ℕ) (s new : Summary) (after : Content) → content_of user new ≡ after → content_of user (if_there uid new s) ≡ if_shown uid after (content_of user s)
shows_there user uid s new after e =
    by (is_there uid s) ∙ ap (λ us. cond (is_among uid us) after (content_of user s)) (uids_lent (own_at s.own user) s.messages)
  where
    by : (b : Bool) → content_of user (cond b new s) ≡ cond b after (content_of user s)
    by true = e
    by false = refl

shows_without : (user : List ℕ) (uid : ℕ) (s : Summary) → IsSound s → content_of user (if_there uid (with_expunge uid s) s) ≡ content_without uid (content_of user s)
shows_without user uid s h = shows_there user uid s (with_expunge uid s) (content_after (Expunged uid) (content_of user s)) (shows_after user s (Expunged uid) h tt)

pub decided_is_seen : DecidedIsSeen
decided_is_seen user s uid h = (
  λ flags. shows_there user uid s (with_flags uid flags s) (content_after (FlagsSet uid flags) (content_of user s)) (shows_after user s (FlagsSet uid flags) h tt),
  λ seen. shows_there user uid s (with_seen user uid seen s) (content_with_seen uid seen (content_of user s)) (shows_marked user s uid seen h),
  shows_without user uid s h,
)

pub shows_expunged : (user : List ℕ) (uids : List ℕ) (s : Summary) → IsSound s → content_of user (with_expunges uids s) ≡ content_expunged uids (content_of user s)
shows_expunged user [] s h = refl
shows_expunged user (uid ∷ uids) s h =
    shows_expunged user uids (if_there uid (with_expunge uid s) s) (sound_without uid s h) ∙ ap (content_expunged uids) (shows_without user uid s h)

pub expunges_are_seen : ExpungesAreSeen
expunges_are_seen most user r s uids may h =
    (λ i. record {
      content = cond (may i) (Some (shows_expunged user uids s h i)) None;
      room = cond (any i) (Some ((room_seen most user (with_expunges uids s) ∙ ap (room_in most) (shows_expunged user uids s h)) i)) None;
    })
    ∙ ap (λ b. expunges_seen most uids (record { content = cond b (Some (content_of user s)) None; room = (shown_to most user r s).room })) (sym may)
  where
    any : (r.read || (r.insert || r.admin)) ≡ true
    any = grind arith
