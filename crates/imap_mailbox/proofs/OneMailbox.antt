-- Parts stand for one mailbox at most.
use Rattle.std.proofs.Common.{◌≡◌, ◌≢◌, ℕ, List, map, Option, Some, None, unwrap_or, refl, sym, ap, ◌∙◌, IsPermutation}
use Rattle.std.specs.FinMap as fin
use Rattle.std.proofs.lemmas.List.Sorted.{IsPermutation-sym, IsPermutation-trans}
use Rattle.imap_user_map.specs.Rows.{Users}
use Rattle.imap_user_map.proofs.Entries.{same_answers}
use Rattle.imap_mailbox.specs.declared.message.GoneMessage.{GoneMessage}
use Rattle.imap_mailbox.specs.declared.message.Message.{Message}
use Rattle.imap_mailbox.specs.KeptRows.{AreKept}
use Rattle.imap_mailbox.specs.Own.{Own, no_own, own_at, found_in}
use Rattle.imap_mailbox.specs.Parts.{StandForOne}
use Rattle.imap_mailbox.specs.Summary.{Rises}
use Rattle.imap_mailbox.specs.UserChange.{UserChange, of_user, row_of, rows_of_user}
use Rattle.imap_mailbox.proofs.Following.{end_of}
use Rattle.imap_mailbox.proofs.OwnChanges.{has_kept, has_of, places_rise}
use Rattle.imap_mailbox.proofs.Reordered.{has_moved, same_rising}

-- lists that rise, and are reordered from one list
reordered : {X : Type 0} (f : X → ℕ) (rows xs ys : List X) (low high more end : ℕ) → IsPermutation rows xs → IsPermutation rows ys
    → Rises low high (map f xs) → Rises more end (map f ys) → xs ≡ ys
reordered f rows xs ys low high more end first second h k =
    same_rising f low high more end xs ys h k
    (has_moved xs ys (IsPermutation-trans xs rows ys (IsPermutation-sym rows xs first) second))
    (has_moved ys xs (IsPermutation-trans ys rows xs (IsPermutation-sym rows ys second) first))

one_own : (shared : ℕ) (rows xs ys : List UserChange) (user : List ℕ) (own other : Own) → IsPermutation rows xs → IsPermutation rows ys
    → AreKept 0 0 shared (rows_of_user user xs) × (found_in (rows_of_user user xs) ≡ own) → AreKept 0 0 shared (rows_of_user user ys) × (found_in (rows_of_user user ys) ≡ other) → own ≡ other
one_own shared rows xs ys user own other first second is also = sym is.1 ∙ ap (λ l. found_in (map row_of l)) same ∙ also.1
  where
    there : IsPermutation xs ys
    there = IsPermutation-trans xs rows ys (IsPermutation-sym rows xs first) second

    back : IsPermutation ys xs
    back = IsPermutation-sym xs ys there

    same : of_user user xs ≡ of_user user ys
    same =
        same_rising (λ (c : UserChange). c.place) 0 (end_of 0 (rows_of_user user xs)) 0 (end_of 0 (rows_of_user user ys)) (of_user user xs) (of_user user ys)
        (places_rise user shared xs is.0)
        (places_rise user shared ys also.0)
        (λ x h. let at = has_kept user xs x h in has_of user ys x (has_moved xs ys there x at.0) at.1)
        (λ x h. let at = has_kept user ys x h in has_of user xs x (has_moved ys xs back x at.0) at.1)

-- maps without entries that have no change, and that give each user the same
same_lists : (own other : Users Own) → ((user : List ℕ) → fin.get own user ≢ Some no_own) → ((user : List ℕ) → fin.get other user ≢ Some no_own)
    → ((user : List ℕ) → own_at own user ≡ own_at other user) → own ≡ other
same_lists own other filled full same = same_answers own other (λ user. by (fin.get own user) (fin.get other user) (filled user) (full user) (same user))
  where
    by : (a b : Option Own) → a ≢ Some no_own → b ≢ Some no_own → unwrap_or a no_own ≡ unwrap_or b no_own → a ≡ b
    by None None f g e = refl
    by None (Some l) f g e = absurd (g (ap Some (sym e)))
    by (Some l) None f g e = absurd (f (ap Some e))
    by (Some l) (Some m) f g e = ap Some e

pub stand_for_one : StandForOne
stand_for_one parts s t kept held first second =
    λ i. record {
      messages = messages i;
      gone = gone i;
      next = (first.next ∙ sym second.next) i;
      shared = (first.shared ∙ sym second.shared) i;
      own = own i;
    }
  where
    messages : s.messages ≡ t.messages
    messages = reordered (λ (m : Message). m.uid) parts.messages.items s.messages t.messages 1 s.next 1 t.next first.messages second.messages kept.sound.uids held.sound.uids

    gone : s.gone ≡ t.gone
    gone = reordered (λ (g : GoneMessage). g.place) parts.gone.items s.gone t.gone 0 s.shared 0 t.shared first.gone second.gone kept.sound.places held.sound.places

    own : s.own ≡ t.own
    own =
        same_lists s.own t.own kept.filled held.filled
        (λ user. one_own parts.shared parts.own.items first.own.0 second.own.0 user (own_at s.own user) (own_at t.own user) first.own.1 second.own.1 (first.own.2 user) (second.own.2 user))
