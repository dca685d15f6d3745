-- The own changes of all users after one more.
use Rattle.std.proofs.Common.{◌≡◌, ℕ, ◌<◌, List, length, true, false, Option, Some, None, unwrap_or, is_some, Result, Ok, Err, OnOk, refl, sym, ap, subst, ◌∙◌}
use Rattle.std.specs.Option.{option_map, option_copied_mut, OnSome}
use Rattle.std.specs.Borrow.{MutBor}
use Rattle.std.specs.FinMap as fin
use Rattle.imap_user_map.specs.Rows.{Rows, Users, with_value}
use Rattle.std.specs.Prelude.{option_and_then}
use Rattle.imap_mailbox.specs.Owned.{if_any, owned_changes, changes_of}
use Rattle.imap_mailbox.proofs.Values.{any_none, any_there, changes_in, changes_put, changes_same, get_set}
use Rattle.imap_mailbox.specs.declared.own.SeenChange.{SeenChange}
use Rattle.imap_mailbox.specs.Own.{Own, no_own, with_change}
use Rattle.imap_mailbox.specs.Owned.{Owned}
use Rattle.imap_mailbox.specs.declared.message.Message.{Message}
use Rattle.imap_mailbox.specs.Counted.{seen_among, seen_after, IsCounted, AreCounted}
use Rattle.imap_mailbox.specs.Held.{lists, list_at, list_room, own_room}
use Rattle.imap_mailbox.specs.Rows.{is_among}
use Rattle.imap_mailbox.specs.Summary.{AreRising, latest, latest_seen, uids_in}
use Rattle.imap_mailbox.proofs.AllCounted.{put_counted}
use Rattle.imap_mailbox.proofs.SeenCounts.{seen_pushed}

list_in : (own : Rows Owned) (user : List ℕ) → list_at own user ≡ unwrap_or (option_map (λ (o : Owned). o.own) (fin.get own.map user)) no_own
list_in own user = changes_in own.map user

-- n is old once the list that it lent ends as o
module _ (old n : Rows Owned) (user : List ℕ) (found : MutBor Owned) (o : Owned) (r : Option (MutBor Owned)) (is : r ≡ Some found) (value : option_copied_mut r ≡ fin.get old.map user) (lends : OnSome r (n ≡ with_value old user o)) where
  pub lent : n ≡ with_value old user o
  lent = subst (λ r. OnSome r (n ≡ with_value old user o)) is lends

  pub was : fin.get old.map user ≡ Some found.now
  was = sym value ∙ ap option_copied_mut is

  -- it ends as f of what it was, which has a change
  pub one_more : (f : Own → Own) → 0 < length (f (list_at old user)).befores → o.own ≡ f found.now.own → lists n ≡ fin.insert (lists old) user (f (list_at old user))
  one_more f some e =
      let had : found.now.own ≡ list_at old user = sym (list_in old user ∙ ap (λ o. unwrap_or (option_map (λ (o : Owned). o.own) o) no_own) was) in
      ap lists lent ∙ changes_put old.map user o (f (list_at old user)) (ap if_any (e ∙ ap f had) ∙ any_there (f (list_at old user)) some)

  pub same_lists : o.own ≡ found.now.own → lists n ≡ lists old
  same_lists e = ap lists lent ∙ changes_same old.map user o (ap if_any e ∙ sym (ap (option_and_then (owned_changes user)) was))

  pub room_after : own_room n user ≡ o.room
  room_after = ap (λ (rows : Rows Owned). own_room rows user) lent ∙ ap list_room (get_set old.map user o)

  put_is : n.map ≡ fin.insert old.map user o
  put_is = ap (λ (rows : Rows Owned). rows.map) lent

  pub same_kept : (messages : List Message) → o.own ≡ found.now.own → o.seen ≡ found.now.seen → AreCounted messages old → AreCounted messages n
  same_kept messages same seen h =
      let had : found.now.seen ≡ seen_among found.now.own (uids_in messages) = subst (IsCounted messages) was (h user) in
      put_counted messages old.map n.map user o put_is (seen ∙ had ∙ ap (λ l. seen_among l (uids_in messages)) (sym same)) h

  pub one_counted : (messages : List Message) (change : SeenChange) → AreRising (uids_in messages) → is_among change.uid (uids_in messages) ≡ true
      → o.own ≡ with_change change found.now.own → o.seen ≡ seen_after (latest_seen (latest change.uid found.now.own)) change.seen found.now.seen
      → AreCounted messages old → AreCounted messages n
  one_counted messages change rising there pushed seen h =
      let had : found.now.seen ≡ seen_among found.now.own (uids_in messages) = subst (IsCounted messages) was (h user) in
      put_counted messages old.map n.map user o put_is
      (seen ∙ ap (seen_after (latest_seen (latest change.uid found.now.own)) change.seen) had
      ∙ sym (seen_pushed found.now.own change rising.0 rising.1 (uids_in messages) rising.2 there)
      ∙ ap (λ l. seen_among l (uids_in messages)) (sym pushed)) h

pub on_ok : {A E : Type 0} (P Q : Type 0) (r : Result A E) → (P → Q) → OnOk r P → OnOk r Q
on_ok P Q (Ok x) f h = f h
on_ok P Q (Err e) f h = tt

-- a user who had no entry gets one without changes
pub list_added : (old : Rows Owned) (new : Users Owned) (user : List ℕ) (o : Owned) → is_some (fin.get old.map user) ≡ false → o.own ≡ no_own → new ≡ fin.insert old.map user o → changes_of new ≡ lists old
list_added old new user o none empty is =
    ap changes_of is ∙ changes_same old.map user o (ap if_any empty ∙ any_none ∙ sym (ap (option_and_then (owned_changes user)) (absent (fin.get old.map user) none)))
  where
    absent : (p : Option Owned) → is_some p ≡ false → p ≡ None
    absent None e = refl
    absent (Some x) e = absurd (cc e)

pub list_found : (own : Rows Owned) (user : List ℕ) (found : MutBor Owned) (r : Option (MutBor Owned)) → r ≡ Some found → option_copied_mut r ≡ fin.get own.map user → list_at own user ≡ found.now.own
list_found own user found r is value = list_in own user ∙ ap (λ o. unwrap_or (option_map (λ (o : Owned). o.own) o) no_own) (sym value ∙ ap option_copied_mut is)

pub some_of : {X : Type 0} (o : Option X) → is_some o ≡ true → o ≡ None → ⊥
some_of None e is = absurd (cc e)
some_of (Some x) e is = absurd (cc is)

-- the room of a list that was lent
pub room_before : (own : Rows Owned) (user : List ℕ) (found : MutBor Owned) (r : Option (MutBor Owned)) → r ≡ Some found → option_copied_mut r ≡ fin.get own.map user
    → own_room own user ≡ found.now.room
room_before own user found r is value = ap list_room (sym value ∙ ap option_copied_mut is)
