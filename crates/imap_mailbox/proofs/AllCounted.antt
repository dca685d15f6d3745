-- How many messages each user has seen.
use Rattle.std.proofs.Common.{◌≡◌, ℕ, ◌-◌, ◌≤◌, Bool, true, false, cond, List, [], ◌∷◌, ◌++◌, Option, Some, None, unwrap_or, refl, sym, ap, subst, ◌∙◌}
use Rattle.std.specs.Option.{option_map}
use Rattle.std.specs.Prelude.{option_and_then}
use Rattle.std.specs.FinMap as fin
use Rattle.std.specs.Cmp.Lexicographic.{nat_list_cmp_total}
use Rattle.imap_user_map.specs.Rows.{Rows, Users}
use Rattle.imap_user_map.specs.Finite.{map_values}
use Rattle.imap_user_map.proofs.Changed.{get-map_values}
use Rattle.imap_user_map.proofs.Entries.{same_answers}
use Rattle.imap_mailbox.specs.declared.message.Message.{Message}
use Rattle.imap_mailbox.specs.Counted.{seen_among, without_gone, with_count, IsCounted, AreCounted}
use Rattle.imap_mailbox.specs.Held.{lists, list_room, own_room}
use Rattle.imap_mailbox.specs.Own.{Own, no_own, own_at}
use Rattle.imap_mailbox.specs.Owned.{Owned, if_any, owned_changes}
use Rattle.imap_mailbox.specs.Summary.{AreOfGiven, Fits, uids_in}
use Rattle.imap_mailbox.proofs.Keeping.{own_in}
use Rattle.imap_mailbox.proofs.SeenCounts.{none_seen, seen_new}
use Rattle.imap_mailbox.proofs.Values.{get_changes, same_bytes}

-- each user's changes are as before, and only the counts are others
module _ (own new : Rows Owned) (f : Owned → Owned) (is : new.map ≡ map_values f own.map) where
  found : (user : List ℕ) → fin.get new.map user ≡ option_map f (fin.get own.map user)
  found user = ap (λ (m : Users Owned). fin.get m user) is ∙ get-map_values f own.map user

  lists_stay : ((o : Owned) → (f o).own ≡ o.own) → lists new ≡ lists own
  lists_stay same = same_answers _ _ (λ q. get_changes new.map q ∙ ap (option_and_then (owned_changes q)) (found q) ∙ by q (fin.get own.map q) ∙ sym (get_changes own.map q))
    where
      by : (q : List ℕ) (o : Option Owned) → option_and_then (owned_changes q) (option_map f o) ≡ option_and_then (owned_changes q) o
      by q None = refl
      by q (Some o) = ap if_any (same o)

  room_stays : ((o : Owned) → (f o).room ≡ o.room) → (user : List ℕ) → own_room new user ≡ own_room own user
  room_stays same user = ap list_room (found user) ∙ by (fin.get own.map user)
    where
      by : (o : Option Owned) → list_room (option_map f o) ≡ list_room o
      by None = refl
      by (Some o) = same o

  counted_by : (messages : List Message) → ((user : List ℕ) → IsCounted messages (option_map f (fin.get own.map user))) → AreCounted messages new
  counted_by messages h user = subst (IsCounted messages) (sym (found user)) (h user)

-- messages with these UIDs went
module _ (own new : Rows Owned) (uids : List ℕ) (is : new.map ≡ map_values (without_gone uids) own.map) where
  pub gone_lists : lists new ≡ lists own
  gone_lists = lists_stay own new (without_gone uids) is (λ o. refl)

  pub gone_room : (user : List ℕ) → own_room new user ≡ own_room own user
  gone_room = room_stays own new (without_gone uids) is (λ o. refl)

  pub gone_counted : (old messages : List Message) → ((list : Own) → seen_among list (uids_in messages) ≡ seen_among list (uids_in old) - seen_among list uids)
      → AreCounted old own → AreCounted messages new
  gone_counted old messages fewer h = counted_by own new (without_gone uids) is messages (λ user. by (fin.get own.map user) (h user))
    where
      by : (o : Option Owned) → IsCounted old o → IsCounted messages (option_map (without_gone uids) o)
      by None h = tt
      by (Some o) h = ap (λ n. n - seen_among o.own uids) h ∙ sym (fewer o.own)

-- all are counted
module _ (own new : Rows Owned) (messages : List Message) (is : new.map ≡ map_values (with_count (uids_in messages)) own.map) where
  pub count_lists : lists new ≡ lists own
  count_lists = lists_stay own new (with_count (uids_in messages)) is (λ o. refl)

  pub all_counted : AreCounted messages new
  all_counted = counted_by own new (with_count (uids_in messages)) is messages (λ user. by (fin.get own.map user))
    where
      by : (o : Option Owned) → IsCounted messages (option_map (with_count (uids_in messages)) o)
      by None = tt
      by (Some o) = refl

-- other messages with the same UIDs
pub same_counted : (own : Rows Owned) (old messages : List Message) → uids_in messages ≡ uids_in old → AreCounted old own → AreCounted messages own
same_counted own old messages is h user = by (fin.get own.map user) (h user)
  where
    by : (o : Option Owned) → IsCounted old o → IsCounted messages o
    by None h = tt
    by (Some o) h = h ∙ ap (seen_among o.own) (sym is)

-- one message more, which nobody has seen
pub new_counted : (own : Rows Owned) (next shared : ℕ) (messages : List Message) (m : Message) → ((user : List ℕ) → Fits shared next (own_at (lists own) user)) → next ≤ m.uid
    → AreCounted messages own → AreCounted (messages ++ m ∷ []) own
new_counted own next shared messages m fits le h user = by (fin.get own.map user) refl (h user)
  where
    by : (p : Option Owned) → fin.get own.map user ≡ p → IsCounted messages p → IsCounted (messages ++ m ∷ []) p
    by None e h = tt
    by (Some o) e h =
        let given : AreOfGiven next o.own = subst (AreOfGiven next) (own_in own user ∙ ap (λ p. unwrap_or (option_map (λ (o : Owned). o.own) p) no_own) e) (fits user).known in
        h ∙ sym (seen_new o.own next messages m given le)

-- one user's changes are others
pub put_counted : (messages : List Message) (old : Users Owned) (new : Users Owned) (user : List ℕ) (o : Owned) → new ≡ fin.insert old user o → IsCounted messages (Some o)
    → ((user : List ℕ) → IsCounted messages (fin.get old user)) → (user : List ℕ) → IsCounted messages (fin.get new user)
put_counted messages old new user o is here h other =
    subst (IsCounted messages) (sym (ap (λ (m : Users Owned). fin.get m other) is ∙ fin.get-insert nat_list_cmp_total old user o other)) (by (same_bytes other user))
  where
    by : (b : Bool) → IsCounted messages (cond b (Some o) (fin.get old other))
    by true = here
    by false = h other

-- a user without changes has seen none
pub none_counted : (messages : List Message) (o : Owned) → o.own ≡ no_own → o.seen ≡ 0 → IsCounted messages (Some o)
none_counted messages o empty zero = zero ∙ sym (ap (λ l. seen_among l (uids_in messages)) empty ∙ none_seen (uids_in messages))

pub nobody_counted : (own : Rows Owned) (messages : List Message) → own.map ≡ fin.empty → AreCounted messages own
nobody_counted own messages empty user = subst (IsCounted messages) (sym (ap (λ (m : Users Owned). fin.get m user) empty ∙ fin.get-empty _ user)) tt
