-- What the type of a mailbox keeps, after each change.
use Rattle.std.proofs.Common.{◌≡◌, ◌≢◌, ℕ, eqb, not, zero, suc, ◌+◌, ◌<◌, ◌≤◌, Bool, true, false, cond, List, [], ◌∷◌, ◌++◌, length, map, get_or, Option, Some, None, unwrap_or, refl, sym, ap, subst, ◌∙◌, arith}
use Rattle.std.proofs.lemmas.List.{length_push}
use Rattle.std.specs.Option.{option_map, option_copied}
use Rattle.std.specs.Borrow.{Bor}
use Rattle.std.specs.FinMap as fin
use Rattle.std.specs.Cmp.Lexicographic.{nat_list_cmp_total}
use Rattle.imap_user_map.specs.Rows as table
use Rattle.imap_user_map.specs.Rows.{Users}
use Rattle.imap_mailbox.proofs.Values.{changes_empty, changes_in, same_bytes}
use Rattle.imap_modseq.specs.Numbers.{max_events}
use Rattle.imap_mailbox.specs.declared.message.Message.{Message}
use Rattle.imap_mailbox.specs.Owned.{Owned}
use Rattle.imap_mailbox.specs.declared.flags.SharedFlags.{SharedFlags}
use Rattle.imap_mailbox.specs.Flags.{HasFewKeywords}
use Rattle.imap_mailbox.specs.Rows.{Event, Added, FlagsSet, Expunged, Shared, Row, WasGiven, IsGiven, IsPresent}
use Rattle.imap_mailbox.specs.Own.{Own, no_own, own_at, with_change}
use Rattle.imap_mailbox.specs.Summary.{Summary, message_of, flags_in, without, step, with_seen, new_summary, rows_of, row_in, uids_in, ArePlacesBelow, Fits}
use Rattle.imap_mailbox.specs.Held.{list_at, summary_with, HaveFewKeywords, SetsFewKeywords, IsKept}
use Rattle.imap_mailbox.proofs.Changes.{fits_none}
use Rattle.imap_mailbox.proofs.Counts.{none_given}
use Rattle.imap_mailbox.proofs.Fitting.{shared_after, own_after, sound_step, sound_marked}

-- ---- keywords

few_push : (messages : List Message) (m : Message) → HasFewKeywords m.flags → HaveFewKeywords messages → HaveFewKeywords (messages ++ m ∷ [])
few_push [] m few h = (few, tt)
few_push (x ∷ messages) m few h = (h.0, few_push messages m few h.1)

few_flags : (uid : ℕ) (flags : SharedFlags) (n : ℕ) (messages : List Message) → HasFewKeywords flags → HaveFewKeywords messages → HaveFewKeywords (map (flags_in uid flags n) messages)
few_flags uid flags n [] few h = tt
few_flags uid flags n (m ∷ messages) few h = (by (eqb m.uid uid), few_flags uid flags n messages few h.1)
  where
    by : (b : Bool) → HasFewKeywords (cond b (record { uid = m.uid; date = m.date; octets = m.octets; flags = flags; place = n }) m).flags
    by true = few
    by false = h.0

few_without : (uid : ℕ) (messages : List Message) → HaveFewKeywords messages → HaveFewKeywords (without uid messages)
few_without uid [] h = tt
few_without uid (m ∷ messages) h = by (not (eqb m.uid uid)) (few_without uid messages h.1)
  where
    by : (b : Bool) → HaveFewKeywords (without uid messages) → HaveFewKeywords (cond b (m ∷ without uid messages) (without uid messages))
    by true rest = (h.0, rest)
    by false rest = rest

few_step : (e : Event) (s : Summary) → SetsFewKeywords e → HaveFewKeywords s.messages → HaveFewKeywords (step e s).messages
few_step (Added m) s few h = few_push s.messages (message_of s.shared m) few h
few_step (FlagsSet uid flags) s few h = few_flags uid flags s.shared s.messages few h
few_step (Expunged uid) s few h = few_without uid s.messages h

-- ---- each change

pub kept_step : (e : Event) (s : Summary) → IsGiven s.next (Shared e) → IsPresent (uids_in s.messages) e → SetsFewKeywords e → s.shared < max_events → IsKept s → IsKept (step e s)
kept_step e s given present keywords lt h = record {
  keywords = few_step e s keywords h.keywords;
  filled = λ user. subst (λ own. fin.get own user ≢ Some no_own) (sym (own_after e s)) (h.filled user);
  sound = sound_step e s given present h.sound;
  few = omega (arith, shared_after e s);
  own_few = λ user. subst (λ own. length (own_at own user).befores ≤ max_events) (sym (own_after e s)) (h.own_few user);
}

own_put : (own : Users Own) (user other : List ℕ) (list : Own) → own_at (fin.insert own user list) other ≡ cond (same_bytes other user) list (own_at own other)
own_put own user other list = ap (λ o. unwrap_or o no_own) (fin.get-insert nat_list_cmp_total own user list other) ∙ moved (same_bytes other user)
  where
    moved : (b : Bool) → unwrap_or (cond b (Some list) (fin.get own other)) no_own ≡ cond b list (own_at own other)
    moved true = refl
    moved false = refl

pub kept_marked : (user : List ℕ) (uid : ℕ) (seen : Bool) (s : Summary) → WasGiven s.next uid → length (own_at s.own user).befores < max_events → IsKept s → IsKept (with_seen user uid seen s)
kept_marked user uid seen s known lt h = record {
  keywords = h.keywords;
  filled = λ other. subst (λ o. o ≢ Some no_own) (sym (fin.get-insert nat_list_cmp_total s.own user more other)) (some other (same_bytes other user));
  sound = sound_marked user uid seen s known h.sound;
  few = h.few;
  own_few = λ other. subst (λ (l : Own). length l.befores ≤ max_events) (sym (own_put s.own user other more)) (most other (same_bytes other user));
}
  where
    more : Own
    more = with_change (record { before = s.shared; uid = uid; seen = seen }) (own_at s.own user)

    len : length more.befores ≡ length (own_at s.own user).befores + 1
    len = length_push (own_at s.own user).befores s.shared

    most : (other : List ℕ) (b : Bool) → length (cond b more (own_at s.own other)).befores ≤ max_events
    most other true = omega (arith, len)
    most other false = h.own_few other

    some : (other : List ℕ) (b : Bool) → cond b (Some more) (fin.get s.own other) ≢ Some no_own
    some other true = λ e. let none = ap (λ o. length (unwrap_or o no_own).befores) e in omega (arith, len, none)
    some other false = h.filled other

pub nobody : (own : table.Rows Owned) → own.map ≡ fin.empty → (user : List ℕ) → list_at own user ≡ no_own
nobody own empty user = ap (λ m. unwrap_or (fin.get m user) no_own) (changes_empty own.map empty) ∙ ap (λ o. unwrap_or o no_own) (fin.get-empty _ user)

pub kept_fresh : (own : table.Rows Owned) → own.map ≡ fin.empty → IsKept (summary_with [] [] 1 0 own)
kept_fresh own empty = record {
  sound = record {
    uids = omega arith;
    once = λ uid. none_given uid;
    apart = λ place. omega arith;
    place = tt;
    places = omega arith;
    fits = λ user. subst (Fits 0 1) (sym (nobody own empty user)) (fits_none 0 1);
  };
  few = omega arith;
  own_few = λ user. omega (arith, ap (λ (o : Own). length o.befores) (nobody own empty user));
  keywords = tt;
  filled = λ user. subst (λ m. fin.get m user ≢ Some no_own) (sym (changes_empty own.map empty)) (λ e. absurd (cc (sym (fin.get-empty _ user) ∙ e)));
}

pub summed_fresh : (own : table.Rows Owned) → own.map ≡ fin.empty → summary_with [] [] 1 0 own ≡ new_summary fin.empty
summed_fresh own empty = ap new_summary (changes_empty own.map empty)

-- ---- what is read

pub last_in : (n : ℕ) (messages : List Message) (i : ℕ) (x : Message) → ArePlacesBelow n messages → i < length messages → (get_or messages i x).place < n
last_in n [] i x h lt = absurd (omega arith)
last_in n (c ∷ messages) zero x h lt = h.0
last_in n (c ∷ messages) (suc i) x h lt = last_in n messages i x h.1 (omega arith)

get_mapped : {A B : Type 0} (f : A → B) (xs : List A) (i : ℕ) (x : A) (d : B) → i < length xs → get_or (map f xs) i d ≡ f (get_or xs i x)
get_mapped f [] i x d lt = absurd (omega arith)
get_mapped f (y ∷ xs) zero x d lt = refl
get_mapped f (y ∷ xs) (suc i) x d lt = get_mapped f xs i x d (omega arith)

pub own_in : (own : table.Rows Owned) (user : List ℕ) → list_at own user ≡ unwrap_or (option_map (λ (o : Owned). o.own) (fin.get own.map user)) no_own
own_in own user = changes_in own.map user

pub found_is : (own : table.Rows Owned) (user : List ℕ) (r : Option (Bor Owned)) (found : Bor Owned) → r ≡ Some found → option_copied r ≡ fin.get own.map user → list_at own user ≡ found.now.own
found_is own user r found is value = own_in own user ∙ ap (λ o. unwrap_or (option_map (λ (o : Owned). o.own) o) no_own) (sym value ∙ ap option_copied is)

pub absent_is : (own : table.Rows Owned) (user : List ℕ) (r : Option (Bor Owned)) → r ≡ None → option_copied r ≡ fin.get own.map user → list_at own user ≡ no_own
absent_is own user r is value = own_in own user ∙ ap (λ o. unwrap_or (option_map (λ (o : Owned). o.own) o) no_own) (sym value ∙ ap option_copied is)

module _ (s : Summary) (h : IsKept s) (user : List ℕ) where
  pub last_of : (i : ℕ) (x : Message) → i < length s.messages → x ≡ get_or s.messages i x → x.place ≤ max_events
  last_of i x lt is =
      let below = last_in s.shared s.messages i x h.sound.place lt in
      let some = h.few in
      subst (λ (k : Message). k.place ≤ max_events) (sym is) (omega (arith, below, some))

  pub row_read : (i : ℕ) (x : Message) (list : Own) (row : Row) → i < length s.messages → x ≡ get_or s.messages i x → own_at s.own user ≡ list → row ≡ row_in list x → row ≡ get_or (rows_of s user) i row
  row_read i x list row lt is e made = made ∙ (λ j. row_in (sym e j) (is j)) ∙ sym (get_mapped (row_in (own_at s.own user)) s.messages i x row lt)

-- a mailbox without messages
pub kept_new : IsKept (new_summary fin.empty)
kept_new = subst IsKept (summed_fresh nobody_yet refl) (kept_fresh nobody_yet refl)
  where
    nobody_yet : table.Rows Owned
    nobody_yet = record { map = fin.empty; spare = 0 }
