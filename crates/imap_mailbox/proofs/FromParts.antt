-- The mailbox that is made of parts, and what a mailbox says of its parts.
use Rattle.std.proofs.Common.{◌≡◌, ◌≢◌, ◌⊎◌, ℕ, Bool, true, false, cond, eqb, ◌+◌, ◌<◌, ◌≤◌, List, [], ◌∷◌, Option, Some, None, Result, Ok, Err, refl, sym, ap, ◌∙◌, subst, arith, inl, inr, IsPermutation, unwrap_or, IsErr, IsErrAnd}
use Rattle.std.specs.Prelude.{option_and_then}
use Rattle.std.specs.FinMap as fin
use Rattle.std.proofs.lemmas.Bool.{cases_lt, eqb-true}
use Rattle.std.specs.List.Sorted.{IsNonDecreasingBy}
use Rattle.std.proofs.lemmas.List.Sorted.{IsPermutation-map, IsPermutation-sym}
use Rattle.imap_user_map.specs.Rows as table
use Rattle.imap_mailbox.specs.declared.message.GoneMessage.{GoneMessage}
use Rattle.imap_mailbox.specs.declared.message.Message.{Message}
use Rattle.imap_mailbox.specs.declared.parts.MailboxParts.{MailboxParts}
use Rattle.imap_mailbox.specs.declared.parts.PartsError.{PartsError}
use Rattle.imap_mailbox.specs.declared.parts.PartsError.TheVariants.{Bad, Memory}
use Rattle.imap_mailbox.specs.Flags.{HasFewKeywords}
use Rattle.imap_mailbox.specs.Held.{HaveFewKeywords, IsKept, lists, summary_with}
use Rattle.imap_mailbox.specs.Own.{no_own}
use Rattle.imap_mailbox.specs.Owned.{Owned, if_any, owned_changes}
use Rattle.imap_mailbox.specs.Parts.{Restores, StandFor}
use Rattle.imap_mailbox.specs.Restored.{AreMessages, Checks, FitAll, RestoresOwn}
use Rattle.imap_mailbox.specs.Summary.{Summary, ArePlacesBelow, Rises, count_of, uids_in, gone_uids, message_places, places_in}
use Rattle.imap_mailbox.proofs.Counts.{one_same, count_more}
use Rattle.imap_mailbox.proofs.Reordered.{Has, count_moved, given_most, given_within, has_moved, ordered_by, rises_ordered, within_risen}
use Rattle.imap_mailbox.proofs.Rising.{rises_end}
use Rattle.imap_mailbox.proofs.Values.{any_none, any_or, get_changes}

-- ---- lists by their elements

few_of : (messages : List Message) → ((m : Message) → Has messages m → HasFewKeywords m.flags) → HaveFewKeywords messages
few_of [] h = tt
few_of (m ∷ messages) h = (h m (inl refl), few_of messages (λ x has. h x (inr has)))

few_at : (messages : List Message) → HaveFewKeywords messages → (m : Message) → Has messages m → HasFewKeywords m.flags
few_at [] h m has = absurd has
few_at (x ∷ messages) h m (inl e) = subst (λ (y : Message). HasFewKeywords y.flags) e h.0
few_at (x ∷ messages) h m (inr has) = few_at messages h.1 m has

few_moved : (xs ys : List Message) → IsPermutation xs ys → HaveFewKeywords xs → HaveFewKeywords ys
few_moved xs ys moved h = few_of ys (λ m has. few_at xs h m (has_moved ys xs (IsPermutation-sym xs ys moved) m has))

places_below : (n : ℕ) (messages : List Message) → ((p : ℕ) → 0 < count_of p (message_places messages) → p < n) → ArePlacesBelow n messages
places_below n [] h = tt
places_below n (m ∷ messages) h =
    let rest = message_places messages in
    (h m.place (omega (arith, count_more m.place m.place rest, one_same m.place m.place refl)), places_below n messages (λ p lt. h p (omega (arith, lt, count_more p m.place rest))))

below_places : (n p : ℕ) (messages : List Message) → ArePlacesBelow n messages → 0 < count_of p (message_places messages) → p < n
below_places n p [] h lt = omega (arith, lt)
below_places n p (m ∷ messages) h lt = by (eqb m.place p) refl lt (below_places n p messages h.1)
  where
    by : (b : Bool) → eqb m.place p ≡ b → 0 < cond b (1 + count_of p (message_places messages)) (count_of p (message_places messages)) → (0 < count_of p (message_places messages) → p < n) → p < n
    by true e lt rest = let is = eqb-true m.place p e in let at : m.place < n = h.0 in omega (arith, is, at)
    by false e lt rest = rest lt

never_empty : (own : table.Rows Owned) (user : List ℕ) → fin.get (lists own) user ≢ Some no_own
never_empty own user e = by (fin.get own.map user) (sym (get_changes own.map user) ∙ e)
  where
    by : (o : Option Owned) → option_and_then (owned_changes user) o ≡ Some no_own → ⊥
    by None e = absurd (cc e)
    by (Some o) e = let none : None ≡ Some no_own = sym (ap if_any (sym (any_or o.own) ∙ ap (λ p. unwrap_or p no_own) e) ∙ any_none) ∙ e in cc none

-- ---- what is made

module _ (next shared : ℕ) (xs ys : List Message) (gs hs : List GoneMessage) (moved : IsPermutation xs ys) (went : IsPermutation gs hs) where
  uid_there : (uid : ℕ) → count_of uid (uids_in ys) ≡ count_of uid (uids_in xs)
  uid_there uid = count_moved uid (uids_in xs) (uids_in ys) (IsPermutation-map (λ (m : Message). m.uid) xs ys moved)

  uid_gone : (uid : ℕ) → count_of uid (gone_uids hs) ≡ count_of uid (gone_uids gs)
  uid_gone uid = count_moved uid (gone_uids gs) (gone_uids hs) (IsPermutation-map (λ (g : GoneMessage). g.uid) gs hs went)

  place_there : (p : ℕ) → count_of p (message_places ys) ≡ count_of p (message_places xs)
  place_there p = count_moved p (message_places xs) (message_places ys) (IsPermutation-map (λ (m : Message). m.place) xs ys moved)

  place_gone : (p : ℕ) → count_of p (places_in hs) ≡ count_of p (places_in gs)
  place_gone p = count_moved p (places_in gs) (places_in hs) (IsPermutation-map (λ (g : GoneMessage). g.place) gs hs went)

  -- what is asked of messages doesn't rest on their order
  pub asked_moved : AreMessages next shared xs gs → AreMessages next shared ys hs
  asked_moved h = record {
    few = h.few;
    uids = (h.uids.0, λ uid. let all = h.uids.1 uid in omega (arith, all, uid_there uid, uid_gone uid));
    apart = λ p. let all = h.apart p in omega (arith, all, place_there p, place_gone p);
    places = λ p lt. h.places p (omega (arith, lt, place_there p, place_gone p));
    keywords = few_moved xs ys moved h.keywords;
  }

-- messages in order
pub rising_of : (next shared : ℕ) (messages : List Message) (gone : List GoneMessage) → IsNonDecreasingBy (λ m. m.uid) messages → AreMessages next shared messages gone → Rises 1 next (uids_in messages)
rising_of next shared messages gone by_uid h =
    rises_ordered 1 next 0 (uids_in messages) h.uids.0 (ordered_by (λ (m : Message). m.uid) messages by_uid)
    (λ uid. let all = h.uids.1 uid in omega (arith, all, given_most next uid))
    (λ uid lt. let all = h.uids.1 uid in given_within next uid (omega (arith, all, lt)))

pub kept_of : (next shared : ℕ) (messages : List Message) (gone : List GoneMessage) (own : table.Rows Owned)
    → IsNonDecreasingBy (λ m. m.uid) messages → IsNonDecreasingBy (λ g. g.place) gone
    → AreMessages next shared messages gone → FitAll next shared (lists own) → IsKept (summary_with messages gone next shared own)
kept_of next shared messages gone own by_uid by_place h fit = record {
  sound = record {
    uids = rising_of next shared messages gone by_uid h;
    once = h.uids.1;
    apart = h.apart;
    place = places_below shared messages (λ p lt. h.places p (omega (arith, lt)));
    places = rises_ordered 0 shared 0 (places_in gone) (omega arith) (ordered_by (λ (g : GoneMessage). g.place) gone by_place)
        (λ p. let all = h.apart p in omega (arith, all))
        (λ p lt. (omega arith, h.places p (omega (arith, lt))));
    fits = λ user. (fit user).0;
  };
  few = h.few;
  own_few = λ user. (fit user).1;
  keywords = h.keywords;
  filled = never_empty own;
}

-- ---- what a mailbox says of its parts

asked_of : (s : Summary) → IsKept s → AreMessages s.next s.shared s.messages s.gone
asked_of s h = record {
  few = h.few;
  uids = (rises_end 1 s.next (uids_in s.messages) h.sound.uids, h.sound.once);
  apart = h.sound.apart;
  places = λ p lt. by p lt (cases_lt 0 (count_of p (message_places s.messages)));
  keywords = h.keywords;
}
  where
    by : (p : ℕ) → 0 < count_of p (message_places s.messages) + count_of p (places_in s.gone) → (0 < count_of p (message_places s.messages)) ⊎ (count_of p (message_places s.messages) ≤ 0) → p < s.shared
    by p lt (inl some) = below_places s.shared p s.messages h.sound.place some
    by p lt (inr none) = (within_risen 0 s.shared (places_in s.gone) h.sound.places p (omega (arith, lt, none))).1

module _ (parts : MailboxParts) (s : Summary) (kept : IsKept s) (stands : StandFor parts s) where
  pub asked_parts : AreMessages parts.next parts.shared parts.messages.items parts.gone.items
  asked_parts =
      subst (λ n. AreMessages n parts.shared parts.messages.items parts.gone.items) stands.next
      (subst (λ n. AreMessages s.next n parts.messages.items parts.gone.items) stands.shared
      (asked_moved s.next s.shared s.messages parts.messages.items s.gone parts.gone.items (IsPermutation-sym _ _ stands.messages) (IsPermutation-sym _ _ stands.gone) (asked_of s kept)))

  pub fit_parts : FitAll parts.next parts.shared s.own
  fit_parts =
      subst (λ n. FitAll n parts.shared s.own) stands.next
      (subst (λ n. FitAll s.next n s.own) stands.shared (λ user. (kept.sound.fits user, kept.own_few user)))

pub bad_messages : (parts : MailboxParts) (error : PartsError) → Checks (AreMessages parts.next parts.shared parts.messages.items parts.gone.items) (Err error) → Restores parts (Err error)
bad_messages parts Bad h = λ s kept stands. h (asked_parts parts s kept stands)
bad_messages parts Memory h = tt

pub bad_own : (parts : MailboxParts) (error : PartsError) → RestoresOwn parts.next parts.shared parts.own.items (Err error) → Restores parts (Err error)
bad_own parts Bad h = λ s kept stands. h s.own stands.own (fit_parts parts s kept stands)
bad_own parts Memory h = tt

-- an error that is passed on
pub passed : {A : Type 0} (P : Result A PartsError → Type 0) (r : Result A PartsError) (error : PartsError) → IsErr r × IsErrAnd r (λ e. e ≡ error) → P (Err error) → P r
passed P (Ok a) error h p = absurd (cc h.0)
passed P (Err e) error h p = subst (λ x. P (Err x)) (sym h.1) p
