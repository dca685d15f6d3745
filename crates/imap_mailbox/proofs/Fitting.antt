-- What the steps of a summary keep.
use Rattle.std.proofs.Common.{◌≡◌, ◌≢◌, ⊎_elim, ℕ, ◌+◌, ◌<◌, ◌≤◌, eqb, not, Bool, true, false, cond, List, [], ◌∷◌, ◌++◌, length, map, filter, refl, sym, ap, subst, ◌∙◌, arith}
use Rattle.std.proofs.lemmas.List.{map-append}
use Rattle.imap_modseq.specs.Merge.{AreInOrder}
use Rattle.imap_modseq.proofs.Order.{order_more}
use Rattle.imap_mailbox.specs.declared.flags.SharedFlags.{SharedFlags}
use Rattle.imap_mailbox.specs.declared.own.SeenChange.{SeenChange}
use Rattle.imap_mailbox.specs.declared.message.Message.{Message}
use Rattle.imap_mailbox.specs.declared.message.GoneMessage.{GoneMessage}
use Rattle.imap_mailbox.specs.Rows.{Event, Added, FlagsSet, Expunged, Shared, row_step, gone_step, next_step, uid_step, IsGiven, IsPresent, WasGiven}
use Rattle.imap_mailbox.specs.Latest.{AreLast}
use Rattle.imap_mailbox.specs.Own.{Own, own_at, with_change}
use Rattle.imap_mailbox.specs.Summary.{Summary, message_of, flags_in, without, step, row_in, gone_in, ArePlacesBelow, AreOfGiven, Fits, Rises, places_in, uids_in, gone_uids, count_of, given_once, IsSound, with_seen, own_with}
use Rattle.imap_mailbox.proofs.Apart.{apart_step}
use Rattle.imap_mailbox.proofs.Changes.{fits_change}
use Rattle.imap_mailbox.proofs.Accounts.{IsAccounted, gone_after, accounted_step}
use Rattle.imap_mailbox.proofs.Rising.{rises_upper, rises_push, rises_step}
use Rattle.std.proofs.lemmas.Bool.{cases_Bool}
use Rattle.std.proofs.lemmas.Map.Text.{is_eq-slice_cmp}
use Rattle.std.proofs.lemmas.Slice.Eq.{bytes_eq-Decides}
use Rattle.imap_mailbox.proofs.Values.{same_bytes}
use Rattle.imap_mailbox.proofs.Merged.{own_at-same, own_at-other}
use Rattle.imap_mailbox.proofs.Joined.{added_all, flag_all, gone_all, taken_all}

-- ---- counts

pub next_after : (e : Event) (s : Summary) → (step e s).next ≡ next_step e s.next
next_after (Added m) s = refl
next_after (FlagsSet uid flags) s = refl
next_after (Expunged uid) s = refl

pub shared_after : (e : Event) (s : Summary) → (step e s).shared ≡ s.shared + 1
shared_after (Added m) s = refl
shared_after (FlagsSet uid flags) s = refl
shared_after (Expunged uid) s = refl

pub own_after : (e : Event) (s : Summary) → (step e s).own ≡ s.own
own_after (Added m) s = refl
own_after (FlagsSet uid flags) s = refl
own_after (Expunged uid) s = refl

pub next_rises : (e : Event) (next : ℕ) → IsGiven next (Shared e) → next ≤ next_step e next
next_rises (Added m) next h = let is : m.uid ≡ next = h in omega arith
next_rises (FlagsSet uid flags) next h = omega arith
next_rises (Expunged uid) next h = omega arith

-- ---- own changes

pub of_more : (next more : ℕ) (own : Own) → next ≤ more → AreOfGiven next own → AreOfGiven more own
of_more next more own le h uid k e = let here = h uid k e in let lt : uid < next = here.0.1 in ((here.0.0, omega (arith, lt, le)), here.1)

pub last_of_fits : (shared next : ℕ) (own : Own) → Fits shared next own → AreLast own
last_of_fits shared next own h uid k e = (h.known uid k e).1

pub fits_step : (e : Event) (s : Summary) (own : Own) → IsGiven s.next (Shared e) → Fits s.shared s.next own → Fits (step e s).shared (step e s).next own
fits_step e s own given h = record {
  order = subst (λ n. AreInOrder 0 n own.befores) (sym (shared_after e s)) (order_more 0 s.shared own.befores h.order);
  known = subst (λ n. AreOfGiven n own) (sym (next_after e s)) (of_more s.next (next_step e s.next) own (next_rises e s.next given) h.known);
}

pub fits_push : (shared next : ℕ) (own : Own) (s : SeenChange) → s.before ≡ shared → WasGiven next s.uid → Fits shared next own → Fits shared next (with_change s own)
fits_push shared next own s at lt h = fits_change shared next s own (subst (λ n. AreInOrder 0 n own.befores) (sym at) h.order) (omega (arith, at)) lt h

-- ---- places

below_more : (n : ℕ) (messages : List Message) → ArePlacesBelow n messages → ArePlacesBelow (n + 1) messages
below_more n [] h = tt
below_more n (c ∷ messages) h = let here : c.place < n = h.0 in (omega arith, below_more n messages h.1)

below_push : (n : ℕ) (messages : List Message) (c : Message) → c.place < n → ArePlacesBelow n messages → ArePlacesBelow n (messages ++ c ∷ [])
below_push n [] c lt h = (lt, tt)
below_push n (x ∷ messages) c lt h = (h.0, below_push n messages c lt h.1)

below_flagged : (n uid : ℕ) (flags : SharedFlags) (messages : List Message) → ArePlacesBelow n messages → ArePlacesBelow (n + 1) (map (flags_in uid flags n) messages)
below_flagged n uid flags [] h = tt
below_flagged n uid flags (c ∷ messages) h = (by (eqb c.uid uid), below_flagged n uid flags messages h.1)
  where
    by : (b : Bool) → (cond b (record { uid = c.uid; date = c.date; octets = c.octets; flags = flags; place = n }) c).place < n + 1
    by true = omega arith
    by false = let here : c.place < n = h.0 in omega arith

below_gone : (n uid : ℕ) (messages : List Message) → ArePlacesBelow n messages → ArePlacesBelow n (without uid messages)
below_gone n uid [] h = tt
below_gone n uid (c ∷ messages) h = by (not (eqb c.uid uid)) (below_gone n uid messages h.1)
  where
    by : (b : Bool) → ArePlacesBelow n (without uid messages) → ArePlacesBelow n (cond b (c ∷ without uid messages) (without uid messages))
    by true rest = (h.0, rest)
    by false rest = rest

pub last_step : (e : Event) (s : Summary) → ArePlacesBelow s.shared s.messages → ArePlacesBelow (step e s).shared (step e s).messages
last_step (Added m) s h = below_push (s.shared + 1) s.messages (message_of s.shared m) (omega arith) (below_more s.shared s.messages h)
last_step (FlagsSet uid flags) s h = below_flagged s.shared uid flags s.messages h
last_step (Expunged uid) s h = below_gone (s.shared + 1) uid s.messages (below_more s.shared s.messages h)

pub places_step : (e : Event) (s : Summary) → Rises 0 s.shared (places_in s.gone) → Rises 0 (step e s).shared (places_in (step e s).gone)
places_step (Added m) s h = rises_upper 0 s.shared (s.shared + 1) (places_in s.gone) (omega arith) h
places_step (FlagsSet uid flags) s h = rises_upper 0 s.shared (s.shared + 1) (places_in s.gone) (omega arith) h
places_step (Expunged uid) s h =
    subst (Rises 0 (s.shared + 1)) (sym (map-append (λ (t : GoneMessage). t.place) s.gone (record { uid = uid; place = s.shared } ∷ []))) (rises_push 0 s.shared s.shared (places_in s.gone) (omega arith) h)

-- ---- what is shown_to

pub rows_step : (e : Event) (s : Summary) (own : Own) → IsGiven s.next (Shared e) → Fits s.shared s.next own
    → row_step (2 + (s.shared + length own.befores)) (Shared e) (map (row_in own) s.messages) ≡ map (row_in own) (step e s).messages
rows_step (Added m) s own given h =
    let is : m.uid ≡ s.next = given in
    added_all own s.shared h.order (last_of_fits s.shared s.next own h) s.next m s.messages h.known (omega arith)
rows_step (FlagsSet uid flags) s own given h = flag_all own s.shared h.order (last_of_fits s.shared s.next own h) uid flags s.messages
rows_step (Expunged uid) s own given h = gone_all own s.shared h.order (last_of_fits s.shared s.next own h) uid s.messages

pub taken_step : (e : Event) (s : Summary) (own : Own) → Fits s.shared s.next own
    → gone_step (2 + (s.shared + length own.befores)) (Shared e) (map (gone_in own) s.gone) ≡ map (gone_in own) (step e s).gone
taken_step (Added m) s own h = refl
taken_step (FlagsSet uid flags) s own h = refl
taken_step (Expunged uid) s own h = taken_all own s.shared h.order (last_of_fits s.shared s.next own h) uid s.gone

-- ---- uids

pub put_uid : (uid : ℕ) (flags : SharedFlags) (p : ℕ) (messages : List Message) → uids_in (map (flags_in uid flags p) messages) ≡ uids_in messages
put_uid uid flags p [] = refl
put_uid uid flags p (c ∷ messages) = λ i. by (eqb c.uid uid) i ∷ put_uid uid flags p messages i
  where
    by : (b : Bool) → (cond b (record { uid = c.uid; date = c.date; octets = c.octets; flags = flags; place = p }) c).uid ≡ c.uid
    by true = refl
    by false = refl

pub without_uid : (uid : ℕ) (messages : List Message) → uids_in (without uid messages) ≡ filter (λ u. not (eqb u uid)) (uids_in messages)
without_uid uid [] = refl
without_uid uid (c ∷ messages) = by (not (eqb c.uid uid)) (without_uid uid messages)
  where
    by : (b : Bool) → uids_in (without uid messages) ≡ filter (λ u. not (eqb u uid)) (uids_in messages)
        → uids_in (cond b (c ∷ without uid messages) (without uid messages)) ≡ cond b (c.uid ∷ filter (λ u. not (eqb u uid)) (uids_in messages)) (filter (λ u. not (eqb u uid)) (uids_in messages))
    by true rest = ap (λ l. c.uid ∷ l) rest
    by false rest = rest

pub uids_step : (e : Event) (s : Summary) → uids_in (step e s).messages ≡ uid_step e (uids_in s.messages)
uids_step (Added m) s = map-append (λ (c : Message). c.uid) s.messages (message_of s.shared m ∷ [])
uids_step (FlagsSet uid flags) s = put_uid uid flags s.shared s.messages
uids_step (Expunged uid) s = without_uid uid s.messages

-- ---- what the type of a mailbox keeps

pub accounted_after : (e : Event) (s : Summary) → IsGiven s.next (Shared e) → IsPresent (uids_in s.messages) e → Rises 1 s.next (uids_in s.messages)
    → IsAccounted (gone_uids s.gone) s.next (uids_in s.messages) → IsAccounted (gone_uids (step e s).gone) (step e s).next (uids_in (step e s).messages)
accounted_after e s given present rises h uid =
    (λ i. count_of uid (uids_step e s i) + count_of uid (gone_after e s i))
    ∙ accounted_step e (gone_uids s.gone) s.next (uids_in s.messages) given present rises h uid
    ∙ ap (λ n. given_once n uid) (sym (next_after e s))

pub sound_step : (e : Event) (s : Summary) → IsGiven s.next (Shared e) → IsPresent (uids_in s.messages) e → IsSound s → IsSound (step e s)
sound_step e s given present h = record {
  once = accounted_after e s given present h.uids h.once;
  apart = apart_step e s h.uids h.place h.places h.apart;
  uids = subst (λ n. Rises 1 n (uids_in (step e s).messages)) (sym (next_after e s)) (subst (Rises 1 (next_step e s.next)) (sym (uids_step e s)) (rises_step e 1 s.next (uids_in s.messages) given h.uids));
  place = last_step e s h.place;
  places = places_step e s h.places;
  fits = λ user. subst (λ own. Fits (step e s).shared (step e s).next (own_at own user)) (sym (own_after e s)) (fits_step e s (own_at s.own user) given (h.fits user));
}

pub sound_marked : (user : List ℕ) (uid : ℕ) (seen : Bool) (s : Summary) → WasGiven s.next uid → IsSound s → IsSound (with_seen user uid seen s)
sound_marked user uid seen s lt h = record {
  uids = h.uids;
  once = h.once;
  apart = h.apart;
  place = h.place;
  places = h.places;
  fits = λ other. ⊎_elim
      (λ is. subst (λ o. Fits s.shared s.next (own_at (own_with s.own user s.shared uid seen) o)) (sym (is_user other is))
      (subst (Fits s.shared s.next) (sym (own_at-same s.own user s.shared uid seen)) (fits_push s.shared s.next (own_at s.own user) (record { before = s.shared; uid = uid; seen = seen }) refl lt (h.fits user))))
      (λ not_it. subst (Fits s.shared s.next) (sym (own_at-other s.own other user s.shared uid seen (apart other not_it))) (h.fits other))
      (cases_Bool (same_bytes other user));
}
  where
    is_user : (other : List ℕ) → same_bytes other user ≡ true → other ≡ user
    is_user other is = (bytes_eq-Decides other user).0 (sym (is_eq-slice_cmp other user) ∙ is)

    apart : (other : List ℕ) → same_bytes other user ≡ false → other ≢ user
    apart other not_it = λ e. absurd (cc (sym not_it ∙ is_eq-slice_cmp other user ∙ (bytes_eq-Decides other user).1 e))
