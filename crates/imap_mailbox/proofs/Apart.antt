-- Events have places of their own.
use Rattle.std.proofs.Common.{◌≡◌, ℕ, ◌+◌, ◌<◌, ◌≤◌, eqb, not, Bool, true, false, cond, List, [], ◌∷◌, map, refl, ap, ◌∙◌, arith, ⊎_elim}
use Rattle.std.proofs.lemmas.Bool.{cases_lt, eqb-true}
use Rattle.std.proofs.lemmas.List.{map-append}
use Rattle.imap_mailbox.specs.declared.flags.SharedFlags.{SharedFlags}
use Rattle.imap_mailbox.specs.declared.message.Message.{Message}
use Rattle.imap_mailbox.specs.declared.message.GoneMessage.{GoneMessage}
use Rattle.imap_mailbox.specs.Rows.{Event, Added, FlagsSet, Expunged}
use Rattle.imap_mailbox.specs.Summary.{Summary, step, message_of, flags_in, without, uids_in, places_in, message_places, count_of, AreApart, Rises, ArePlacesBelow}
use Rattle.imap_mailbox.proofs.Counts.{one, one_other, count_more, count_push}
use Rattle.imap_mailbox.proofs.Finding.{put_above}

one_below : (m p : ℕ) → m < p → one m p ≡ 0
one_below m p lt = one_other m p (λ e. omega (arith, e))

none_there : (n p : ℕ) (messages : List Message) → n ≤ p → ArePlacesBelow n messages → count_of p (message_places messages) ≡ 0
none_there n p [] le h = refl
none_there n p (m ∷ messages) le h =
    let lt : m.place < n = h.0 in
    omega (arith, count_more p m.place (message_places messages), one_below m.place p (omega (arith, lt)), none_there n p messages le h.1)

none_gone : (low high p : ℕ) (ns : List ℕ) → high ≤ p → Rises low high ns → count_of p ns ≡ 0
none_gone low high p [] le h = refl
none_gone low high p (n ∷ ns) le h =
    omega (arith, count_more p n ns, one_below n p (let lt = below (n + 1) high ns h.1 in omega (arith, lt)), none_gone (n + 1) high p ns le h.1)
  where
    below : (low high : ℕ) (ns : List ℕ) → Rises low high ns → low ≤ high
    below low high [] h = h
    below low high (n ∷ ns) h = let rest = below (n + 1) high ns h.1 in let at : low ≤ n = h.0 in omega (arith, rest)

count_flags : (uid : ℕ) (flags : SharedFlags) (n p low next : ℕ) (messages : List Message) → Rises low next (uids_in messages)
    → count_of p (message_places (map (flags_in uid flags n) messages)) ≤ count_of p (message_places messages) + one n p
count_flags uid flags n p low next [] h = omega arith
count_flags uid flags n p low next (m ∷ messages) h = by (eqb m.uid uid) refl (count_flags uid flags n p (m.uid + 1) next messages h.1)
  where
    rest : List Message
    rest = map (flags_in uid flags n) messages

    by : (b : Bool) → eqb m.uid uid ≡ b → count_of p (message_places rest) ≤ count_of p (message_places messages) + one n p
        → count_of p (message_places (cond b (record { uid = m.uid; date = m.date; octets = m.octets; flags = flags; place = n }) m ∷ rest)) ≤ count_of p (message_places (m ∷ messages)) + one n p
    by true t later =
        let is = eqb-true m.uid uid t in
        let same = ap (λ l. count_of p (message_places l)) (put_above uid flags n (m.uid + 1) next messages (omega (arith, is)) h.1) in
        omega (arith, same, count_more p n (message_places rest), count_more p m.place (message_places messages))
    by false t later = omega (arith, later, count_more p m.place (message_places rest), count_more p m.place (message_places messages))

count_without : (uid p : ℕ) (messages : List Message) → count_of p (message_places (without uid messages)) ≤ count_of p (message_places messages)
count_without uid p [] = omega arith
count_without uid p (m ∷ messages) = by (not (eqb m.uid uid)) (count_without uid p messages)
  where
    by : (b : Bool) → count_of p (message_places (without uid messages)) ≤ count_of p (message_places messages)
        → count_of p (message_places (cond b (m ∷ without uid messages) (without uid messages))) ≤ count_of p (message_places (m ∷ messages))
    by true later = omega (arith, later, count_more p m.place (message_places (without uid messages)), count_more p m.place (message_places messages))
    by false later = omega (arith, later, count_more p m.place (message_places messages))

-- ---- one step adds the place of its event, and no other

added_by : (e : Event) (s : Summary) (p : ℕ) → Rises 1 s.next (uids_in s.messages)
    → count_of p (message_places (step e s).messages) + count_of p (places_in (step e s).gone)
    ≤ count_of p (message_places s.messages) + count_of p (places_in s.gone) + one s.shared p
added_by (Added m) s p h =
    let more = ap (count_of p) (map-append (λ (m : Message). m.place) s.messages (message_of s.shared m ∷ [])) ∙ count_push p s.shared (message_places s.messages) in
    omega (arith, more)
added_by (FlagsSet uid flags) s p h = let more = count_flags uid flags s.shared p 1 s.next s.messages h in omega (arith, more)
added_by (Expunged uid) s p h =
    let fewer = count_without uid p s.messages in
    let more = ap (count_of p) (map-append (λ (g : GoneMessage). g.place) s.gone (record { uid = uid; place = s.shared } ∷ [])) ∙ count_push p s.shared (places_in s.gone) in
    omega (arith, fewer, more)

pub apart_step : (e : Event) (s : Summary) → Rises 1 s.next (uids_in s.messages) → ArePlacesBelow s.shared s.messages → Rises 0 s.shared (places_in s.gone)
    → AreApart s.messages s.gone → AreApart (step e s).messages (step e s).gone
apart_step e s rises places gone h p =
    let more = added_by e s p rises in
    ⊎_elim
    (λ (lt : s.shared < p). let other = one_below s.shared p lt in let before = h p in omega (arith, more, other, before))
    (λ (le : p ≤ s.shared). ⊎_elim
    (λ (less : p < s.shared). let other = one_other s.shared p (λ e. omega (arith, e, less)) in let before = h p in omega (arith, more, other, before))
    (λ (ge : s.shared ≤ p).
    let none = none_there s.shared p s.messages ge places in
    let no_gone = none_gone 0 s.shared p (places_in s.gone) ge gone in
    let most = at_most s.shared p in
    omega (arith, more, none, no_gone, most))
    (cases_lt p s.shared))
    (cases_lt s.shared p)
  where
    at_most : (m n : ℕ) → one m n ≤ 1
    at_most m n = by (eqb m n)
      where
        by : (b : Bool) → cond b 1 0 ≤ 1
        by true = omega arith
        by false = omega arith
