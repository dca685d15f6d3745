-- The summary of events is one that the type of a mailbox admits.
use Rattle.std.proofs.Common.{◌≡◌, ℕ, ◌-◌, ◌<◌, ◌≤◌, List, [], ◌∷◌, ◌++◌, take, drop, map, refl, sym, subst, ◌∙◌, arith}
use Rattle.std.proofs.lemmas.List.{take-append-drop}
use Rattle.imap_modseq.specs.Merge.{merge_from, befores, AreInOrder}
use Rattle.imap_mailbox.specs.declared.own.SeenChange.{SeenChange}
use Rattle.imap_mailbox.specs.Rows.{Event, Entry, Shared, SeenSet, next_step, entry_next, IsGiven, AreGiven, ArePresent}
use Rattle.imap_mailbox.specs.History.{changes_at, own_entry, events_of}
use Rattle.imap_mailbox.specs.Own.{own_at}
use Rattle.imap_mailbox.specs.Summary.{Summary, step, steps, new_summary, summary_of, found_of, uids_in, gone_uids, places_in, AreApart, Rises, ArePlacesBelow, Fits}
use Rattle.imap_mailbox.specs.Bridge.{SummariesAreAdmitted}
use Rattle.imap_mailbox.proofs.Apart.{apart_step}
use Rattle.imap_mailbox.proofs.Accounts.{IsAccounted}
use Rattle.imap_mailbox.proofs.Counts.{none_given}
use Rattle.imap_mailbox.proofs.Rising.{entries_next, rises_step}
use Rattle.imap_mailbox.proofs.Fitting.{accounted_after, next_after, next_rises, last_step, places_step, uids_step}
use Rattle.imap_mailbox.proofs.Bridge.{own_is_found, steps_next, shared_of}
use Rattle.imap_mailbox.proofs.Changes.{AllAreGiven, found_befores, given_found}
use Rattle.imap_mailbox.proofs.Lawful.{next_of}

given_split : (a b : List Entry) (next : ℕ) → AreGiven next (a ++ b) → AreGiven next a × AreGiven (entries_next a next) b
given_split [] b next h = (tt, h)
given_split (e ∷ a) b next h = let rest = given_split a b (entry_next e next) h.1 in ((h.0, rest.0), rest.1)

given_join : (a b : List Entry) (next : ℕ) → AreGiven next a → AreGiven (entries_next a next) b → AreGiven next (a ++ b)
given_join [] b next h g = g
given_join (e ∷ a) b next h g = (h.0, given_join a b (entry_next e next) h.1 g)

entry_rises : (e : Entry) (next : ℕ) → IsGiven next e → next ≤ entry_next e next
entry_rises (Shared e) next h = next_rises e next h
entry_rises (SeenSet uid seen) next h = omega arith

entries_rise : (es : List Entry) (next : ℕ) → AreGiven next es → next ≤ entries_next es next
entries_rise [] next h = omega arith
entries_rise (e ∷ es) next h = let here = entry_rises e next h.0 in let rest = entries_rise es (entry_next e next) h.1 in omega (arith, here, rest)

next_append : (a b : List Entry) (next : ℕ) → entries_next (a ++ b) next ≡ entries_next b (entries_next a next)
next_append [] b next = refl
next_append (e ∷ a) b next = next_append a b (entry_next e next)

-- without the own changes
unmerged : (own : List SeenChange) (k : ℕ) (shared : List Entry) (next : ℕ) → AreGiven next (merge_from k shared (map own_entry own)) → AreGiven next shared
unmerged [] k shared next h = h
unmerged (s ∷ own) k shared next h =
    let parts = given_split (take (s.before - k) shared) (SeenSet s.uid s.seen ∷ merge_from s.before (drop (s.before - k) shared) (map own_entry own)) next h in
    subst (AreGiven next) (take-append-drop (s.before - k) shared) (given_join (take (s.before - k) shared) (drop (s.before - k) shared) next parts.0 (unmerged own s.before (drop (s.before - k) shared) (entries_next (take (s.before - k) shared) next) parts.1.1))

-- own changes are of UIDs below the next
known : (own : List SeenChange) (k : ℕ) (shared : List Entry) (next : ℕ) → AreGiven next (merge_from k shared (map own_entry own)) → AllAreGiven (entries_next (merge_from k shared (map own_entry own)) next) own
known [] k shared next h = tt
known (s ∷ own) k shared next h =
    let front = take (s.before - k) shared in
    let rest = merge_from s.before (drop (s.before - k) shared) (map own_entry own) in
    let parts = given_split front (SeenSet s.uid s.seen ∷ rest) next h in
    let lt : s.uid < entries_next front next = parts.1.0.1 in
    let up = entries_rise rest (entries_next front next) parts.1.1 in
    subst (λ n. AllAreGiven n (s ∷ own)) (sym (next_append front (SeenSet s.uid s.seen ∷ rest) next)) ((parts.1.0.0, omega (arith, lt, up)), known own s.before (drop (s.before - k) shared) (entries_next front next) parts.1.1)

record IsCounted (s : Summary) : Type 0 where
  uids : Rises 1 s.next (uids_in s.messages)
  once : IsAccounted (gone_uids s.gone) s.next (uids_in s.messages)
  apart : AreApart s.messages s.gone
  place : ArePlacesBelow s.shared s.messages
  places : Rises 0 s.shared (places_in s.gone)

kept_steps : (es : List Event) (s : Summary) → AreGiven s.next (map Shared es) → ArePresent (uids_in s.messages) es → IsCounted s → IsCounted (steps es s)
kept_steps [] s given present h = h
kept_steps (e ∷ es) s given present h = kept_steps es (step e s) (subst (λ n. AreGiven n (map Shared es)) (sym (next_after e s)) given.1) (subst (λ us. ArePresent us es) (sym (uids_step e s)) present.1) (record {
  once = accounted_after e s given.0 present.0 h.uids h.once;
  apart = apart_step e s h.uids h.place h.places h.apart;
  uids = subst (λ n. Rises 1 n (uids_in (step e s).messages)) (sym (next_after e s)) (subst (Rises 1 (next_step e s.next)) (sym (uids_step e s)) (rises_step e 1 s.next (uids_in s.messages) given.0 h.uids));
  place = last_step e s h.place;
  places = places_step e s h.places;
})

pub summaries_are_admitted : SummariesAreAdmitted
summaries_are_admitted history lawful = record { uids = three.uids; once = three.once; apart = three.apart; place = three.place; places = three.places; fits = fits }
  where
    three : IsCounted (summary_of history)
    three = kept_steps history.shared (new_summary (found_of history.own)) (unmerged (changes_at history.own []) 0 (map Shared history.shared) 1 (lawful []).given) (lawful []).present (record { uids = omega arith; once = λ uid. none_given uid; apart = λ place. omega arith; place = tt; places = omega arith })

    next_is : (user : List ℕ) → entries_next (events_of history user) 1 ≡ (summary_of history).next
    next_is user = next_of history user ∙ sym (steps_next history.shared (new_summary (found_of history.own)))

    fits : (user : List ℕ) → Fits (summary_of history).shared (summary_of history).next (own_at (summary_of history).own user)
    fits user = subst (Fits (summary_of history).shared (summary_of history).next) (sym (own_is_found history user)) (record {
      order = subst (AreInOrder 0 (summary_of history).shared) (sym (found_befores (changes_at history.own user)))
          (subst (λ n. AreInOrder 0 n (befores (map own_entry (changes_at history.own user)))) (sym (shared_of history)) (lawful user).order);
      known = given_found (summary_of history).next (changes_at history.own user)
          (subst (λ n. AllAreGiven n (changes_at history.own user)) (next_is user) (known (changes_at history.own user) 0 (map Shared history.shared) 1 (lawful user).given));
    })
