-- The summary of events says what the events say.
use Rattle.std.proofs.Common.{◌≡◌, ℕ, ◌+◌, ◌-◌, ◌≤◌, List, [], ◌∷◌, ◌++◌, length, take, drop, map, refl, sym, ap, subst, ◌∙◌, arith}
use Rattle.std.proofs.lemmas.List.{length-map, length_push, take-map, drop-map, take-append-drop, length-take-le, length-drop}
use Rattle.imap_user_map.specs.Rows.{Users}
use Rattle.imap_modseq.specs.Merge.{merge_from, befores, AreInOrder}
use Rattle.imap_mailbox.specs.declared.own.SeenChange.{SeenChange}
use Rattle.imap_mailbox.specs.declared.message.Message.{Message}
use Rattle.imap_mailbox.specs.Rows.{Event, Added, FlagsSet, Expunged, Entry, Shared, SeenSet, rows_from, row_step, gone_from, gone_step, uids_from, next_from, AreGiven}
use Rattle.imap_mailbox.specs.History.{History, changes_at, own_entry, events_of, uids, next_uid, room_by, IsLawful}
use Rattle.imap_mailbox.specs.Latest.{AreLast}
use Rattle.imap_mailbox.specs.Own.{Own, no_own, own_at, found_in, numbered, with_change, with_changes}
use Rattle.imap_mailbox.specs.Summary.{Summary, step, steps, new_summary, summary_of, found_of, own_with, row_in, gone_in, ArePlacesBelow, Fits, Rises, uids_in, places_in}
use Rattle.imap_mailbox.proofs.Rising.{taken_below, AreGoneBelow}
use Rattle.imap_mailbox.specs.Bridge.{RowsAreThoseOfEvents, GoneAreThoseOfEvents, CountsAreThoseOfEvents, EventsAreSteps, ChangesAreSteps}
use Rattle.imap_mailbox.proofs.Steps.{rows_from-append, gone_from-append}
use Rattle.imap_mailbox.proofs.Changes.{fits_none, found_changes, length-found}
use Rattle.imap_mailbox.proofs.Merged.{length-events_of, found_with, own_at-found}
use Rattle.imap_mailbox.proofs.Joined.{mark_all, taken_stay}
use Rattle.imap_mailbox.proofs.Fitting.{next_after, shared_after, own_after, fits_step, fits_push, last_of_fits, last_step, places_step, rows_step, taken_step, uids_step}

-- ---- steps

pub steps-append : (a b : List Event) (s : Summary) → steps (a ++ b) s ≡ steps b (steps a s)
steps-append [] b s = refl
steps-append (e ∷ a) b s = steps-append a b (step e s)

pub steps_shared : (es : List Event) (s : Summary) → (steps es s).shared ≡ s.shared + length es
steps_shared [] s = omega arith
steps_shared (e ∷ es) s = omega (arith, steps_shared es (step e s), shared_after e s)

pub steps_next : (es : List Event) (s : Summary) → (steps es s).next ≡ next_from es s.next
steps_next [] s = refl
steps_next (e ∷ es) s = steps_next es (step e s) ∙ ap (next_from es) (next_after e s)

pub steps_own : (es : List Event) (s : Summary) → (steps es s).own ≡ s.own
steps_own [] s = refl
steps_own (e ∷ es) s = steps_own es (step e s) ∙ own_after e s

-- ---- a run over events with no own change among them

record Holds (s : Summary) (own : Own) : Type 0 where
  fits : Fits s.shared s.next own
  place : ArePlacesBelow s.shared s.messages
  places : Rises 0 s.shared (places_in s.gone)

record Run (n : ℕ) (events : List Entry) (s t : Summary) (before own : Own) : Type 0 where
  rows : rows_from n events (map (row_in before) s.messages) ≡ map (row_in own) t.messages
  gone : gone_from n events (map (gone_in before) s.gone) ≡ map (gone_in own) t.gone

given_shared : (es : List Event) (rest : List Entry) (s : Summary) → AreGiven s.next (map Shared es ++ rest) → AreGiven s.next (map Shared es) × AreGiven (steps es s).next rest
given_shared [] rest s h = (tt, h)
given_shared (e ∷ es) rest s h =
    let more = given_shared es rest (step e s) (subst (λ n. AreGiven n (map Shared es ++ rest)) (sym (next_after e s)) h.1) in
    ((h.0, subst (λ n. AreGiven n (map Shared es)) (next_after e s) more.0), more.1)

holds_step : (e : Event) (s : Summary) (own : Own) (es : List Entry) → AreGiven s.next (Shared e ∷ es) → Holds s own → Holds (step e s) own
holds_step e s own es given h = record { fits = fits_step e s own given.0 h.fits; place = last_step e s h.place; places = places_step e s h.places }

run_shared : (es : List Event) (s : Summary) (own : Own) (n : ℕ) → n ≡ 2 + (s.shared + length own.befores) → Holds s own → AreGiven s.next (map Shared es) → Run n (map Shared es) s (steps es s) own own × Holds (steps es s) own
run_shared [] s own n at h given = (record { rows = refl; gone = refl }, h)
run_shared (e ∷ es) s own n at h given =
    let rest = run_shared es (step e s) own (n + 1) (omega (arith, at, shared_after e s)) (holds_step e s own (map Shared es) given h) (subst (λ n. AreGiven n (map Shared es)) (sym (next_after e s)) given.1) in (
      record {
        rows = ap (rows_from (n + 1) (map Shared es)) (ap (λ k. row_step k (Shared e) (map (row_in own) s.messages)) at ∙ rows_step e s own given.0 h.fits) ∙ rest.0.rows;
        gone = ap (gone_from (n + 1) (map Shared es)) (ap (λ k. gone_step k (Shared e) (map (gone_in own) s.gone)) at ∙ taken_step e s own h.fits) ∙ rest.0.gone;
      },
      rest.1,
    )

-- ---- a run over the merge

-- up to an own change and over it, and on from there
over : (o : SeenChange) (own : List SeenChange) (a b : List Event) (tail : List Entry) (s : Summary) (done : Own) (k n : ℕ) → k ≡ s.shared → n ≡ 2 + (k + length done.befores) → Holds s done
    → o.before ≡ k + length a → AreGiven s.next (map Shared a ++ SeenSet o.uid o.seen ∷ tail)
    → ((t : Summary) → o.before ≡ t.shared → Holds t (with_change o done) → AreGiven t.next tail → Run (2 + (o.before + length done.befores) + 1) tail t (steps b t) (with_change o done) (with_changes own (with_change o done)))
    → Run n (map Shared a ++ SeenSet o.uid o.seen ∷ tail) s (steps (a ++ b) s) done (with_changes (o ∷ own) done)
over o own a b tail s done k n at num h place given on = record {
  rows = rows_from-append n middle (map Shared a) (SeenSet o.uid o.seen ∷ tail) (map (row_in done) s.messages) far
      ∙ ap (λ r. rows_from (middle + 1) tail (row_step middle (SeenSet o.uid o.seen) r)) first.0.rows
      ∙ ap (rows_from (middle + 1) tail) (mark_all done o.before order_here known_here o.uid o.seen (steps a s).messages last_here)
      ∙ rest.rows ∙ ap (λ (t : Summary). map (row_in (with_changes (o ∷ own) done)) t.messages) (sym (steps-append a b s));
  gone = gone_from-append n middle (map Shared a) (SeenSet o.uid o.seen ∷ tail) (map (gone_in done) s.gone) far
      ∙ ap (gone_from (middle + 1) tail) (first.0.gone ∙ taken_stay done o.before order_here known_here o.uid o.seen (steps a s).gone places_here)
      ∙ rest.gone ∙ ap (λ (t : Summary). map (gone_in (with_changes (o ∷ own) done)) t.gone) (sym (steps-append a b s));
}
  where
    middle : ℕ
    middle = 2 + (o.before + length done.befores)

    far : middle ≡ n + length (map Shared a)
    far = omega (arith, length-map a Shared, place, num)

    parts : AreGiven s.next (map Shared a) × AreGiven (steps a s).next (SeenSet o.uid o.seen ∷ tail)
    parts = given_shared a (SeenSet o.uid o.seen ∷ tail) s given

    first : Run n (map Shared a) s (steps a s) done done × Holds (steps a s) done
    first = run_shared a s done n (omega (arith, num, at)) h parts.0

    here : o.before ≡ (steps a s).shared
    here = omega (arith, steps_shared a s, place, at)

    order_here : AreInOrder 0 o.before done.befores
    order_here = subst (λ m. AreInOrder 0 m done.befores) (sym here) first.1.fits.order

    known_here : AreLast done
    known_here = last_of_fits (steps a s).shared (steps a s).next done first.1.fits

    last_here : ArePlacesBelow o.before (steps a s).messages
    last_here = subst (λ m. ArePlacesBelow m (steps a s).messages) (sym here) first.1.place

    places_here : AreGoneBelow o.before (steps a s).gone
    places_here = subst (λ m. AreGoneBelow m (steps a s).gone) (sym here) (taken_below 0 (steps a s).shared (steps a s).gone first.1.places)

    rest : Run (middle + 1) tail (steps a s) (steps b (steps a s)) (with_change o done) (with_changes own (with_change o done))
    rest = on (steps a s) here (record { fits = fits_push (steps a s).shared (steps a s).next done o here parts.1.0 first.1.fits; place = first.1.place; places = first.1.places }) parts.1.1

run : (own : List SeenChange) (shared : List Event) (s : Summary) (done : Own) (k n : ℕ) → k ≡ s.shared → n ≡ 2 + (k + length done.befores) → Holds s done
    → AreInOrder k (k + length shared) (befores (map own_entry own)) → AreGiven s.next (merge_from k (map Shared shared) (map own_entry own))
    → Run n (merge_from k (map Shared shared) (map own_entry own)) s (steps shared s) done (with_changes own done)
run [] shared s done k n at num h order given = (run_shared shared s done n (omega (arith, num, at)) h given).0
run (o ∷ own) shared s done k n at num h order given =
    let low : k ≤ o.before = order.0 in
    let high : o.before ≤ k + length shared = order.1 in
    let j : ℕ = o.before - k in
    let fits : j ≤ length shared = omega arith in
    let cut : merge_from k (map Shared shared) (map own_entry (o ∷ own)) ≡ map Shared (take j shared) ++ SeenSet o.uid o.seen ∷ merge_from o.before (map Shared (drop j shared)) (map own_entry own)
    = λ i. take-map Shared j shared i ++ SeenSet o.uid o.seen ∷ merge_from o.before (drop-map Shared j shared i) (map own_entry own) in
    let end : k + length shared ≡ o.before + length (drop j shared) = omega (arith, length-drop j shared) in
    subst (λ l. Run n l s (steps shared s) done (with_changes (o ∷ own) done)) (sym cut) (subst (λ es. Run n (map Shared (take j shared) ++ SeenSet o.uid o.seen ∷ merge_from o.before (map Shared (drop j shared)) (map own_entry own)) s (steps es s) done (with_changes (o ∷ own) done)) (take-append-drop j shared)
    (over o own (take j shared) (drop j shared) (merge_from o.before (map Shared (drop j shared)) (map own_entry own)) s done k n at num h (omega (arith, length-take-le j shared fits)) (subst (AreGiven s.next) cut given)
    (λ t here held left. run own (drop j shared) t (with_change o done) o.before (2 + (o.before + length done.befores) + 1) here (omega (arith, length_push done.befores o.before)) held (subst (λ m. AreInOrder o.before m (befores (map own_entry own))) end order.2) left)))

-- ---- the laws

whole : (history : History) (user : List ℕ) → IsLawful history user → Run 2 (events_of history user) (new_summary (found_of history.own)) (summary_of history) no_own (with_changes (changes_at history.own user) no_own)
whole history user h = run (changes_at history.own user) history.shared (new_summary (found_of history.own)) no_own 0 2 refl refl (record { fits = fits_none 0 1; place = tt; places = omega arith })
    (subst (λ m. AreInOrder 0 m (befores (map own_entry (changes_at history.own user)))) (let z : length history.shared ≡ 0 + length history.shared = omega arith in z) h.order) h.given

-- what the summary has of a user
pub own_is_found : (history : History) (user : List ℕ) → own_at (summary_of history).own user ≡ found_in (numbered 0 (changes_at history.own user))
own_is_found history user = ap (λ own. own_at own user) (steps_own history.shared (new_summary (found_of history.own))) ∙ own_at-found history.own user

own_same : (history : History) (user : List ℕ) → with_changes (changes_at history.own user) no_own ≡ own_at (summary_of history).own user
own_same history user = found_changes (changes_at history.own user) ∙ sym (own_is_found history user)

pub rows_are_those_of_events : RowsAreThoseOfEvents
rows_are_those_of_events history user h = sym ((whole history user h).rows ∙ ap (λ own. map (row_in own) (summary_of history).messages) (own_same history user))

pub gone_are_those_of_events : GoneAreThoseOfEvents
gone_are_those_of_events history user h = sym ((whole history user h).gone ∙ ap (λ own. map (gone_in own) (summary_of history).gone) (own_same history user))

pub shared_of : (history : History) → (summary_of history).shared ≡ length history.shared
shared_of history = omega (arith, steps_shared history.shared (new_summary (found_of history.own)))

-- ---- one more

pub events_are_steps : EventsAreSteps
events_are_steps history e = steps-append history.shared (e ∷ []) (new_summary (found_of history.own))

abbrev with_own : Summary → Users Own → Summary
with_own s own = record { messages = s.messages; gone = s.gone; next = s.next; shared = s.shared; own = own }

with_step : (e : Event) (s : Summary) (own : Users Own) → step e (with_own s own) ≡ with_own (step e s) own
with_step (Added m) s own = refl
with_step (FlagsSet uid flags) s own = refl
with_step (Expunged uid) s own = refl

with_steps : (es : List Event) (s : Summary) (own : Users Own) → steps es (with_own s own) ≡ with_own (steps es s) own
with_steps [] s own = refl
with_steps (e ∷ es) s own = ap (steps es) (with_step e s own) ∙ with_steps es (step e s) own

pub changes_are_steps : ChangesAreSteps
changes_are_steps history user uid seen =
    ap (λ own. steps history.shared (new_summary own)) (found_with history.own user (length history.shared) uid seen)
    ∙ with_steps history.shared (new_summary (found_of history.own)) (own_with (found_of history.own) user (length history.shared) uid seen)
    ∙ (λ i. with_own (summary_of history) (own_with (sym (steps_own history.shared (new_summary (found_of history.own))) i) user (sym (shared_of history) i) uid seen))

-- ---- the uids that are messages, and counts

pub uids_steps : (es : List Event) (s : Summary) → uids_in (steps es s).messages ≡ uids_from es (uids_in s.messages)
uids_steps [] s = refl
uids_steps (e ∷ es) s = uids_steps es (step e s) ∙ ap (uids_from es) (uids_step e s)

pub counts_are_those_of_events : CountsAreThoseOfEvents
counts_are_those_of_events history user most = (next, shared_of history, high, λ i. room_by most (messages i) (next i) (shared_of history i))
  where
    next : (summary_of history).next ≡ next_uid history
    next = steps_next history.shared (new_summary (found_of history.own))

    messages : length (summary_of history).messages ≡ length (uids history)
    messages = sym (length-map (summary_of history).messages (λ (c : Message). c.uid)) ∙ ap length (uids_steps history.shared (new_summary (found_of history.own)))

    len : length (own_at (summary_of history).own user).befores ≡ length (changes_at history.own user)
    len = ap (λ (o : Own). length o.befores) (own_is_found history user) ∙ length-found (changes_at history.own user)

    high : 1 + ((summary_of history).shared + length (own_at (summary_of history).own user).befores) ≡ 1 + length (events_of history user)
    high = (λ i. 1 + (shared_of history i + len i)) ∙ ap (λ n. 1 + n) (sym (length-events_of history user))
