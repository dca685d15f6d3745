-- What the events of a mailbox meet is kept by one event more.
use Rattle.std.proofs.Common.{◌≡◌, ◌≢◌, ℕ, ◌+◌, ◌-◌, Bool, true, false, List, [], ◌∷◌, ◌++◌, length, take, drop, map, unwrap_or, refl, sym, ap, subst, ◌∙◌, arith, ⊎_elim}
use Rattle.std.proofs.lemmas.Bool.{cases_Bool}
use Rattle.std.proofs.lemmas.List.{map-append, length-map, length_push, take-append-drop}
use Rattle.std.specs.FinMap as fin
use Rattle.std.proofs.lemmas.Map.Text.{is_eq-slice_cmp}
use Rattle.std.proofs.lemmas.Slice.Eq.{bytes_eq-Decides}
use Rattle.imap_mailbox.proofs.Values.{same_bytes}
use Rattle.imap_modseq.specs.Merge.{merge_from, merge, befores, AreInOrder}
use Rattle.imap_modseq.proofs.Merge.{merge_from-own, merge_from-shared}
use Rattle.imap_modseq.proofs.Order.{order_more, order_push}
use Rattle.imap_mailbox.specs.declared.own.SeenChange.{SeenChange}
use Rattle.imap_mailbox.specs.Rows.{Event, Entry, Shared, SeenSet, next_from, uids_from, uid_step, entry_next, WasGiven, IsGiven, AreGiven, IsPresent, ArePresent}
use Rattle.imap_mailbox.specs.History.{History, changes_at, changes_with, own_entry, events_of, uids, next_uid, IsLawful, with_event, with_own_change}
use Rattle.imap_mailbox.specs.Bridge.{LawfulStays}
use Rattle.imap_mailbox.proofs.Merged.{changes_at-same, changes_at-other}
use Rattle.imap_mailbox.proofs.Rising.{entries_next}
use Rattle.imap_mailbox.proofs.Changes.{befores_push}

given_push : (es : List Entry) (e : Entry) (next : ℕ) → AreGiven next es → IsGiven (entries_next es next) e → AreGiven next (es ++ e ∷ [])
given_push [] e next h given = (given, tt)
given_push (x ∷ es) e next h given = (h.0, given_push es e (entry_next x next) h.1 given)

next_append : (a b : List Entry) (next : ℕ) → entries_next (a ++ b) next ≡ entries_next b (entries_next a next)
next_append [] b next = refl
next_append (e ∷ a) b next = next_append a b (entry_next e next)

next_shared : (es : List Event) (next : ℕ) → entries_next (map Shared es) next ≡ next_from es next
next_shared [] next = refl
next_shared (e ∷ es) next = next_shared es (entry_next (Shared e) next)

next_merged : (k : ℕ) (shared : List Entry) (own : List SeenChange) (next : ℕ) → entries_next (merge_from k shared (map own_entry own)) next ≡ entries_next shared next
next_merged k shared [] next = refl
next_merged k shared (s ∷ own) next =
    next_append (take (s.before - k) shared) (SeenSet s.uid s.seen ∷ merge_from s.before (drop (s.before - k) shared) (map own_entry own)) next
    ∙ next_merged s.before (drop (s.before - k) shared) own (entries_next (take (s.before - k) shared) next)
    ∙ sym (next_append (take (s.before - k) shared) (drop (s.before - k) shared) next)
    ∙ ap (λ l. entries_next l next) (take-append-drop (s.before - k) shared)

pub next_of : (history : History) (user : List ℕ) → entries_next (events_of history user) 1 ≡ next_uid history
next_of history user = next_merged 0 (map Shared history.shared) (changes_at history.own user) 1 ∙ next_shared history.shared 1

after_event : (history : History) (user : List ℕ) (e : Event) → IsLawful history user → events_of (with_event e history) user ≡ events_of history user ++ Shared e ∷ []
after_event history user e h =
    ap (λ s. merge s (map own_entry (changes_at history.own user))) (map-append Shared history.shared (e ∷ []))
    ∙ merge_from-shared 0 (map Shared history.shared) (map own_entry (changes_at history.own user)) (Shared e)
    (subst (λ n. AreInOrder 0 n (befores (map own_entry (changes_at history.own user)))) (sym (length-map history.shared Shared) ∙ (let z : length (map Shared history.shared) ≡ 0 + length (map Shared history.shared) = omega arith in z)) h.order)

present_push : (es : List Event) (e : Event) (us : List ℕ) → ArePresent us es → IsPresent (uids_from es us) e → ArePresent us (es ++ e ∷ [])
present_push [] e us h here = (here, tt)
present_push (x ∷ es) e us h here = (h.0, present_push es e (uid_step x us) h.1 here)

event_stays : (history : History) (user : List ℕ) (e : Event) → IsLawful history user → IsGiven (next_uid history) (Shared e) → IsPresent (uids history) e → IsLawful (with_event e history) user
event_stays history user e h given there = record {
  present = present_push history.shared e [] h.present there;
  order = subst (λ n. AreInOrder 0 n (befores (map own_entry (changes_at history.own user)))) (sym (length_push history.shared e)) (order_more 0 (length history.shared) (befores (map own_entry (changes_at history.own user))) h.order);
  given = subst (AreGiven 1) (sym (after_event history user e h)) (given_push (events_of history user) (Shared e) 1 h.given (subst (λ n. IsGiven n (Shared e)) (sym (next_of history user)) given));
}

module _ (history : History) (user : List ℕ) (uid : ℕ) (seen : Bool) (h : IsLawful history user) (lt : WasGiven (next_uid history) uid) where
  abbrev change : SeenChange
  change = record { before = length history.shared; uid = uid; seen = seen }

  order_mine : AreInOrder 0 (length history.shared) (befores (map own_entry (changes_at history.own user ++ change ∷ [])))
  order_mine = subst (AreInOrder 0 (length history.shared)) (sym (befores_push (changes_at history.own user) change)) (order_push 0 (length history.shared) (befores (map own_entry (changes_at history.own user))) (omega arith) h.order)

  events_mine : merge (map Shared history.shared) (map own_entry (changes_at history.own user ++ change ∷ [])) ≡ events_of history user ++ SeenSet uid seen ∷ []
  events_mine = ap (merge (map Shared history.shared)) (map-append own_entry (changes_at history.own user) (change ∷ []))
      ∙ merge_from-own 0 (length history.shared) (map Shared history.shared) (map own_entry (changes_at history.own user)) (SeenSet uid seen) (omega (arith, length-map history.shared Shared))

  given_mine : AreGiven 1 (merge (map Shared history.shared) (map own_entry (changes_at history.own user ++ change ∷ [])))
  given_mine = subst (AreGiven 1) (sym events_mine) (given_push (events_of history user) (SeenSet uid seen) 1 h.given (subst (λ n. WasGiven n uid) (sym (next_of history user)) lt))

-- of a list of own changes
abbrev LawfulOwn : History → List SeenChange → Type 0
LawfulOwn history own = AreInOrder 0 (length history.shared) (befores (map own_entry own)) × AreGiven 1 (merge (map Shared history.shared) (map own_entry own))

change_stays : (history : History) (user other : List ℕ) (uid : ℕ) (seen : Bool) → IsLawful history user → WasGiven (next_uid history) uid → IsLawful (with_own_change other uid seen history) user
change_stays history user other uid seen h lt = record { order = both.0; given = both.1; present = h.present }
  where
    is_user : same_bytes user other ≡ true → user ≡ other
    is_user is = (bytes_eq-Decides user other).0 (sym (is_eq-slice_cmp user other) ∙ is)

    apart : same_bytes user other ≡ false → user ≢ other
    apart not_it = λ e. absurd (cc (sym not_it ∙ is_eq-slice_cmp user other ∙ (bytes_eq-Decides user other).1 e))

    both : LawfulOwn history (changes_at (changes_with history.own other (length history.shared) uid seen) user)
    both = ⊎_elim
        (λ is. subst (λ o. LawfulOwn history (changes_at (changes_with history.own o (length history.shared) uid seen) user)) (is_user is)
        (subst (LawfulOwn history) (sym (changes_at-same history.own user (length history.shared) uid seen)) (order_mine history user uid seen h lt, given_mine history user uid seen h lt)))
        (λ not_it. subst (LawfulOwn history) (sym (changes_at-other history.own user other (length history.shared) uid seen (apart not_it))) (h.order, h.given))
        (cases_Bool (same_bytes user other))

nothing_own : (user : List ℕ) → [] ≡ changes_at fin.empty user
nothing_own user = ap (λ o. unwrap_or o []) (sym (fin.get-empty _ user))

nothing : (user : List ℕ) → IsLawful (record { shared = []; own = fin.empty }) user
nothing user =
    let both = subst (LawfulOwn (record { shared = []; own = fin.empty })) (nothing_own user) (tt, tt) in
    record { order = both.0; given = both.1; present = tt }

pub lawful_stays : LawfulStays
lawful_stays = (nothing, event_stays, change_stays)
