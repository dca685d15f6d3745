-- The rows of each user are of the messages that are there.
use Rattle.std.proofs.Common.{◌≡◌, ℕ, ◌+◌, ◌-◌, eqb, not, Bool, true, false, cond, List, [], ◌∷◌, ◌++◌, length, take, drop, map, filter, refl, sym, ap, ◌∙◌}
use Rattle.std.proofs.lemmas.List.{map-append, length-map, take-append-drop}
use Rattle.imap_modseq.specs.Merge.{merge_from}
use Rattle.imap_mailbox.specs.Rows.{Event, Added, FlagsSet, Expunged, Entry, Shared, SeenSet, Row, row_step, rows_from, at_uid, uid_step, uids_from}
use Rattle.imap_mailbox.specs.declared.own.SeenChange.{SeenChange}
use Rattle.imap_mailbox.specs.History.{History, changes_at, own_entry, events_of, rows, uids}

abbrev pub uids_of : List Row → List ℕ
uids_of rows = map (λ r. r.uid) rows

abbrev pub entry_uids : Entry → List ℕ → List ℕ
entry_uids (Shared e) us = uid_step e us
entry_uids (SeenSet uid seen) us = us

abbrev pub entries_uids : List Entry → List ℕ → List ℕ
entries_uids [] us = us
entries_uids (e ∷ es) us = entries_uids es (entry_uids e us)

at_uid_uid : (n uid : ℕ) (f : Row → Row) → ((r : Row) → (f r).uid ≡ r.uid) → (r : Row) → (at_uid n uid f r).uid ≡ r.uid
at_uid_uid n uid f same r = by (eqb r.uid uid)
  where
    by : (b : Bool) → (cond b (record (f r) { number = n }) r).uid ≡ r.uid
    by true = same r
    by false = refl

uids_at : (n uid : ℕ) (f : Row → Row) → ((r : Row) → (f r).uid ≡ r.uid) → (rows : List Row) → uids_of (map (at_uid n uid f) rows) ≡ uids_of rows
uids_at n uid f same [] = refl
uids_at n uid f same (r ∷ rows) = λ i. at_uid_uid n uid f same r i ∷ uids_at n uid f same rows i

uids_without : (uid : ℕ) (rows : List Row) → uids_of (filter (λ r. not (eqb r.uid uid)) rows) ≡ filter (λ u. not (eqb u uid)) (uids_of rows)
uids_without uid [] = refl
uids_without uid (r ∷ rows) = by (not (eqb r.uid uid)) (uids_without uid rows)
  where
    by : (b : Bool) → uids_of (filter (λ r. not (eqb r.uid uid)) rows) ≡ filter (λ u. not (eqb u uid)) (uids_of rows)
        → uids_of (cond b (r ∷ filter (λ r. not (eqb r.uid uid)) rows) (filter (λ r. not (eqb r.uid uid)) rows)) ≡ cond b (r.uid ∷ filter (λ u. not (eqb u uid)) (uids_of rows)) (filter (λ u. not (eqb u uid)) (uids_of rows))
    by true rest = ap (λ l. r.uid ∷ l) rest
    by false rest = rest

uids_step : (n : ℕ) (e : Entry) (rows : List Row) → uids_of (row_step n e rows) ≡ entry_uids e (uids_of rows)
uids_step n (Shared (Added m)) rows = map-append (λ (r : Row). r.uid) rows _
uids_step n (Shared (FlagsSet uid flags)) rows = uids_at n uid (λ r. record r { flags = flags }) (λ r. refl) rows
uids_step n (Shared (Expunged uid)) rows = uids_without uid rows
uids_step n (SeenSet uid seen) rows = uids_at n uid (λ r. record r { seen = seen }) (λ r. refl) rows

pub uids_run : (n : ℕ) (es : List Entry) (rows : List Row) → uids_of (rows_from n es rows) ≡ entries_uids es (uids_of rows)
uids_run n [] rows = refl
uids_run n (e ∷ es) rows = uids_run (n + 1) es (row_step n e rows) ∙ ap (entries_uids es) (uids_step n e rows)

entries_uids-append : (a b : List Entry) (us : List ℕ) → entries_uids (a ++ b) us ≡ entries_uids b (entries_uids a us)
entries_uids-append [] b us = refl
entries_uids-append (e ∷ a) b us = entries_uids-append a b (entry_uids e us)

entries_shared : (es : List Event) (us : List ℕ) → entries_uids (map Shared es) us ≡ uids_from es us
entries_shared [] us = refl
entries_shared (e ∷ es) us = entries_shared es (uid_step e us)

entries_merged : (k : ℕ) (shared : List Entry) (own : List SeenChange) (us : List ℕ) → entries_uids (merge_from k shared (map own_entry own)) us ≡ entries_uids shared us
entries_merged k shared [] us = refl
entries_merged k shared (s ∷ own) us =
    entries_uids-append (take (s.before - k) shared) (SeenSet s.uid s.seen ∷ merge_from s.before (drop (s.before - k) shared) (map own_entry own)) us
    ∙ entries_merged s.before (drop (s.before - k) shared) own (entries_uids (take (s.before - k) shared) us)
    ∙ sym (entries_uids-append (take (s.before - k) shared) (drop (s.before - k) shared) us)
    ∙ ap (λ l. entries_uids l us) (take-append-drop (s.before - k) shared)

pub uids-rows : (history : History) (user : List ℕ) → map (λ (r : Row). r.uid) (rows history user) ≡ uids history
uids-rows history user = uids_run 2 (events_of history user) [] ∙ entries_merged 0 (map Shared history.shared) (changes_at history.own user) [] ∙ entries_shared history.shared []

pub length-rows : (history : History) (user : List ℕ) → length (rows history user) ≡ length (uids history)
length-rows history user = sym (length-map (rows history user) (λ (r : Row). r.uid)) ∙ ap length (uids-rows history user)
