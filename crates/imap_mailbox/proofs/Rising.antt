-- UIDs rise.
use Rattle.std.proofs.Common.{◌≡◌, ℕ, ◌+◌, ◌<◌, ◌≤◌, eqb, not, Bool, true, false, cond, List, [], ◌∷◌, ◌++◌, filter, arith}
use Rattle.imap_mailbox.specs.Rows.{Event, Added, FlagsSet, Expunged, Entry, Shared, SeenSet, next_step, uid_step, IsGiven, entry_next, AreGiven}
use Rattle.imap_mailbox.specs.declared.message.GoneMessage.{GoneMessage}
use Rattle.imap_mailbox.specs.Summary.{Rises, places_in}
use Rattle.imap_mailbox.proofs.Uids.{entry_uids, entries_uids}

pub rises_end : (low next : ℕ) (us : List ℕ) → Rises low next us → low ≤ next
rises_end low next [] h = h
rises_end low next (u ∷ us) h = let rest = rises_end (u + 1) next us h.1 in let le : low ≤ u = h.0 in omega (arith, rest)

pub rises_lower : (low less next : ℕ) (us : List ℕ) → less ≤ low → Rises low next us → Rises less next us
rises_lower low less next [] le h = let end : low ≤ next = h in omega arith
rises_lower low less next (u ∷ us) le h = let at : low ≤ u = h.0 in (omega arith, h.1)

pub rises_push : (low next uid : ℕ) (us : List ℕ) → next ≤ uid → Rises low next us → Rises low (uid + 1) (us ++ uid ∷ [])
rises_push low next uid [] le h = let end : low ≤ next = h in (omega arith, omega arith)
rises_push low next uid (u ∷ us) le h = (h.0, rises_push (u + 1) next uid us le h.1)

pub rises_without : (low next uid : ℕ) (us : List ℕ) → Rises low next us → Rises low next (filter (λ u. not (eqb u uid)) us)
rises_without low next uid [] h = h
rises_without low next uid (u ∷ us) h = by (not (eqb u uid)) (rises_without (u + 1) next uid us h.1)
  where
    by : (b : Bool) → Rises (u + 1) next (filter (λ u. not (eqb u uid)) us) → Rises low next (cond b (u ∷ filter (λ u. not (eqb u uid)) us) (filter (λ u. not (eqb u uid)) us))
    by true rest = (h.0, rest)
    by false rest = let at : low ≤ u = h.0 in rises_lower (u + 1) low next (filter (λ u. not (eqb u uid)) us) (omega arith) rest

pub rises_step : (e : Event) (low next : ℕ) (us : List ℕ) → IsGiven next (Shared e) → Rises low next us → Rises low (next_step e next) (uid_step e us)
rises_step (Added m) low next us given h = let is : m.uid ≡ next = given in rises_push low next m.uid us (omega arith) h
rises_step (FlagsSet uid flags) low next us given h = h
rises_step (Expunged uid) low next us given h = rises_without low next uid us h

rises_entry : (e : Entry) (low next : ℕ) (us : List ℕ) → IsGiven next e → Rises low next us → Rises low (entry_next e next) (entry_uids e us)
rises_entry (Shared e) low next us given h = rises_step e low next us given h
rises_entry (SeenSet uid seen) low next us given h = h

abbrev pub entries_next : List Entry → ℕ → ℕ
entries_next [] next = next
entries_next (e ∷ es) next = entries_next es (entry_next e next)

pub rises_entries : (es : List Entry) (low next : ℕ) (us : List ℕ) → AreGiven next es → Rises low next us → Rises low (entries_next es next) (entries_uids es us)
rises_entries [] low next us given h = h
rises_entries (e ∷ es) low next us given h = rises_entries es low (entry_next e next) (entry_uids e us) given.1 (rises_entry e low next us given.0 h)

pub rises_upper : (low high more : ℕ) (ns : List ℕ) → high ≤ more → Rises low high ns → Rises low more ns
rises_upper low high more [] le h = let end : low ≤ high = h in omega arith
rises_upper low high more (n ∷ ns) le h = (h.0, rises_upper (n + 1) high more ns le h.1)

-- the places of those that went
abbrev pub AreGoneBelow : ℕ → List GoneMessage → Type 0
AreGoneBelow n [] = Unit {0}
AreGoneBelow n (t ∷ gone) = (t.place < n) × AreGoneBelow n gone

pub taken_below : (low n : ℕ) (gone : List GoneMessage) → Rises low n (places_in gone) → AreGoneBelow n gone
taken_below low n [] h = tt
taken_below low n (t ∷ gone) h = let end = rises_end (t.place + 1) n (places_in gone) h.1 in (omega arith, taken_below (t.place + 1) n gone h.1)
