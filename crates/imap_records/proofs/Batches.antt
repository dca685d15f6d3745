-- A batch of messages by its rows.
use Rattle.std.proofs.Common.{◌≡◌, ◌⊎◌, ℕ, ◌+◌, ◌≤◌, ℤ, pos, Bool, true, false, cond, List, [], ◌∷◌, ◌++◌, length, map, refl, sym, ap, subst, ◌∙◌, true≢false, arith}
use Rattle.std.specs.Prelude.{◌↔◌, ◌==◌, bytes_eq}
use Rattle.std.proofs.lemmas.Slice.Eq.{bytes_eq-Decides}
use Rattle.sqlite.specs.Order.{Row}
use Rattle.sqlite.specs.Tree.{Trees}
use Rattle.imap_batch.specs.Batch.{event_count, flag_count}
use Rattle.imap_batch.specs.Entered.{IsEntered, flag_changes, gone_added, messages_added, own_changes, own_rows, with_flag_changes}
use Rattle.imap_batch.specs.Written.{MayWrite, with_batch}
use Rattle.imap_batch.specs.declared.write.BatchWrite.{BatchWrite}
use Rattle.imap_batch.proofs.Entering.{writes_are_entered}
use Rattle.imap_batch.proofs.OwnRows.{own_rows_follow}
use Rattle.imap_mailbox.specs.Expunging.{without_all}
use Rattle.imap_mailbox.specs.declared.kept_change.KeptChange.{KeptChange}
use Rattle.imap_mailbox.specs.KeptRows.{AreKept}
use Rattle.imap_mailbox.specs.Own.{found_in, numbered, own_at}
use Rattle.imap_mailbox.specs.Summary.{Summary}
use Rattle.imap_names.specs.Name.{Name, path_of}
use Rattle.imap_world.specs.Mailbox.{Mailbox}
use Rattle.imap_world.specs.World.{World}
use Rattle.imap_tables.specs.Rows.{mailbox_row}
use Rattle.imap_records.specs.Columns.{row_of_mailbox, tree_text}
use Rattle.imap_records.specs.Standing.{AreFound, IsEntry, IsGone, IsMark, IsMessage, Kept}
use Rattle.imap_records.specs.Steps.{Count, RemoveMessage, batch_steps, count_steps, drop_step, flag_step, gone_step, mark_steps, message_step, message_steps, own_steps}
use Rattle.imap_records.proofs.Beside.{IsBeside, IsFree, alike, mailbox_counted}
use Rattle.imap_records.proofs.Closing.{IsSetBeside}
use Rattle.imap_records.proofs.Making.{MakesBelowAll, below_split}
use Rattle.imap_records.proofs.Marks.{IsLeft, IsNew, all_dropped, all_marked, kept_with, marks_grown}
use Rattle.imap_records.proofs.Messages.{all_added, all_flagged, all_gone, all_removed}
use Rattle.std.proofs.lemmas.Bool.Decides.{Decides-eqb}

-- the rows stay in order where there are more shared events
kept_higher : (rows : List KeptChange) (done low high more : ℕ) → high ≤ more → AreKept done low high rows → AreKept done low more rows
kept_higher [] done low high more le h = tt
kept_higher (k ∷ rows) done low high more le h =
    let within = h.0.within in
    (record { place = h.0.place; few = h.0.few; after = h.0.after; within = omega (arith, within, le) }, kept_higher rows (k.place + 1) k.before high more le h.1)

-- no events are none of each kind
none_added : (a f e : ℕ) → a + (f + e) ≡ 0 → a ≡ 0
none_added a f e h = omega (arith, h)

module _ (B : World) (id : Name → ℤ) (kept : Name → Kept) (i : ℤ) (free : IsFree B id i) (name : Name) (m : Mailbox) (k : Kept) (w : BatchWrite) (may : MayWrite w m.messages) where
  abbrev s : Summary
  s = m.messages

  abbrev t : Summary
  t = with_batch w.batch s

  entered : IsEntered w s t
  entered = writes_are_entered s w may

  abbrev own : Row
  own = row_of_mailbox name m i

  abbrev changed : Row
  changed = row_of_mailbox name (record m { messages = t }) i

  -- the row of the mailbox, by its numbers
  numbers : (next shared : ℕ) → next ≡ t.next → shared ≡ t.shared → mailbox_row i (tree_text name) (path_of name) m.validity next (pos shared) ≡ changed
  numbers next shared n k = λ j. mailbox_row i (tree_text name) (path_of name) m.validity (n j) (pos (k j))

  first_uid_is : w.first_uid ≡ s.next
  first_uid_is = ap (λ (x : BatchWrite). x.first_uid) may.current

  first_place_is : w.first_place ≡ s.shared
  first_place_is = ap (λ (x : BatchWrite). x.first_place) may.current

  -- the own changes of its user that are kept afterwards
  abbrev pub kept_after : Kept
  kept_after = kept_with k w.batch.user (own_rows w (k w.batch.user))

  pub found_after : AreFound k s → AreFound kept_after t
  found_after are = record {
    order = λ q. by_order q (bytes_eq q w.batch.user) refl;
    found = λ q. by_found q (bytes_eq q w.batch.user) refl;
  }
    where
      its : AreKept 0 0 t.shared (own_rows w (k w.batch.user)) × (found_in (own_rows w (k w.batch.user)) ≡ own_at t.own w.batch.user)
      its = own_rows_follow s w (k w.batch.user) may (are.order w.batch.user) (are.found w.batch.user)

      more : s.shared ≤ t.shared
      more = let shared = entered.shared in omega (arith, shared)

      by_order : (q : List ℕ) (b : Bool) → bytes_eq q w.batch.user ≡ b → AreKept 0 0 t.shared (cond b (own_rows w (k w.batch.user)) (k q))
      by_order q true e = its.0
      by_order q false e = kept_higher (k q) 0 0 s.shared t.shared more (are.order q)

      by_found : (q : List ℕ) (b : Bool) → bytes_eq q w.batch.user ≡ b → found_in (cond b (own_rows w (k w.batch.user)) (k q)) ≡ own_at t.own q
      by_found q true e = its.1 ∙ ap (own_at t.own) (sym ((bytes_eq-Decides q w.batch.user).0 e))
      by_found q false e = are.found q ∙ sym (entered.others q (λ h. true≢false (sym ((bytes_eq-Decides q w.batch.user).1 h) ∙ e)))

  counted : (E M G K : Row → Type 0) (db new : Trees) (b : Bool) → (event_count w.batch == 0) ≡ b
      → MakesBelowAll i (cond b [] (Count (w.first_uid + length w.batch.added) (pos (w.first_place + event_count w.batch)) ∷ [])) db new
      → IsBeside B id kept db own E M G K → IsBeside B id kept new changed E M G K
  counted E M G K db new true none made b =
      let zero : event_count w.batch ≡ 0 = (Decides-eqb (event_count w.batch) 0).0 none in
      let added : length w.batch.added ≡ 0 = none_added (length w.batch.added) (flag_count w.batch.marks) (length w.batch.expunged) zero in
      let next : s.next ≡ t.next = (let e : s.next ≡ s.next + 0 = omega arith in e) ∙ ap (λ n. s.next + n) (sym added) ∙ sym entered.next in
      let shared : s.shared ≡ t.shared = (let e : s.shared ≡ s.shared + 0 = omega arith in e) ∙ ap (λ n. s.shared + n) (sym zero) ∙ sym entered.shared in
      subst (λ (row : Row). IsBeside B id kept new row E M G K) (numbers s.next s.shared next shared) (subst (λ (d : Trees). IsBeside B id kept d own E M G K) (sym made) b)
  counted E M G K db new false some (mid, counts, made) b =
      let next : w.first_uid + length w.batch.added ≡ t.next = ap (λ n. n + length w.batch.added) first_uid_is ∙ sym entered.next in
      let shared : w.first_place + event_count w.batch ≡ t.shared = ap (λ n. n + event_count w.batch) first_place_is ∙ sym entered.shared in
      subst (λ (row : Row). IsBeside B id kept new row E M G K) (numbers (w.first_uid + length w.batch.added) (w.first_place + event_count w.batch) next shared)
      (subst (λ (d : Trees). IsBeside B id kept d (mailbox_row i (tree_text name) (path_of name) m.validity (w.first_uid + length w.batch.added) (pos (w.first_place + event_count w.batch))) E M G K) (sym made)
      (mailbox_counted B id kept db mid own E M G K b i free refl (w.first_uid + length w.batch.added) (pos (w.first_place + event_count w.batch)) counts))

  pub batch_made : (db new : Trees) → MakesBelowAll i (batch_steps w) db new → IsSetBeside B id kept i db own m k → IsSetBeside B id kept i new changed (record m { messages = t }) kept_after
  batch_made db new made b =
      let E : Row → Type 0 = IsEntry m.acl i in
      let K : Row → Type 0 = IsMark k i in
      let user : List ℕ = w.batch.user in
      let news : List KeptChange = numbered w.own_before (own_changes w) in
      let parts = below_split i (message_steps w) (own_steps w ++ count_steps w) db new made in
      let first = below_split i (map message_step (messages_added w)) (map flag_step (flag_changes w) ++ (map RemoveMessage w.batch.expunged ++ map gone_step (gone_added w))) db parts.0 parts.1 in
      let second = below_split i (map flag_step (flag_changes w)) (map RemoveMessage w.batch.expunged ++ map gone_step (gone_added w)) first.0 parts.0 first.2 in
      let third = below_split i (map RemoveMessage w.batch.expunged) (map gone_step (gone_added w)) second.0 parts.0 second.2 in
      let last = below_split i (own_steps w) (count_steps w) parts.0 new parts.2 in
      let added = all_added B id kept i free own E (messages_added w) s.messages db first.0 (IsGone s.gone i) K first.1 b in
      let flagged = all_flagged B id kept i free own E (flag_changes w) (s.messages ++ messages_added w) first.0 second.0 (IsGone s.gone i) K second.1 added in
      let removed = all_removed B id kept i free own E w.batch.expunged (with_flag_changes (flag_changes w) (s.messages ++ messages_added w)) second.0 third.0 (IsGone s.gone i) K third.1 flagged in
      let M : Row → Type 0 = IsMessage (without_all w.batch.expunged (with_flag_changes (flag_changes w) (s.messages ++ messages_added w))) i in
      let went = all_gone B id kept i free own E (gone_added w) s.gone (without_all w.batch.expunged (with_flag_changes (flag_changes w) (s.messages ++ messages_added w))) third.0 parts.0 K third.2 removed in
      let G : Row → Type 0 = IsGone (s.gone ++ gone_added w) i in
      let owns = below_split i (map (drop_step user) w.dropped) (mark_steps user w.own_before (own_changes w)) parts.0 last.0 last.1 in
      let left = all_dropped B id kept i own E M G free user w.dropped K parts.0 owns.0 owns.1 went in
      let marked = all_marked B id kept i own E M G user news (IsLeft i user w.dropped K) owns.0 last.0 owns.2 left in
      let done = counted E M G (λ v. IsLeft i user w.dropped K v ⊎ IsNew i user news v) last.0 new (event_count w.batch == 0) refl last.2 marked in
      alike B id kept new changed E M G (λ v. IsLeft i user w.dropped K v ⊎ IsNew i user news v) done
      E (IsMessage t.messages i) (IsGone t.gone i) (IsMark kept_after i)
      (λ v. (λ h. h, λ h. h))
      (λ v. subst (λ l. IsMessage (without_all w.batch.expunged (with_flag_changes (flag_changes w) (s.messages ++ messages_added w))) i v ↔ IsMessage l i v) (sym entered.messages) (λ h. h, λ h. h))
      (λ v. subst (λ l. IsGone (s.gone ++ gone_added w) i v ↔ IsGone l i v) (sym entered.gone) (λ h. h, λ h. h))
      (marks_grown i user k w.dropped news)
