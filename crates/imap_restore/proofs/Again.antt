-- What is read again below a mailbox of tables that hold a world is what the world has there.
use Rattle.std.proofs.Common.{◌≡◌, ℕ, ℤ, pos, List, [], ◌∷◌, Some, IsPermutation, refl, sym, ap, subst, ◌∙◌}
use Rattle.std.specs.Prelude.{drop, string_bytes}
use Rattle.std.specs.FinMap as map
use Rattle.std.specs.List.{AllZip}
use Rattle.std.specs.Ordering.{int_eq, nat_cmp}
use Rattle.std.specs.Cmp.Lexicographic.{slice_cmp}
use Rattle.sqlite.specs.Order.{Row, column}
use Rattle.sqlite.specs.Tree.{Trees}
use Rattle.sqlite.specs.declared.types.Value.TheVariants.{Int, Text as Words, Blob as Bytes}
use Rattle.sqlite_rules.specs.Lists.{Has}
use Rattle.sqlite_rules.proofs.ProbeLemmas.{has_mapped, mapped_has}
use Rattle.imap_mailbox.specs.Held.{IsKept}
use Rattle.imap_mailbox.specs.Parts.{AreOwn}
use Rattle.imap_mailbox.specs.UserChange.{UserChange, row_of}
use Rattle.imap_mailbox.specs.declared.message.GoneMessage.{GoneMessage}
use Rattle.imap_mailbox.specs.declared.message.Message.{Message}
use Rattle.imap_names.specs.Name.{Name}
use Rattle.imap_records.specs.Columns.{entry_values, gone_values, mark_values, message_values, place_value}
use Rattle.imap_records.specs.Standing.{AreFound, Kept, entries, messages, gone, marks}
use Rattle.imap_records.proofs.Injective.{same_gone, same_message, same_number}
use Rattle.imap_records.proofs.Keys.{same_text}
use Rattle.imap_rights.specs.Entries.{pair_of, pairs_of}
use Rattle.imap_rights.specs.declared.acl.Entry.{Entry}
use Rattle.imap_tables.specs.Contents.{AreAllApart}
use Rattle.imap_tables.specs.Rows.{acl_row, flag_of, gone_row, mark_row, message_row}
use Rattle.imap_tables.specs.declared.stored.StoredEntry.{StoredEntry}
use Rattle.imap_tables.specs.declared.stored.StoredGone.{StoredGone}
use Rattle.imap_tables.specs.declared.stored.StoredMailbox.{StoredMailbox}
use Rattle.imap_tables.specs.declared.stored.StoredSeenFlag.{StoredSeenFlag}
use Rattle.imap_tables.specs.declared.stored.StoredMessage.{StoredMessage}
use Rattle.imap_world.specs.Mailbox.{Mailbox}
use Rattle.imap_world.specs.World.{World}
use Rattle.imap_restore.specs.Holding.{Hold}
use Rattle.imap_restore.specs.Parts.{IsChangeFor, IsEntryFor, IsGoneMessageFor, IsMessageFor, below}
use Rattle.imap_restore.proofs.Children.{same_test, tested}
use Rattle.imap_restore.proofs.Flat.{all_own, all_own_apart, all_own_of, itself, own_put, own_taken, place_of}
use Rattle.imap_restore.proofs.UserChanges.{change_of, mark_shown, same_own}
use Rattle.imap_restore.proofs.Keyed.{Apart, apart_mapped, below_apart, entries_apart, rises_apart, same_sets, zip_apart}
use Rattle.imap_restore.proofs.Matching.{filtered_zip, zip_filtered}
use Rattle.imap_restore.proofs.Same.{same_change, same_entry, same_lost, same_stored}
use Rattle.imap_restore.proofs.TableRows.{Rows, entry_is, entry_rows, gone_is, gone_rows, mark_is, mark_rows, message_is, message_rows}
use Rattle.imap_restore.proofs.Told.{entry_told, gone_told, mark_told, message_told, one_with, same_int}

-- ---- the values of rows

message_shown : (x : StoredMessage) (y : Message) → IsMessageFor x y → (n : ℤ)
    → message_values n y ≡ Int n ∷ Int (pos x.row.uid) ∷ Words (string_bytes x.row.date) ∷ Bytes x.row.octets ∷ Int (pos x.row.flags) ∷ Words (string_bytes x.row.keywords) ∷ Int x.row.place ∷ []
message_shown x y is n = λ i. Int n ∷ Int (pos (is.0.uid i)) ∷ Words (is.0.date i) ∷ Bytes (is.0.octets i) ∷ Int (pos (is.0.flags.0 i)) ∷ Words (is.0.flags.1 i) ∷ Int (is.0.place i) ∷ []

gone_shown : (x : StoredGone) (y : GoneMessage) → IsGoneMessageFor x y → (n : ℤ) → gone_values n y ≡ Int n ∷ Int (pos x.uid) ∷ Int x.place ∷ []
gone_shown x y is n = λ i. Int n ∷ Int (pos (is.0 i)) ∷ Int (is.1 i) ∷ []

abbrev value_of : UserChange → List ℕ × ℤ
value_of y = (y.user, place_value y.place)

abbrev mark_key : StoredSeenFlag → List ℕ × ℤ
mark_key x = (string_bytes x.row.user, x.row.own)

module _ (db : Trees) (w : World) (hold : Hold db w) (b : Rows db) (distinct : AreAllApart b.t) (name : Name) (m : Mailbox) (there : map.get w.mailboxes name ≡ Some m) (s : StoredMailbox) (is_id : hold.0.stands.id name ≡ s.id) where
  -- a row below it is below no other
  owned_by : (other : Name) (n : Mailbox) (i : ℤ) → map.get w.mailboxes other ≡ Some n → hold.0.stands.id other ≡ i → i ≡ s.id → n ≡ m
  owned_by other n i at ids same = (one_with db w hold.0.stands b other name n m at there (ids ∙ same ∙ sym is_id)).1

  -- ---- the access control list

  pub acl_again : (items : List Entry) → AllZip IsEntryFor (below (λ (r : StoredEntry). r.mailbox) s.id b.t.entries.items) items → IsPermutation (pairs_of items) (map.entries m.acl)
  acl_again items zip = same_sets (λ (p : List ℕ × ℕ). p.0) (λ (p : List ℕ × ℕ). p.0) (pairs_of items) (map.entries m.acl) apart (entries_apart (slice_cmp nat_cmp) itself m.acl) to from
    where
      apart : Apart (λ (p : List ℕ × ℕ). p.0) (pairs_of items)
      apart =
          apart_mapped pair_of (λ (p : List ℕ × ℕ). p.0) items
          (zip_apart IsEntryFor (λ (x : StoredEntry). string_bytes x.identifier) (λ (y : Entry). (pair_of y).0) (λ x y is. sym (ap (λ (p : List ℕ × ℕ). p.0) is.0)) (below (λ (r : StoredEntry). r.mailbox) s.id b.t.entries.items) items zip
          (below_apart (λ (r : StoredEntry). r.mailbox) (λ (r : StoredEntry). string_bytes r.identifier) (λ (r : StoredEntry). r.rowid) b.t.entries.items s.id distinct.entries (same_entry db b)))

      to : (p : List ℕ × ℕ) → Has (pairs_of items) p → Has (map.entries m.acl) p
      to p h =
          let y = has_mapped pair_of items p h in
          let x = filtered_zip IsEntryFor (λ (r : StoredEntry). int_eq r.mailbox s.id) b.t.entries.items items zip y.0 y.1 in
          let t = entry_told db w hold.0.stands b x.0 x.1 in
          let own = owned_by t.name t.mailbox x.0.mailbox t.there t.id_is (tested x.0.mailbox s.id x.2) in
          subst (Has (map.entries m.acl)) (sym (y.2 ∙ x.3.0)) (subst (λ (n : Mailbox). Has (map.entries n.acl) (string_bytes x.0.identifier, x.0.rights)) own t.listed)

      from : (p : List ℕ × ℕ) → Has (map.entries m.acl) p → Has (pairs_of items) p
      from p h =
          let row = (hold.0.stands.below entries).complete (entry_values (hold.0.stands.id name) p.0 p.1) (record { name = name; mailbox = m; there = there; shown = record { identifier = p.0; rights = p.1; there = h; shown = refl } }) in
          let x = (entry_rows db b).to (Int row.0 ∷ entry_values (hold.0.stands.id name) p.0 p.1) row.1 in
          let same : Int row.0 ∷ entry_values (hold.0.stands.id name) p.0 p.1 ≡ acl_row x.0.mailbox (string_bytes x.0.identifier) x.0.rights x.0.rowid = entry_is db b (Int row.0 ∷ entry_values (hold.0.stands.id name) p.0 p.1) row.1 x.0 x.2 in
          let ids = same_int (hold.0.stands.id name) x.0.mailbox (ap (λ (v : Row). column v 1) same) in
          let who = same_text p.0 (string_bytes x.0.identifier) (ap (λ (v : Row). column v 2) same) in
          let what = same_number p.1 x.0.rights (ap (λ (v : Row). column v 3) same) in
          let y = zip_filtered IsEntryFor (λ (r : StoredEntry). int_eq r.mailbox s.id) b.t.entries.items items zip x.0 x.1 (same_test x.0.mailbox s.id (sym ids ∙ is_id)) in
          subst (Has (pairs_of items)) (y.2.0 ∙ λ i. (sym who i, sym what i)) (mapped_has pair_of items y.0 y.1)

  -- ---- messages

  pub messages_again : (items : List Message) → AllZip IsMessageFor (below (λ (r : StoredMessage). r.mailbox) s.id b.t.messages.items) items → IsPermutation items m.messages.messages
  messages_again items zip = same_sets (λ (y : Message). y.uid) (λ (y : Message). y.uid) items m.messages.messages apart rises to from
    where
      apart : Apart (λ (y : Message). y.uid) items
      apart =
          zip_apart IsMessageFor (λ (x : StoredMessage). x.row.uid) (λ (y : Message). y.uid) (λ x y is. sym is.0.uid) (below (λ (r : StoredMessage). r.mailbox) s.id b.t.messages.items) items zip
          (below_apart (λ (r : StoredMessage). r.mailbox) (λ (r : StoredMessage). r.row.uid) (λ (r : StoredMessage). r.rowid) b.t.messages.items s.id distinct.messages (same_stored db b))

      rises : Apart (λ (y : Message). y.uid) m.messages.messages
      rises = let k : IsKept m.messages = hold.0.kept.at name m there in rises_apart (λ (y : Message). y.uid) m.messages.messages 1 m.messages.next k.sound.uids

      to : (y : Message) → Has items y → Has m.messages.messages y
      to y h =
          let x = filtered_zip IsMessageFor (λ (r : StoredMessage). int_eq r.mailbox s.id) b.t.messages.items items zip y h in
          let t = message_told db w hold.0.stands b x.0 x.1 in
          let own = owned_by t.name t.mailbox x.0.mailbox t.there t.id_is (tested x.0.mailbox s.id x.2) in
          let v = (hold.0.values.mailboxes t.name t.mailbox t.there).messages.messages t.message t.listed in
          let same = same_message (pos 0) (pos 0) t.message y v x.3.1 (message_shown x.0 t.message (t.is, v) (pos 0) ∙ sym (message_shown x.0 y x.3 (pos 0))) in
          subst (Has m.messages.messages) same (subst (λ (n : Mailbox). Has n.messages.messages t.message) own t.listed)

      from : (y : Message) → Has m.messages.messages y → Has items y
      from y h =
          let values = message_values (hold.0.stands.id name) y in
          let row = (hold.0.stands.below messages).complete values (record { name = name; mailbox = m; there = there; shown = record { message = y; there = h; shown = refl } }) in
          let x = (message_rows db b).to (Int row.0 ∷ values) row.1 in
          let same : Int row.0 ∷ values ≡ message_row x.0.mailbox x.0.row.uid (string_bytes x.0.row.date) x.0.row.octets x.0.row.flags (string_bytes x.0.row.keywords) x.0.row.place x.0.rowid = message_is db b (Int row.0 ∷ values) row.1 x.0 x.2 in
          let ids = same_int (hold.0.stands.id name) x.0.mailbox (ap (λ (v : Row). column v 1) same) in
          let z = zip_filtered IsMessageFor (λ (r : StoredMessage). int_eq r.mailbox s.id) b.t.messages.items items zip x.0 x.1 (same_test x.0.mailbox s.id (sym ids ∙ is_id)) in
          let v = (hold.0.values.mailboxes name m there).messages.messages y h in
          subst (Has items) (same_message x.0.mailbox (hold.0.stands.id name) z.0 y z.2.1 v (message_shown x.0 z.0 z.2 x.0.mailbox ∙ sym (ap (drop 1) same))) z.1

  -- ---- messages that are gone

  pub gone_again : (items : List GoneMessage) → AllZip IsGoneMessageFor (below (λ (r : StoredGone). r.mailbox) s.id b.t.gone.items) items → IsPermutation items m.messages.gone
  gone_again items zip = same_sets (λ (y : GoneMessage). y.uid) (λ (y : GoneMessage). y.place) items m.messages.gone apart rises to from
    where
      apart : Apart (λ (y : GoneMessage). y.uid) items
      apart =
          zip_apart IsGoneMessageFor (λ (x : StoredGone). x.uid) (λ (y : GoneMessage). y.uid) (λ x y is. sym is.0) (below (λ (r : StoredGone). r.mailbox) s.id b.t.gone.items) items zip
          (below_apart (λ (r : StoredGone). r.mailbox) (λ (r : StoredGone). r.uid) (λ (r : StoredGone). r.rowid) b.t.gone.items s.id distinct.gone (same_lost db b))

      rises : Apart (λ (y : GoneMessage). y.place) m.messages.gone
      rises = let k : IsKept m.messages = hold.0.kept.at name m there in rises_apart (λ (y : GoneMessage). y.place) m.messages.gone 0 m.messages.shared k.sound.places

      to : (y : GoneMessage) → Has items y → Has m.messages.gone y
      to y h =
          let x = filtered_zip IsGoneMessageFor (λ (r : StoredGone). int_eq r.mailbox s.id) b.t.gone.items items zip y h in
          let t = gone_told db w hold.0.stands b x.0 x.1 in
          let own = owned_by t.name t.mailbox x.0.mailbox t.there t.id_is (tested x.0.mailbox s.id x.2) in
          let same = same_gone (pos 0) (pos 0) t.message y (gone_shown x.0 t.message t.is (pos 0) ∙ sym (gone_shown x.0 y x.3 (pos 0))) in
          subst (Has m.messages.gone) same (subst (λ (n : Mailbox). Has n.messages.gone t.message) own t.listed)

      from : (y : GoneMessage) → Has m.messages.gone y → Has items y
      from y h =
          let values = gone_values (hold.0.stands.id name) y in
          let row = (hold.0.stands.below gone).complete values (record { name = name; mailbox = m; there = there; shown = record { message = y; there = h; shown = refl } }) in
          let x = (gone_rows db b).to (Int row.0 ∷ values) row.1 in
          let same : Int row.0 ∷ values ≡ gone_row x.0.mailbox x.0.uid x.0.place x.0.rowid = gone_is db b (Int row.0 ∷ values) row.1 x.0 x.2 in
          let ids = same_int (hold.0.stands.id name) x.0.mailbox (ap (λ (v : Row). column v 1) same) in
          let z = zip_filtered IsGoneMessageFor (λ (r : StoredGone). int_eq r.mailbox s.id) b.t.gone.items items zip x.0 x.1 (same_test x.0.mailbox s.id (sym ids ∙ is_id)) in
          subst (Has items) (same_gone x.0.mailbox (hold.0.stands.id name) z.0 y (gone_shown x.0 z.0 z.2 x.0.mailbox ∙ sym (ap (drop 1) same))) z.1

  -- ---- users' own changes

  pub own_again : (items : List UserChange) → AllZip IsChangeFor (below (λ (r : StoredSeenFlag). r.mailbox) s.id b.t.marks.items) items → AreOwn m.messages.shared items m.messages.own
  own_again items zip = (
    all_own kept m.messages are,
    same_sets value_of place_of items (all_own kept m.messages are) apart (all_own_apart kept m.messages are) to from,
    all_own_of kept m.messages are,
  )
    where
      kept : Kept
      kept = hold.0.stands.kept name

      are : AreFound (hold.0.stands.kept name) m.messages
      are = hold.0.stands.found name m there

      apart : Apart value_of items
      apart =
          zip_apart IsChangeFor mark_key value_of (λ x y is. λ i. (sym is.0.user i, sym is.0.place i)) (below (λ (r : StoredSeenFlag). r.mailbox) s.id b.t.marks.items) items zip
          (below_apart (λ (r : StoredSeenFlag). r.mailbox) mark_key (λ (r : StoredSeenFlag). r.rowid) b.t.marks.items s.id distinct.marks
          (λ x y hx hy at e. same_change db b x y hx hy at (ap (λ (t : List ℕ × ℤ). t.0) e) (ap (λ (t : List ℕ × ℤ). t.1) e)))

      to : (y : UserChange) → Has items y → Has (all_own (hold.0.stands.kept name) m.messages are) y
      to y h =
          let x = filtered_zip IsChangeFor (λ (r : StoredSeenFlag). int_eq r.mailbox s.id) b.t.marks.items items zip y h in
          let t = mark_told db w hold.0.stands b x.0 x.1 in
          let names = (one_with db w hold.0.stands b t.name name t.mailbox m t.there there (t.id_is ∙ tested x.0.mailbox s.id x.2 ∙ sym is_id)).0 in
          let z : UserChange = change_of t.user t.change in
          let shown : mark_values (pos 0) z.user (row_of z) ≡ mark_values (pos 0) y.user (row_of y) =
          (λ i. Int (pos 0) ∷ Words (t.is.user i) ∷ Int (t.is.place i) ∷ Int (t.is.before i) ∷ Int (pos (t.is.uid i)) ∷ Int (flag_of (t.is.seen i)) ∷ []) ∙ sym (mark_shown x.0 y x.3 (pos 0)) in
          subst (Has (all_own (hold.0.stands.kept name) m.messages are)) (same_own (pos 0) (pos 0) z y shown)
          (own_put (hold.0.stands.kept name) m.messages are t.user t.change (subst (λ (q : Name). Has (hold.0.stands.kept q t.user) t.change) names t.listed))

      from : (y : UserChange) → Has (all_own (hold.0.stands.kept name) m.messages are) y → Has items y
      from y h =
          let values = mark_values (hold.0.stands.id name) y.user (row_of y) in
          let row = (hold.0.stands.below marks).complete values (record {
            name = name;
            mailbox = m;
            there = there;
            shown = record { user = y.user; change = row_of y; there = own_taken (hold.0.stands.kept name) m.messages are y h; shown = refl };
          }) in
          let x = (mark_rows db b).to (Int row.0 ∷ values) row.1 in
          let same : Int row.0 ∷ values ≡ mark_row x.0.mailbox (string_bytes x.0.row.user) x.0.row.own x.0.row.before x.0.row.uid x.0.row.seen x.0.rowid = mark_is db b (Int row.0 ∷ values) row.1 x.0 x.2 in
          let ids = same_int (hold.0.stands.id name) x.0.mailbox (ap (λ (v : Row). column v 1) same) in
          let z = zip_filtered IsChangeFor (λ (r : StoredSeenFlag). int_eq r.mailbox s.id) b.t.marks.items items zip x.0 x.1 (same_test x.0.mailbox s.id (sym ids ∙ is_id)) in
          subst (Has items) (same_own x.0.mailbox (hold.0.stands.id name) z.0 y (mark_shown x.0 z.0 z.2 x.0.mailbox ∙ sym (ap (drop 1) same))) z.1
