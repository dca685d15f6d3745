-- The rows below mailboxes are those of a world.
use Rattle.std.proofs.Common.{◌≡◌, ℤ, pos, true, [], ◌∷◌, refl, sym, ap, subst, ◌∙◌}
use Rattle.std.specs.Prelude.{string_bytes}
use Rattle.std.specs.FinMap as map
use Rattle.std.specs.Ordering.{int_eq}
use Rattle.std.proofs.lemmas.Bool.Decides.{Decides-int_eq}
use Rattle.std.proofs.lemmas.List.Sorted.{IsPermutation-sym}
use Rattle.sqlite.specs.Tree.{Trees}
use Rattle.sqlite.specs.declared.types.Value.TheVariants.{Int, Text as Words, Blob as Bytes}
use Rattle.sqlite_rules.specs.Lists.{Has}
use Rattle.sqlite_rules.proofs.ProbeLemmas.{has_mapped, mapped_has}
use Rattle.imap_mailbox.specs.declared.message.GoneMessage.{GoneMessage}
use Rattle.imap_mailbox.specs.declared.message.Message.{Message}
use Rattle.imap_records.specs.Columns.{entry_values, gone_values, message_values}
use Rattle.imap_names.specs.Name.{Name}
use Rattle.imap_records.specs.Standing.{AreRows, IsEntry as EntryOf, IsGone as GoneOf, IsMessage as MessageOf, IsUnder, Kept, entries, messages, gone}
use Rattle.imap_rights.specs.Entries.{pair_of, pairs_of}
use Rattle.imap_tables.specs.declared.stored.StoredEntry.{StoredEntry}
use Rattle.imap_tables.specs.declared.stored.StoredGone.{StoredGone}
use Rattle.imap_tables.specs.declared.stored.StoredMailbox.{StoredMailbox}
use Rattle.imap_tables.specs.declared.stored.StoredMessage.{StoredMessage}
use Rattle.imap_world.specs.World.{World}
use Rattle.imap_restore.specs.Parts.{IsEntryFor, IsGoneMessageFor, IsMessageFor}
use Rattle.imap_restore.proofs.Owners.{Owned, Read, id, id_is, owned, owner}
use Rattle.imap_restore.proofs.Listed.{has_moved}
use Rattle.imap_restore.proofs.Matching.{filtered_zip, zip_filtered}
use Rattle.imap_restore.proofs.TableRows.{entry_is, entry_rows, gone_is, gone_rows, message_is, message_rows}

-- numbers that are equal pass the test
pub same_test : (m n : ℤ) → m ≡ n → int_eq m n ≡ true
same_test m n e = (Decides-int_eq m n).1 e

pub tested : (m n : ℤ) → int_eq m n ≡ true → m ≡ n
tested m n h = (Decides-int_eq m n).0 h

module _ (db : Trees) (w : World) (c : Read db w) where
  -- ---- the mailbox that a row is below

  pub record Above (i : ℤ) : Type 0 where
    pub s : StoredMailbox
    pub same : s.id ≡ i
    pub it : Owned db w c s
    pub id_same : id db w c it.name ≡ i

  pub above : (i : ℤ) (s : StoredMailbox) → Has c.rows.t.mailboxes.items s → s.id ≡ i → Above i
  above i s h e =
      let o = owned db w c s h in
      record { s = s; same = e; it = o; id_same = id_is db w c o.name o.mailbox s o.there o.by ∙ e }

  -- ---- entries of access control lists

  pub entries_stand : (kept : Name → Kept) → AreRows (db 2) (IsUnder w (id db w c) kept entries)
  entries_stand kept = record {
    sound = λ row h.
        let x = (entry_rows db c.rows).to row h in
        let form = entry_is db c.rows row h x.0 x.2 in
        let k = c.restored.known.entries x.0 x.1 in
        let a = above x.0.mailbox k.0 k.1 k.2 in
        let y = zip_filtered IsEntryFor (λ (r : StoredEntry). int_eq r.mailbox a.s.id) c.rows.t.entries.items a.it.by.row.acl.items a.it.by.for_it.acl x.0 x.1 (same_test x.0.mailbox a.s.id (sym a.same)) in
        let there = has_moved (pairs_of a.it.by.row.acl.items) (map.entries a.it.mailbox.acl) a.it.by.is.acl (pair_of y.0) (mapped_has pair_of a.it.by.row.acl.items y.0 y.1) in
        record {
          rowid = x.0.rowid;
          values = entry_values x.0.mailbox (string_bytes x.0.identifier) x.0.rights;
          shown = form;
          meant = record {
            name = a.it.name;
            mailbox = a.it.mailbox;
            there = a.it.there;
            shown = record {
              identifier = string_bytes x.0.identifier;
              rights = x.0.rights;
              there = subst (Has (map.entries a.it.mailbox.acl)) y.2.0 there;
              shown = ap (λ i. entry_values i (string_bytes x.0.identifier) x.0.rights) (sym a.id_same);
            };
          };
        };
    complete = λ values u.
        let o = owner db w c u.name u.mailbox u.there in
        let e : EntryOf u.mailbox.acl (id db w c u.name) values = u.shown in
        let back = has_moved (map.entries u.mailbox.acl) (pairs_of o.1.row.acl.items) (IsPermutation-sym (pairs_of o.1.row.acl.items) (map.entries u.mailbox.acl) o.1.is.acl) (e.identifier, e.rights) e.there in
        let y = has_mapped pair_of o.1.row.acl.items (e.identifier, e.rights) back in
        let x = filtered_zip IsEntryFor (λ (r : StoredEntry). int_eq r.mailbox o.0.id) c.rows.t.entries.items o.1.row.acl.items o.1.for_it.acl y.0 y.1 in
        let row = (entry_rows db c.rows).from x.0 x.1 in
        let form = entry_is db c.rows row.0 row.1 x.0 row.2 in
        let same : (e.identifier, e.rights) ≡ (string_bytes x.0.identifier, x.0.rights) = y.2 ∙ x.3.0 in
        let ids : x.0.mailbox ≡ id db w c u.name = tested x.0.mailbox o.0.id x.2 ∙ sym (id_is db w c u.name u.mailbox o.0 u.there o.1) in (
          x.0.rowid,
          subst (Has (db 2)) (form ∙ λ i. Int x.0.rowid ∷ ((λ j. entry_values (ids j) (sym same j).0 (sym same j).1) ∙ sym e.shown) i) row.1,
        );
  }

  -- ---- messages that are there

  message_same : (x : StoredMessage) (y : Message) → IsMessageFor x y → (n : ℤ) → n ≡ x.mailbox
      → message_values n y ≡ Int x.mailbox ∷ Int (pos x.row.uid) ∷ Words (string_bytes x.row.date) ∷ Bytes x.row.octets ∷ Int (pos x.row.flags) ∷ Words (string_bytes x.row.keywords) ∷ Int x.row.place ∷ []
  message_same x y is n e =
      λ i. Int (e i) ∷ Int (pos (is.0.uid i)) ∷ Words (is.0.date i) ∷ Bytes (is.0.octets i) ∷ Int (pos (is.0.flags.0 i)) ∷ Words (is.0.flags.1 i) ∷ Int (is.0.place i) ∷ []

  pub messages_stand : (kept : Name → Kept) → AreRows (db 4) (IsUnder w (id db w c) kept messages)
  messages_stand kept = record {
    sound = λ row h.
        let x = (message_rows db c.rows).to row h in
        let form = message_is db c.rows row h x.0 x.2 in
        let k = c.restored.known.messages x.0 x.1 in
        let a = above x.0.mailbox k.0 k.1 k.2 in
        let y = zip_filtered IsMessageFor (λ (r : StoredMessage). int_eq r.mailbox a.s.id) c.rows.t.messages.items a.it.by.row.messages.messages.items a.it.by.for_it.messages.messages x.0 x.1 (same_test x.0.mailbox a.s.id (sym a.same)) in
        record {
          rowid = x.0.rowid;
          values = message_values (id db w c a.it.name) y.0;
          shown = form ∙ ap (λ v. Int x.0.rowid ∷ v) (sym (message_same x.0 y.0 y.2 (id db w c a.it.name) a.id_same));
          meant = record {
            name = a.it.name;
            mailbox = a.it.mailbox;
            there = a.it.there;
            shown = record {
              message = y.0;
              there = has_moved a.it.by.row.messages.messages.items a.it.mailbox.messages.messages a.it.by.is.messages.messages y.0 y.1;
              shown = refl;
            };
          };
        };
    complete = λ values u.
        let o = owner db w c u.name u.mailbox u.there in
        let e : MessageOf u.mailbox.messages.messages (id db w c u.name) values = u.shown in
        let y = has_moved u.mailbox.messages.messages o.1.row.messages.messages.items (IsPermutation-sym o.1.row.messages.messages.items u.mailbox.messages.messages o.1.is.messages.messages) e.message e.there in
        let x = filtered_zip IsMessageFor (λ (r : StoredMessage). int_eq r.mailbox o.0.id) c.rows.t.messages.items o.1.row.messages.messages.items o.1.for_it.messages.messages e.message y in
        let row = (message_rows db c.rows).from x.0 x.1 in
        let form = message_is db c.rows row.0 row.1 x.0 row.2 in
        let ids : id db w c u.name ≡ x.0.mailbox = id_is db w c u.name u.mailbox o.0 u.there o.1 ∙ sym (tested x.0.mailbox o.0.id x.2) in
        (x.0.rowid, subst (Has (db 4)) (form ∙ ap (λ v. Int x.0.rowid ∷ v) (sym (message_same x.0 e.message x.3 (id db w c u.name) ids) ∙ sym e.shown)) row.1);
  }

  -- ---- messages that are gone

  gone_same : (x : StoredGone) (y : GoneMessage) → IsGoneMessageFor x y → (n : ℤ) → n ≡ x.mailbox → gone_values n y ≡ Int x.mailbox ∷ Int (pos x.uid) ∷ Int x.place ∷ []
  gone_same x y is n e = λ i. Int (e i) ∷ Int (pos (is.0 i)) ∷ Int (is.1 i) ∷ []

  pub gone_stand : (kept : Name → Kept) → AreRows (db 6) (IsUnder w (id db w c) kept gone)
  gone_stand kept = record {
    sound = λ row h.
        let x = (gone_rows db c.rows).to row h in
        let form = gone_is db c.rows row h x.0 x.2 in
        let k = c.restored.known.gone x.0 x.1 in
        let a = above x.0.mailbox k.0 k.1 k.2 in
        let y = zip_filtered IsGoneMessageFor (λ (r : StoredGone). int_eq r.mailbox a.s.id) c.rows.t.gone.items a.it.by.row.messages.gone.items a.it.by.for_it.messages.gone x.0 x.1 (same_test x.0.mailbox a.s.id (sym a.same)) in
        record {
          rowid = x.0.rowid;
          values = gone_values (id db w c a.it.name) y.0;
          shown = form ∙ ap (λ v. Int x.0.rowid ∷ v) (sym (gone_same x.0 y.0 y.2 (id db w c a.it.name) a.id_same));
          meant = record {
            name = a.it.name;
            mailbox = a.it.mailbox;
            there = a.it.there;
            shown = record {
              message = y.0;
              there = has_moved a.it.by.row.messages.gone.items a.it.mailbox.messages.gone a.it.by.is.messages.gone y.0 y.1;
              shown = refl;
            };
          };
        };
    complete = λ values u.
        let o = owner db w c u.name u.mailbox u.there in
        let e : GoneOf u.mailbox.messages.gone (id db w c u.name) values = u.shown in
        let y = has_moved u.mailbox.messages.gone o.1.row.messages.gone.items (IsPermutation-sym o.1.row.messages.gone.items u.mailbox.messages.gone o.1.is.messages.gone) e.message e.there in
        let x = filtered_zip IsGoneMessageFor (λ (r : StoredGone). int_eq r.mailbox o.0.id) c.rows.t.gone.items o.1.row.messages.gone.items o.1.for_it.messages.gone e.message y in
        let row = (gone_rows db c.rows).from x.0 x.1 in
        let form = gone_is db c.rows row.0 row.1 x.0 row.2 in
        let ids : id db w c u.name ≡ x.0.mailbox = id_is db w c u.name u.mailbox o.0 u.there o.1 ∙ sym (tested x.0.mailbox o.0.id x.2) in
        (x.0.rowid, subst (Has (db 6)) (form ∙ ap (λ v. Int x.0.rowid ∷ v) (sym (gone_same x.0 e.message x.3 (id db w c u.name) ids) ∙ sym e.shown)) row.1);
  }
