-- The rows of the tables, and what is read of them.
use Rattle.std.proofs.Common.{◌≡◌, inl, inr, true, [], ◌∷◌, refl, ap, ◌∙◌}
use Rattle.std.specs.Prelude.{string_bytes}
use Rattle.sqlite.specs.Collation.TheVariants.{Binary}
use Rattle.sqlite.specs.Order.{Row, column}
use Rattle.sqlite.specs.Tree.{Trees, rowid}
use Rattle.sqlite.specs.declared.types.Value.TheVariants.{Text as Words}
use Rattle.sqlite_rules.specs.Lists.{Has}
use Rattle.sqlite_schema.specs.Rules.{equal}
use Rattle.imap_tables.specs.Reading.{shown_at}
use Rattle.imap_tables.specs.Rows.{acl_row, epoch_row, gone_row, mailbox_row, mark_row, message_row, meta_row, sub_row}
use Rattle.imap_tables.specs.Stored.{IsEntry, IsEpoch, IsGone, IsMailbox, IsMark, IsMessage, IsMeta, IsSubscription}
use Rattle.imap_tables.specs.Tables.{acl_table, epoch_table, gone_table, mailbox_table, mark_table, message_table, meta_table, sub_table}
use Rattle.imap_tables.specs.declared.stored.StoredEntry.{StoredEntry}
use Rattle.imap_tables.specs.declared.stored.StoredEpoch.{StoredEpoch}
use Rattle.imap_tables.specs.declared.stored.StoredGone.{StoredGone}
use Rattle.imap_tables.specs.declared.stored.StoredMailbox.{StoredMailbox}
use Rattle.imap_tables.specs.declared.stored.StoredSeenFlag.{StoredSeenFlag}
use Rattle.imap_tables.specs.declared.stored.StoredMessage.{StoredMessage}
use Rattle.imap_tables.specs.declared.stored.StoredMeta.{StoredMeta}
use Rattle.imap_tables.specs.declared.stored.StoredSubscription.{StoredSubscription}
use Rattle.imap_tables.specs.declared.tables.StoredTables.{StoredTables}
use Rattle.imap_restore.specs.Holding.{AreRowsOf}
use Rattle.imap_restore.proofs.Forms.{entry_form, epoch_form, few, gone_form, mailbox_form, mark_form, message_form, meta_form, sub_form, typed}
use Rattle.imap_restore.proofs.Matching.{Match, read_match}
use Rattle.imap_restore.proofs.Unique.{equal_if, one_mailbox, one_rowid}

-- what was read of the tables
pub record Rows (db : Trees) : Type 0 where
  pub t : StoredTables
  pub are : AreRowsOf db t

module _ (db : Trees) (b : Rows db) where
  pub mailbox_rows : Match (λ row (s : StoredMailbox). IsMailbox (shown_at 0 row) s) (db 0) b.t.mailboxes.items
  mailbox_rows = let it = b.are.stored.mailboxes in read_match (shown_at 0) IsMailbox (db 0) it.rows b.t.mailboxes.items it.all it.read

  pub mailbox_is : (row : Row) → Has (db 0) row → (s : StoredMailbox) → IsMailbox (shown_at 0 row) s
      → row ≡ mailbox_row s.id (string_bytes s.key.tree) (string_bytes s.key.path) s.validity s.uidnext s.shared
  mailbox_is row h s is = mailbox_form row s (typed db b.are.obeyed mailbox_table (inl refl) row h) is

  pub entry_rows : Match (λ row (x : StoredEntry). IsEntry (shown_at 1 row) x) (db 2) b.t.entries.items
  entry_rows = let it = b.are.stored.entries in read_match (shown_at 1) IsEntry (db 2) it.rows b.t.entries.items it.all it.read

  pub entry_is : (row : Row) → Has (db 2) row → (x : StoredEntry) → IsEntry (shown_at 1 row) x → row ≡ acl_row x.mailbox (string_bytes x.identifier) x.rights x.rowid
  entry_is row h x is = entry_form row x (few db b.are.obeyed acl_table (inr (inl refl)) row h) is

  pub message_rows : Match (λ row (x : StoredMessage). IsMessage (shown_at 2 row) x) (db 4) b.t.messages.items
  message_rows = let it = b.are.stored.messages in read_match (shown_at 2) IsMessage (db 4) it.rows b.t.messages.items it.all it.read

  pub message_is : (row : Row) → Has (db 4) row → (x : StoredMessage) → IsMessage (shown_at 2 row) x → row ≡ message_row x.mailbox x.row.uid (string_bytes x.row.date) x.row.octets x.row.flags (string_bytes x.row.keywords) x.row.place x.rowid
  message_is row h x is = message_form row x (few db b.are.obeyed message_table (inr (inr (inl refl))) row h) is

  pub gone_rows : Match (λ row (x : StoredGone). IsGone (shown_at 3 row) x) (db 6) b.t.gone.items
  gone_rows = let it = b.are.stored.gone in read_match (shown_at 3) IsGone (db 6) it.rows b.t.gone.items it.all it.read

  pub gone_is : (row : Row) → Has (db 6) row → (x : StoredGone) → IsGone (shown_at 3 row) x → row ≡ gone_row x.mailbox x.uid x.place x.rowid
  gone_is row h x is = gone_form row x (few db b.are.obeyed gone_table (inr (inr (inr (inl refl)))) row h) is

  pub mark_rows : Match (λ row (x : StoredSeenFlag). IsMark (shown_at 4 row) x) (db 8) b.t.marks.items
  mark_rows = let it = b.are.stored.marks in read_match (shown_at 4) IsMark (db 8) it.rows b.t.marks.items it.all it.read

  pub mark_is : (row : Row) → Has (db 8) row → (x : StoredSeenFlag) → IsMark (shown_at 4 row) x → row ≡ mark_row x.mailbox (string_bytes x.row.user) x.row.own x.row.before x.row.uid x.row.seen x.rowid
  mark_is row h x is = mark_form row x (few db b.are.obeyed mark_table (inr (inr (inr (inr (inl refl))))) row h) is

  pub epoch_rows : Match (λ row (x : StoredEpoch). IsEpoch (shown_at 5 row) x) (db 10) b.t.epochs.items
  epoch_rows = let it = b.are.stored.epochs in read_match (shown_at 5) IsEpoch (db 10) it.rows b.t.epochs.items it.all it.read

  pub epoch_is : (row : Row) → Has (db 10) row → (x : StoredEpoch) → IsEpoch (shown_at 5 row) x → row ≡ epoch_row (string_bytes x.key.tree) (string_bytes x.key.path) x.greatest x.rowid
  epoch_is row h x is = epoch_form row x (few db b.are.obeyed epoch_table (inr (inr (inr (inr (inr (inl refl)))))) row h) is

  pub sub_rows : Match (λ row (x : StoredSubscription). IsSubscription (shown_at 6 row) x) (db 12) b.t.subscriptions.items
  sub_rows = let it = b.are.stored.subscriptions in read_match (shown_at 6) IsSubscription (db 12) it.rows b.t.subscriptions.items it.all it.read

  pub sub_is : (row : Row) → Has (db 12) row → (x : StoredSubscription) → IsSubscription (shown_at 6 row) x → row ≡ sub_row (string_bytes x.user) (string_bytes x.key.tree) (string_bytes x.key.path) x.rowid
  sub_is row h x is = sub_form row x (few db b.are.obeyed sub_table (inr (inr (inr (inr (inr (inr (inl refl))))))) row h) is

  pub meta_rows : Match (λ row (x : StoredMeta). IsMeta (shown_at 7 row) x) (db 14) b.t.meta.items
  meta_rows = let it = b.are.stored.meta in read_match (shown_at 7) IsMeta (db 14) it.rows b.t.meta.items it.all it.read

  pub meta_is : (row : Row) → Has (db 14) row → (x : StoredMeta) → IsMeta (shown_at 7 row) x → row ≡ meta_row (string_bytes x.key) x.value x.rowid
  meta_is row h x is = meta_form row x (few db b.are.obeyed meta_table (inr (inr (inr (inr (inr (inr (inr (inl refl)))))))) row h) is

  -- mailboxes with one name are one
  pub same_id : (x y : StoredMailbox) → Has b.t.mailboxes.items x → Has b.t.mailboxes.items y → string_bytes x.key.tree ≡ string_bytes y.key.tree → string_bytes x.key.path ≡ string_bytes y.key.path → x.id ≡ y.id
  same_id x y hx hy te pe =
      let r = mailbox_rows.from x hx in
      let s = mailbox_rows.from y hy in
      let rx = mailbox_is r.0 r.1 x r.2 in
      let ry = mailbox_is s.0 s.1 y s.2 in
      let trees : equal Binary (column r.0 2) (column s.0 2) ≡ true = equal_if _ _ (Words (string_bytes y.key.tree)) refl (ap (λ v. column v 2) rx ∙ ap Words te) (ap (λ v. column v 2) ry) in
      let paths : equal Binary (column r.0 3) (column s.0 3) ≡ true = equal_if _ _ (Words (string_bytes y.key.path)) refl (ap (λ v. column v 3) rx ∙ ap Words pe) (ap (λ v. column v 3) ry) in
      one_rowid (2 ∷ 3 ∷ []) (db 0) r.0 s.0 (one_mailbox db b.are.obeyed s.0 s.1) r.1 (trees, (paths, tt)) x.id y.id (ap rowid rx) (ap rowid ry)
