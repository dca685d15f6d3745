-- Rows of tables that are in order have rowids that differ.
use Rattle.std.proofs.Common.{inl, inr, refl, ap}
use Rattle.sqlite.specs.Order.{column}
use Rattle.sqlite.specs.Tree.{Trees}
use Rattle.imap_tables.specs.Contents.{AreAllApart}
use Rattle.imap_tables.specs.Reading.{shown_at}
use Rattle.imap_tables.specs.Rows.{IsOrderly}
use Rattle.imap_tables.specs.Stored.{IsEntry, IsEpoch, IsGone, IsMailbox, IsMark, IsMessage, IsMeta, IsSubscription}
use Rattle.imap_tables.specs.Tables.{acl_table, epoch_table, gone_table, mailbox_table, mark_table, message_table, meta_table, sub_table}
use Rattle.imap_restore.proofs.Orderly.{apart_read}
use Rattle.imap_restore.proofs.TableRows.{Rows}

pub rowids_differ : (db : Trees) (b : Rows db) → IsOrderly db → AreAllApart b.t
rowids_differ db b o = record {
  mailboxes =
      let it = b.are.stored.mailboxes in
      apart_read (shown_at 0) IsMailbox _ (db 0) it.rows b.t.mailboxes.items (λ row. refl) (λ r x is. ap (λ v. column v 0) is.0) it.all it.read (o.apart mailbox_table (inl refl));
  entries =
      let it = b.are.stored.entries in
      apart_read (shown_at 1) IsEntry _ (db 2) it.rows b.t.entries.items (λ row. refl) (λ r x is. ap (λ v. column v 0) is.0) it.all it.read (o.apart acl_table (inr (inl refl)));
  messages =
      let it = b.are.stored.messages in
      apart_read (shown_at 2) IsMessage _ (db 4) it.rows b.t.messages.items (λ row. refl) (λ r x is. ap (λ v. column v 0) is.0) it.all it.read (o.apart message_table (inr (inr (inl refl))));
  gone =
      let it = b.are.stored.gone in
      apart_read (shown_at 3) IsGone _ (db 6) it.rows b.t.gone.items (λ row. refl) (λ r x is. ap (λ v. column v 0) is.0) it.all it.read (o.apart gone_table (inr (inr (inr (inl refl)))));
  marks =
      let it = b.are.stored.marks in
      apart_read (shown_at 4) IsMark _ (db 8) it.rows b.t.marks.items (λ row. refl) (λ r x is. ap (λ v. column v 0) is.0) it.all it.read (o.apart mark_table (inr (inr (inr (inr (inl refl))))));
  epochs =
      let it = b.are.stored.epochs in
      apart_read (shown_at 5) IsEpoch _ (db 10) it.rows b.t.epochs.items (λ row. refl) (λ r x is. ap (λ v. column v 0) is.0) it.all it.read (o.apart epoch_table (inr (inr (inr (inr (inr (inl refl)))))));
  subscriptions =
      let it = b.are.stored.subscriptions in
      apart_read (shown_at 6) IsSubscription _ (db 12) it.rows b.t.subscriptions.items (λ row. refl) (λ r x is. ap (λ v. column v 0) is) it.all it.read (o.apart sub_table (inr (inr (inr (inr (inr (inr (inl refl))))))));
  meta =
      let it = b.are.stored.meta in
      apart_read (shown_at 7) IsMeta _ (db 14) it.rows b.t.meta.items (λ row. refl) (λ r x is. ap (λ v. column v 0) is.0) it.all it.read (o.apart meta_table (inr (inr (inr (inr (inr (inr (inr (inl refl)))))))));
}
