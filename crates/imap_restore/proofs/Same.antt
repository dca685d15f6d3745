-- Rows that agree in the key of their table are one.
use Rattle.std.proofs.Common.{◌≡◌, ℕ, pos, true, [], ◌∷◌, refl, ap, ◌∙◌}
use Rattle.std.specs.Prelude.{string_bytes}
use Rattle.sqlite.specs.Order.{Row, column}
use Rattle.sqlite.specs.Tree.{Trees, rowid}
use Rattle.sqlite.specs.Collation.TheVariants.{Binary}
use Rattle.sqlite.specs.declared.types.Value.{Value}
use Rattle.sqlite.specs.declared.types.Value.TheVariants.{Int, Text as Words}
use Rattle.sqlite_rules.specs.Lists.{Has}
use Rattle.sqlite_schema.specs.Rules.{equal}
use Rattle.sqlite.specs.Ops.{is_null}
use Rattle.std.specs.Prelude.{false}
use Rattle.imap_tables.specs.declared.stored.StoredEntry.{StoredEntry}
use Rattle.imap_tables.specs.declared.stored.StoredEpoch.{StoredEpoch}
use Rattle.imap_tables.specs.declared.stored.StoredGone.{StoredGone}
use Rattle.imap_tables.specs.declared.stored.StoredSeenFlag.{StoredSeenFlag}
use Rattle.imap_tables.specs.declared.stored.StoredMessage.{StoredMessage}
use Rattle.imap_tables.specs.declared.stored.StoredSubscription.{StoredSubscription}
use Rattle.imap_restore.proofs.TableRows.{Rows, entry_is, entry_rows, epoch_is, epoch_rows, gone_is, gone_rows, mark_is, mark_rows, message_is, message_rows, sub_is, sub_rows}
use Rattle.imap_restore.proofs.Unique.{equal_if, one_entry, one_epoch, one_gone, one_mark, one_message, one_rowid, one_subscription}

-- columns that have one value
agree : (p : ℕ) (r s : Row) (v : Value) → is_null v ≡ false → column r p ≡ v → column s p ≡ v → equal Binary (column r p) (column s p) ≡ true
agree p r s v some a b = equal_if (column r p) (column s p) v some a b

module _ (db : Trees) (b : Rows db) where
  pub same_entry : (x y : StoredEntry) → Has b.t.entries.items x → Has b.t.entries.items y → x.mailbox ≡ y.mailbox → string_bytes x.identifier ≡ string_bytes y.identifier → x.rowid ≡ y.rowid
  same_entry x y hx hy m e =
      let r = (entry_rows db b).from x hx in
      let s = (entry_rows db b).from y hy in
      let rx = entry_is db b r.0 r.1 x r.2 in
      let ry = entry_is db b s.0 s.1 y s.2 in
      one_rowid (1 ∷ 2 ∷ []) (db 2) r.0 s.0 (one_entry db b.are.obeyed s.0 s.1) r.1 (
        agree 1 r.0 s.0 (Int y.mailbox) refl (ap (λ v. column v 1) rx ∙ ap Int m) (ap (λ v. column v 1) ry),
        (agree 2 r.0 s.0 (Words (string_bytes y.identifier)) refl (ap (λ v. column v 2) rx ∙ ap Words e) (ap (λ v. column v 2) ry), tt),
      ) x.rowid y.rowid (ap rowid rx) (ap rowid ry)

  pub same_stored : (x y : StoredMessage) → Has b.t.messages.items x → Has b.t.messages.items y → x.mailbox ≡ y.mailbox → x.row.uid ≡ y.row.uid → x.rowid ≡ y.rowid
  same_stored x y hx hy m e =
      let r = (message_rows db b).from x hx in
      let s = (message_rows db b).from y hy in
      let rx = message_is db b r.0 r.1 x r.2 in
      let ry = message_is db b s.0 s.1 y s.2 in
      one_rowid (1 ∷ 2 ∷ []) (db 4) r.0 s.0 (one_message db b.are.obeyed s.0 s.1) r.1 (
        agree 1 r.0 s.0 (Int y.mailbox) refl (ap (λ v. column v 1) rx ∙ ap Int m) (ap (λ v. column v 1) ry),
        (agree 2 r.0 s.0 (Int (pos y.row.uid)) refl (ap (λ v. column v 2) rx ∙ ap (λ n. Int (pos n)) e) (ap (λ v. column v 2) ry), tt),
      ) x.rowid y.rowid (ap rowid rx) (ap rowid ry)

  pub same_lost : (x y : StoredGone) → Has b.t.gone.items x → Has b.t.gone.items y → x.mailbox ≡ y.mailbox → x.uid ≡ y.uid → x.rowid ≡ y.rowid
  same_lost x y hx hy m e =
      let r = (gone_rows db b).from x hx in
      let s = (gone_rows db b).from y hy in
      let rx = gone_is db b r.0 r.1 x r.2 in
      let ry = gone_is db b s.0 s.1 y s.2 in
      one_rowid (1 ∷ 2 ∷ []) (db 6) r.0 s.0 (one_gone db b.are.obeyed s.0 s.1) r.1 (
        agree 1 r.0 s.0 (Int y.mailbox) refl (ap (λ v. column v 1) rx ∙ ap Int m) (ap (λ v. column v 1) ry),
        (agree 2 r.0 s.0 (Int (pos y.uid)) refl (ap (λ v. column v 2) rx ∙ ap (λ n. Int (pos n)) e) (ap (λ v. column v 2) ry), tt),
      ) x.rowid y.rowid (ap rowid rx) (ap rowid ry)

  pub same_change : (x y : StoredSeenFlag) → Has b.t.marks.items x → Has b.t.marks.items y → x.mailbox ≡ y.mailbox → string_bytes x.row.user ≡ string_bytes y.row.user → x.row.own ≡ y.row.own → x.rowid ≡ y.rowid
  same_change x y hx hy m u e =
      let r = (mark_rows db b).from x hx in
      let s = (mark_rows db b).from y hy in
      let rx = mark_is db b r.0 r.1 x r.2 in
      let ry = mark_is db b s.0 s.1 y s.2 in
      one_rowid (1 ∷ 2 ∷ 3 ∷ []) (db 8) r.0 s.0 (one_mark db b.are.obeyed s.0 s.1) r.1 (
        agree 1 r.0 s.0 (Int y.mailbox) refl (ap (λ v. column v 1) rx ∙ ap Int m) (ap (λ v. column v 1) ry),
        (
          agree 2 r.0 s.0 (Words (string_bytes y.row.user)) refl (ap (λ v. column v 2) rx ∙ ap Words u) (ap (λ v. column v 2) ry),
          (agree 3 r.0 s.0 (Int y.row.own) refl (ap (λ v. column v 3) rx ∙ ap Int e) (ap (λ v. column v 3) ry), tt),
        ),
      ) x.rowid y.rowid (ap rowid rx) (ap rowid ry)

  pub same_epoch : (x y : StoredEpoch) → Has b.t.epochs.items x → Has b.t.epochs.items y → string_bytes x.key.tree ≡ string_bytes y.key.tree → string_bytes x.key.path ≡ string_bytes y.key.path → x.rowid ≡ y.rowid
  same_epoch x y hx hy t p =
      let r = (epoch_rows db b).from x hx in
      let s = (epoch_rows db b).from y hy in
      let rx = epoch_is db b r.0 r.1 x r.2 in
      let ry = epoch_is db b s.0 s.1 y s.2 in
      one_rowid (1 ∷ 2 ∷ []) (db 10) r.0 s.0 (one_epoch db b.are.obeyed s.0 s.1) r.1 (
        agree 1 r.0 s.0 (Words (string_bytes y.key.tree)) refl (ap (λ v. column v 1) rx ∙ ap Words t) (ap (λ v. column v 1) ry),
        (agree 2 r.0 s.0 (Words (string_bytes y.key.path)) refl (ap (λ v. column v 2) rx ∙ ap Words p) (ap (λ v. column v 2) ry), tt),
      ) x.rowid y.rowid (ap rowid rx) (ap rowid ry)

  pub same_subscription : (x y : StoredSubscription) → Has b.t.subscriptions.items x → Has b.t.subscriptions.items y → string_bytes x.user ≡ string_bytes y.user → string_bytes x.key.tree ≡ string_bytes y.key.tree → string_bytes x.key.path ≡ string_bytes y.key.path → x.rowid ≡ y.rowid
  same_subscription x y hx hy u t p =
      let r = (sub_rows db b).from x hx in
      let s = (sub_rows db b).from y hy in
      let rx = sub_is db b r.0 r.1 x r.2 in
      let ry = sub_is db b s.0 s.1 y s.2 in
      one_rowid (1 ∷ 2 ∷ 3 ∷ []) (db 12) r.0 s.0 (one_subscription db b.are.obeyed s.0 s.1) r.1 (
        agree 1 r.0 s.0 (Words (string_bytes y.user)) refl (ap (λ v. column v 1) rx ∙ ap Words u) (ap (λ v. column v 1) ry),
        (
          agree 2 r.0 s.0 (Words (string_bytes y.key.tree)) refl (ap (λ v. column v 2) rx ∙ ap Words t) (ap (λ v. column v 2) ry),
          (agree 3 r.0 s.0 (Words (string_bytes y.key.path)) refl (ap (λ v. column v 3) rx ∙ ap Words p) (ap (λ v. column v 3) ry), tt),
        ),
      ) x.rowid y.rowid (ap rowid rx) (ap rowid ry)
