-- The values of a world that was made of tables.
use Rattle.std.proofs.Common.{◌≡◌, ◌+◌, inl, inr, ℕ, true, List, [], ◌∷◌, Some, refl, sym, subst, ◌∙◌}
use Rattle.std.specs.Prelude.{bytes_eq}
use Rattle.std.specs.FinMap as map
use Rattle.std.specs.Str.{is_utf8}
use Rattle.std.proofs.lemmas.Slice.Eq.{bytes_eq-Decides}
use Rattle.std.proofs.lemmas.List.Sorted.{IsPermutation-sym}
use Rattle.sqlite.specs.Tree.{Trees}
use Rattle.sqlite_rules.specs.Lists.{Has}
use Rattle.imap_mailbox.specs.declared.kept_change.KeptChange.{KeptChange}
use Rattle.imap_mailbox.specs.Own.{Own, filled}
use Rattle.imap_mailbox.specs.UserChange.{UserChange, of_user, row_of, rows_of_user}
use Rattle.sqlite_rules.proofs.ListLemmas.{has_filtered}
use Rattle.sqlite_rules.proofs.ProbeLemmas.{has_mapped}
use Rattle.imap_names.specs.Name.{Name}
use Rattle.imap_records.specs.Values.{HasValues, WorldHasValues}
use Rattle.imap_rights.specs.Acl.{IsAcl}
use Rattle.imap_tables.specs.Stored.{IsShort}
use Rattle.imap_world.specs.Effects.{if_filled}
use Rattle.imap_world.specs.Mailbox.{Mailbox}
use Rattle.imap_world.specs.World.{World, subscribed_by}
use Rattle.imap_restore.specs.Parts.{IsChangeFor, IsMessageFor}
use Rattle.imap_stored_values.proofs.Kept.{string_utf8}
use Rattle.imap_restore.proofs.Matching.{filtered_zip}
use Rattle.imap_restore.proofs.Listed.{has_moved}
use Rattle.imap_restore.proofs.Owners.{Read, owner}
use Rattle.imap_restore.proofs.Standing.{epoch_read, sub_read}
use Rattle.imap_restore.proofs.TableRows.{epoch_rows, mailbox_rows}

-- there are numbers of shared events only if a change is kept
one_kept : (rows : List KeptChange) (done before : ℕ) → Has (filled done rows) before → (k : KeptChange) × Has rows k
one_kept [] done before none = absurd none
one_kept (k ∷ rows) done before h = (k, inl refl)

module _ (db : Trees) (w : World) (c : Read db w) (lists : (name : Name) (m : Mailbox) → map.get w.mailboxes name ≡ Some m → IsAcl m.acl)
    (filled : (user : List ℕ) → map.get w.subscriptions user ≡ if_filled (subscribed_by w user)) where
  messages_have : (name : Name) (m : Mailbox) → map.get w.mailboxes name ≡ Some m → HasValues m.messages
  messages_have name m there =
      let o = owner db w c name m there in
      let s = (mailbox_rows db c.rows).from o.0 o.1.listed in
      record {
        next = subst IsShort (sym (o.1.is.messages.next ∙ o.1.for_it.messages.next)) s.2.2;
        messages = λ x h.
            let y = has_moved m.messages.messages o.1.row.messages.messages.items (IsPermutation-sym o.1.row.messages.messages.items m.messages.messages o.1.is.messages.messages) x h in
            (filtered_zip IsMessageFor _ c.rows.t.messages.items o.1.row.messages.messages.items o.1.for_it.messages.messages x y).3.1;
        users = λ user before h.
            let own = o.1.is.messages.own in
            let k = one_kept (rows_of_user user own.0) 0 before (subst (λ (x : Own). Has x.befores before) (sym (own.2 user).1) h) in
            let y = has_mapped row_of (of_user user own.0) k.0 k.1 in
            let among = has_filtered (λ (d : UserChange). bytes_eq d.user user) own.0 y.0 y.1 in
            let there = has_moved own.0 o.1.row.messages.own.items (IsPermutation-sym o.1.row.messages.own.items own.0 own.1) y.0 among.0 in
            subst (λ u. is_utf8 u ≡ true) ((bytes_eq-Decides y.0.user user).0 among.1) (filtered_zip IsChangeFor _ c.rows.t.marks.items o.1.row.messages.own.items o.1.for_it.messages.own y.0 there).3.1;
      }

  pub world_has : WorldHasValues w
  world_has = record {
    mailboxes = λ name m there.
        let o = owner db w c name m there in
        let s = (mailbox_rows db c.rows).from o.0 o.1.listed in
        record {
          validity = subst IsShort (sym (o.1.is.validity ∙ o.1.for_it.validity)) s.2.1;
          acl = lists name m there;
          messages = messages_have name m there;
        };
    epochs = λ name greatest there.
        let x = epoch_read db w c name greatest there in
        let row = (epoch_rows db c.rows).from x.0 x.1 in
        subst IsShort (sym x.2.2) row.2.1;
    users = λ user name there.
        let x = sub_read db w c user name there in
        subst (λ u. is_utf8 u ≡ true) (sym x.2.2) (string_utf8 x.0.user);
    filled = filled;
  }
