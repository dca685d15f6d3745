-- The mailboxes of a world, and the rows of which they were read.
use Rattle.std.proofs.Common.{◌≡◌, ℤ, pos, Option, Some, None, refl, sym, ap, subst, ◌∙◌}
use Rattle.std.specs.Prelude.{string_bytes}
use Rattle.std.specs.FinMap as map
use Rattle.std.proofs.lemmas.List.Sorted.{IsPermutation-sym}
use Rattle.sqlite.specs.Tree.{Trees}
use Rattle.sqlite_rules.specs.Lists.{Has}
use Rattle.imap_names.specs.Name.{Name, path_of}
use Rattle.imap_names.specs.Order.{name_cmp}
use Rattle.imap_names.specs.Valid.{IsName}
use Rattle.imap_names.proofs.NameLaws.{is_name_at-same}
use Rattle.imap_names.proofs.OrderLaws.{name_antisymmetric, name_total}
use Rattle.imap_records.specs.Columns.{tree_text}
use Rattle.imap_records.specs.Standing.{AreApart}
use Rattle.imap_records.proofs.Keys.{same_key}
use Rattle.imap_tables.specs.Contents.{AreAllApart}
use Rattle.imap_tables.specs.declared.stored.StoredMailbox.{StoredMailbox}
use Rattle.imap_world.specs.Mailbox.{Mailbox}
use Rattle.imap_world.specs.Parts.{IsRowOf, StandFor}
use Rattle.imap_world.specs.World.{World}
use Rattle.imap_world.specs.declared.world_parts.MailboxRow.{MailboxRow}
use Rattle.imap_world.specs.declared.world_parts.WorldParts.{WorldParts}
use Rattle.imap_restore.specs.Parts.{ArePartsFor, IsMailboxFor}
use Rattle.imap_restore.proofs.Listed.{entry_get, get_entry, has_moved, one_by_number}
use Rattle.imap_restore.proofs.Matching.{Match, zip_match}
use Rattle.imap_restore.proofs.TableRows.{Rows, same_id}

-- what was read of the tables, and the world that was made of it
pub record Read (db : Trees) (w : World) : Type 0 where
  pub rows : Rows db
  pub distinct : AreAllApart rows.t
  pub parts : WorldParts
  pub restored : ArePartsFor rows.t parts
  pub stand : StandFor parts w

module _ (db : Trees) (w : World) (c : Read db w) where
  -- ---- mailboxes and their rows

  world_rows : Match IsRowOf c.parts.mailboxes.items (map.entries w.mailboxes)
  world_rows =
      let o = c.stand.mailboxes in
      let zip = zip_match IsRowOf o.0 (map.entries w.mailboxes) o.2 in
      record {
        to = λ r h. zip.to r (has_moved c.parts.mailboxes.items o.0 o.1 r h);
        from = λ e h. let it = zip.from e h in (it.0, has_moved o.0 c.parts.mailboxes.items (IsPermutation-sym c.parts.mailboxes.items o.0 o.1) it.0 it.1, it.2);
      }

  part_rows : Match (IsMailboxFor c.rows.t) c.rows.t.mailboxes.items c.parts.mailboxes.items
  part_rows = zip_match (IsMailboxFor c.rows.t) c.rows.t.mailboxes.items c.parts.mailboxes.items c.restored.mailboxes

  -- the mailbox was read of this row
  pub record Owner (name : Name) (m : Mailbox) (s : StoredMailbox) : Type 0 where
    pub listed : Has c.rows.t.mailboxes.items s
    pub row : MailboxRow
    pub for_it : IsMailboxFor c.rows.t s row
    pub is : IsRowOf row (name, m)

  pub owner : (name : Name) (m : Mailbox) → map.get w.mailboxes name ≡ Some m → (s : StoredMailbox) × Owner name m s
  owner name m is =
      let r = world_rows.from (name, m) (get_entry name_cmp name_total name_antisymmetric is_name_at-same w.mailboxes name m is) in
      let s = part_rows.from r.0 r.1 in
      (s.0, record { listed = s.1; row = r.0; for_it = s.2; is = r.2 })

  pub record Owned (s : StoredMailbox) : Type 0 where
    pub name : Name
    pub mailbox : Mailbox
    pub there : map.get w.mailboxes name ≡ Some mailbox
    pub by : Owner name mailbox s

  pub owned : (s : StoredMailbox) → Has c.rows.t.mailboxes.items s → Owned s
  owned s h =
      let r = part_rows.to s h in
      let e = world_rows.to r.0 r.1 in
      record {
        name = e.0.0;
        mailbox = e.0.1;
        there = entry_get name_cmp name_total name_antisymmetric is_name_at-same w.mailboxes e.0 e.1;
        by = record { listed = h; row = r.0; for_it = r.2; is = e.2 };
      }

  module _ (name : Name) (m : Mailbox) (s : StoredMailbox) (o : Owner name m s) where
    pub tree_is : tree_text name ≡ string_bytes s.key.tree
    tree_is = ap tree_text o.is.name ∙ o.for_it.name.0.0

    pub path_is : path_of name ≡ string_bytes s.key.path
    path_is = ap path_of o.is.name ∙ o.for_it.name.0.1

    pub name_is : IsName name
    name_is = subst IsName (sym o.is.name) o.for_it.name.1

  -- ---- ids

  abbrev pub id_by : (name : Name) (o : Option Mailbox) → map.get w.mailboxes name ≡ o → ℤ
  id_by name None is = pos 0
  id_by name (Some m) is = (owner name m is).0.id

  abbrev pub id : Name → ℤ
  id name = id_by name (map.get w.mailboxes name) refl

  pub id_is : (name : Name) (m : Mailbox) (s : StoredMailbox) → map.get w.mailboxes name ≡ Some m → Owner name m s → id name ≡ s.id
  id_is name m s there o = by (map.get w.mailboxes name) refl there
    where
      by : (p : Option Mailbox) (is : map.get w.mailboxes name ≡ p) → p ≡ Some m → id_by name p is ≡ s.id
      by None is e = absurd (cc e)
      by (Some k) is e =
          let other = owner name k is in
          same_id db c.rows other.0 s other.1.listed o.listed (sym (tree_is name k other.0 other.1) ∙ tree_is name m s o) (sym (path_is name k other.0 other.1) ∙ path_is name m s o)

  pub ids_apart : AreApart w id
  ids_apart a b m n ha hb same =
      let x = owner a m ha in
      let y = owner b n hb in
      let ids : x.0.id ≡ y.0.id = sym (id_is a m x.0 ha x.1) ∙ same ∙ id_is b n y.0 hb y.1 in
      let one : x.0 ≡ y.0 = one_by_number (λ (s : StoredMailbox). s.id) c.rows.t.mailboxes.items x.0 y.0 c.distinct.mailboxes x.1.listed y.1.listed ids in
      same_key a b (name_is a m x.0 x.1) (name_is b n y.0 y.1)
      (tree_is a m x.0 x.1 ∙ ap (λ (s : StoredMailbox). string_bytes s.key.tree) one ∙ sym (tree_is b n y.0 y.1))
      (path_is a m x.0 x.1 ∙ ap (λ (s : StoredMailbox). string_bytes s.key.path) one ∙ sym (path_is b n y.0 y.1))
