-- Mailboxes that are made, get a list and go, by their rows.
use Rattle.std.proofs.Common.{◌≡◌, ◌≢◌, ◌⊎◌, inl, inr, ℕ, ℤ, pos, Bool, true, false, cond, List, [], ◌∷◌, Some, None, refl, sym, ap, subst, ◌∙◌, true≢false}
use Rattle.std.specs.Prelude.{◌↔◌, unwrap_or}
use Rattle.std.specs.Cmp.Lexicographic.{slice_cmp}
use Rattle.std.specs.Ordering.{nat_cmp}
use Rattle.std.specs.FinMap as map
use Rattle.std.specs.FinMap.{get-empty}
use Rattle.sqlite.specs.declared.types.Value.TheVariants.{Int, Text as Words}
use Rattle.sqlite.specs.Order.{Row, column}
use Rattle.sqlite.specs.Tree.{Trees}
use Rattle.sqlite_rules.specs.Lists.{Has}
use Rattle.imap_mailbox.specs.Own.{no_own}
use Rattle.imap_names.specs.Name.{Name, path_of}
use Rattle.imap_names.specs.Valid.{IsName}
use Rattle.imap_names.proofs.NameLaws.{equal_names, get_without, is_name_at, is_name_at-same}
use Rattle.imap_rights.specs.Acl.{AclMap}
use Rattle.imap_world.specs.Mailbox.{Mailbox}
use Rattle.imap_world.specs.NewMailbox.{NewMailbox, mailbox_in}
use Rattle.imap_world.specs.Tree.{with_acl, with_row, without, mailboxes_with_list}
use Rattle.imap_world.specs.World.{World}
use Rattle.imap_world.specs.declared.change.Write.TheVariants as write
use Rattle.imap_tables.specs.Edits.{Adds, IsIdOf, IsNamed, IsUnder as IsBelowOne, RemovesMailboxes}
use Rattle.imap_tables.specs.Rows.{mailbox_row}
use Rattle.imap_tables.specs.Tables.{acl_table, message_table, gone_table, mark_table}
use Rattle.imap_records.specs.Columns.{row_of_mailbox, tree_text}
use Rattle.imap_records.specs.Standing.{AreFound, AreRows, Child, IsEntry, IsEpoch, IsGone, IsMailbox, IsMark, IsMessage, IsNumbered, IsSubscription, IsUnder, Kept, StandFor, tree_of}
use Rattle.imap_records.specs.Standing.{entries, messages, gone, marks}
use Rattle.imap_records.specs.Steps.{RemoveAcl, acl_steps, steps_for}
use Rattle.imap_records.proofs.Beside.{IsBeside, IsFree, alike, entries_removed, first_of, same_id}
use Rattle.imap_records.proofs.Closing.{none_left, others_apart, others_found, others_free, others_named, put_again, put_among, set_beside, with_mailbox}
use Rattle.imap_records.proofs.Entries.{list_put}
use Rattle.imap_records.proofs.Keys.{IsFound, found, named_is}
use Rattle.imap_records.proofs.Making.{MakesBelowAll, MakesOne, MakesSteps}
use Rattle.imap_records.proofs.Others.{epoch_put}
use Rattle.imap_records.proofs.Rows.{acl_stays, at_its_rowid, epoch_stays, gone_stays, mark_stays, message_stays, rows_alike, same_rows, sub_stays}

-- ---- a mailbox is made

-- without own changes of users
abbrev pub none_kept : Kept
none_kept user = []

no_marks : (i : ℤ) (v : Row) → ⊥ ↔ IsMark none_kept i v
no_marks i v = (λ none. absurd none, λ m. m.there)

none_found : (row : NewMailbox) → AreFound none_kept (mailbox_in row).messages
none_found row = record {
  order = λ user. tt;
  found = λ user. sym (ap (λ o. unwrap_or o no_own) (get-empty (slice_cmp nat_cmp) user));
}

module _ (old new : Trees) (world : World) (stand : StandFor old world) (name : Name) (valid : IsName name) (absent : map.get world.mailboxes name ≡ None) (validity : ℕ)
    (adds : Adds old new 0 (λ id. mailbox_row id (tree_text name) (path_of name) validity 1 (pos 0))) where
  abbrev own : Row
  own = mailbox_row adds.id (tree_text name) (path_of name) validity 1 (pos 0)

  id_is_free : IsFree world stand.id adds.id
  id_is_free q k there same =
      let row : Row = row_of_mailbox q k (stand.id q) in
      let has : Has (old 0) row = (stand.mailboxes row).1 (record { name = q; mailbox = k; there = there; shown = refl }) in
      true≢false (sym (at_its_rowid row adds.id (ap (λ n. Int n) same)) ∙ adds.free row has)

  beside : (rows : List Row) (child : Child) → AreRows rows (IsUnder world stand.id stand.kept child) → AreRows rows (λ v. ⊥ ⊎ IsUnder world stand.id stand.kept child v)
  beside rows child are = rows_alike rows (IsUnder world stand.id stand.kept child) (λ v. ⊥ ⊎ IsUnder world stand.id stand.kept child v) (λ v u. inr u) from are
    where
      from : (v : Row) → ⊥ ⊎ IsUnder world stand.id stand.kept child v → IsUnder world stand.id stand.kept child v
      from v (inl none) = absurd none
      from v (inr u) = u

  pub made : IsBeside world stand.id stand.kept new own (λ v. ⊥) (λ v. ⊥) (λ v. ⊥) (λ v. ⊥)
  made = record {
    mailboxes = λ row. (λ has. to row (adds.only row has), from row);
    acl = beside (new 2) entries (same_rows (old 2) (new 2) (IsUnder world stand.id stand.kept entries) (acl_stays old new 0 adds.others refl) (stand.below entries));
    there = beside (new 4) messages (same_rows (old 4) (new 4) (IsUnder world stand.id stand.kept messages) (message_stays old new 0 adds.others refl) (stand.below messages));
    went = beside (new 6) gone (same_rows (old 6) (new 6) (IsUnder world stand.id stand.kept gone) (gone_stays old new 0 adds.others refl) (stand.below gone));
    seen = beside (new 8) marks (same_rows (old 8) (new 8) (IsUnder world stand.id stand.kept marks) (mark_stays old new 0 adds.others refl) (stand.below marks));
    epochs = same_rows (old 10) (new 10) (IsEpoch world.epochs) (epoch_stays old new 0 adds.others refl) stand.epochs;
    subscriptions = same_rows (old 12) (new 12) (IsSubscription world) (sub_stays old new 0 adds.others refl) stand.subscriptions;
  }
    where
      to : (row : Row) → (row ≡ own) ⊎ Has (old 0) row → (row ≡ own) ⊎ IsMailbox world stand.id row
      to row (inl is) = inl is
      to row (inr has) = inr ((stand.mailboxes row).0 has)

      from : (row : Row) → (row ≡ own) ⊎ IsMailbox world stand.id row → Has (new 0) row
      from row (inl is) = subst (λ (r : Row). Has (new 0) r) (sym is) adds.added
      from row (inr u) = adds.kept row ((stand.mailboxes row).1 u)

  -- the only row of its name
  pub made_found : (i : ℤ) → IsIdOf new (tree_text name) (path_of name) i → i ≡ adds.id
  made_found i (row, has, named, at) = by (adds.only row has)
    where
      by : (row ≡ own) ⊎ Has (old 0) row → i ≡ adds.id
      by (inl is) = sym (same_id adds.id i (sym (ap (λ (r : Row). column r 0) is) ∙ at))
      by (inr was) =
          let u : IsMailbox world stand.id row = (stand.mailboxes row).0 was in
          let same : u.name ≡ name = named_is old world stand name valid row u named in
          absurd (cc (sym absent ∙ ap (map.get world.mailboxes) (sym same) ∙ u.there))

pub mailbox_put : (old new : Trees) (world : World) (row : NewMailbox) → IsName row.name → map.get world.mailboxes row.name ≡ None → StandFor old world → MakesSteps (steps_for (write.Put row)) old new
    → StandFor new (with_row world row)
mailbox_put old new world row valid absent stand (a, adds, (b, (i, at, entries_made), (c, epoch, end))) =
    let m : Mailbox = mailbox_in row in
    let id : i ≡ adds.id = made_found old a world stand row.name valid absent row.validity adds i at in
    let listed = list_put world stand.id stand.kept adds.id (own old a world stand row.name valid absent row.validity adds) (λ v. ⊥) (λ v. ⊥) (λ v. ⊥) row.acl a b
    (subst (λ n. MakesBelowAll n (acl_steps row.acl) a b) id entries_made) (made old a world stand row.name valid absent row.validity adds) in
    let filled = alike world stand.id stand.kept b (row_of_mailbox row.name m adds.id) (IsEntry row.acl adds.id) (λ v. ⊥) (λ v. ⊥) (λ v. ⊥) listed (IsEntry m.acl adds.id) (IsMessage [] adds.id) (IsGone [] adds.id) (IsMark none_kept adds.id)
    (λ v. (λ h. h, λ h. h)) (λ v. (λ none. absurd none, λ h. h.there)) (λ v. (λ none. absurd none, λ h. h.there)) (no_marks adds.id) in
    let there = put_among world stand.id stand.kept row.name adds.id none_kept m absent (id_is_free old a world stand row.name valid absent row.validity adds) stand.apart stand.named stand.found valid (none_found row) b filled in
    subst (λ (db : Trees). StandFor db (with_row world row)) (sym end) (epoch_put b c (with_mailbox world row.name m) row.name row.validity valid there epoch)

-- ---- a mailbox gets a list

pub list_set : (old new : Trees) (world : World) (name : Name) (acl : AclMap) → IsName name → StandFor old world → MakesSteps (steps_for (write.SetAcl name acl)) old new → StandFor new (with_acl world name acl)
list_set old new world name acl valid stand (a, (i, at, (mid, removes, more)), end) =
    let f : IsFound world stand.id name i = found old world stand name valid i at in
    let m : Mailbox = f.mailbox in
    let n : Mailbox = record m { acl = acl } in
    let B : World = without world name in
    let own : Row = row_of_mailbox name m (stand.id name) in
    let free = others_free world name m f.there old stand in
    let b = set_beside world name m f.there old stand in
    let gone_ones = entries_removed B stand.id stand.kept old mid own (IsEntry m.acl (stand.id name)) (IsMessage m.messages.messages (stand.id name)) (IsGone m.messages.gone (stand.id name)) (IsMark (stand.kept name) (stand.id name)) b
    (stand.id name) free (λ v e. first_of entries m (stand.kept name) (stand.id name) v e) (subst (λ k. MakesOne k RemoveAcl old mid) f.same removes) in
    let listed = list_put B stand.id stand.kept (stand.id name) own (IsMessage m.messages.messages (stand.id name)) (IsGone m.messages.gone (stand.id name)) (IsMark (stand.kept name) (stand.id name)) acl mid a
    (subst (λ k. MakesBelowAll k (acl_steps acl) mid a) f.same more) gone_ones in
    let there = put_among B stand.id stand.kept name (stand.id name) (stand.kept name) n (none_left world name m f.there) free (others_apart world name m f.there old stand) (others_named world name m f.there old stand) (others_found world name m f.there old stand) valid (stand.found name m f.there) a listed in
    let whole : StandFor a (with_mailbox world name n) = subst (StandFor a) (put_again world name m f.there n) there in
    subst (λ (db : Trees). StandFor db (with_acl world name acl)) (sym end)
    (subst (StandFor a) (sym (ap (λ o. record world { mailboxes = mailboxes_with_list world.mailboxes name acl o }) f.there)) whole)

-- ---- a mailbox goes

module _ (old new : Trees) (world : World) (stand : StandFor old world) (name : Name) (valid : IsName name) (removes : RemovesMailboxes old new (IsNamed (tree_text name) (path_of name))) where
  absent : map.get (without world name).mailboxes name ≡ None
  absent = get_without world.mailboxes name name ∙ ap (λ b. cond b None (map.get world.mailboxes name)) (is_name_at-same name)

  among : (q : Name) (k : Mailbox) → map.get (without world name).mailboxes q ≡ Some k → (map.get world.mailboxes q ≡ Some k) × (q ≢ name)
  among q k is = (by (is_name_at q name) (sym (get_without world.mailboxes name q) ∙ is), λ e. cc (sym absent ∙ ap (map.get (without world name).mailboxes) (sym e) ∙ is))
    where
      by : (b : Bool) → cond b None (map.get world.mailboxes q) ≡ Some k → map.get world.mailboxes q ≡ Some k
      by true e = absurd (cc e)
      by false e = e

  stays : (q : Name) (k : Mailbox) → q ≢ name → map.get world.mailboxes q ≡ Some k → map.get (without world name).mailboxes q ≡ Some k
  stays q k apart is = by (is_name_at q name) refl
    where
      by : (b : Bool) → is_name_at q name ≡ b → map.get (without world name).mailboxes q ≡ Some k
      by true e = absurd (apart (equal_names q name e))
      by false e = get_without world.mailboxes name q ∙ ap (λ b. cond b None (map.get world.mailboxes q)) e ∙ is

  -- the row of the mailbox has its name
  is_named : (row : Row) (u : IsMailbox world stand.id row) → u.name ≡ name → IsNamed (tree_text name) (path_of name) row
  is_named row u same = (
    ap (λ (r : Row). column r 2) u.shown ∙ ap (λ n. Words (tree_text n)) same,
    ap (λ (r : Row). column r 3) u.shown ∙ ap (λ n. Words (path_of n)) same,
  )

  row_to : (row : Row) → Has (new 0) row → IsMailbox (without world name) stand.id row
  row_to row has =
      let (was, not) = (removes.left row).0 has in
      let u : IsMailbox world stand.id row = (stand.mailboxes row).0 was in
      record { name = u.name; mailbox = u.mailbox; there = stays u.name u.mailbox (λ e. not (is_named row u e)) u.there; shown = u.shown }

  row_from : (row : Row) → IsMailbox (without world name) stand.id row → Has (new 0) row
  row_from row u =
      let k = among u.name u.mailbox u.there in
      let before : IsMailbox world stand.id row = record { name = u.name; mailbox = u.mailbox; there = k.0; shown = u.shown } in
      (removes.left row).1 ((stand.mailboxes row).1 before, λ named. k.1 (named_is old world stand name valid row before named))

  -- the row below a mailbox of this name goes
  under_it : (child : Child) (rowid : ℤ) (v : Row) (u : IsUnder world stand.id stand.kept child v) → u.name ≡ name → IsBelowOne old new (IsNamed (tree_text name) (path_of name)) (Int rowid ∷ v)
  under_it child rowid v u same =
      let parent : Row = row_of_mailbox u.name u.mailbox (stand.id u.name) in
      let it : IsMailbox world stand.id parent = record { name = u.name; mailbox = u.mailbox; there = u.there; shown = refl } in
      (parent, (stand.mailboxes parent).1 it, is_named parent it same, first_of child u.mailbox (stand.kept u.name) (stand.id u.name) v u.shown)

  -- and no other
  not_under : (child : Child) (rowid : ℤ) (v : Row) (u : IsUnder world stand.id stand.kept child v) → u.name ≢ name → ¬ IsBelowOne old new (IsNamed (tree_text name) (path_of name)) (Int rowid ∷ v)
  not_under child rowid v u other (parent, has, named, is) =
      let p : IsMailbox world stand.id parent = (stand.mailboxes parent).0 has in
      let ids : stand.id u.name ≡ stand.id p.name =
      same_id (stand.id u.name) (stand.id p.name) (sym (first_of child u.mailbox (stand.kept u.name) (stand.id u.name) v u.shown) ∙ is ∙ ap (λ (r : Row). column r 0) p.shown) in
      other (stand.apart u.name p.name u.mailbox p.mailbox u.there p.there ids ∙ named_is old world stand name valid parent p named)

  below_left : (child : Child) → ((row : Row) → Has (new (tree_of child)) row ↔ (Has (old (tree_of child)) row × ¬ IsBelowOne old new (IsNamed (tree_text name) (path_of name)) row))
      → AreRows (new (tree_of child)) (IsUnder (without world name) stand.id stand.kept child)
  below_left child left = record { sound = sound; complete = complete }
    where
      sound : (row : Row) → Has (new (tree_of child)) row → IsNumbered (IsUnder (without world name) stand.id stand.kept child) row
      sound row has =
          let (was, not) = (left row).0 has in
          let n = (stand.below child).sound row was in
          let u : IsUnder world stand.id stand.kept child n.values = n.meant in
          record {
            rowid = n.rowid;
            values = n.values;
            shown = n.shown;
            meant = record {
              name = u.name;
              mailbox = u.mailbox;
              there = stays u.name u.mailbox (λ e. not (subst (λ (r : Row). IsBelowOne old new (IsNamed (tree_text name) (path_of name)) r) (sym n.shown) (under_it child n.rowid n.values u e))) u.there;
              shown = u.shown;
            };
          }

      complete : (v : Row) → IsUnder (without world name) stand.id stand.kept child v → (rowid : ℤ) × Has (new (tree_of child)) (Int rowid ∷ v)
      complete v u =
          let k = among u.name u.mailbox u.there in
          let before : IsUnder world stand.id stand.kept child v = record { name = u.name; mailbox = u.mailbox; there = k.0; shown = u.shown } in
          let (rowid, has) = (stand.below child).complete v before in
          (rowid, (left (Int rowid ∷ v)).1 (has, not_under child rowid v before k.1))

  pub mailbox_removed : StandFor new (without world name)
  mailbox_removed = record {
    id = stand.id;
    kept = stand.kept;
    found = λ q k is. stand.found q k (among q k is).0;
    apart = λ a b k l ka lb same. stand.apart a b k l (among a k ka).0 (among b l lb).0 same;
    named = record {
      mailboxes = λ q k is. stand.named.mailboxes q k (among q k is).0;
      epochs = stand.named.epochs;
      subscriptions = stand.named.subscriptions;
    };
    mailboxes = λ row. (row_to row, row_from row);
    below = below;
    epochs = same_rows (old 10) (new 10) (IsEpoch world.epochs) removes.epochs stand.epochs;
    subscriptions = rows_alike (new 12) (IsSubscription world) (IsSubscription (without world name))
        (λ v s. record { user = s.user; name = s.name; there = s.there; shown = s.shown }) (λ v s. record { user = s.user; name = s.name; there = s.there; shown = s.shown })
        (same_rows (old 12) (new 12) (IsSubscription world) removes.subs stand.subscriptions);
  }
    where
      below : (child : Child) → AreRows (new (tree_of child)) (IsUnder (without world name) stand.id stand.kept child)
      below entries = below_left entries (removes.below acl_table (inl refl))
      below messages = below_left messages (removes.below message_table (inr (inl refl)))
      below gone = below_left gone (removes.below gone_table (inr (inr (inl refl))))
      below marks = below_left marks (removes.below mark_table (inr (inr (inr (inl refl)))))
