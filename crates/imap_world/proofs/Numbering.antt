-- The index of all mailboxes, made of one after another.
use Rattle.std.proofs.Common.{◌≡◌, ℕ, ◌+◌, ◌<◌, T, List, ◌∷◌, length, drop, get_or, map as map_list, Some, refl, sym, ap, subst, ◌∙◌}
use Rattle.std.specs.Prelude.{option_map}
use Rattle.std.specs.FinMap as map
use Rattle.std.specs.FinMap.{len-entries}
use Rattle.std.specs.FinMap.Entries.{is_sorted}
use Rattle.std.proofs.lemmas.List.{get_or-map, length-map}
use Rattle.imap_identifier_index.specs.Index.{Index, IsIndexOf}
use Rattle.imap_names.specs.Name.{Name}
use Rattle.imap_names.specs.Order.{Names, name_cmp}
use Rattle.imap_rights.specs.Acl.{AclMap}
use Rattle.imap_world.specs.Indexed.{IsAddedTo}
use Rattle.imap_world.specs.Mailbox.{Mailbox, plain, plain_all}
use Rattle.imap_world.specs.declared.mailbox_entry.MailboxEntry.{MailboxEntry}
use Rattle.imap_world.proofs.Contents.{entries_plain, get_plain, plain_entry}
use Rattle.imap_world.proofs.Copied.{entry_found}
use Rattle.imap_world.proofs.ListsChanged.{alike, done_lists, left_cut, not_done, one_done, rest_sorted}

pub length_all : (m : Names MailboxEntry) → length (map.entries (plain_all m)) ≡ map.len m
length_all m = ap length (entries_plain m) ∙ length-map (map.entries m) plain_entry ∙ sym (len-entries m)

module _ (m : Names MailboxEntry) (all : Names Mailbox) (are : plain_all m ≡ all) (i : ℕ) (d : Name × MailboxEntry) (lt : i < length (map.entries m)) (is : d ≡ get_or (map.entries m) i d) where
  entries_are : map.entries all ≡ map_list plain_entry (map.entries m)
  entries_are = ap map.entries (sym are) ∙ entries_plain m

  cut_at : drop i (map.entries all) ≡ plain_entry d ∷ drop (i + 1) (map.entries all)
  cut_at =
      left_cut (map.entries all) i (plain_entry d)
      (subst (λ (es : List (Name × Mailbox)). i < length es) (sym entries_are) (subst (λ n. i < n) (sym (length-map (map.entries m) plain_entry)) lt))
      (ap plain_entry is ∙ sym (ap (λ es. get_or es i (plain_entry d)) entries_are ∙ get_or-map plain_entry (map.entries m) i d (plain_entry d) lt))

  found_at : map.get all d.0 ≡ Some (plain d.1)
  found_at = ap (λ (n : Names Mailbox). map.get n d.0) (sym are) ∙ get_plain m d.0 ∙ ap (option_map plain) (entry_found m i d lt is)

  sorted_at : T (is_sorted name_cmp (drop i (map.entries all))) → T (is_sorted name_cmp (plain_entry d ∷ drop (i + 1) (map.entries all)))
  sorted_at sorted = subst (λ (es : List (Name × Mailbox)). T (is_sorted name_cmp es)) cut_at sorted

  pub next_sorted : T (is_sorted name_cmp (drop i (map.entries all))) → T (is_sorted name_cmp (drop (i + 1) (map.entries all)))
  next_sorted sorted = rest_sorted all (plain_entry d) (drop (i + 1) (map.entries all)) (sorted_at sorted) found_at

  pub next_indexed : (index after : Index) (name : Name) (acl : AclMap) → name ≡ d.0 → acl ≡ (d.1).acl → T (is_sorted name_cmp (drop i (map.entries all)))
      → IsIndexOf index (done_lists (drop i (map.entries all)) all) → IsAddedTo index after name acl → IsIndexOf after (done_lists (drop (i + 1) (map.entries all)) all)
  next_indexed index after name acl named listed sorted found added =
      let left : List (Name × Mailbox) = drop (i + 1) (map.entries all) in
      let had : IsIndexOf index (done_lists (plain_entry d ∷ left) all) = subst (λ (es : List (Name × Mailbox)). IsIndexOf index (done_lists es all)) cut_at found in
      let one : IsAddedTo index after d.0 (d.1).acl = subst (λ (n : Name). IsAddedTo index after n (d.1).acl) named (subst (IsAddedTo index after name) listed added) in
      alike after _ _ (one_done all (plain_entry d) left (sorted_at sorted) found_at)
      (one (done_lists (plain_entry d ∷ left) all) (not_done all (plain_entry d) left (sorted_at sorted) found_at) had)
