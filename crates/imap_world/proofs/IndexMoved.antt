-- The index of mailboxes, once some of them moved.
use Rattle.std.proofs.Common.{◌≡◌, ℕ, ◌<◌, Bool, true, false, ◌&&◌, List, [], length, map as map_list, refl, sym, ap, subst, ◌∙◌, arith}
use Rattle.std.specs.Prelude.{bytes_eq, nat_lt}
use Rattle.std.proofs.lemmas.Bool.{ltb-true}
use Rattle.std.proofs.lemmas.Slice.Eq.{bytes_eq-Decides}
use Rattle.imap_identifier_index.specs.Index.{Index, IsIndexOf, IsRun, Lists, moved_lists}
use Rattle.imap_name_map.proofs.LookUp.{get_renamed}
use Rattle.imap_name_map.proofs.NamesMoved.{run_names_alike}
use Rattle.imap_name_map.proofs.WithinLaws.{run_is_empty}
use Rattle.imap_name_map.specs.Renaming.{renamed}
use Rattle.imap_name_map.specs.Rows.{has_within, run_of}
use Rattle.imap_names.specs.Name.{Name, root_of}
use Rattle.imap_names.specs.Order.{Names}
use Rattle.imap_world.specs.Indexed.{IsIndexIn, lists_of}
use Rattle.imap_world.specs.Mailbox.{Mailbox, plain_all}
use Rattle.imap_world.specs.Moving.{can_move, with_validities}
use Rattle.imap_world.specs.declared.mailbox_entry.MailboxEntry.{MailboxEntry}
use Rattle.imap_world.proofs.Contents.{contains_plain}
use Rattle.imap_world.proofs.ListsChanged.{alike, lists_renamed, lists_validated, run_is}

both : (a b : Bool) → (a && b) ≡ true → (a ≡ true) × (b ≡ true)
both true b e = (refl, e)
both false b e = cc

record MovesWithin (old new : Name) : Type 0 where
  tree : root_of new ≡ root_of old
  old_some : 0 < length old
  new_some : 0 < length new

moves_within : (old new : Name) → can_move old new ≡ true → MovesWithin old new
moves_within old new can =
    let one = both (nat_lt 1 (length old)) _ can in
    let two = both (nat_lt 1 (length new)) _ one.1 in
    let three = both (bytes_eq (root_of old) (root_of new)) _ two.1 in
    let long : 1 < length old = ltb-true 1 (length old) one.0 in
    let new_long : 1 < length new = ltb-true 1 (length new) two.0 in
    record {
      tree = sym ((bytes_eq-Decides (root_of old) (root_of new)).0 three.0);
      old_some = omega (arith, long);
      new_some = omega (arith, new_long);
    }

pub index_moved : (before after : Index) (entries : Names MailboxEntry) (old new : Name) (came : List (Name × ℕ)) (run : List (Name × MailboxEntry)) → run ≡ run_of old entries
    → can_move old new ≡ true → has_within new (plain_all entries) ≡ false → IsIndexIn before (plain_all entries)
    → ((lists : Lists) → IsRun lists old new (map_list (λ e. e.0) run) → IsIndexOf before lists → IsIndexOf after (moved_lists old new lists))
    → IsIndexIn after (with_validities (renamed old new (plain_all entries)) came)
index_moved before after entries old new came run is can free index moves =
    alike after _ _ (λ q. lists_renamed m (renamed old new m) old new (λ p. get_renamed old new m p none) q ∙ lists_validated came (renamed old new m) q)
    (moves (lists_of m) (subst (IsRun (lists_of m) old new) names (run_is m old new none within.tree within.old_some within.new_some)) index)
  where
    m : Names Mailbox
    m = plain_all entries

    none : run_of new m ≡ []
    none = run_is_empty new m free

    within : MovesWithin old new
    within = moves_within old new can

    names : map_list (λ e. e.0) (run_of old m) ≡ map_list (λ e. e.0) run
    names = run_names_alike old (λ q. q) m entries (λ q w. contains_plain entries q) ∙ ap (map_list (λ (e : Name × MailboxEntry). e.0)) (sym is)
