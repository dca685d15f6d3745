-- Only the first of the writes writes to messages.
use Rattle.std.proofs.Common.{◌≡◌, inl, inr, ℕ, Bool, true, false, cond, not, List, [], ◌∷◌, ◌++◌, append-nil, Option, Some, None, Result, Ok, Err, refl, sym, subst, arith}
use Rattle.std.specs.FinMap as map
use Rattle.std.specs.List.{list_all}
use Rattle.std.proofs.lemmas.Bool.{and_parts, and_from}
use Rattle.imap_name_map.specs.Rows.{has_below, has_within}
use Rattle.imap_names.specs.Name.{Name, is_inbox}
use Rattle.imap_names.specs.Order.{Names}
use Rattle.imap_rights.specs.Acl.{AclMap, owner_acl}
use Rattle.imap_rights.specs.declared.change.RightsChange.{RightsChange}
use Rattle.imap_world.specs.declared.change.Write.{Write}
use Rattle.imap_world.specs.declared.change.Write.TheVariants as write
use Rattle.imap_world.specs.declared.effect.Effect.{Effect}
use Rattle.imap_world.specs.declared.effect.Effect.TheVariants as effect
use Rattle.imap_world.specs.declared.error.WorldError.{WorldError}
use Rattle.imap_world.specs.declared.error.WorldError.TheVariants.{NoSuch, Taken, Below, Cannot}
use Rattle.imap_world.specs.Effects.{list_changed, list_set, move_after, put_of, puts, puts_of, removal, renaming, writes_for, writes_of, writes_then}
use Rattle.imap_world.specs.Mailbox.{Mailbox}
use Rattle.imap_world.specs.Messages.{is_same_name, messages_written, one_part, part_in, two_parts}
use Rattle.imap_world.specs.declared.named_batch.NamedBatch.{NamedBatch}
use Rattle.imap_world.specs.declared.named_batch.NamedWrite.{NamedWrite}
use Rattle.imap_world.specs.Moving.{arrivals, can_move, superior_rows}
use Rattle.imap_world.specs.Ready.{AreApart, IsLone, is_plain, is_tree_write}
use Rattle.imap_world.specs.NewMailbox.{NewMailbox}
use Rattle.imap_world.specs.Tree.{acl_with_rights, created_rows, new_row}
use Rattle.imap_world.specs.World.{World, inbox}

abbrev Writes : Type 0
Writes = Result (List Write) WorldError

-- none of them writes to messages
abbrev AreOfTree : Writes → Type 0
AreOfTree (Err error) = Unit {0}
AreOfTree (Ok ws) = list_all is_tree_write ws ≡ true

all-append : (ws more : List Write) → list_all is_tree_write ws ≡ true → list_all is_tree_write more ≡ true → list_all is_tree_write (ws ++ more) ≡ true
all-append [] more e f = f
all-append (w ∷ ws) more e f =
    let parts = and_parts (is_tree_write w) (list_all is_tree_write ws) e in
    and_from (is_tree_write w) _ parts.0 (all-append ws more parts.1 f)

puts_tree : (rows : List NewMailbox) → list_all is_tree_write (puts rows) ≡ true
puts_tree [] = refl
puts_tree (row ∷ rows) = puts_tree rows

either : (b : Bool) (r s : Writes) → AreOfTree r → AreOfTree s → AreOfTree (cond b r s)
either true r s h k = h
either false r s h k = k

put_of_tree : (r : Result NewMailbox WorldError) → AreOfTree (put_of r)
put_of_tree (Err error) = tt
put_of_tree (Ok row) = refl

puts_of_tree : (r : Result (List NewMailbox) WorldError) → AreOfTree (puts_of r)
puts_of_tree (Err error) = tt
puts_of_tree (Ok rows) = puts_tree rows

move_tree : (old new : Name) (r : Writes) (a : Result (List (Name × ℕ)) WorldError) → AreOfTree r → AreOfTree (move_after old new r a)
move_tree old new (Err error) a h = tt
move_tree old new (Ok made) (Err error) h = tt
move_tree old new (Ok made) (Ok came) h = all-append made (write.Move old new came ∷ []) h refl

list_tree : (name : Name) (r : Result AclMap WorldError) → AreOfTree (list_set name r)
list_tree name (Err error) = tt
list_tree name (Ok acl) = refl

rights_tree : (name : Name) (identifier : List ℕ) (change : RightsChange) (o : Option Mailbox) → AreOfTree (list_changed name identifier change o)
rights_tree name identifier change None = tt
rights_tree name identifier change (Some m) = list_tree name (acl_with_rights m.acl identifier change)

abbrev IsLoneIn : Writes → Type 0
IsLoneIn (Err error) = Unit {0}
IsLoneIn (Ok ws) = IsLone ws

lone_list : (ws : List Write) → list_all is_tree_write ws ≡ true → IsLone ws
lone_list [] e = tt
lone_list (w ∷ ws) e = (and_parts (is_tree_write w) (list_all is_tree_write ws) e).1

lone_of : (r : Writes) → AreOfTree r → IsLoneIn r
lone_of (Err error) h = tt
lone_of (Ok ws) h = lone_list ws h

one_lone : (r : Result NamedWrite WorldError) → IsLoneIn (one_part r)
one_lone (Err error) = tt
one_lone (Ok w) = refl

two_lone : (r s : Result NamedWrite WorldError) → IsLoneIn (two_parts r s)
two_lone (Err error) s = tt
two_lone (Ok w) (Err error) = tt
two_lone (Ok w) (Ok other) = refl

lone_either : (b : Bool) (r s : Writes) → IsLoneIn r → IsLoneIn s → IsLoneIn (cond b r s)
lone_either true r s h k = h
lone_either false r s h k = k

messages_lone : (m : Names Mailbox) (part : NamedBatch) (other : Option NamedBatch) → IsLoneIn (messages_written m part other)
messages_lone m part None = one_lone (part_in m part)
messages_lone m part (Some other) =
    lone_either (is_same_name other.name part.name) (Err Cannot) (two_parts (part_in m part) (part_in m other)) tt (two_lone (part_in m part) (part_in m other))

module _ (world : World) where
  delete_tree : (name : Name) → AreOfTree (removal world name)
  delete_tree name = either (is_inbox name) (Err Cannot) _ tt (either (has_below name world.mailboxes) (Err Below) (Ok (write.Remove name ∷ [])) tt refl)

  rename_tree : (owner : List ℕ) (old new : Name) → AreOfTree (renaming world owner old new)
  rename_tree owner old new =
      either (not (can_move old new)) (Err Cannot) _ tt
      (either (has_within new world.mailboxes) (Err Taken) _ tt
      (move_tree old new (puts_of (superior_rows world owner new)) (arrivals world old new) (puts_of_tree (superior_rows world owner new))))

  plain_tree : (e : Effect) → is_plain e ≡ true → AreOfTree (writes_for e world)
  plain_tree (effect.CreateInbox user) plain = either (map.contains_key world.mailboxes (inbox user)) (Err Taken) _ tt (put_of_tree (new_row world.epochs (inbox user) (owner_acl user)))
  plain_tree (effect.Create owner name) plain = absurd (cc plain)
  plain_tree (effect.Delete name) plain = absurd (cc plain)
  plain_tree (effect.Rename owner old new) plain = absurd (cc plain)
  plain_tree (effect.SetRights name identifier change) plain = absurd (cc plain)
  plain_tree (effect.Messages part other) plain = absurd (cc plain)
  plain_tree (effect.Subscribe user name) plain = refl
  plain_tree (effect.Unsubscribe user name) plain = refl

  lone_for : (e : Effect) → IsLoneIn (writes_for e world)
  lone_for (effect.CreateInbox user) = lone_of _ (either (map.contains_key world.mailboxes (inbox user)) (Err Taken) _ tt (put_of_tree (new_row world.epochs (inbox user) (owner_acl user))))
  lone_for (effect.Create owner name) = lone_of _ (either (map.contains_key world.mailboxes name) (Err Taken) _ tt (puts_of_tree (created_rows world owner name)))
  lone_for (effect.Delete name) = lone_of _ (either (map.contains_key world.mailboxes name) (removal world name) (Err NoSuch) (delete_tree name) tt)
  lone_for (effect.Rename owner old new) = lone_of _ (either (map.contains_key world.mailboxes old) (renaming world owner old new) (Err NoSuch) (rename_tree owner old new) tt)
  lone_for (effect.SetRights name identifier change) = lone_of _ (rights_tree name identifier change (map.get world.mailboxes name))
  lone_for (effect.Messages part other) = messages_lone world.mailboxes part other
  lone_for (effect.Subscribe user name) = refl
  lone_for (effect.Unsubscribe user name) = refl

  both_tree : (r s : Writes) → AreOfTree r → AreOfTree s → AreOfTree (writes_then r s)
  both_tree (Err error) s h k = tt
  both_tree (Ok ws) (Err error) h k = tt
  both_tree (Ok ws) (Ok more) h k = all-append ws more h k

  all_tree : (effects : List Effect) → list_all is_plain effects ≡ true → AreOfTree (writes_of effects world)
  all_tree [] plain = refl
  all_tree (e ∷ effects) plain =
      let parts = and_parts (is_plain e) (list_all is_plain effects) plain in
      both_tree (writes_for e world) (writes_of effects world) (plain_tree e parts.0) (all_tree effects parts.1)

  alone_lone : (r : Writes) → IsLoneIn r → IsLoneIn (writes_then r (Ok []))
  alone_lone (Err error) h = tt
  alone_lone (Ok ws) h = subst IsLone (sym (append-nil ws)) h

  lone_in : (effects : List Effect) → AreApart effects → IsLoneIn (writes_of effects world)
  lone_in effects (inr plain) = lone_of _ (all_tree effects plain.plain)
  lone_in [] (inl few) = tt
  lone_in (e ∷ []) (inl few) = alone_lone (writes_for e world) (lone_for e)
  lone_in (e ∷ f ∷ effects) (inl few) = absurd (omega (arith, few))

  pub apart_lone : (effects : List Effect) (ws : List Write) → AreApart effects → writes_of effects world ≡ Ok ws → IsLone ws
  apart_lone effects ws apart is = subst IsLoneIn is (lone_in effects apart)
