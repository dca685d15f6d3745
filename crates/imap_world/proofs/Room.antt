-- The room that is left after a name was written.
use Rattle.std.proofs.Common.{◌≡◌, ℕ, ◌+◌, ◌-◌, ◌<◌, ◌≤◌, get_or, take, Bool, true, false, cond, List, [], ◌∷◌, ◌++◌, length, Option, Some, None, Result, Ok, Err, refl, sym, ap, subst, ◌∙◌, arith}
use Rattle.std.proofs.lemmas.Bool.{and_parts}
use Rattle.std.proofs.lemmas.List.{take_more}
use Rattle.std.specs.Cmp.Lexicographic.{nat_list_cmp_total}
use Rattle.std.specs.FinMap as map
use Rattle.std.specs.FinMap.{get-insert, len-remove}
use Rattle.std.specs.List.{AllByRecursion, list_all}
use Rattle.std.specs.Option.{OnSome}
use Rattle.std.specs.Prelude.{is_some, OnOk}
use Rattle.std.specs.declared.alloc.AllocError.{AllocError}
use Rattle.imap_names.specs.Name.{Name}
use Rattle.imap_names.specs.Order.{Names}
use Rattle.imap_names.proofs.OrderLaws.{name_total}
use Rattle.imap_name_map.specs.Rows as name
use Rattle.imap_user_map.specs.Rows.{Users}
use Rattle.imap_world.specs.declared.change.Write.{Write}
use Rattle.imap_world.specs.declared.change.Write.TheVariants as write
use Rattle.imap_world.specs.Effects.{after_write}
use Rattle.imap_world.specs.declared.mailbox_entry.MailboxEntry.{MailboxEntry}
use Rattle.imap_world.specs.Ready.{HasFirstRoom, HasMessageRoom, IsLone, is_tree_write, HasNameRoom, HasRoom, AreReady, IsOneReady, Leaves, KeepsRoom, LeavesRoom, MayBeWritten, count_of, counts_of}
use Rattle.imap_world.specs.Stored.{Stored, Subscriptions, world_of}
use Rattle.imap_world.proofs.Sets.{is_user, equal_users, user_itself}

pub fewer : (o : Option (name.Rows (Unit {0}))) (m n : ℕ) → m ≤ n → HasRoom n o → HasRoom m o
fewer None m n le h = h
fewer (Some rows) m n le h = omega (arith, le, h)

-- one user's rows were put, of which the room is known
module _ (s t : Subscriptions) (u : List ℕ) (rows : name.Rows (Unit {0})) (is : t.map ≡ map.insert s.map u rows) where
  there : (q : List ℕ) → map.get t.map q ≡ cond (is_user q u) (Some rows) (map.get s.map q)
  there q = ap (λ (m : Users (name.Rows (Unit {0}))). map.get m q) is ∙ get-insert nat_list_cmp_total s.map u rows q

  pub put_leaves : ((more : ℕ) → HasRoom (more + 1) (map.get s.map u) → more ≤ rows.spare) → LeavesRoom s t
  put_leaves here q more h = subst (HasRoom more) (sym (there q)) (by (is_user q u) refl)
    where
      by : (b : Bool) → is_user q u ≡ b → HasRoom more (cond b (Some rows) (map.get s.map q))
      by true e = here more (subst (λ v. HasRoom (more + 1) (map.get s.map v)) (equal_users q u e) h)
      by false e = fewer (map.get s.map q) more (more + 1) (omega (arith)) h

  pub put_keeps : ((more : ℕ) → HasRoom more (map.get s.map u) → more ≤ rows.spare) → KeepsRoom s t
  put_keeps here q more h = subst (HasRoom more) (sym (there q)) (by (is_user q u) refl)
    where
      by : (b : Bool) → is_user q u ≡ b → HasRoom more (cond b (Some rows) (map.get s.map q))
      by true e = here more (subst (λ v. HasRoom more (map.get s.map v)) (equal_users q u e) h)
      by false e = h

pub room_of : (o : Option (name.Rows (Unit {0}))) (rows : name.Rows (Unit {0})) (more : ℕ) → o ≡ Some rows → HasRoom more o → more ≤ rows.spare
room_of o rows more is h = subst (HasRoom more) is h

pub no_room : (o : Option (name.Rows (Unit {0}))) (more : ℕ) → o ≡ None → HasRoom more o → ⊥
no_room o more is h = subst (HasRoom more) is h

-- ---- after one write of several

no_messages : (m : Names MailboxEntry) (w : Write) → is_tree_write w ≡ true → HasMessageRoom m w
no_messages m (write.Put row) e = tt
no_messages m (write.SetAcl name acl) e = tt
no_messages m (write.Remove name) e = tt
no_messages m (write.Move from to arrivals) e = tt
no_messages m (write.Messages part other) e = absurd (cc e)
no_messages m (write.Subscribe user name) e = tt
no_messages m (write.Unsubscribe user name) e = tt

no_messages_first : (m : Names MailboxEntry) (ws : List Write) → list_all is_tree_write ws ≡ true → HasFirstRoom m ws
no_messages_first m [] e = tt
no_messages_first m (w ∷ ws) e = no_messages m w (and_parts (is_tree_write w) (list_all is_tree_write ws) e).0

still_lone : (ws : List Write) → list_all is_tree_write ws ≡ true → IsLone ws
still_lone [] e = tt
still_lone (w ∷ ws) e = (and_parts (is_tree_write w) (list_all is_tree_write ws) e).1

module _ (counted : ℕ) (old new : Stored) (leaves : Leaves counted old new) where
  one_less : (more : ℕ) (w : Write) → HasNameRoom old.subscriptions (more + 1) w → HasNameRoom new.subscriptions more w
  one_less more (write.Put row) h = tt
  one_less more (write.SetAcl name acl) h = tt
  one_less more (write.Remove name) h = tt
  one_less more (write.Move from to arrivals) h = tt
  one_less more (write.Messages part other) h = tt
  one_less more (write.Subscribe user name) h = leaves.users user more h
  one_less more (write.Unsubscribe user name) h = tt

  all_less : (more : ℕ) (ws : List Write) → AllByRecursion (HasNameRoom old.subscriptions (more + 1)) ws → AllByRecursion (HasNameRoom new.subscriptions more) ws
  all_less more [] h = tt
  all_less more (w ∷ ws) h = (one_less more w h.0, all_less more ws h.1)

  pub rest_ready : (w : Write) (ws : List Write) → counted ≡ count_of w → world_of new ≡ after_write w (world_of old) → AreReady (w ∷ ws) old → AreReady ws new
  rest_ready w ws counts is ready = record {
    room = record {
      mailboxes = omega (arith, leaves.mailboxes, ready.room.mailboxes);
      epochs = omega (arith, counts, leaves.epochs, ready.room.epochs);
      first = no_messages_first new.mailboxes.map ws ready.lone;
      sets = all_less (length ws) ws (subst (λ n. AllByRecursion (HasNameRoom old.subscriptions n) ws) (omega (arith)) ready.room.sets.1);
    };
    lone = still_lone ws ready.lone;
    may = subst (MayBeWritten ws) (sym is) ready.may.1;
  }

at_least_one : (s : Subscriptions) (n : ℕ) (w : Write) → 1 ≤ n → HasNameRoom s n w → HasNameRoom s 1 w
at_least_one s n (write.Put row) le h = tt
at_least_one s n (write.SetAcl name acl) le h = tt
at_least_one s n (write.Remove name) le h = tt
at_least_one s n (write.Move from to arrivals) le h = tt
at_least_one s n (write.Messages part other) le h = tt
at_least_one s n (write.Subscribe user name) le h = fewer (map.get s.map user) 1 n le h
at_least_one s n (write.Unsubscribe user name) le h = tt

pub first_ready : (s : Stored) (w : Write) (ws : List Write) → AreReady (w ∷ ws) s → IsOneReady s w
first_ready s w ws ready = record {
  mailboxes = omega (arith, ready.room.mailboxes);
  epochs = omega (arith, ready.room.epochs);
  messages = ready.room.first;
  set = at_least_one s.subscriptions (length (w ∷ ws)) w (omega (arith)) ready.room.sets.0;
  may = ready.may.0;
}

-- ---- room for one write more

module _ (old new : Subscriptions) (keeps : KeepsRoom old new) (more : ℕ) where
  one_kept : (w : Write) → HasNameRoom old more w → HasNameRoom new more w
  one_kept (write.Put row) h = tt
  one_kept (write.SetAcl name acl) h = tt
  one_kept (write.Remove name) h = tt
  one_kept (write.Move from to arrivals) h = tt
  one_kept (write.Messages part other) h = tt
  one_kept (write.Subscribe user name) h = keeps user more h
  one_kept (write.Unsubscribe user name) h = tt

  pub all_kept : (ws : List Write) (w : Write) → AllByRecursion (HasNameRoom old more) ws → HasNameRoom new more w → AllByRecursion (HasNameRoom new more) (ws ++ w ∷ [])
  all_kept [] w h last = (last, tt)
  all_kept (v ∷ vs) w h last = (one_kept v h.0, all_kept vs w h.1 last)

  -- of the first writes, and one more
  pub all_kept_at : (ws : List Write) (i : ℕ) (w : Write) → i < length ws → w ≡ get_or ws i w → AllByRecursion (HasNameRoom old more) (take i ws) → HasNameRoom new more w → AllByRecursion (HasNameRoom new more) (take (i + 1) ws)
  all_kept_at ws i w lt is h last =
      subst (AllByRecursion (HasNameRoom new more)) (sym (take_more ws i w lt ∙ ap (λ x. take i ws ++ x ∷ []) (sym is))) (all_kept (take i ws) w h last)

-- what is said of a value holds of the one that is there
pub of_some : {X P : Type 0} (r : Option X) (x : X) → r ≡ Some x → OnSome r P → P
of_some {X} {P} r x is h = subst (λ o. OnSome o P) is h

pub none_of : {X : Type 0} (o : Option X) → is_some o ≡ false → o ≡ None
none_of None e = refl
none_of (Some x) e = absurd (cc e)

pub some_of : {X : Type 0} (o : Option X) → is_some o ≡ true → o ≡ None → ⊥
some_of None e is = absurd (cc e)
some_of (Some x) e is = absurd (cc is)

-- the room that was made for one user
pub put_room : (s t : Subscriptions) (u : List ℕ) (rows : name.Rows (Unit {0})) → t.map ≡ map.insert s.map u rows → (more : ℕ) (r : Result (Unit {0}) AllocError) → OnOk r (more ≤ rows.spare) → OnOk r (HasRoom more (map.get t.map u))
put_room s t u rows is more (Ok done) h = subst (HasRoom more) (sym (there s t u rows is u ∙ ap (λ b. cond b (Some rows) (map.get s.map u)) (user_itself u))) h
put_room s t u rows is more (Err error) h = tt

-- the mailboxes were changed
pub mailboxes_leave : (counted : ℕ) (old new : Stored) → new.subscriptions ≡ old.subscriptions
    → old.mailboxes.spare ≤ new.mailboxes.spare + 1 → old.epochs.spare ≤ new.epochs.spare + counted → Leaves counted old new
mailboxes_leave counted old new same mailboxes epochs = record {
  mailboxes = mailboxes;
  epochs = epochs;
  users = λ user more h. subst (λ (s : Subscriptions). HasRoom more (map.get s.map user)) (sym same) (fewer (map.get old.subscriptions.map user) more (more + 1) (omega (arith)) h);
}

-- the set of one user was changed
pub put_set_leaves : (old new : Stored) → new.mailboxes ≡ old.mailboxes → new.epochs ≡ old.epochs → LeavesRoom old.subscriptions new.subscriptions → Leaves 0 old new
put_set_leaves old new mailboxes epochs users = record {
  mailboxes = omega (arith, ap (λ r. r.spare) mailboxes);
  epochs = omega (arith, ap (λ r. r.spare) epochs);
  users = users;
}

-- a map without a name has no more names
pub len_without : {X : Type 0} (names : Names X) (k : Name) → map.len (map.remove names k) ≤ map.len names
len_without names k = subst (λ n. n ≤ map.len names) (sym (len-remove name_total names k)) (by (map.contains_key names k))
  where
    by : (b : Bool) → cond b (map.len names - 1) (map.len names) ≤ map.len names
    by true = omega (arith)
    by false = omega (arith)

-- ---- how many validities are counted

counts_of-append : (ws more : List Write) → counts_of (ws ++ more) ≡ counts_of ws + counts_of more
counts_of-append [] more = omega arith
counts_of-append (w ∷ ws) more = omega (arith, counts_of-append ws more)

-- of one write more
pub counts_of-take : (ws : List Write) (i : ℕ) (w : Write) → i < length ws → w ≡ get_or ws i w → counts_of (take (i + 1) ws) ≡ counts_of (take i ws) + count_of w
counts_of-take ws i w lt is =
    ap counts_of (take_more ws i w lt ∙ ap (λ x. take i ws ++ x ∷ []) (sym is))
    ∙ counts_of-append (take i ws) (w ∷ [])
    ∙ ap (λ n. counts_of (take i ws) + n) (omega arith)
