-- Rows of UIDVALIDITYs that were used, and of subscriptions.
use Rattle.std.proofs.Common.{◌≡◌, ◌⊎◌, inl, inr, ℕ, ℤ, Bool, true, false, cond, ◌&&◌, List, Some, None, is_some, refl, sym, ap, subst, ◌∙◌, true≢false}
use Rattle.std.specs.Prelude.{◌↔◌, bytes_eq, eqb}
use Rattle.std.specs.FinMap as map
use Rattle.std.proofs.lemmas.Bool.{and_parts}
use Rattle.std.proofs.lemmas.Map.Text.{is_eq-slice_cmp}
use Rattle.std.proofs.lemmas.Slice.Eq.{bytes_eq-Decides}
use Rattle.sqlite.specs.declared.types.Value.TheVariants.{Text as Words}
use Rattle.sqlite.specs.Order.{Row, column}
use Rattle.sqlite.specs.Tree.{Trees}
use Rattle.sqlite_rules.specs.Lists.{Has}
use Rattle.imap_names.specs.Name.{Name, path_of}
use Rattle.imap_names.specs.Order.{Names}
use Rattle.imap_names.specs.Valid.{IsName}
use Rattle.imap_names.proofs.NameLaws.{equal_names, get_put, get_without, is_name_at, is_name_at-same}
use Rattle.imap_world.specs.Effects.{if_filled, with_subscribed}
use Rattle.imap_world.specs.World.{NameSet, World, set_of, subscribed_by}
use Rattle.imap_tables.specs.Edits.{IsEpochOf, IsSubOf, KeepsOthers}
use Rattle.imap_world.proofs.Sets.{get_with_option, set_of-if_filled}
use Rattle.imap_records.specs.Columns.{epoch_values, subscription_values, tree_text}
use Rattle.imap_records.specs.Standing.{AreRows, Child, IsEpoch, IsMailbox, IsSubscription, IsUnder, Kept, StandFor, tree_of}
use Rattle.imap_records.specs.Standing.{entries, messages, gone, marks}
use Rattle.imap_records.specs.Steps.{AllowGaps, PutSubscription, RemoveSubscription, epoch_step}
use Rattle.imap_records.proofs.Closing.{same_some}
use Rattle.imap_records.proofs.Keys.{same_key, same_text}
use Rattle.imap_records.proofs.Making.{MakesStep}
use Rattle.imap_records.proofs.Rows.{acl_stays, epoch_stays, gone_stays, mailbox_stays, mark_stays, message_stays, rows_added, rows_alike, rows_left, same_rows, sub_stays}

-- ---- tables below mailboxes that stay

module _ (old new : Trees) (tree : ℕ) (keeps : KeepsOthers old new tree) where
  children_stay : eqb 2 tree ≡ false → eqb 4 tree ≡ false → eqb 6 tree ≡ false → eqb 8 tree ≡ false → (child : Child) → new (tree_of child) ≡ old (tree_of child)
  children_stay a b c d entries = acl_stays old new tree keeps a
  children_stay a b c d messages = message_stays old new tree keeps b
  children_stay a b c d gone = gone_stays old new tree keeps c
  children_stay a b c d marks = mark_stays old new tree keeps d

-- what a world with the same mailboxes has in their tables
mailbox_of : (w x : World) (id : Name → ℤ) (row : Row) → w.mailboxes ≡ x.mailboxes → IsMailbox w id row → IsMailbox x id row
mailbox_of w x id row same u = record { name = u.name; mailbox = u.mailbox; there = ap (λ m. map.get m u.name) (sym same) ∙ u.there; shown = u.shown }

under_of : (w x : World) (id : Name → ℤ) (kept : Name → Kept) (child : Child) (v : Row) → w.mailboxes ≡ x.mailboxes → IsUnder w id kept child v → IsUnder x id kept child v
under_of w x id kept child v same u = record { name = u.name; mailbox = u.mailbox; there = ap (λ m. map.get m u.name) (sym same) ∙ u.there; shown = u.shown }

-- ---- a UIDVALIDITY is put

abbrev IsAt : Name → Row → Type 0
IsAt name v = (column v 0 ≡ Words (tree_text name)) × (column v 1 ≡ Words (path_of name))

module _ (epochs : Names ℕ) (name : Name) (greatest : ℕ) (valid : IsName name) (named : (q : Name) (n : ℕ) → map.get epochs q ≡ Some n → IsName q) where
  abbrev put : Names ℕ
  put = map.insert epochs name greatest

  epoch_to : (v : Row) → (IsEpoch epochs v × ¬ IsAt name v) ⊎ (v ≡ epoch_values name greatest) → IsEpoch put v
  epoch_to v (inr is) = record {
    name = name;
    greatest = greatest;
    there = get_put epochs name greatest name ∙ ap (λ b. cond b (Some greatest) (map.get epochs name)) (is_name_at-same name);
    shown = is;
  }
  epoch_to v (inl (e, other)) = by (is_name_at e.name name) refl
    where
      by : (b : Bool) → is_name_at e.name name ≡ b → IsEpoch put v
      by true at =
          let same : e.name ≡ name = equal_names e.name name at in
          absurd (other (
            ap (λ (r : Row). column r 0) e.shown ∙ ap (λ n. Words (tree_text n)) same,
            ap (λ (r : Row). column r 1) e.shown ∙ ap (λ n. Words (path_of n)) same,
          ))
      by false at = record {
        name = e.name;
        greatest = e.greatest;
        there = get_put epochs name greatest e.name ∙ ap (λ b. cond b (Some greatest) (map.get epochs e.name)) at ∙ e.there;
        shown = e.shown;
      }

  epoch_from : (v : Row) → IsEpoch put v → (IsEpoch epochs v × ¬ IsAt name v) ⊎ (v ≡ epoch_values name greatest)
  epoch_from v e = by (is_name_at e.name name) refl (sym (get_put epochs name greatest e.name) ∙ e.there)
    where
      by : (b : Bool) → is_name_at e.name name ≡ b → cond b (Some greatest) (map.get epochs e.name) ≡ Some e.greatest → (IsEpoch epochs v × ¬ IsAt name v) ⊎ (v ≡ epoch_values name greatest)
      by true at is = inr (e.shown ∙ ap (λ n. epoch_values n e.greatest) (equal_names e.name name at) ∙ ap (epoch_values name) (sym (same_some greatest e.greatest is)))
      by false at is = inl (record { name = e.name; greatest = e.greatest; there = is; shown = e.shown }, λ here. apart at (same here))
        where
          same : IsAt name v → e.name ≡ name
          same here =
              same_key e.name name (named e.name e.greatest is) valid
              (same_text (tree_text e.name) (tree_text name) (sym (ap (λ (r : Row). column r 0) e.shown) ∙ here.0))
              (same_text (path_of e.name) (path_of name) (sym (ap (λ (r : Row). column r 1) e.shown) ∙ here.1))

          apart : is_name_at e.name name ≡ false → e.name ≡ name → ⊥
          apart at h = true≢false (sym (ap (λ n. is_name_at n name) h ∙ is_name_at-same name) ∙ at)

  put_named : (q : Name) (n : ℕ) → map.get put q ≡ Some n → IsName q
  put_named q n is = by (is_name_at q name) refl (sym (get_put epochs name greatest q) ∙ is)
    where
      by : (b : Bool) → is_name_at q name ≡ b → cond b (Some greatest) (map.get epochs q) ≡ Some n → IsName q
      by true at h = subst IsName (sym (equal_names q name at)) valid
      by false at h = named q n h

abbrev pub with_epoch : World → Name → ℕ → World
with_epoch world name greatest = record world { epochs = map.insert world.epochs name greatest }

pub epoch_put : (old new : Trees) (world : World) (name : Name) (greatest : ℕ) → IsName name → StandFor old world → MakesStep (epoch_step name greatest) old new → StandFor new (with_epoch world name greatest)
epoch_put old new world name greatest valid stand (mid, removes, adds) = record {
  id = stand.id;
  kept = stand.kept;
  found = stand.found;
  apart = stand.apart;
  named = record {
    mailboxes = stand.named.mailboxes;
    epochs = put_named world.epochs name greatest valid stand.named.epochs;
    subscriptions = stand.named.subscriptions;
  };
  mailboxes = λ row. subst (λ (rows : List Row). Has rows row ↔ IsMailbox (with_epoch world name greatest) stand.id row) (sym (mailbox_stays mid new 10 adds.others refl ∙ mailbox_stays old mid 10 removes.others refl))
      (λ has. mailbox_of world (with_epoch world name greatest) stand.id row refl ((stand.mailboxes row).0 has), λ u. (stand.mailboxes row).1 (mailbox_of (with_epoch world name greatest) world stand.id row refl u));
  below = λ child. same_rows (old (tree_of child)) (new (tree_of child)) (IsUnder (with_epoch world name greatest) stand.id stand.kept child)
      (children_stay mid new 10 adds.others refl refl refl refl child ∙ children_stay old mid 10 removes.others refl refl refl refl child)
      (rows_alike (old (tree_of child)) (IsUnder world stand.id stand.kept child) (IsUnder (with_epoch world name greatest) stand.id stand.kept child)
      (λ v. under_of world (with_epoch world name greatest) stand.id stand.kept child v refl) (λ v. under_of (with_epoch world name greatest) world stand.id stand.kept child v refl) (stand.below child));
  epochs = rows_alike (new 10) (λ v. (IsEpoch world.epochs v × ¬ IsAt name v) ⊎ (v ≡ epoch_values name greatest)) (IsEpoch (map.insert world.epochs name greatest))
      (epoch_to world.epochs name greatest valid stand.named.epochs) (epoch_from world.epochs name greatest valid stand.named.epochs)
      (rows_added mid new 10 (λ v. IsEpoch world.epochs v × ¬ IsAt name v)
      (rows_left old mid 10 (IsEpoch world.epochs) stand.epochs (IsEpochOf (tree_text name) (path_of name)) (IsAt name) (λ n v h. h) (λ n v h. h) removes)
      (epoch_values name greatest) adds);
  subscriptions = rows_alike (new 12) (IsSubscription world) (IsSubscription (with_epoch world name greatest))
      (λ v s. record { user = s.user; name = s.name; there = s.there; shown = s.shown }) (λ v s. record { user = s.user; name = s.name; there = s.there; shown = s.shown })
      (same_rows (old 12) (new 12) (IsSubscription world) (sub_stays mid new 10 adds.others refl ∙ sub_stays old mid 10 removes.others refl) stand.subscriptions);
}

-- ---- subscriptions

-- the names of each user after those of one are put
set_put : (world : World) (user : List ℕ) (names : NameSet) (u : List ℕ) → subscribed_by (with_subscribed world user names) u ≡ cond (bytes_eq u user) names (subscribed_by world u)
set_put world user names u =
    ap set_of (get_with_option world.subscriptions user (if_filled names) u)
    ∙ ap (λ b. set_of (cond b (if_filled names) (map.get world.subscriptions u))) (is_eq-slice_cmp u user)
    ∙ by (bytes_eq u user)
  where
    by : (b : Bool) → set_of (cond b (if_filled names) (map.get world.subscriptions u)) ≡ cond b names (subscribed_by world u)
    by true = set_of-if_filled names
    by false = refl

abbrev IsSubAt : (user : List ℕ) → Name → Row → Type 0
IsSubAt user name v = (column v 0 ≡ Words user) × (column v 1 ≡ Words (tree_text name)) × (column v 2 ≡ Words (path_of name))

-- the row is of a name of a user
module _ (world after : World) (user : List ℕ) (name : Name) (valid : IsName name) (named : (u : List ℕ) (q : Name) → map.contains_key (subscribed_by world u) q ≡ true → IsName q) where
  -- only the one may have changed
  abbrev IsElsewhere : Type 0
  IsElsewhere = (u : List ℕ) (q : Name) → (bytes_eq u user && is_name_at q name) ≡ false → map.contains_key (subscribed_by after u) q ≡ map.contains_key (subscribed_by world u) q

  one : (u : List ℕ) (q : Name) → (bytes_eq u user && is_name_at q name) ≡ true → (u ≡ user) × (q ≡ name)
  one u q e = let p = and_parts (bytes_eq u user) (is_name_at q name) e in ((bytes_eq-Decides u user).0 p.0, equal_names q name p.1)

  itself : (bytes_eq user user && is_name_at name name) ≡ true
  itself = λ i. (bytes_eq-Decides user user).1 refl i && is_name_at-same name i

  at_it : (u : List ℕ) (q : Name) → IsName q → (v : Row) → v ≡ subscription_values u q → IsSubAt user name v → (bytes_eq u user && is_name_at q name) ≡ true
  at_it u q good v shown here =
      let users : u ≡ user = same_text u user (sym (ap (λ (r : Row). column r 0) shown) ∙ here.0) in
      let names : q ≡ name = same_key q name good valid
      (same_text (tree_text q) (tree_text name) (sym (ap (λ (r : Row). column r 1) shown) ∙ here.1))
      (same_text (path_of q) (path_of name) (sym (ap (λ (r : Row). column r 2) shown) ∙ here.2)) in
      (λ i. bytes_eq (users i) user && is_name_at (names i) name) ∙ itself

  shows_it : (u : List ℕ) (q : Name) (v : Row) → v ≡ subscription_values u q → (bytes_eq u user && is_name_at q name) ≡ true → IsSubAt user name v
  shows_it u q v shown e =
      let p = one u q e in (
        ap (λ (r : Row). column r 0) shown ∙ ap (λ x. Words x) p.0,
        ap (λ (r : Row). column r 1) shown ∙ ap (λ n. Words (tree_text n)) p.1,
        ap (λ (r : Row). column r 2) shown ∙ ap (λ n. Words (path_of n)) p.1,
      )

  module _ (elsewhere : IsElsewhere) where
    stays : (v : Row) → IsSubscription world v → ¬ IsSubAt user name v → IsSubscription after v
    stays v s other = by (bytes_eq s.user user && is_name_at s.name name) refl
      where
        by : (b : Bool) → (bytes_eq s.user user && is_name_at s.name name) ≡ b → IsSubscription after v
        by true e = absurd (other (shows_it s.user s.name v s.shown e))
        by false e = record { user = s.user; name = s.name; there = elsewhere s.user s.name e ∙ s.there; shown = s.shown }

    stayed : (v : Row) (s : IsSubscription after v) → (bytes_eq s.user user && is_name_at s.name name) ≡ false → IsSubscription world v × ¬ IsSubAt user name v
    stayed v s e =
        let before : map.contains_key (subscribed_by world s.user) s.name ≡ true = sym (elsewhere s.user s.name e) ∙ s.there in (
          record { user = s.user; name = s.name; there = before; shown = s.shown },
          λ here. true≢false (sym (at_it s.user s.name (named s.user s.name before) v s.shown here) ∙ e),
        )

    -- it is there
    sub_to : map.contains_key (subscribed_by after user) name ≡ true → (v : Row) → (IsSubscription world v × ¬ IsSubAt user name v) ⊎ (v ≡ subscription_values user name) → IsSubscription after v
    sub_to there v (inl (s, other)) = stays v s other
    sub_to there v (inr is) = record { user = user; name = name; there = there; shown = is }

    sub_from : (v : Row) → IsSubscription after v → (IsSubscription world v × ¬ IsSubAt user name v) ⊎ (v ≡ subscription_values user name)
    sub_from v s = by (bytes_eq s.user user && is_name_at s.name name) refl
      where
        by : (b : Bool) → (bytes_eq s.user user && is_name_at s.name name) ≡ b → (IsSubscription world v × ¬ IsSubAt user name v) ⊎ (v ≡ subscription_values user name)
        by true e = let p = one s.user s.name e in inr (s.shown ∙ ap (λ u. subscription_values u s.name) p.0 ∙ ap (subscription_values user) p.1)
        by false e = inl (stayed v s e)

    -- it is not there
    gone_from : map.contains_key (subscribed_by after user) name ≡ false → (v : Row) → IsSubscription after v → IsSubscription world v × ¬ IsSubAt user name v
    gone_from absent v s = by (bytes_eq s.user user && is_name_at s.name name) refl
      where
        by : (b : Bool) → (bytes_eq s.user user && is_name_at s.name name) ≡ b → IsSubscription world v × ¬ IsSubAt user name v
        by true e =
            let p = one s.user s.name e in
            absurd (true≢false (sym s.there ∙ ap (λ u. map.contains_key (subscribed_by after u) s.name) p.0 ∙ ap (map.contains_key (subscribed_by after user)) p.1 ∙ absent))
        by false e = stayed v s e

    after_named : (u : List ℕ) (q : Name) → map.contains_key (subscribed_by after u) q ≡ true → IsName q
    after_named u q there = by (bytes_eq u user && is_name_at q name) refl
      where
        by : (b : Bool) → (bytes_eq u user && is_name_at q name) ≡ b → IsName q
        by true e = subst IsName (sym (one u q e).1) valid
        by false e = named u q (sym (elsewhere u q e) ∙ there)

-- ---- the tables of subscriptions

module _ (world : World) (user : List ℕ) (name : Name) where
  abbrev subscribed : World
  subscribed = with_subscribed world user (map.insert (subscribed_by world user) name tt)

  abbrev unsubscribed : World
  unsubscribed = with_subscribed world user (map.remove (subscribed_by world user) name)

  pub sub_elsewhere : (u : List ℕ) (q : Name) → (bytes_eq u user && is_name_at q name) ≡ false → map.contains_key (subscribed_by subscribed u) q ≡ map.contains_key (subscribed_by world u) q
  sub_elsewhere u q e =
      ap (λ m. map.contains_key m q) (set_put world user (map.insert (subscribed_by world user) name tt) u)
      ∙ by (bytes_eq u user) refl (is_name_at q name) refl e
    where
      by : (b : Bool) → bytes_eq u user ≡ b → (c : Bool) → is_name_at q name ≡ c → (b && c) ≡ false
          → map.contains_key (cond b (map.insert (subscribed_by world user) name tt) (subscribed_by world u)) q ≡ map.contains_key (subscribed_by world u) q
      by true hb true hc h = absurd (true≢false h)
      by true hb false hc h =
          ap is_some (get_put (subscribed_by world user) name tt q) ∙ ap (λ c. is_some (cond c (Some tt) (map.get (subscribed_by world user) q))) hc
          ∙ ap (λ x. map.contains_key (subscribed_by world x) q) (sym ((bytes_eq-Decides u user).0 hb))
      by false hb c hc h = refl

  pub unsub_elsewhere : (u : List ℕ) (q : Name) → (bytes_eq u user && is_name_at q name) ≡ false → map.contains_key (subscribed_by unsubscribed u) q ≡ map.contains_key (subscribed_by world u) q
  unsub_elsewhere u q e =
      ap (λ m. map.contains_key m q) (set_put world user (map.remove (subscribed_by world user) name) u)
      ∙ by (bytes_eq u user) refl (is_name_at q name) refl e
    where
      by : (b : Bool) → bytes_eq u user ≡ b → (c : Bool) → is_name_at q name ≡ c → (b && c) ≡ false
          → map.contains_key (cond b (map.remove (subscribed_by world user) name) (subscribed_by world u)) q ≡ map.contains_key (subscribed_by world u) q
      by true hb true hc h = absurd (true≢false h)
      by true hb false hc h =
          ap is_some (get_without (subscribed_by world user) name q) ∙ ap (λ c. is_some (cond c None (map.get (subscribed_by world user) q))) hc
          ∙ ap (λ x. map.contains_key (subscribed_by world x) q) (sym ((bytes_eq-Decides u user).0 hb))
      by false hb c hc h = refl

  sub_there : map.contains_key (subscribed_by subscribed user) name ≡ true
  sub_there =
      ap (λ m. map.contains_key m name) (set_put world user (map.insert (subscribed_by world user) name tt) user)
      ∙ ap (λ b. map.contains_key (cond b (map.insert (subscribed_by world user) name tt) (subscribed_by world user)) name) ((bytes_eq-Decides user user).1 refl)
      ∙ ap is_some (get_put (subscribed_by world user) name tt name) ∙ ap (λ c. is_some (cond c (Some tt) (map.get (subscribed_by world user) name))) (is_name_at-same name)

  pub sub_absent : map.contains_key (subscribed_by unsubscribed user) name ≡ false
  sub_absent =
      ap (λ m. map.contains_key m name) (set_put world user (map.remove (subscribed_by world user) name) user)
      ∙ ap (λ b. map.contains_key (cond b (map.remove (subscribed_by world user) name) (subscribed_by world user)) name) ((bytes_eq-Decides user user).1 refl)
      ∙ ap is_some (get_without (subscribed_by world user) name name) ∙ ap (λ c. is_some (cond c None (map.get (subscribed_by world user) name))) (is_name_at-same name)

-- a world with the same mailboxes and UIDVALIDITYs, and its subscriptions
subscriptions_changed : (old new : Trees) (world after : World) → StandFor old world → after.mailboxes ≡ world.mailboxes → after.epochs ≡ world.epochs → new 0 ≡ old 0
    → ((child : Child) → new (tree_of child) ≡ old (tree_of child)) → new 10 ≡ old 10 → ((u : List ℕ) (q : Name) → map.contains_key (subscribed_by after u) q ≡ true → IsName q)
    → AreRows (new 12) (IsSubscription after) → StandFor new after
subscriptions_changed old new world after stand same epochs z children ten named rows = record {
  id = stand.id;
  kept = stand.kept;
  found = λ q m h. stand.found q m (ap (λ k. map.get k q) (sym same) ∙ h);
  apart = λ a b m n ha hb e. stand.apart a b m n (ap (λ k. map.get k a) (sym same) ∙ ha) (ap (λ k. map.get k b) (sym same) ∙ hb) e;
  named = record {
    mailboxes = λ q m h. stand.named.mailboxes q m (ap (λ k. map.get k q) (sym same) ∙ h);
    epochs = λ q n h. stand.named.epochs q n (ap (λ k. map.get k q) (sym epochs) ∙ h);
    subscriptions = named;
  };
  mailboxes = λ row. subst (λ (rows : List Row). Has rows row ↔ IsMailbox after stand.id row) (sym z)
      (λ has. mailbox_of world after stand.id row (sym same) ((stand.mailboxes row).0 has), λ u. (stand.mailboxes row).1 (mailbox_of after world stand.id row same u));
  below = λ child. same_rows (old (tree_of child)) (new (tree_of child)) (IsUnder after stand.id stand.kept child) (children child)
      (rows_alike (old (tree_of child)) (IsUnder world stand.id stand.kept child) (IsUnder after stand.id stand.kept child) (λ v. under_of world after stand.id stand.kept child v (sym same)) (λ v. under_of after world stand.id stand.kept child v same) (stand.below child));
  epochs = same_rows (old 10) (new 10) (IsEpoch after.epochs) ten (subst (λ k. AreRows (old 10) (IsEpoch k)) (sym epochs) stand.epochs);
  subscriptions = rows;
}

pub subscription_put : (old new : Trees) (world : World) (user : List ℕ) (name : Name) → IsName name → StandFor old world → MakesStep (PutSubscription user (tree_text name) (path_of name)) old new
    → StandFor new (with_subscribed world user (map.insert (subscribed_by world user) name tt))
subscription_put old new world user name valid stand (mid, removes, adds) =
    let after : World = with_subscribed world user (map.insert (subscribed_by world user) name tt) in
    let named = stand.named.subscriptions in
    let elsewhere = sub_elsewhere world user name in
    subscriptions_changed old new world after stand refl refl (mailbox_stays mid new 12 adds.others refl ∙ mailbox_stays old mid 12 removes.others refl)
    (λ child. children_stay mid new 12 adds.others refl refl refl refl child ∙ children_stay old mid 12 removes.others refl refl refl refl child)
    (epoch_stays mid new 12 adds.others refl ∙ epoch_stays old mid 12 removes.others refl) (after_named world after user name valid named elsewhere)
    (rows_alike (new 12) (λ v. (IsSubscription world v × ¬ IsSubAt user name v) ⊎ (v ≡ subscription_values user name)) (IsSubscription after)
    (sub_to world after user name valid named elsewhere (sub_there world user name)) (sub_from world after user name valid named elsewhere)
    (rows_added mid new 12 (λ v. IsSubscription world v × ¬ IsSubAt user name v)
    (rows_left old mid 12 (IsSubscription world) stand.subscriptions (IsSubOf user (tree_text name) (path_of name)) (IsSubAt user name) (λ n v h. h) (λ n v h. h) removes)
    (subscription_values user name) adds))

pub subscription_removed : (old new : Trees) (world : World) (user : List ℕ) (name : Name) → IsName name → StandFor old world → MakesStep (RemoveSubscription user (tree_text name) (path_of name)) old new
    → StandFor new (with_subscribed world user (map.remove (subscribed_by world user) name))
subscription_removed old new world user name valid stand removes =
    let after : World = with_subscribed world user (map.remove (subscribed_by world user) name) in
    let named = stand.named.subscriptions in
    let elsewhere = unsub_elsewhere world user name in
    subscriptions_changed old new world after stand refl refl (mailbox_stays old new 12 removes.others refl) (λ child. children_stay old new 12 removes.others refl refl refl refl child)
    (epoch_stays old new 12 removes.others refl) (after_named world after user name valid named elsewhere)
    (rows_alike (new 12) (λ v. IsSubscription world v × ¬ IsSubAt user name v) (IsSubscription after)
    (λ v h. stays world after user name valid named elsewhere v h.0 h.1) (gone_from world after user name valid named elsewhere (sub_absent world user name))
    (rows_left old new 12 (IsSubscription world) stand.subscriptions (IsSubOf user (tree_text name) (path_of name)) (IsSubAt user name) (λ n v h. h) (λ n v h. h) removes))

-- the tables say that own changes may be missing
pub gaps_allowed : (old new : Trees) (world : World) → StandFor old world → MakesStep AllowGaps old new → StandFor new world
gaps_allowed old new world stand sets =
    subscriptions_changed old new world world stand refl refl (mailbox_stays old new 14 sets.others refl) (λ child. children_stay old new 14 sets.others refl refl refl refl child)
    (epoch_stays old new 14 sets.others refl) stand.named.subscriptions (same_rows (old 12) (new 12) (IsSubscription world) (sub_stays old new 14 sets.others refl) stand.subscriptions)
