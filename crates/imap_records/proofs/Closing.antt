-- A mailbox of a world that is set beside the others, and put among them again.
use Rattle.std.proofs.Common.{◌≡◌, ◌≢◌, ◌⊎◌, inl, inr, ℤ, Bool, true, false, cond, List, Option, Some, None, refl, sym, ap, subst, ◌∙◌}
use Rattle.std.specs.Prelude.{unwrap_or}
use Rattle.std.specs.FinMap as map
use Rattle.sqlite.specs.Order.{Row}
use Rattle.sqlite.specs.Tree.{Trees}
use Rattle.imap_names.specs.Name.{Name}
use Rattle.imap_names.specs.Order.{Names}
use Rattle.imap_names.specs.Valid.{IsName}
use Rattle.imap_names.proofs.NameLaws.{equal_names, get_put, get_without, is_name_at, is_name_at-same, same_names}
use Rattle.imap_world.specs.Mailbox.{Mailbox}
use Rattle.imap_world.specs.Tree.{without}
use Rattle.imap_world.specs.World.{World}
use Rattle.imap_records.specs.Columns.{row_of_mailbox}
use Rattle.imap_records.specs.Standing.{AreAllFound, AreApart, AreFound, AreNames, AreRows, Child, IsMailbox, IsOf, IsSubscription, IsUnder, Kept, StandFor, tree_of}
use Rattle.imap_records.specs.Standing.{entries, messages, gone, marks}
use Rattle.imap_records.proofs.Rows.{rows_alike}
use Rattle.imap_records.proofs.Beside.{IsBeside, IsFree}

-- two of one option
pub same_some : {X : Type 0} (x y : X) → ◌≡◌ {A = Option X} (Some x) (Some y) → x ≡ y
same_some x y e = ap (λ o. unwrap_or o x) e

-- the mailbox is there as it is, besides the others
abbrev pub IsSetBeside : World → (id : Name → ℤ) → (kept : Name → Kept) → (i : ℤ) → Trees → Row → Mailbox → Kept → Type 0
IsSetBeside B id kept i db own m k = IsBeside B id kept db own (λ v. IsOf entries m k i v) (λ v. IsOf messages m k i v) (λ v. IsOf gone m k i v) (λ v. IsOf marks m k i v)

abbrev pub with_mailbox : World → Name → Mailbox → World
with_mailbox world name m = record world { mailboxes = map.insert world.mailboxes name m }

-- ---- one is set beside

module _ (world : World) (name : Name) (m : Mailbox) (there : map.get world.mailboxes name ≡ Some m) where
  absent : map.get (without world name).mailboxes name ≡ None
  absent = get_without world.mailboxes name name ∙ ap (λ b. cond b None (map.get world.mailboxes name)) (is_name_at-same name)

  among : (q : Name) (k : Mailbox) → map.get (without world name).mailboxes q ≡ Some k → (map.get world.mailboxes q ≡ Some k) × (q ≢ name)
  among q k is = (by (is_name_at q name) (sym (get_without world.mailboxes name q) ∙ is), λ e. none (sym (ap (map.get (without world name).mailboxes) e ∙ absent) ∙ is))
    where
      none : ◌≡◌ {A = Option Mailbox} None (Some k) → ⊥
      none e = cc e

      by : (b : Bool) → cond b None (map.get world.mailboxes q) ≡ Some k → map.get world.mailboxes q ≡ Some k
      by true e = absurd (none e)
      by false e = e

  stays : (q : Name) (k : Mailbox) → is_name_at q name ≡ false → map.get world.mailboxes q ≡ Some k → map.get (without world name).mailboxes q ≡ Some k
  stays q k apart is = get_without world.mailboxes name q ∙ ap (λ b. cond b None (map.get world.mailboxes q)) apart ∙ is

  module _ (id : Name → ℤ) (kept : Name → Kept) where
    here_or_there : (child : Child) (v : Row) → IsUnder world id kept child v → IsOf child m (kept name) (id name) v ⊎ IsUnder (without world name) id kept child v
    here_or_there child v u = by (is_name_at u.name name) refl
      where
        by : (b : Bool) → is_name_at u.name name ≡ b → IsOf child m (kept name) (id name) v ⊎ IsUnder (without world name) id kept child v
        by true e =
            let same : u.name ≡ name = equal_names u.name name e in
            let k : u.mailbox ≡ m = same_some u.mailbox m (sym u.there ∙ ap (map.get world.mailboxes) same ∙ there) in
            inl (subst (λ (n : Name). IsOf child m (kept n) (id n) v) same (subst (λ (x : Mailbox). IsOf child x (kept u.name) (id u.name) v) k u.shown))
        by false e = inr (record { name = u.name; mailbox = u.mailbox; there = stays u.name u.mailbox e u.there; shown = u.shown })

    from_here : (child : Child) (v : Row) → IsOf child m (kept name) (id name) v ⊎ IsUnder (without world name) id kept child v → IsUnder world id kept child v
    from_here child v (inl h) = record { name = name; mailbox = m; there = there; shown = h }
    from_here child v (inr u) = record { name = u.name; mailbox = u.mailbox; there = (among u.name u.mailbox u.there).0; shown = u.shown }

    own_or_other : (row : Row) → IsMailbox world id row → (row ≡ row_of_mailbox name m (id name)) ⊎ IsMailbox (without world name) id row
    own_or_other row u = by (is_name_at u.name name) refl
      where
        by : (b : Bool) → is_name_at u.name name ≡ b → (row ≡ row_of_mailbox name m (id name)) ⊎ IsMailbox (without world name) id row
        by true e =
            let same : u.name ≡ name = equal_names u.name name e in
            let k : u.mailbox ≡ m = same_some u.mailbox m (sym u.there ∙ ap (map.get world.mailboxes) same ∙ there) in
            inl (u.shown ∙ ap (λ (x : Mailbox). row_of_mailbox u.name x (id u.name)) k ∙ ap (λ (n : Name). row_of_mailbox n m (id n)) same)
        by false e = inr (record { name = u.name; mailbox = u.mailbox; there = stays u.name u.mailbox e u.there; shown = u.shown })

    from_own : (row : Row) → (row ≡ row_of_mailbox name m (id name)) ⊎ IsMailbox (without world name) id row → IsMailbox world id row
    from_own row (inl is) = record { name = name; mailbox = m; there = there; shown = is }
    from_own row (inr u) = record { name = u.name; mailbox = u.mailbox; there = (among u.name u.mailbox u.there).0; shown = u.shown }

  module _ (db : Trees) (stand : StandFor db world) where
    below_of : (child : Child) → AreRows (db (tree_of child)) (λ v. IsOf child m (stand.kept name) (stand.id name) v ⊎ IsUnder (without world name) stand.id stand.kept child v)
    below_of child = rows_alike (db (tree_of child)) (IsUnder world stand.id stand.kept child) (λ v. IsOf child m (stand.kept name) (stand.id name) v ⊎ IsUnder (without world name) stand.id stand.kept child v)
        (here_or_there stand.id stand.kept child) (from_here stand.id stand.kept child) (stand.below child)

    pub set_beside : IsSetBeside (without world name) stand.id stand.kept (stand.id name) db (row_of_mailbox name m (stand.id name)) m (stand.kept name)
    set_beside = record {
      mailboxes = λ row. (λ has. own_or_other stand.id stand.kept row ((stand.mailboxes row).0 has), λ h. (stand.mailboxes row).1 (from_own stand.id stand.kept row h));
      acl = below_of entries;
      there = below_of messages;
      went = below_of gone;
      seen = below_of marks;
      epochs = stand.epochs;
      subscriptions = subscribed (db 12) stand.subscriptions;
    }
      where
        subscribed : (rows : List Row) → AreRows rows (IsSubscription world) → AreRows rows (IsSubscription (without world name))
        subscribed rows are = rows_alike rows (IsSubscription world) (IsSubscription (without world name))
            (λ v s. record { user = s.user; name = s.name; there = s.there; shown = s.shown })
            (λ v s. record { user = s.user; name = s.name; there = s.there; shown = s.shown }) are

    pub others_free : IsFree (without world name) stand.id (stand.id name)
    others_free q k is same = (among q k is).1 (stand.apart q name k m (among q k is).0 there same)

    pub others_apart : AreApart (without world name) stand.id
    others_apart a b k l ka lb same = stand.apart a b k l (among a k ka).0 (among b l lb).0 same

    pub others_named : AreNames (without world name)
    others_named = record {
      mailboxes = λ q k is. stand.named.mailboxes q k (among q k is).0;
      epochs = stand.named.epochs;
      subscriptions = stand.named.subscriptions;
    }

    pub others_found : AreAllFound (without world name) stand.kept
    others_found q k is = stand.found q k (among q k is).0

  pub none_left : map.get (without world name).mailboxes name ≡ None
  none_left = absent

  pub put_again : (n : Mailbox) → with_mailbox (without world name) name n ≡ with_mailbox world name n
  put_again n = ap (λ (mailboxes : Names Mailbox). record world { mailboxes = mailboxes })
      (same_names (map.insert (map.remove world.mailboxes name) name n) (map.insert world.mailboxes name n) (λ q.
      get_put (map.remove world.mailboxes name) name n q
      ∙ ap (λ o. cond (is_name_at q name) (Some n) o) (get_without world.mailboxes name q)
      ∙ by q (is_name_at q name)
      ∙ sym (get_put world.mailboxes name n q)))
    where
      by : (q : Name) (b : Bool) → cond b (Some n) (cond b None (map.get world.mailboxes q)) ≡ cond b (Some n) (map.get world.mailboxes q)
      by q true = refl
      by q false = refl

-- ---- it is put among the others

module _ (B : World) (id : Name → ℤ) (kept : Name → Kept) (name : Name) (i : ℤ) (own : Kept) (m : Mailbox) (none : map.get B.mailboxes name ≡ None) where
  -- the ids, that of the mailbox too, and the own changes that are kept
  abbrev id_with : Name → ℤ
  id_with q = cond (is_name_at q name) i (id q)

  abbrev kept_with : Name → Kept
  kept_with q = cond (is_name_at q name) own (kept q)

  abbrev all : World
  all = with_mailbox B name m

  id_here : id_with name ≡ i
  id_here = ap (λ b. cond b i (id name)) (is_name_at-same name)

  kept_here : kept_with name ≡ own
  kept_here = ap (λ b. cond b own (kept name)) (is_name_at-same name)

  get_here : map.get all.mailboxes name ≡ Some m
  get_here = get_put B.mailboxes name m name ∙ ap (λ b. cond b (Some m) (map.get B.mailboxes name)) (is_name_at-same name)

  -- another's name
  other : (q : Name) (k : Mailbox) → map.get B.mailboxes q ≡ Some k → is_name_at q name ≡ false
  other q k is = by (is_name_at q name) refl
    where
      by : (b : Bool) → is_name_at q name ≡ b → b ≡ false
      by true e = absurd (cc (sym none ∙ ap (map.get B.mailboxes) (sym (equal_names q name e)) ∙ is))
      by false e = refl

  id_there : (q : Name) (k : Mailbox) → map.get B.mailboxes q ≡ Some k → id_with q ≡ id q
  id_there q k is = ap (λ b. cond b i (id q)) (other q k is)

  kept_there : (q : Name) (k : Mailbox) → map.get B.mailboxes q ≡ Some k → kept_with q ≡ kept q
  kept_there q k is = ap (λ b. cond b own (kept q)) (other q k is)

  get_there : (q : Name) (k : Mailbox) → map.get B.mailboxes q ≡ Some k → map.get all.mailboxes q ≡ Some k
  get_there q k is = get_put B.mailboxes name m q ∙ ap (λ b. cond b (Some m) (map.get B.mailboxes q)) (other q k is) ∙ is

  -- each is that mailbox, or one of the others
  which : (q : Name) (k : Mailbox) → map.get all.mailboxes q ≡ Some k → ((q ≡ name) × (k ≡ m)) ⊎ (map.get B.mailboxes q ≡ Some k)
  which q k is = by (is_name_at q name) refl (sym (get_put B.mailboxes name m q) ∙ is)
    where
      by : (b : Bool) → is_name_at q name ≡ b → cond b (Some m) (map.get B.mailboxes q) ≡ Some k → ((q ≡ name) × (k ≡ m)) ⊎ (map.get B.mailboxes q ≡ Some k)
      by true e h = inl (equal_names q name e, sym (same_some m k h))
      by false e h = inr h

  under_all : (child : Child) (v : Row) → IsOf child m own i v ⊎ IsUnder B id kept child v → IsUnder all id_with kept_with child v
  under_all child v (inl h) =
      record { name = name; mailbox = m; there = get_here; shown = subst (λ (k : Kept). IsOf child m k (id_with name) v) (sym kept_here) (subst (λ (n : ℤ). IsOf child m own n v) (sym id_here) h) }
  under_all child v (inr u) =
      record {
        name = u.name;
        mailbox = u.mailbox;
        there = get_there u.name u.mailbox u.there;
        shown = subst (λ (k : Kept). IsOf child u.mailbox k (id_with u.name) v) (sym (kept_there u.name u.mailbox u.there))
            (subst (λ (n : ℤ). IsOf child u.mailbox (kept u.name) n v) (sym (id_there u.name u.mailbox u.there)) u.shown);
      }

  from_all : (child : Child) (v : Row) → IsUnder all id_with kept_with child v → IsOf child m own i v ⊎ IsUnder B id kept child v
  from_all child v u = by (which u.name u.mailbox u.there)
    where
      by : ((u.name ≡ name) × (u.mailbox ≡ m)) ⊎ (map.get B.mailboxes u.name ≡ Some u.mailbox) → IsOf child m own i v ⊎ IsUnder B id kept child v
      by (inl (same, k)) =
          inl (subst (λ (x : Kept). IsOf child m x i v) (ap kept_with same ∙ kept_here)
          (subst (λ (n : ℤ). IsOf child m (kept_with u.name) n v) (ap id_with same ∙ id_here) (subst (λ (x : Mailbox). IsOf child x (kept_with u.name) (id_with u.name) v) k u.shown)))
      by (inr is) = inr (record {
        name = u.name;
        mailbox = u.mailbox;
        there = is;
        shown = subst (λ (x : Kept). IsOf child u.mailbox x (id u.name) v) (kept_there u.name u.mailbox is)
            (subst (λ (n : ℤ). IsOf child u.mailbox (kept_with u.name) n v) (id_there u.name u.mailbox is) u.shown);
      })

  row_all : (row : Row) → (row ≡ row_of_mailbox name m i) ⊎ IsMailbox B id row → IsMailbox all id_with row
  row_all row (inl is) = record { name = name; mailbox = m; there = get_here; shown = is ∙ ap (row_of_mailbox name m) (sym id_here) }
  row_all row (inr u) =
      record { name = u.name; mailbox = u.mailbox; there = get_there u.name u.mailbox u.there; shown = u.shown ∙ ap (row_of_mailbox u.name u.mailbox) (sym (id_there u.name u.mailbox u.there)) }

  row_from_all : (row : Row) → IsMailbox all id_with row → (row ≡ row_of_mailbox name m i) ⊎ IsMailbox B id row
  row_from_all row u = by (which u.name u.mailbox u.there)
    where
      by : ((u.name ≡ name) × (u.mailbox ≡ m)) ⊎ (map.get B.mailboxes u.name ≡ Some u.mailbox) → (row ≡ row_of_mailbox name m i) ⊎ IsMailbox B id row
      by (inl (same, k)) =
          inl (u.shown ∙ ap (λ (x : Mailbox). row_of_mailbox u.name x (id_with u.name)) k ∙ ap (λ (n : Name). row_of_mailbox n m (id_with n)) same ∙ ap (row_of_mailbox name m) id_here)
      by (inr is) = inr (record { name = u.name; mailbox = u.mailbox; there = is; shown = u.shown ∙ ap (row_of_mailbox u.name u.mailbox) (id_there u.name u.mailbox is) })

  module _ (free : IsFree B id i) (apart : AreApart B id) (named : AreNames B) (found : AreAllFound B kept) (valid : IsName name) (here : AreFound own m.messages) where
    all_apart : AreApart all id_with
    all_apart a b k l ka lb same = by (which a k ka) (which b l lb)
      where
        by : ((a ≡ name) × (k ≡ m)) ⊎ (map.get B.mailboxes a ≡ Some k) → ((b ≡ name) × (l ≡ m)) ⊎ (map.get B.mailboxes b ≡ Some l) → a ≡ b
        by (inl x) (inl y) = x.0 ∙ sym y.0
        by (inl x) (inr y) = absurd (free b l y (sym (id_there b l y) ∙ sym same ∙ ap id_with x.0 ∙ id_here))
        by (inr x) (inl y) = absurd (free a k x (sym (id_there a k x) ∙ same ∙ ap id_with y.0 ∙ id_here))
        by (inr x) (inr y) = apart a b k l x y (sym (id_there a k x) ∙ same ∙ id_there b l y)

    all_named : AreNames all
    all_named = record { mailboxes = each; epochs = named.epochs; subscriptions = named.subscriptions }
      where
        each : (q : Name) (k : Mailbox) → map.get all.mailboxes q ≡ Some k → IsName q
        each q k is = by (which q k is)
          where
            by : ((q ≡ name) × (k ≡ m)) ⊎ (map.get B.mailboxes q ≡ Some k) → IsName q
            by (inl x) = subst IsName (sym x.0) valid
            by (inr h) = named.mailboxes q k h

    all_found : AreAllFound all kept_with
    all_found q k is = by (which q k is)
      where
        by : ((q ≡ name) × (k ≡ m)) ⊎ (map.get B.mailboxes q ≡ Some k) → AreFound (kept_with q) k.messages
        by (inl x) = subst (λ (l : Kept). AreFound l k.messages) (sym (ap kept_with x.0 ∙ kept_here)) (subst (λ (n : Mailbox). AreFound own n.messages) (sym x.1) here)
        by (inr h) = subst (λ (l : Kept). AreFound l k.messages) (sym (kept_there q k h)) (found q k h)

    pub put_among : (db : Trees) → IsSetBeside B id kept i db (row_of_mailbox name m i) m own → StandFor db (with_mailbox B name m)
    put_among db b = record {
      id = id_with;
      kept = kept_with;
      apart = all_apart;
      named = all_named;
      found = all_found;
      mailboxes = λ row. (λ has. row_all row ((b.mailboxes row).0 has), λ h. (b.mailboxes row).1 (row_from_all row h));
      below = below;
      epochs = b.epochs;
      subscriptions = rows_alike (db 12) (IsSubscription B) (IsSubscription all)
          (λ v s. record { user = s.user; name = s.name; there = s.there; shown = s.shown })
          (λ v s. record { user = s.user; name = s.name; there = s.there; shown = s.shown }) b.subscriptions;
    }
      where
        among_all : (child : Child) → AreRows (db (tree_of child)) (λ v. IsOf child m own i v ⊎ IsUnder B id kept child v) → AreRows (db (tree_of child)) (IsUnder all id_with kept_with child)
        among_all child are = rows_alike (db (tree_of child)) (λ v. IsOf child m own i v ⊎ IsUnder B id kept child v) (IsUnder all id_with kept_with child) (under_all child) (from_all child) are

        below : (child : Child) → AreRows (db (tree_of child)) (IsUnder all id_with kept_with child)
        below entries = among_all entries b.acl
        below messages = among_all messages b.there
        below gone = among_all gone b.went
        below marks = among_all marks b.seen
