-- Tables stand for one world at most.
use Rattle.std.proofs.Common.{◌≡◌, ◌≢◌, ◌⊎◌, inl, inr, ℕ, suc, ◌+◌, ◌<◌, ◌≤◌, Bool, true, false, List, [], ◌∷◌, map as map_list, Option, Some, None, is_some, refl, sym, ap, subst, ◌∙◌, true≢false, arith}
use Rattle.std.specs.Prelude.{option_and_then, unwrap_or}
use Rattle.std.specs.Cmp.Lexicographic.{nat_list_cmp_total, slice_cmp}
use Rattle.std.specs.Ordering.{is_lt, nat_cmp, ordering_reverse}
use Rattle.std.specs.declared.cmp.Ordering.{Ordering}
use Rattle.std.specs.declared.cmp.Ordering.TheVariants.{Less, Equal, Greater}
use Rattle.std.specs.FinMap as map
use Rattle.std.specs.FinMap.{entries_sorted, same_entries_map}
use Rattle.std.specs.FinMap.Entries.{below_all, is_sorted}
use Rattle.std.proofs.lemmas.Bool.{and_parts}
use Rattle.sqlite.specs.declared.types.Value.TheVariants.{Int}
use Rattle.sqlite.specs.Order.{Row, column}
use Rattle.sqlite.specs.Tree.{Trees}
use Rattle.sqlite_rules.specs.Lists.{Has}
use Rattle.imap_mailbox.specs.declared.message.GoneMessage.{GoneMessage}
use Rattle.imap_mailbox.specs.declared.message.Message.{Message}
use Rattle.imap_mailbox.specs.declared.kept_change.KeptChange.{KeptChange}
use Rattle.imap_mailbox.specs.Held.{IsKept}
use Rattle.imap_mailbox.specs.KeptRows.{AreKept}
use Rattle.imap_mailbox.specs.Own.{Own, found_in, no_own, own_at}
use Rattle.imap_mailbox.specs.Summary.{Rises}
use Rattle.imap_names.specs.Name.{Name, path_of}
use Rattle.imap_names.proofs.NameLaws.{same_names}
use Rattle.imap_name_map.specs.Rows as name
use Rattle.imap_name_map.proofs.Cuts.{is_true}
use Rattle.imap_rights.specs.Acl.{AclMap}
use Rattle.imap_user_map.specs.Rows.{Users}
use Rattle.imap_user_map.proofs.Entries.{same_answers}
use Rattle.imap_world.specs.Effects.{if_filled}
use Rattle.imap_world.specs.Mailbox.{Mailbox}
use Rattle.imap_world.specs.Stored.{Subscriptions, filled_sets, names_in}
use Rattle.imap_world.specs.World.{World, set_of, subscribed_by}
use Rattle.imap_world.proofs.Sets.{get_filled, if_filled-empty, names_in_filled}
use Rattle.imap_records.specs.Columns.{entry_values, epoch_values, gone_values, mark_values, message_values, row_of_mailbox, subscription_values, tree_text}
use Rattle.imap_records.specs.Laws.{StandForOne}
use Rattle.imap_records.specs.Standing.{Child, IsEpoch, IsMailbox, IsOf, IsSubscription, IsUnder, StandFor}
use Rattle.imap_records.specs.Standing.{entries, messages, gone, marks}
use Rattle.imap_records.specs.Values.{WorldHasValues}
use Rattle.imap_records.proofs.Beside.{first_of, same_id}
use Rattle.imap_records.proofs.Closing.{same_some}
use Rattle.imap_records.proofs.Injective.{same_gone, same_mark, same_message, same_number}
use Rattle.imap_records.proofs.Keys.{same_key, same_text}

abbrev tail_of : Row → Row
tail_of [] = []
tail_of (v ∷ values) = values

-- ---- lists in order with the same elements

module _ {X : Type 0} (Before : X → X → Type 0) (one_way : (x y : X) → Before x y → Before y x → ⊥) where
  -- each comes before those after it
  abbrev InOrder : List X → Type 0
  InOrder [] = Unit {0}
  InOrder (x ∷ xs) = ((y : X) → Has xs y → Before x y) × InOrder xs

  same_lists : (xs ys : List X) → InOrder xs → InOrder ys → ((x : X) → Has xs x → Has ys x) → ((x : X) → Has ys x → Has xs x) → xs ≡ ys
  same_lists [] [] hx hy to from = refl
  same_lists [] (y ∷ ys) hx hy to from = absurd (from y (inl refl))
  same_lists (x ∷ xs) [] hx hy to from = absurd (to x (inl refl))
  same_lists (x ∷ xs) (y ∷ ys) hx hy to from = λ i. first i ∷ same_lists xs ys hx.1 hy.1 later earlier i
    where
      by : (x ≡ y) ⊎ Has ys x → (y ≡ x) ⊎ Has xs y → x ≡ y
      by (inl e) h = e
      by (inr h) (inl e) = sym e
      by (inr h) (inr k) = absurd (one_way x y (hx.0 y k) (hy.0 x h))

      first : x ≡ y
      first = by (to x (inl refl)) (from y (inl refl))

      later : (z : X) → Has xs z → Has ys z
      later z h = not_first (to z (inr h))
        where
          not_first : (z ≡ y) ⊎ Has ys z → Has ys z
          not_first (inl e) = let at : Before x x = subst (Before x) (e ∙ sym first) (hx.0 z h) in absurd (one_way x x at at)
          not_first (inr k) = k

      earlier : (z : X) → Has ys z → Has xs z
      earlier z h = not_first (from z (inr h))
        where
          not_first : (z ≡ x) ⊎ Has xs z → Has xs z
          not_first (inl e) = let at : Before y y = subst (Before y) (e ∙ first) (hy.0 z h) in absurd (one_way y y at at)
          not_first (inr k) = k

-- numbers that rise
rises_after : {X : Type 0} (f : X → ℕ) (xs : List X) (low high : ℕ) → Rises low high (map_list f xs) → (y : X) → Has xs y → low ≤ f y
rises_after f [] low high h y none = absurd none
rises_after f (x ∷ xs) low high h y (inl e) = subst (λ z. low ≤ f z) (sym e) h.0
rises_after f (x ∷ xs) low high h y (inr there) = let more = rises_after f xs (f x + 1) high h.1 y there in let at : low ≤ f x = h.0 in omega (arith, more, at)

in_order : {X : Type 0} (f : X → ℕ) (xs : List X) (low high : ℕ) → Rises low high (map_list f xs) → InOrder (λ x y. f x < f y) (λ x y a b. omega (arith, a, b)) xs
in_order f [] low high h = tt
in_order f (x ∷ xs) low high h = (λ y there. let more = rises_after f xs (f x + 1) high h.1 y there in omega (arith, more), in_order f xs (f x + 1) high h.1)

-- entries of a map of texts
abbrev IsLess : List ℕ × ℕ → List ℕ × ℕ → Type 0
IsLess a b = is_lt (slice_cmp nat_cmp a.0 b.0) ≡ true

never_both : (o : Ordering) → is_lt o ≡ true → is_lt (ordering_reverse o) ≡ true → ⊥
never_both Less a b = true≢false (sym b)
never_both Equal a b = true≢false (sym a)
never_both Greater a b = true≢false (sym a)

one_less : (a b : List ℕ × ℕ) → IsLess a b → IsLess b a → ⊥
one_less a b h k = never_both (slice_cmp nat_cmp a.0 b.0) h (sym (ap is_lt (nat_list_cmp_total.antisymm b.0 a.0)) ∙ k)

entries_in_order : (es : List (List ℕ × ℕ)) → is_sorted (slice_cmp nat_cmp) es ≡ true → InOrder IsLess one_less es
entries_in_order [] h = tt
entries_in_order (e ∷ es) h =
    let p = and_parts (below_all (slice_cmp nat_cmp) e.0 es) (is_sorted (slice_cmp nat_cmp) es) h in
    (λ f there. after e.0 es p.0 f there, entries_in_order es p.1)
  where
    after : (k : List ℕ) (es : List (List ℕ × ℕ)) → below_all (slice_cmp nat_cmp) k es ≡ true → (f : List ℕ × ℕ) → Has es f → is_lt (slice_cmp nat_cmp k f.0) ≡ true
    after k [] h f none = absurd none
    after k (g ∷ es) h f (inl e) = ap (λ (x : List ℕ × ℕ). is_lt (slice_cmp nat_cmp k x.0)) e ∙ (and_parts (is_lt (slice_cmp nat_cmp k g.0)) (below_all (slice_cmp nat_cmp) k es) h).0
    after k (g ∷ es) h f (inr there) = after k es (and_parts (is_lt (slice_cmp nat_cmp k g.0)) (below_all (slice_cmp nat_cmp) k es) h).1 f there

same_acl : (a b : AclMap) → ((e : List ℕ × ℕ) → Has (map.entries a) e → Has (map.entries b) e) → ((e : List ℕ × ℕ) → Has (map.entries b) e → Has (map.entries a) e) → a ≡ b
same_acl a b to from =
    same_entries_map a b (same_lists IsLess one_less (map.entries a) (map.entries b) (entries_in_order (map.entries a) (is_true _ (entries_sorted a))) (entries_in_order (map.entries b) (is_true _ (entries_sorted b))) to from)

-- changes in the order of their places
later_than : (rows : List KeptChange) (done low high : ℕ) → AreKept done low high rows → (y : KeptChange) → Has rows y → done ≤ y.place
later_than [] done low high h y none = absurd none
later_than (k ∷ rows) done low high h y (inl e) = subst (λ (z : KeptChange). done ≤ z.place) (sym e) h.0.place
later_than (k ∷ rows) done low high h y (inr there) = let at = h.0.place in let more = later_than rows (k.place + 1) k.before high h.1 y there in omega (arith, at, more)

kept_order : (rows : List KeptChange) (done low high : ℕ) → AreKept done low high rows → InOrder (λ (x y : KeptChange). x.place < y.place) (λ x y a b. omega (arith, a, b)) rows
kept_order [] done low high h = tt
kept_order (k ∷ rows) done low high h = (λ y there. let more = later_than rows (k.place + 1) k.before high h.1 y there in omega (arith, more), kept_order rows (k.place + 1) k.before high h.1)

-- two answers that are there alike
same_options : {X : Type 0} (o p : Option X) → ((x : X) → o ≡ Some x → p ≡ Some x) → ((x : X) → p ≡ Some x → o ≡ Some x) → o ≡ p
same_options None None to from = refl
same_options None (Some y) to from = from y refl
same_options (Some x) p to from = sym (to x refl)

same_tests : (b c : Bool) → (b ≡ true → c ≡ true) → (c ≡ true → b ≡ true) → b ≡ c
same_tests true c to from = sym (to refl)
same_tests false true to from = from refl
same_tests false false to from = refl

-- maps without users that have no change, which give each user the same
same_own : (own other : Users Own) → ((user : List ℕ) → map.get own user ≢ Some no_own) → ((user : List ℕ) → map.get other user ≢ Some no_own) → ((user : List ℕ) → own_at own user ≡ own_at other user) → own ≡ other
same_own own other filled full same = same_answers own other (λ user. by (map.get own user) (map.get other user) (filled user) (full user) (same user))
  where
    by : (a b : Option Own) → a ≢ Some no_own → b ≢ Some no_own → unwrap_or a no_own ≡ unwrap_or b no_own → a ≡ b
    by None None f g e = refl
    by None (Some l) f g e = absurd (g (ap Some (sym e)))
    by (Some l) None f g e = absurd (f (ap Some e))
    by (Some l) (Some m) f g e = ap Some e

-- ---- one world stands where the other does

module _ (db : Trees) (s t : World) (ks : (q : Name) (m : Mailbox) → map.get s.mailboxes q ≡ Some m → IsKept m.messages) (kt : (q : Name) (m : Mailbox) → map.get t.mailboxes q ≡ Some m → IsKept m.messages)
    (vs : WorldHasValues s) (vt : WorldHasValues t) (a : StandFor db s) (b : StandFor db t) where
  pub record IsAlsoIn (q : Name) (m : Mailbox) : Type 0 where
    pub mailbox : Mailbox
    pub there : map.get t.mailboxes q ≡ Some mailbox
    pub same_ids : a.id q ≡ b.id q
    pub validity : m.validity ≡ mailbox.validity
    pub next : m.messages.next ≡ mailbox.messages.next
    pub shared : m.messages.shared ≡ mailbox.messages.shared

  also_in : (q : Name) (m : Mailbox) → map.get s.mailboxes q ≡ Some m → IsAlsoIn q m
  also_in q m there =
      let row : Row = row_of_mailbox q m (a.id q) in
      let u : IsMailbox t b.id row = (b.mailboxes row).0 ((a.mailboxes row).1 (record { name = q; mailbox = m; there = there; shown = refl })) in
      let same : q ≡ u.name = same_key q u.name (a.named.mailboxes q m there) (b.named.mailboxes u.name u.mailbox u.there)
      (same_text (tree_text q) (tree_text u.name) (ap (λ (r : Row). column r 2) u.shown)) (same_text (path_of q) (path_of u.name) (ap (λ (r : Row). column r 3) u.shown)) in
      record {
        mailbox = u.mailbox;
        there = ap (map.get t.mailboxes) same ∙ u.there;
        same_ids = same_id (a.id q) (b.id u.name) (ap (λ (r : Row). column r 0) u.shown) ∙ ap b.id (sym same);
        validity = same_number m.validity u.mailbox.validity (ap (λ (r : Row). column r 4) u.shown);
        next = same_number m.messages.next u.mailbox.messages.next (ap (λ (r : Row). column r 5) u.shown);
        shared = same_number m.messages.shared u.mailbox.messages.shared (ap (λ (r : Row). column r 6) u.shown);
      }

  -- what is below a mailbox of the first is below that of the second
  below_also : (child : Child) (q : Name) (m n : Mailbox) → map.get s.mailboxes q ≡ Some m → map.get t.mailboxes q ≡ Some n → a.id q ≡ b.id q → (v : Row) → IsOf child m (a.kept q) (a.id q) v → IsOf child n (b.kept q) (b.id q) v
  below_also child q m n hm hn ids v is =
      let row = (a.below child).complete v (record { name = q; mailbox = m; there = hm; shown = is }) in
      let found = (b.below child).sound (Int row.0 ∷ v) row.1 in
      let u : IsUnder t b.id b.kept child found.values = found.meant in
      let same_values : v ≡ found.values = ap (λ (r : Row). tail_of r) found.shown in
      let same : u.name ≡ q = b.apart u.name q u.mailbox n u.there hn
      (same_id (b.id u.name) (b.id q) (sym (first_of child u.mailbox (b.kept u.name) (b.id u.name) found.values u.shown) ∙ ap (λ (r : Row). column r 0) (sym same_values) ∙ first_of child m (a.kept q) (a.id q) v is ∙ ap (λ n. Int n) ids)) in
      let k : u.mailbox ≡ n = same_some u.mailbox n (sym u.there ∙ ap (map.get t.mailboxes) same ∙ hn) in
      subst (λ (w : Row). IsOf child n (b.kept q) (b.id q) w) (sym same_values)
      (subst (λ (x : Mailbox). IsOf child x (b.kept q) (b.id q) found.values) k (subst (λ (x : Name). IsOf child u.mailbox (b.kept x) (b.id x) found.values) same u.shown))

  entries_also : (q : Name) (m n : Mailbox) → map.get s.mailboxes q ≡ Some m → map.get t.mailboxes q ≡ Some n → a.id q ≡ b.id q → (e : List ℕ × ℕ) → Has (map.entries m.acl) e → Has (map.entries n.acl) e
  entries_also q m n hm hn ids e there =
      let h = below_also entries q m n hm hn ids (entry_values (a.id q) e.0 e.1) (record { identifier = e.0; rights = e.1; there = there; shown = refl }) in
      let identifier = same_text e.0 h.identifier (ap (λ (r : Row). column r 1) h.shown) in
      let rights = same_number e.1 h.rights (ap (λ (r : Row). column r 2) h.shown) in
      subst (λ (x : List ℕ × ℕ). Has (map.entries n.acl) x) (λ i. (sym identifier i, sym rights i)) h.there

  messages_also : (q : Name) (m n : Mailbox) → map.get s.mailboxes q ≡ Some m → map.get t.mailboxes q ≡ Some n → a.id q ≡ b.id q → (x : Message) → Has m.messages.messages x → Has n.messages.messages x
  messages_also q m n hm hn ids x there =
      let h = below_also messages q m n hm hn ids (message_values (a.id q) x) (record { message = x; there = there; shown = refl }) in
      subst (λ (y : Message). Has n.messages.messages y)
      (sym (same_message (a.id q) (b.id q) x h.message ((vs.mailboxes q m hm).messages.messages x there) ((vt.mailboxes q n hn).messages.messages h.message h.there) h.shown)) h.there

  gone_also : (q : Name) (m n : Mailbox) → map.get s.mailboxes q ≡ Some m → map.get t.mailboxes q ≡ Some n → a.id q ≡ b.id q → (x : GoneMessage) → Has m.messages.gone x → Has n.messages.gone x
  gone_also q m n hm hn ids x there =
      let h = below_also gone q m n hm hn ids (gone_values (a.id q) x) (record { message = x; there = there; shown = refl }) in
      subst (λ (y : GoneMessage). Has n.messages.gone y) (sym (same_gone (a.id q) (b.id q) x h.message h.shown)) h.there

  marks_also : (q : Name) (m n : Mailbox) → map.get s.mailboxes q ≡ Some m → map.get t.mailboxes q ≡ Some n → a.id q ≡ b.id q → (user : List ℕ) (x : KeptChange) → Has (a.kept q user) x → Has (b.kept q user) x
  marks_also q m n hm hn ids user x there =
      let h = below_also marks q m n hm hn ids (mark_values (a.id q) user x) (record { user = user; change = x; there = there; shown = refl }) in
      let k = same_mark (a.id q) (b.id q) user h.user x h.change h.shown in
      subst (λ (u : List ℕ). Has (b.kept q u) x) (sym k.users) (subst (λ (y : KeptChange). Has (b.kept q h.user) y) (sym k.changes) h.there)

  epochs_also : (q : Name) (n : ℕ) → map.get s.epochs q ≡ Some n → map.get t.epochs q ≡ Some n
  epochs_also q n there =
      let row = a.epochs.complete (epoch_values q n) (record { name = q; greatest = n; there = there; shown = refl }) in
      let found = b.epochs.sound (Int row.0 ∷ epoch_values q n) row.1 in
      let e : IsEpoch t.epochs found.values = found.meant in
      let is : epoch_values q n ≡ epoch_values e.name e.greatest = ap (λ (r : Row). tail_of r) found.shown ∙ e.shown in
      let same : q ≡ e.name = same_key q e.name (a.named.epochs q n there) (b.named.epochs e.name e.greatest e.there)
      (same_text (tree_text q) (tree_text e.name) (ap (λ (r : Row). column r 0) is)) (same_text (path_of q) (path_of e.name) (ap (λ (r : Row). column r 1) is)) in
      ap (map.get t.epochs) same ∙ e.there ∙ ap Some (sym (same_number n e.greatest (ap (λ (r : Row). column r 2) is)))

  names_also : (user : List ℕ) (q : Name) → map.contains_key (subscribed_by s user) q ≡ true → map.contains_key (subscribed_by t user) q ≡ true
  names_also user q there =
      let row = a.subscriptions.complete (subscription_values user q) (record { user = user; name = q; there = there; shown = refl }) in
      let found = b.subscriptions.sound (Int row.0 ∷ subscription_values user q) row.1 in
      let e : IsSubscription t found.values = found.meant in
      let is : subscription_values user q ≡ subscription_values e.user e.name = ap (λ (r : Row). tail_of r) found.shown ∙ e.shown in
      let same : q ≡ e.name = same_key q e.name (a.named.subscriptions user q there) (b.named.subscriptions e.user e.name e.there)
      (same_text (tree_text q) (tree_text e.name) (ap (λ (r : Row). column r 1) is)) (same_text (path_of q) (path_of e.name) (ap (λ (r : Row). column r 2) is)) in
      (λ i. map.contains_key (subscribed_by t (same_text user e.user (ap (λ (r : Row). column r 0) is) i)) (same i)) ∙ e.there

-- ---- they are one

module _ (db : Trees) (s t : World) (ks : (q : Name) (m : Mailbox) → map.get s.mailboxes q ≡ Some m → IsKept m.messages) (kt : (q : Name) (m : Mailbox) → map.get t.mailboxes q ≡ Some m → IsKept m.messages)
    (vs : WorldHasValues s) (vt : WorldHasValues t) (a : StandFor db s) (b : StandFor db t) where
  same_mailbox : (q : Name) (m : Mailbox) → map.get s.mailboxes q ≡ Some m → map.get t.mailboxes q ≡ Some m
  same_mailbox q m there =
      let o = also_in db s t ks kt vs vt a b q m there in
      let n : Mailbox = o.mailbox in
      let ids : a.id q ≡ b.id q = o.same_ids in
      let x = ks q m there in
      let y = kt q n o.there in
      let acl = same_acl m.acl n.acl (entries_also db s t ks kt vs vt a b q m n there o.there ids) (entries_also db t s kt ks vt vs b a q n m o.there there (sym ids)) in
      let messages_are = same_lists (λ (x y : Message). x.uid < y.uid) (λ x y h k. omega (arith, h, k)) m.messages.messages n.messages.messages
      (in_order (λ (x : Message). x.uid) m.messages.messages 1 m.messages.next x.sound.uids) (in_order (λ (x : Message). x.uid) n.messages.messages 1 n.messages.next y.sound.uids)
      (messages_also db s t ks kt vs vt a b q m n there o.there ids) (messages_also db t s kt ks vt vs b a q n m o.there there (sym ids)) in
      let gone_are = same_lists (λ (x y : GoneMessage). x.place < y.place) (λ x y h k. omega (arith, h, k)) m.messages.gone n.messages.gone
      (in_order (λ (x : GoneMessage). x.place) m.messages.gone 0 m.messages.shared x.sound.places) (in_order (λ (x : GoneMessage). x.place) n.messages.gone 0 n.messages.shared y.sound.places)
      (gone_also db s t ks kt vs vt a b q m n there o.there ids) (gone_also db t s kt ks vt vs b a q n m o.there there (sym ids)) in
      let own_are = same_own m.messages.own n.messages.own x.filled y.filled
      (λ user.
      let one = a.found q m there in
      let two = b.found q n o.there in
      let kept = same_lists (λ (x y : KeptChange). x.place < y.place) (λ x y h k. omega (arith, h, k)) (a.kept q user) (b.kept q user)
      (kept_order (a.kept q user) 0 0 m.messages.shared (one.order user)) (kept_order (b.kept q user) 0 0 n.messages.shared (two.order user))
      (marks_also db s t ks kt vs vt a b q m n there o.there ids user) (marks_also db t s kt ks vt vs b a q n m o.there there (sym ids) user) in
      sym (one.found user) ∙ ap found_in kept ∙ two.found user) in
      o.there
      ∙ ap Some (sym (λ i. record {
        validity = o.validity i;
        acl = acl i;
        messages = record { messages = messages_are i; gone = gone_are i; next = o.next i; shared = o.shared i; own = own_are i };
      }))

pub filled_again : (s : Subscriptions) (q : List ℕ) → map.get (filled_sets s) q ≡ if_filled (set_of (map.get (filled_sets s) q))
filled_again s q = get_filled s q ∙ by (map.get s.map q) ∙ ap if_filled (names_in_filled s q)
  where
    by : (o : Option (name.Rows (Unit {0}))) → option_and_then (λ (rows : name.Rows (Unit {0})). if_filled rows.map) o ≡ if_filled (names_in o)
    by None = sym if_filled-empty
    by (Some rows) = refl

pub stand_for_one : StandForOne
stand_for_one db x y ks kt vs vt a b =
    let mailboxes = same_names x.mailboxes y.mailboxes (λ q. same_options (map.get x.mailboxes q) (map.get y.mailboxes q) (same_mailbox db x y ks.at kt.at vs vt a b q) (same_mailbox db y x kt.at ks.at vt vs b a q)) in
    let epochs = same_names x.epochs y.epochs (λ q. same_options (map.get x.epochs q) (map.get y.epochs q) (epochs_also db x y ks.at kt.at vs vt a b q) (epochs_also db y x kt.at ks.at vt vs b a q)) in
    let sets = λ (user : List ℕ). same_names (subscribed_by x user) (subscribed_by y user) (λ q. same_units (map.get (subscribed_by x user) q) (map.get (subscribed_by y user) q)
    (same_tests (map.contains_key (subscribed_by x user) q) (map.contains_key (subscribed_by y user) q) (names_also db x y ks.at kt.at vs vt a b user q) (names_also db y x kt.at ks.at vt vs b a user q))) in
    let subscriptions = same_answers x.subscriptions y.subscriptions (λ user. vs.filled user ∙ ap if_filled (sets user) ∙ sym (vt.filled user)) in
    λ i. record { mailboxes = mailboxes i; epochs = epochs i; subscriptions = subscriptions i }
  where
    same_units : (o p : Option (Unit {0})) → is_some o ≡ is_some p → o ≡ p
    same_units None None e = refl
    same_units None (Some x) e = absurd (true≢false (sym e))
    same_units (Some x) None e = absurd (true≢false e)
    same_units (Some x) (Some y) e = refl
