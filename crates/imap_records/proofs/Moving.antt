-- Mailboxes that move to other names, by their rows.
use Rattle.std.proofs.Common.{◌≡◌, ◌⊎◌, inl, inr, ℕ, ◌<◌, ℤ, pos, Bool, true, false, cond, List, [], ◌∷◌, length, map as map_list, Some, None, refl, sym, ap, subst, ◌∙◌, true≢false}
use Rattle.std.specs.Prelude.{◌||◌}
use Rattle.std.specs.FinMap as map
use Rattle.std.specs.List.{AllByRecursion}
use Rattle.std.proofs.lemmas.Bool.{false_from_ne_true}
use Rattle.sqlite.specs.declared.types.Value.TheVariants.{Int, Null, Text as Words}
use Rattle.sqlite.specs.Order.{Row, column}
use Rattle.sqlite.specs.Tree.{Trees}
use Rattle.sqlite_rules.specs.Lists.{Has}
use Rattle.imap_name_map.specs.Rows.{inserted_all}
use Rattle.imap_names.specs.Name.{Name, path_of, root_of}
use Rattle.imap_names.specs.Order.{Names, is_within, moved}
use Rattle.imap_names.specs.Valid.{IsName}
use Rattle.imap_names.proofs.MovedLaws.{moved_within, root_of-within, there_and_back}
use Rattle.imap_names.proofs.NameLaws.{equal_names, get_put, get_without, is_name_at, is_name_at-same, same_names}
use Rattle.imap_world.specs.Mailbox.{Mailbox}
use Rattle.imap_world.specs.Tree.{without}
use Rattle.imap_world.specs.World.{World}
use Rattle.imap_world.proofs.Moves.{is_among}
use Rattle.imap_world.proofs.Sound.{or_first, or_second}
use Rattle.imap_tables.specs.Edits.{IsNamed, Replaces, moved_row}
use Rattle.imap_records.specs.Columns.{row_of_mailbox, tree_at, tree_text}
use Rattle.imap_records.specs.Standing.{IsEntry, IsEpoch, IsGone, IsMailbox, IsMark, IsMessage, IsSubscription, IsUnder, StandFor}
use Rattle.imap_records.specs.Standing.{entries, messages, gone, marks}
use Rattle.imap_records.specs.Steps.{arrival_steps}
use Rattle.imap_records.proofs.Closing.{IsSetBeside, none_left, others_apart, others_found, others_free, others_named, put_among, set_beside, with_mailbox}
use Rattle.imap_records.proofs.Keys.{same_key, same_text}
use Rattle.imap_records.proofs.Making.{MakesSteps}
use Rattle.imap_records.proofs.Others.{epoch_put}
use Rattle.imap_records.proofs.Rows.{acl_stays, epoch_stays, gone_stays, mark_stays, message_stays, same_rows, sub_stays}

-- ---- one mailbox

module _ (old new : Trees) (world : World) (stand : StandFor old world) (from to : Name) (m : Mailbox) (there : map.get world.mailboxes from ≡ Some m) (validity : ℕ)
    (root : root_of to ≡ root_of from) (replaces : Replaces old new 0 (IsNamed (tree_text from) (path_of from)) (moved_row (path_of to) validity)) where
  abbrev B : World
  B = without world from

  abbrev i : ℤ
  i = stand.id from

  abbrev n : Mailbox
  n = record m { validity = validity }

  b : IsSetBeside B stand.id stand.kept i old (row_of_mailbox from m i) m (stand.kept from)
  b = set_beside world from m there old stand

  -- no other row has the name
  other : (row : Row) → IsMailbox B stand.id row → ¬ IsNamed (tree_text from) (path_of from) row
  other row u named =
      let same : u.name ≡ from = same_key u.name from ((others_named world from m there old stand).mailboxes u.name u.mailbox u.there) (stand.named.mailboxes from m there)
      (same_text (tree_text u.name) (tree_text from) (sym (ap (λ (r : Row). column r 2) u.shown) ∙ named.0))
      (same_text (path_of u.name) (path_of from) (sym (ap (λ (r : Row). column r 3) u.shown) ∙ named.1)) in
      cc (sym (none_left world from m there) ∙ ap (map.get B.mailboxes) (sym same) ∙ u.there)

  moved_is : moved_row (path_of to) validity (row_of_mailbox from m i) ≡ row_of_mailbox to n i
  moved_is =
      ap (λ t. Int i ∷ Null ∷ Words t ∷ Words (path_of to) ∷ Int (pos validity) ∷ Int (pos m.messages.next) ∷ Int (pos m.messages.shared) ∷ []) (ap tree_at (sym root))

  to_row : (row : Row) → Has (new 0) row → (row ≡ row_of_mailbox to n i) ⊎ IsMailbox B stand.id row
  to_row row has = only (replaces.only row has)
    where
      left : ¬ IsNamed (tree_text from) (path_of from) row → (row ≡ row_of_mailbox from m i) ⊎ IsMailbox B stand.id row → (row ≡ row_of_mailbox to n i) ⊎ IsMailbox B stand.id row
      left not (inl is) = absurd (not (subst (λ (r : Row). IsNamed (tree_text from) (path_of from) r) (sym is) (refl, refl)))
      left not (inr u) = inr u

      came : (was : Row) → IsNamed (tree_text from) (path_of from) was → row ≡ moved_row (path_of to) validity was → (was ≡ row_of_mailbox from m i) ⊎ IsMailbox B stand.id was → (row ≡ row_of_mailbox to n i) ⊎ IsMailbox B stand.id row
      came was named is (inl same) = inl (is ∙ ap (moved_row (path_of to) validity) same ∙ moved_is)
      came was named is (inr u) = absurd (other was u named)

      only : (Has (old 0) row × ¬ IsNamed (tree_text from) (path_of from) row) ⊎ ((was : Row) × Has (old 0) was × IsNamed (tree_text from) (path_of from) was × (row ≡ moved_row (path_of to) validity was))
          → (row ≡ row_of_mailbox to n i) ⊎ IsMailbox B stand.id row
      only (inl (was, not)) = left not ((b.mailboxes row).0 was)
      only (inr (was, has, named, is)) = came was named is ((b.mailboxes was).0 has)

  from_row : (row : Row) → (row ≡ row_of_mailbox to n i) ⊎ IsMailbox B stand.id row → Has (new 0) row
  from_row row (inl is) =
      subst (λ (r : Row). Has (new 0) r) (moved_is ∙ sym is) (replaces.replaced (row_of_mailbox from m i) ((b.mailboxes (row_of_mailbox from m i)).1 (inl refl)) (refl, refl))
  from_row row (inr u) = replaces.kept row ((b.mailboxes row).1 (inr u)) (other row u)

  moved_beside : IsSetBeside B stand.id stand.kept i new (row_of_mailbox to n i) n (stand.kept from)
  moved_beside = record {
    mailboxes = λ row. (to_row row, from_row row);
    acl = same_rows (old 2) (new 2) (λ v. IsEntry m.acl i v ⊎ IsUnder B stand.id stand.kept entries v) (acl_stays old new 0 replaces.others refl) b.acl;
    there = same_rows (old 4) (new 4) (λ v. IsMessage m.messages.messages i v ⊎ IsUnder B stand.id stand.kept messages v) (message_stays old new 0 replaces.others refl) b.there;
    went = same_rows (old 6) (new 6) (λ v. IsGone m.messages.gone i v ⊎ IsUnder B stand.id stand.kept gone v) (gone_stays old new 0 replaces.others refl) b.went;
    seen = same_rows (old 8) (new 8) (λ v. IsMark (stand.kept from) i v ⊎ IsUnder B stand.id stand.kept marks v) (mark_stays old new 0 replaces.others refl) b.seen;
    epochs = same_rows (old 10) (new 10) (IsEpoch B.epochs) (epoch_stays old new 0 replaces.others refl) b.epochs;
    subscriptions = same_rows (old 12) (new 12) (IsSubscription B) (sub_stays old new 0 replaces.others refl) b.subscriptions;
  }

  pub mailbox_moved : IsName to → map.get world.mailboxes to ≡ None → StandFor new (with_mailbox B to n)
  mailbox_moved valid absent = put_among B stand.id stand.kept to i (stand.kept from) n none (others_free world from m there old stand) (others_apart world from m there old stand) (others_named world from m there old stand)
      (others_found world from m there old stand) valid (stand.found from m there) new moved_beside
    where
      by : (c : Bool) → cond c None (map.get world.mailboxes to) ≡ None
      by true = refl
      by false = absent

      none : map.get B.mailboxes to ≡ None
      none = get_without world.mailboxes from to ∙ by (is_name_at to from)

-- ---- several

abbrev pub names_in : List (Name × ℕ) → List Name
names_in arrivals = map_list (λ (a : Name × ℕ). a.0) arrivals

-- what stands there before and afterwards
module _ (old new : Name) (before target : Names Mailbox) where
  pub record MayArrive (a : Name × ℕ) : Type 0 where
    pub within : is_within new a.0 ≡ true
    pub mailbox : Mailbox
    pub there : map.get before (moved new old a.0) ≡ Some mailbox
    pub afterwards : map.get target a.0 ≡ Some (record mailbox { validity = a.1 })

  -- each may, and comes once
  abbrev pub MayAllArrive : List (Name × ℕ) → Type 0
  MayAllArrive [] = Unit {0}
  MayAllArrive (a ∷ arrivals) = MayArrive a × (is_among a.0 (names_in arrivals) ≡ false) × MayAllArrive arrivals

  -- those that are left stand where they stood, and all else is as it will be
  pub record IsMixed (left : List Name) (m : Names Mailbox) : Type 0 where
    pub came : (q : Name) → is_within new q ≡ true → is_among q left ≡ false → map.get m q ≡ map.get target q
    pub coming : (q : Name) → is_within new q ≡ true → is_among q left ≡ true → map.get m q ≡ None
    pub waiting : (q : Name) → is_within old q ≡ true → is_among (moved old new q) left ≡ true → map.get m q ≡ map.get before q
    pub went : (q : Name) → is_within old q ≡ true → is_among (moved old new q) left ≡ false → map.get m q ≡ None
    pub apart : (q : Name) → is_within new q ≡ false → is_within old q ≡ false → map.get m q ≡ map.get before q

module _ (old new : Name) (before target : Names Mailbox) (disjoint : (q : Name) → is_within old q ≡ true → is_within new q ≡ false) where
  not_at : (q x : Name) → (q ≡ x → ⊥) → is_name_at q x ≡ false
  not_at q x apart = false_from_ne_true (is_name_at q x) (λ e. apart (equal_names q x e))

  either : (q x : Name) (left : List Name) → is_name_at q x ≡ false → is_among q left ≡ false → is_among q (x ∷ left) ≡ false
  either q x left a b = λ j. a j || b j

  module _ (a : Name × ℕ) (left : List Name) (m : Names Mailbox) (may : MayArrive old new before target a) (once : is_among a.0 left ≡ false)
      (mixed : IsMixed old new before target (a.0 ∷ left) m) where
    abbrev from : Name
    from = moved new old a.0

    abbrev arrived : Mailbox
    arrived = record may.mailbox { validity = a.1 }

    abbrev next : Names Mailbox
    next = map.insert (map.remove m from) a.0 arrived

    from_within : is_within old from ≡ true
    from_within = moved_within new old a.0 may.within

    back : moved old new from ≡ a.0
    back = there_and_back new old a.0 may.within

    next_is : (q : Name) (b c : Bool) → is_name_at q a.0 ≡ b → is_name_at q from ≡ c → map.get next q ≡ cond b (Some arrived) (cond c None (map.get m q))
    next_is q b c hb hc =
        get_put (map.remove m from) a.0 arrived q ∙ ap (λ o. cond (is_name_at q a.0) (Some arrived) o) (get_without m from q) ∙ (λ j. cond (hb j) (Some arrived) (cond (hc j) None (map.get m q)))

    -- a name in both would be in none
    never : (q : Name) → is_within new q ≡ true → is_within old q ≡ true → ⊥
    never q n o = true≢false (sym n ∙ disjoint q o)

    new_is_not_from : (q : Name) → is_within new q ≡ true → is_name_at q from ≡ false
    new_is_not_from q n = not_at q from (λ e. never q n (ap (is_within old) e ∙ from_within))

    old_is_not_new : (q : Name) → is_within old q ≡ true → is_name_at q a.0 ≡ false
    old_is_not_new q o = not_at q a.0 (λ e. never q (ap (is_within new) e ∙ may.within) o)

    came : (q : Name) → is_within new q ≡ true → is_among q left ≡ false → map.get next q ≡ map.get target q
    came q n among = by (is_name_at q a.0) refl
      where
        by : (b : Bool) → is_name_at q a.0 ≡ b → map.get next q ≡ map.get target q
        by true e = next_is q true false e (new_is_not_from q n) ∙ sym (ap (map.get target) (equal_names q a.0 e) ∙ may.afterwards)
        by false e = next_is q false false e (new_is_not_from q n) ∙ mixed.came q n (either q a.0 left e among)

    coming : (q : Name) → is_within new q ≡ true → is_among q left ≡ true → map.get next q ≡ None
    coming q n among =
        next_is q false false (not_at q a.0 (λ e. true≢false (sym among ∙ ap (λ x. is_among x left) e ∙ once))) (new_is_not_from q n)
        ∙ mixed.coming q n (or_second (is_name_at q a.0) (is_among q left) among)

    waiting : (q : Name) → is_within old q ≡ true → is_among (moved old new q) left ≡ true → map.get next q ≡ map.get before q
    waiting q o among =
        next_is q false false (old_is_not_new q o) (not_at q from (λ e. true≢false (sym among ∙ ap (λ x. is_among (moved old new x) left) e ∙ ap (λ x. is_among x left) back ∙ once)))
        ∙ mixed.waiting q o (or_second (is_name_at (moved old new q) a.0) (is_among (moved old new q) left) among)

    went : (q : Name) → is_within old q ≡ true → is_among (moved old new q) left ≡ false → map.get next q ≡ None
    went q o among = by (is_name_at q from) refl
      where
        by : (c : Bool) → is_name_at q from ≡ c → map.get next q ≡ None
        by true e = next_is q false true (old_is_not_new q o) e
        by false e =
            next_is q false false (old_is_not_new q o) e
            ∙ mixed.went q o (either (moved old new q) a.0 left (not_at (moved old new q) a.0 (λ h. is_from e (sym (there_and_back old new q o) ∙ ap (moved new old) h))) among)
          where
            is_from : is_name_at q from ≡ false → q ≡ from → ⊥
            is_from f h = true≢false (sym (ap (λ x. is_name_at x from) h ∙ is_name_at-same from) ∙ f)

    apart : (q : Name) → is_within new q ≡ false → is_within old q ≡ false → map.get next q ≡ map.get before q
    apart q n o =
        next_is q false false (not_at q a.0 (λ e. true≢false (sym (ap (is_within new) e ∙ may.within) ∙ n))) (not_at q from (λ e. true≢false (sym (ap (is_within old) e ∙ from_within) ∙ o)))
        ∙ mixed.apart q n o

    pub mixed_next : IsMixed old new before target left next
    mixed_next = record { came = came; coming = coming; waiting = waiting; went = went; apart = apart }

    -- it is still where it was, and its new name is free
    pub still_there : map.get m from ≡ Some may.mailbox
    still_there = mixed.waiting from from_within (or_first (is_name_at (moved old new from) a.0) (is_among (moved old new from) left) (ap (λ x. is_name_at x a.0) back ∙ is_name_at-same a.0)) ∙ may.there

    pub still_free : map.get m a.0 ≡ None
    still_free = mixed.coming a.0 may.within (or_first (is_name_at a.0 a.0) (is_among a.0 left) (is_name_at-same a.0))

  module _ (world : World) (new_long : 0 < length new) (old_long : 0 < length old) (roots : root_of old ≡ root_of new)
      (goes : (q : Name) → is_within new q ≡ false → is_within old q ≡ true → map.get target q ≡ None)
      (keeps : (q : Name) → is_within new q ≡ false → is_within old q ≡ false → map.get target q ≡ map.get before q) where
    abbrev so_far : Names Mailbox → Names ℕ → World
    so_far mailboxes epochs = record world { mailboxes = mailboxes; epochs = epochs }

    ended : (m : Names Mailbox) → IsMixed old new before target [] m → m ≡ target
    ended m mixed = same_names m target (λ q. by q (is_within new q) refl (is_within old q) refl)
      where
        by : (q : Name) (n : Bool) → is_within new q ≡ n → (o : Bool) → is_within old q ≡ o → map.get m q ≡ map.get target q
        by q true n o ho = mixed.came q n refl
        by q false n true o = mixed.went q o refl ∙ sym (goes q n o)
        by q false n false o = mixed.apart q n o ∙ sym (keeps q n o)

    pub all_arrive : (arrivals : List (Name × ℕ)) (m : Names Mailbox) (epochs : Names ℕ) (db after : Trees) → MayAllArrive old new before target arrivals → AllByRecursion (λ (a : Name × ℕ). IsName a.0) arrivals
        → IsMixed old new before target (names_in arrivals) m → StandFor db (so_far m epochs) → MakesSteps (arrival_steps old new arrivals) db after → StandFor after (so_far target (inserted_all epochs arrivals))
    all_arrive [] m epochs db after may valid mixed stand made = subst (λ (d : Trees). StandFor d (so_far target epochs)) (sym made) (subst (λ k. StandFor db (so_far k epochs)) (ended m mixed) stand)
    all_arrive (a ∷ arrivals) m epochs db after (may, once, rest) (valid, valids) mixed stand (mid, moves, (last, epoch_put_there, more)) =
        let there : map.get m (moved new old a.0) ≡ Some may.mailbox = still_there a (names_in arrivals) m may once mixed in
        let root : root_of a.0 ≡ root_of (moved new old a.0) =
        root_of-within new a.0 new_long may.within ∙ sym roots ∙ sym (root_of-within old (moved new old a.0) old_long (moved_within new old a.0 may.within)) in
        let one = mailbox_moved db mid (so_far m epochs) stand (moved new old a.0) a.0 may.mailbox there a.1 root moves valid (still_free a (names_in arrivals) m may once mixed) in
        all_arrive arrivals (map.insert (map.remove m (moved new old a.0)) a.0 (record may.mailbox { validity = a.1 })) (map.insert epochs a.0 a.1) last after rest valids
        (mixed_next a (names_in arrivals) m may once mixed) (epoch_put mid last (so_far (map.insert (map.remove m (moved new old a.0)) a.0 (record may.mailbox { validity = a.1 })) epochs) a.0 a.1 valid one epoch_put_there) more
