-- Rows of tables that hold a world can be read.
use Rattle.std.proofs.Common.{◌≡◌, ◌<◌, ◌≤◌, ◌+◌, ◌-◌, ◌⊎◌, inl, inr, ℕ, suc, eqb, pos, Bool, true, false, cond, List, [], ◌∷◌, ◌++◌, map as map_list, replicate, Some, refl, sym, ap, subst, ◌∙◌, true≢false, arith}
use Rattle.std.specs.Prelude.{codes, not, ◌==◌}
use Rattle.std.specs.FinMap as map
use Rattle.std.specs.Str.{IsAscii, IsUtf8, is_utf8}
use Rattle.std.proofs.lemmas.Bool.{and_parts, eq-eqb, eqb-true}
use Rattle.std.proofs.lemmas.Nat.{and_le_r}
use Rattle.std.proofs.lemmas.Str.Ascii.{IsAscii-cons, IsAscii-nil}
use Rattle.std.proofs.lemmas.Str.{IsAscii-append, IsUtf8-from_ascii, IsUtf8-from_is_utf8}
use Rattle.sqlite.specs.Order.{Row}
use Rattle.sqlite.specs.Tree.{Trees}
use Rattle.sqlite.specs.declared.types.Value.TheVariants.{Int}
use Rattle.sqlite_rules.specs.Lists.{Has}
use Rattle.sqlite_rules.proofs.ListLemmas.{has_right, test_has}
use Rattle.imap_mailbox.specs.Held.{IsKept}
use Rattle.imap_mailbox.specs.KeptRows.{AreKept}
use Rattle.imap_mailbox.specs.Own.{Latest, Own, filled, found_in, latest_after, own_at}
use Rattle.imap_mailbox.specs.Rows.{WasGiven}
use Rattle.imap_mailbox.specs.Summary.{AreOfGiven, Rises, count_of, gone_uids, given_once, uids_in}
use Rattle.imap_mailbox.proofs.Found.{got}
use Rattle.imap_mailbox.proofs.Reordered.{given_within}
use Rattle.imap_mailbox.specs.declared.flags.SharedFlags.{SharedFlags}
use Rattle.imap_mailbox.specs.declared.message.GoneMessage.{GoneMessage}
use Rattle.imap_mailbox.specs.declared.message.Message.{Message}
use Rattle.imap_mailbox.specs.declared.kept_change.KeptChange.{KeptChange}
use Rattle.imap_names.specs.Name.{Name, is_empty, path_of, root_of}
use Rattle.imap_names.specs.Valid.{IsName}
use Rattle.imap_names.proofs.Composed.{ascii_by_test, is_utf8-front}
use Rattle.imap_names.proofs.ShownLaws.{owned_root}
use Rattle.imap_names.proofs.UserLaws.{user_name_facts}
use Rattle.imap_records.specs.Columns.{bit, date_text, flag_bits, keywords_text, place_value, tree_text, words_behind}
use Rattle.imap_records.specs.Standing.{IsEntry as EntryOf, IsGone as GoneOf, IsMark as MarkOf, IsMessage as MessageOf, entries, messages, gone, marks}
use Rattle.imap_records.proofs.Texts.{atom_ascii, date_utf8, identifier_utf8, joined_is}
use Rattle.imap_rights.specs.Acl.{is_entry, is_some_rights}
use Rattle.imap_rights.specs.Identifier.{is_identifier}
use Rattle.imap_rights.specs.Rights.{all_rights, known}
use Rattle.imap_syntax.specs.Keywords.{AreAtoms}
use Rattle.imap_tables.specs.Contents.{AllShow}
use Rattle.imap_tables.specs.Reading.{shown_at}
use Rattle.imap_tables.specs.Stored.{IsShort, ShowsEntry, ShowsEpoch, ShowsGone, ShowsMailbox, ShowsMark, ShowsMessage, ShowsSubscription}
use Rattle.imap_world.specs.World.{World}
use Rattle.imap_restore.specs.Holding.{MetaShows, Stand}

-- ---- texts

tree_utf8_by : (root : List ℕ) → (is_empty root ≡ false → is_utf8 root ≡ true) → (b : Bool) → is_empty root ≡ b → IsUtf8 (cond b (codes "s") (codes "u/" ++ root))
tree_utf8_by root user true is = IsUtf8-from_ascii (codes "s") (ascii_by_test (codes "s") refl)
tree_utf8_by root user false is = IsUtf8-from_is_utf8 (codes "u/" ++ root) (is_utf8-front (codes "u/") root (ascii_by_test (codes "u/") refl) (user is))

name_tree_utf8 : (name : Name) → IsName name → IsUtf8 (tree_text name)
name_tree_utf8 name n = tree_utf8_by (root_of name) (λ owned. (user_name_facts (root_of name) (owned_root (root_of name) n.tree owned)).utf8) (is_empty (root_of name)) refl

name_path_utf8 : (name : Name) → IsName name → IsUtf8 (path_of name)
name_path_utf8 name n = IsUtf8-from_is_utf8 (path_of name) n.utf8

words_ascii : (words : List (List ℕ)) → AreAtoms words → IsAscii (words_behind words)
words_ascii [] atoms = IsAscii-nil
words_ascii (word ∷ words) atoms = IsAscii-cons 32 (word ++ words_behind words) (omega (arith)) (IsAscii-append word (words_behind words) (atom_ascii word atoms.0) (words_ascii words atoms.1))

keywords_utf8 : (words : List (List ℕ)) → AreAtoms words → IsUtf8 (keywords_text words)
keywords_utf8 [] atoms = IsUtf8-from_ascii [] IsAscii-nil
keywords_utf8 (word ∷ words) atoms =
    subst IsUtf8 (sym (joined_is word words)) (IsUtf8-from_ascii (word ++ words_behind words) (IsAscii-append word (words_behind words) (atom_ascii word atoms.0) (words_ascii words atoms.1)))

-- ---- numbers

short_rights : (r : ℕ) → is_some_rights r ≡ true → IsShort r
short_rights r h =
    let same = eqb-true (known r) r (and_parts (not (r == 0)) (known r == r) h).1 in
    let le : known r ≤ all_rights = and_le_r r all_rights in
    omega (arith, same, le)

bit_most : (b : Bool) (v : ℕ) → bit b v ≤ v
bit_most true v = omega (arith)
bit_most false v = omega (arith)

short_flags : (f : SharedFlags) → IsShort (flag_bits f)
short_flags f = omega (arith, bit_most f.answered 1, bit_most f.deleted 2, bit_most f.draft 4, bit_most f.flagged 8)

rises_le : (low high : ℕ) (ns : List ℕ) → Rises low high ns → low ≤ high
rises_le low high [] h = h
rises_le low high (n ∷ ns) h = let rest = rises_le (n + 1) high ns h.1 in omega (arith, h.0, rest)

pub rises_below : {X : Type 0} (f : X → ℕ) (xs : List X) (low high : ℕ) → Rises low high (map_list f xs) → (x : X) → Has xs x → f x < high
rises_below f [] low high h x none = absurd none
rises_below f (y ∷ xs) low high h x (inl is) = let le = rises_le (f y + 1) high (map_list f xs) h.1 in subst (λ z. f z < high) (sym is) (omega (arith, le))
rises_below f (y ∷ xs) low high h x (inr there) = rises_below f xs (f y + 1) high h.1 x there

counted_by : (m n : ℕ) (ns : List ℕ) (b : Bool) → (m == n) ≡ b → (b ≡ false → 0 < count_of n ns) → 0 < count_of n (m ∷ ns)
counted_by m n ns true is rest = subst (λ b. 0 < cond b (1 + count_of n ns) (count_of n ns)) (sym is) (omega (arith))
counted_by m n ns false is rest = subst (λ b. 0 < cond b (1 + count_of n ns) (count_of n ns)) (sym is) (rest refl)

counted_in : {X : Type 0} (f : X → ℕ) (xs : List X) (x : X) → Has xs x → 0 < count_of (f x) (map_list f xs)
counted_in f [] x none = absurd none
counted_in f (y ∷ xs) x (inl is) = counted_by (f y) (f x) (map_list f xs) true (eq-eqb (f y) (f x) (ap f (sym is))) (λ e. absurd (cc e))
counted_in f (y ∷ xs) x (inr there) = counted_by (f y) (f x) (map_list f xs) (f y == f x) refl (λ e. counted_in f xs x there)

pub gone_below : (next : ℕ) (uids : List ℕ) (lost : List GoneMessage) → ((uid : ℕ) → count_of uid uids + count_of uid (gone_uids lost) ≡ given_once next uid) → (g : GoneMessage) → Has lost g → g.uid < next
gone_below next uids lost once g h =
    let some = counted_in (λ (x : GoneMessage). x.uid) lost g h in
    (given_within next g.uid (subst (λ n. 0 < n) (once g.uid) (omega (arith, some)))).1

-- the message of a change that is kept has a last change
last_there : (rows : List KeptChange) (m : Latest) (uid : ℕ) → ((c : KeptChange) × Has rows c × (c.uid ≡ uid)) ⊎ ((k : KeptChange) × (map.get m uid ≡ Some k)) → (k : KeptChange) × (map.get (latest_after m rows) uid ≡ Some k)
last_there [] m uid (inl it) = absurd it.1
last_there [] m uid (inr it) = it
last_there (r ∷ rows) m uid it = last_there rows (map.insert m r.uid r) uid (by it (eqb uid r.uid) refl)
  where
    by : ((c : KeptChange) × Has (r ∷ rows) c × (c.uid ≡ uid)) ⊎ ((k : KeptChange) × (map.get m uid ≡ Some k)) → (b : Bool) → eqb uid r.uid ≡ b
        → ((c : KeptChange) × Has rows c × (c.uid ≡ uid)) ⊎ ((k : KeptChange) × (map.get (map.insert m r.uid r) uid ≡ Some k))
    by it true e = inr (r, got m r.uid r uid ∙ ap (λ b. cond b (Some r) (map.get m uid)) e)
    by (inl (c, inl is, same)) false e = absurd (true≢false (sym (eq-eqb uid r.uid (sym same ∙ ap (λ (x : KeptChange). x.uid) is)) ∙ e))
    by (inl (c, inr there, same)) false e = inl (c, there, same)
    by (inr (k, is)) false e = inr (k, got m r.uid r uid ∙ ap (λ b. cond b (Some r) (map.get m uid)) e ∙ is)

given_kept : (next : ℕ) (rows : List KeptChange) (own : Own) (c : KeptChange) → found_in rows ≡ own → AreOfGiven next own → Has rows c → WasGiven next c.uid
given_kept next rows own c found known h =
    let last = last_there rows map.empty c.uid (inl (c, h, refl)) in
    (known c.uid last.0 (ap (λ (o : Own). map.get o.latest c.uid) (sym found) ∙ last.1)).0

-- a change that is kept has a number of shared events before it
before_there : (rows : List KeptChange) (done low high : ℕ) → AreKept done low high rows → (c : KeptChange) → Has rows c → Has (filled done rows) c.before
before_there [] done low high h c none = absurd none
before_there (r ∷ rows) done low high h c (inl is) =
    let at = h.0.place in
    by (r.place + 1 - done) (let z : r.place + 1 - done ≡ suc (r.place - done) = omega (arith, at) in z)
  where
    by : (n : ℕ) → n ≡ suc (r.place - done) → Has (replicate n r.before ++ filled (r.place + 1) rows) c.before
    by n e = subst (λ m. Has (replicate m r.before ++ filled (r.place + 1) rows) c.before) (sym e) (inl (ap (λ (x : KeptChange). x.before) is))
before_there (r ∷ rows) done low high h c (inr there) = has_right (replicate (r.place + 1 - done) r.before) (filled (r.place + 1) rows) c.before (before_there rows (r.place + 1) r.before high h.1 c there)

module _ (db : Trees) (w : World) (stand : Stand db w) (shows : MetaShows db) where
  mailbox_shows : (row : Row) → Has (db 0) row → ShowsMailbox (shown_at 0 row)
  mailbox_shows row h =
      let s = stand.stands in
      let it = (s.mailboxes row).0 h in
      let named = s.named.mailboxes it.name it.mailbox it.there in
      let v = stand.values.mailboxes it.name it.mailbox it.there in
      subst (λ r. ShowsMailbox (shown_at 0 r)) (sym it.shown) (record {
        id = s.id it.name;
        tree = tree_text it.name;
        path = path_of it.name;
        validity = it.mailbox.validity;
        uidnext = it.mailbox.messages.next;
        shared = pos it.mailbox.messages.shared;
        texts = (name_tree_utf8 it.name named, name_path_utf8 it.name named);
        short = (v.validity, v.messages.next);
        shown = refl;
      })

  entry_shows : (row : Row) → Has (db 2) row → ShowsEntry (shown_at 1 row)
  entry_shows row h =
      let s = stand.stands in
      let n = (s.below entries).sound row h in
      let u = n.meant in
      let e : EntryOf u.mailbox.acl (s.id u.name) n.values = u.shown in
      let v = stand.values.mailboxes u.name u.mailbox u.there in
      let p = and_parts (is_identifier e.identifier) (is_some_rights e.rights) (test_has is_entry (map.entries u.mailbox.acl) (e.identifier, e.rights) v.acl.entries e.there) in
      subst (λ r. ShowsEntry (shown_at 1 r)) (sym (n.shown ∙ ap (λ values. Int n.rowid ∷ values) e.shown)) (record {
        rowid = n.rowid;
        mailbox = s.id u.name;
        identifier = e.identifier;
        rights = e.rights;
        texts = identifier_utf8 e.identifier p.0;
        short = short_rights e.rights p.1;
        shown = refl;
      })

  message_shows : (row : Row) → Has (db 4) row → ShowsMessage (shown_at 2 row)
  message_shows row h =
      let s = stand.stands in
      let n = (s.below messages).sound row h in
      let u = n.meant in
      let e : MessageOf u.mailbox.messages.messages (s.id u.name) n.values = u.shown in
      let v = (stand.values.mailboxes u.name u.mailbox u.there).messages in
      let values = v.messages e.message e.there in
      let k : IsKept u.mailbox.messages = stand.kept.at u.name u.mailbox u.there in
      let low = rises_below (λ (x : Message). x.uid) u.mailbox.messages.messages 1 u.mailbox.messages.next k.sound.uids e.message e.there in
      subst (λ r. ShowsMessage (shown_at 2 r)) (sym (n.shown ∙ ap (λ values. Int n.rowid ∷ values) e.shown)) (record {
        rowid = n.rowid;
        mailbox = s.id u.name;
        uid = e.message.uid;
        date = date_text e.message.date;
        octets = e.message.octets;
        flags = flag_bits e.message.flags;
        keywords = keywords_text e.message.flags.keywords;
        place = place_value e.message.place;
        texts = (date_utf8 e.message.date, keywords_utf8 e.message.flags.keywords values.keywords.atoms);
        short = (omega (arith, low, v.next), short_flags e.message.flags);
        shown = refl;
      })

  gone_shows : (row : Row) → Has (db 6) row → ShowsGone (shown_at 3 row)
  gone_shows row h =
      let s = stand.stands in
      let n = (s.below gone).sound row h in
      let u = n.meant in
      let e : GoneOf u.mailbox.messages.gone (s.id u.name) n.values = u.shown in
      let v = (stand.values.mailboxes u.name u.mailbox u.there).messages in
      let k : IsKept u.mailbox.messages = stand.kept.at u.name u.mailbox u.there in
      let low = gone_below u.mailbox.messages.next (uids_in u.mailbox.messages.messages) u.mailbox.messages.gone k.sound.once e.message e.there in
      subst (λ r. ShowsGone (shown_at 3 r)) (sym (n.shown ∙ ap (λ values. Int n.rowid ∷ values) e.shown)) (record {
        rowid = n.rowid;
        mailbox = s.id u.name;
        uid = e.message.uid;
        place = place_value e.message.place;
        short = omega (arith, low, v.next);
        shown = refl;
      })

  mark_shows : (row : Row) → Has (db 8) row → ShowsMark (shown_at 4 row)
  mark_shows row h =
      let s = stand.stands in
      let n = (s.below marks).sound row h in
      let u = n.meant in
      let e : MarkOf (s.kept u.name) (s.id u.name) n.values = u.shown in
      let v = (stand.values.mailboxes u.name u.mailbox u.there).messages in
      let k : IsKept u.mailbox.messages = stand.kept.at u.name u.mailbox u.there in
      let are = s.found u.name u.mailbox u.there in
      let own : Own = own_at u.mailbox.messages.own e.user in
      let given = given_kept u.mailbox.messages.next (s.kept u.name e.user) own e.change (are.found e.user) (k.sound.fits e.user).known e.there in
      let before : Has own.befores e.change.before =
      subst (λ (o : Own). Has o.befores e.change.before) (are.found e.user) (before_there (s.kept u.name e.user) 0 0 u.mailbox.messages.shared (are.order e.user) e.change e.there) in
      subst (λ r. ShowsMark (shown_at 4 r)) (sym (n.shown ∙ ap (λ values. Int n.rowid ∷ values) e.shown)) (record {
        rowid = n.rowid;
        mailbox = s.id u.name;
        user = e.user;
        own = place_value e.change.place;
        before = pos e.change.before;
        uid = e.change.uid;
        seen = e.change.seen;
        texts = IsUtf8-from_is_utf8 e.user (v.users e.user e.change.before before);
        short = omega (arith, given.1, v.next);
        shown = refl;
      })

  epoch_shows : (row : Row) → Has (db 10) row → ShowsEpoch (shown_at 5 row)
  epoch_shows row h =
      let s = stand.stands in
      let n = s.epochs.sound row h in
      let e = n.meant in
      let named = s.named.epochs e.name e.greatest e.there in
      subst (λ r. ShowsEpoch (shown_at 5 r)) (sym (n.shown ∙ ap (λ values. Int n.rowid ∷ values) e.shown)) (record {
        rowid = n.rowid;
        tree = tree_text e.name;
        path = path_of e.name;
        greatest = e.greatest;
        texts = (name_tree_utf8 e.name named, name_path_utf8 e.name named);
        short = stand.values.epochs e.name e.greatest e.there;
        shown = refl;
      })

  sub_shows : (row : Row) → Has (db 12) row → ShowsSubscription (shown_at 6 row)
  sub_shows row h =
      let s = stand.stands in
      let n = s.subscriptions.sound row h in
      let e = n.meant in
      let named = s.named.subscriptions e.user e.name e.there in
      subst (λ r. ShowsSubscription (shown_at 6 r)) (sym (n.shown ∙ ap (λ values. Int n.rowid ∷ values) e.shown)) (record {
        rowid = n.rowid;
        user = e.user;
        tree = tree_text e.name;
        path = path_of e.name;
        texts = (IsUtf8-from_is_utf8 e.user (stand.values.users e.user e.name e.there), name_tree_utf8 e.name named, name_path_utf8 e.name named);
        shown = refl;
      })

  pub all_show : AllShow db
  all_show = record {
    mailboxes = mailbox_shows;
    entries = entry_shows;
    messages = message_shows;
    gone = gone_shows;
    marks = mark_shows;
    epochs = epoch_shows;
    subscriptions = sub_shows;
    meta = shows;
  }
