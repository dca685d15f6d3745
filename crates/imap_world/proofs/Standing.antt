-- Rows of mailboxes, and the mailboxes for which they stand.
use Rattle.std.proofs.Common.{◌≡◌, ℕ, zero, suc, ◌<◌, true, ◌&&◌, List, [], ◌∷◌, ◌++◌, length, get_or, set, map, Option, Some, None, Result, Ok, Err, is_some, IsPermutation, is_lt, refl, sym, ap, ◌∙◌, subst, arith, append_assoc, append-nil}
use Rattle.std.specs.FinMap as fin
use Rattle.std.specs.FinMap.{get-entries, nat_cmp-IsAntisymmetric, slice_cmp-IsAntisymmetric}
use Rattle.std.specs.Cmp.Lexicographic.{slice_cmp, nat_list_cmp_total}
use Rattle.std.specs.Ordering.{nat_cmp}
use Rattle.std.specs.FinMap.Entries.{below_all, is_sorted}
use Rattle.std.specs.List.{AllByRecursion, AllZip, swap}
use Rattle.std.proofs.lemmas.List.Sorted.{IsPermutation-keeps, IsPermutation-refl, IsPermutation-sym, IsPermutation-trans, length_permutation}
use Rattle.imap_batch.specs.Held.{IsKept}
use Rattle.imap_batch.proofs.OneMailbox.{stand_for_one}
use Rattle.imap_batch.specs.PartsError.{PartsError}
use Rattle.imap_batch.specs.PartsError.TheVariants.{Bad, Memory}
use Rattle.imap_name_map.specs.Rows as name
use Rattle.imap_name_map.proofs.Maps.{entries_of, map_of, sorted_entries}
use Rattle.imap_names.specs.Name.{Name}
use Rattle.imap_names.specs.Order.{Names, name_cmp}
use Rattle.imap_names.proofs.NameLaws.{is_name_at-same}
use Rattle.imap_names.proofs.OrderLaws.{name_antisymmetric, name_total}
use Rattle.imap_rights.specs.Acl.{IsAcl}
use Rattle.imap_world.specs.declared.mailbox_entry.MailboxEntry.{MailboxEntry}
use Rattle.imap_world.specs.declared.world_parts.MailboxRow.{MailboxRow}
use Rattle.imap_world.specs.declared.world_parts.WorldParts.{WorldParts}
use Rattle.imap_world.specs.Kept.{AreKept, IsSound, superior_is_there}
use Rattle.imap_world.specs.Mailbox.{Mailbox, plain, plain_all}
use Rattle.imap_world.specs.Parts.{AreLists, AreMailboxes, IsRowOf, Restores}
use Rattle.imap_world.specs.Restored.{AreCounted, ArePlaced, PushesRow, RestoresMailboxes, RestoresMap}
use Rattle.imap_world.specs.World.{World}
use Rattle.imap_world.proofs.Contents.{entries_plain, plain_entry}
use Rattle.imap_world.proofs.MovedEntries.{all_entries, all_moved, listed_all, same_if_moved}
use Rattle.imap_world.proofs.Sets.{user_itself}

-- ---- lists whose elements belong together one by one

module _ {A B : Type 0} (R : A → B → Type 0) where
  zip_length : (xs : List A) (ys : List B) → AllZip R xs ys → length xs ≡ length ys
  zip_length [] [] h = refl
  zip_length [] (y ∷ ys) h = absurd h
  zip_length (x ∷ xs) [] h = absurd h
  zip_length (x ∷ xs) (y ∷ ys) h = ap suc (zip_length xs ys h.1)

  zip_at : (xs : List A) (ys : List B) (i : ℕ) (d : A) (e : B) → AllZip R xs ys → i < length xs → R (get_or xs i d) (get_or ys i e)
  zip_at [] [] i d e h lt = absurd (omega (arith, lt))
  zip_at [] (y ∷ ys) i d e h lt = absurd h
  zip_at (x ∷ xs) [] i d e h lt = absurd h
  zip_at (x ∷ xs) (y ∷ ys) zero d e h lt = h.0
  zip_at (x ∷ xs) (y ∷ ys) (suc i) d e h lt = zip_at xs ys i d e h.1 (omega (arith, lt))

  zip_set : (xs : List A) (ys : List B) (i : ℕ) (a : A) (b : B) → R a b → AllZip R xs ys → AllZip R (set xs i a) (set ys i b)
  zip_set [] [] i a b r h = h
  zip_set [] (y ∷ ys) i a b r h = absurd h
  zip_set (x ∷ xs) [] i a b r h = absurd h
  zip_set (x ∷ xs) (y ∷ ys) zero a b r h = (r, h.1)
  zip_set (x ∷ xs) (y ∷ ys) (suc i) a b r h = (h.0, zip_set xs ys i a b r h.1)

  zip_swap : (xs : List A) (ys : List B) (i j : ℕ) → i < length xs → j < length xs → AllZip R xs ys → AllZip R (swap xs i j) (swap ys i j)
  zip_swap [] [] i j p q h = h
  zip_swap [] (y ∷ ys) i j p q h = absurd h
  zip_swap (x ∷ xs) [] i j p q h = absurd h
  zip_swap (x ∷ xs) (y ∷ ys) i j p q h =
      zip_set (set (x ∷ xs) i (get_or (x ∷ xs) j x)) (set (y ∷ ys) i (get_or (y ∷ ys) j y)) j (get_or (x ∷ xs) i x) (get_or (y ∷ ys) i y) (zip_at (x ∷ xs) (y ∷ ys) i x y h p)
      (zip_set (x ∷ xs) (y ∷ ys) i (get_or (x ∷ xs) j x) (get_or (y ∷ ys) j y) (zip_at (x ∷ xs) (y ∷ ys) j x y h q) h)

  -- where the second are put in another order, the first can be, too
  pub zip_moved : (xs : List A) (ys zs : List B) → AllZip R xs ys → IsPermutation ys zs → (ws : List A) × IsPermutation xs ws × AllZip R ws zs
  zip_moved xs ys zs h moved =
      IsPermutation-keeps ys (λ l. (ws : List A) × IsPermutation xs ws × AllZip R ws l) (xs, IsPermutation-refl xs, h)
      (λ l i j p q k.
      let same = zip_length k.0 l k.2 in
      let long = length_permutation xs k.0 k.1 in (
        swap k.0 i j,
        record {
          moves = (i, j) ∷ k.1.moves;
          below = (omega (arith, p, same, long), omega (arith, q, same, long), k.1.below);
          is = ap (λ (ws : List A). swap ws i j) k.1.is;
        },
        zip_swap k.0 l i j (omega (arith, p, same)) (omega (arith, q, same)) k.2,
      )) zs moved

  -- what belongs to one of the first is one of the second
  pub one_of_zip : (P : B → Type 0) (front : List A) (x : A) (back : List A) (ys : List B) → AllZip R (front ++ x ∷ back) ys → AllByRecursion P ys → (y : B) × R x y × P y
  one_of_zip P [] x back [] h all = absurd h
  one_of_zip P [] x back (y ∷ ys) h all = (y, h.0, all.0)
  one_of_zip P (f ∷ front) x back [] h all = absurd h
  one_of_zip P (f ∷ front) x back (y ∷ ys) h all = one_of_zip P front x back ys h.1 all.1

  pub zip_push : (xs : List A) (ys : List B) (x : A) (y : B) → AllZip R xs ys → R x y → AllZip R (xs ++ x ∷ []) (ys ++ y ∷ [])
  zip_push [] [] x y h r = (r, tt)
  zip_push [] (b ∷ ys) x y h r = absurd h
  zip_push (a ∷ xs) [] x y h r = absurd h
  zip_push (a ∷ xs) (b ∷ ys) x y h r = (h.0, zip_push xs ys x y h.1 r)

zip_back : {A B : Type 0} (R : A → B → Type 0) (xs : List A) (ys : List B) → AllZip R xs ys → AllZip (λ y x. R x y) ys xs
zip_back R [] [] h = h
zip_back R [] (y ∷ ys) h = absurd h
zip_back R (x ∷ xs) [] h = absurd h
zip_back R (x ∷ xs) (y ∷ ys) h = (h.0, zip_back R xs ys h.1)

zip_joined : {A B C : Type 0} (R : A → B → Type 0) (S : A → C → Type 0) (Q : B → C → Type 0) → ((x : A) (y : B) (z : C) → R x y → S x z → Q y z)
    → (xs : List A) (ys : List B) (zs : List C) → AllZip R xs ys → AllZip S xs zs → AllZip Q ys zs
zip_joined R S Q f [] [] [] h k = tt
zip_joined R S Q f [] [] (z ∷ zs) h k = absurd k
zip_joined R S Q f [] (y ∷ ys) zs h k = absurd h
zip_joined R S Q f (x ∷ xs) [] zs h k = absurd h
zip_joined R S Q f (x ∷ xs) (y ∷ ys) [] h k = absurd k
zip_joined R S Q f (x ∷ xs) (y ∷ ys) (z ∷ zs) h k = (f x y z h.0 k.0, zip_joined R S Q f xs ys zs h.1 k.1)

-- ---- entries of a map

module _ {X Y : Type 0} where
  abbrev AreSame : Name × X → Name × Y → Type 0
  AreSame e f = e.0 ≡ f.0

  below_alike : (q : Name) (es : List (Name × X)) (fs : List (Name × Y)) → AllZip AreSame es fs → below_all name_cmp q es ≡ below_all name_cmp q fs
  below_alike q [] [] h = refl
  below_alike q [] (f ∷ fs) h = absurd h
  below_alike q (e ∷ es) [] h = absurd h
  below_alike q (e ∷ es) (f ∷ fs) h = λ i. is_lt (name_cmp q (h.0 i)) && below_alike q es fs h.1 i

  sorted_alike : (es : List (Name × X)) (fs : List (Name × Y)) → AllZip AreSame es fs → is_sorted name_cmp es ≡ is_sorted name_cmp fs
  sorted_alike [] [] h = refl
  sorted_alike [] (f ∷ fs) h = absurd h
  sorted_alike (e ∷ es) [] h = absurd h
  sorted_alike (e ∷ es) (f ∷ fs) h =
      let below : below_all name_cmp e.0 es ≡ below_all name_cmp f.0 fs = below_alike e.0 es fs h.1 ∙ ap (λ q. below_all name_cmp q fs) h.0 in
      λ i. below i && sorted_alike es fs h.1 i

-- ---- the mailboxes of rows

-- the entry is that of the row, and its messages are kept
pub record IsMade (row : MailboxRow) (e : Name × MailboxEntry) : Type 0 where
  pub stands : IsRowOf row (plain_entry e)
  pub kept : IsKept (plain e.1).messages

abbrev IsKeptEntry : Name × Mailbox → Type 0
IsKeptEntry e = IsKept (e.1).messages

record IsKeptList (e : Name × Mailbox) : Type 0 where
  kept : IsKept (e.1).messages
  list : IsAcl (e.1).acl

made_rows : (rows : List MailboxRow) (es : List (Name × MailboxEntry)) → AllZip IsMade rows es → AllZip IsRowOf rows (map plain_entry es)
made_rows [] [] h = h
made_rows [] (e ∷ es) h = absurd h
made_rows (r ∷ rows) [] h = absurd h
made_rows (r ∷ rows) (e ∷ es) h = (h.0.stands, made_rows rows es h.1)

made_kept : (rows : List MailboxRow) (es : List (Name × MailboxEntry)) → AllZip IsMade rows es → AllByRecursion IsKeptEntry (map plain_entry es)
made_kept [] [] h = tt
made_kept [] (e ∷ es) h = absurd h
made_kept (r ∷ rows) [] h = absurd h
made_kept (r ∷ rows) (e ∷ es) h = (h.0.kept, made_kept rows es h.1)

-- the rows before those that are left were appended
pub record AreMade (rows rest : List MailboxRow) (es : List (Name × MailboxEntry)) : Type 0 where
  pub done : List MailboxRow
  pub whole : rows ≡ done ++ rest
  pub made : AllZip IsMade done es

pub none_made : (rows rest : List MailboxRow) (es : List (Name × MailboxEntry)) → rest ≡ rows → es ≡ [] → AreMade rows rest es
none_made rows rest es is none = record { done = []; whole = sym is; made = subst (AllZip IsMade []) (sym none) tt }

pub one_made : (rows rest : List MailboxRow) (row : MailboxRow) (old new : List (Name × MailboxEntry)) (done : Unit {0}) → AreMade rows (row ∷ rest) old → PushesRow row old new (Ok done) → AreMade rows rest new
one_made rows rest row old new done h p = record {
  done = h.done ++ row ∷ [];
  whole = h.whole ∙ sym (append_assoc h.done (row ∷ []) rest);
  made = subst (AllZip IsMade (h.done ++ row ∷ [])) (sym p.1) (zip_push IsMade h.done old row p.0 h.made (record { stands = p.2; kept = p.3 }));
}

-- the rows are of mailboxes as they are kept, so that each of them is
misfit : (rows rest : List MailboxRow) (row : MailboxRow) (es : List (Name × MailboxEntry)) → AreMade rows (row ∷ rest) es
    → ((e : Name × Mailbox) → IsRowOf row e → IsKept (e.1).messages → IsAcl (e.1).acl → ⊥)
    → (mailboxes : Names Mailbox) → AreKept mailboxes → AreLists mailboxes → AreMailboxes rows mailboxes → ⊥
misfit rows rest row es h not mailboxes kept lists are =
    let listed = fin.entries mailboxes in
    let moved = zip_moved (λ e r. IsRowOf r e) listed are.0 rows (zip_back IsRowOf are.0 listed are.2) (IsPermutation-sym rows are.0 are.1) in
    let all : AllByRecursion IsKeptList listed = all_entries name_cmp name_total name_antisymmetric is_name_at-same (λ q m. IsKeptList (q, m)) mailboxes (λ q m there. record { kept = kept.at q m there; list = lists q m there }) in
    let there = one_of_zip IsRowOf IsKeptList h.done row rest moved.0 (subst (λ l. AllZip IsRowOf l moved.0) h.whole (zip_back (λ e r. IsRowOf r e) moved.0 rows moved.2))
    (all_moved name_cmp name_total name_antisymmetric is_name_at-same IsKeptList listed moved.0 moved.1 all) in
    not there.0 there.1 there.2.kept there.2.list

pub refused : (rows rest : List MailboxRow) (row : MailboxRow) (old new : List (Name × MailboxEntry)) (error : PartsError) → AreMade rows (row ∷ rest) old → PushesRow row old new (Err error) → RestoresMailboxes rows (Err error)
refused rows rest row old new Bad h p = misfit rows rest row old h p
refused rows rest row old new Memory h p = tt

-- a name that is there twice is so in no map
doubled : (rows : List MailboxRow) (es : List (Name × MailboxEntry)) → AllZip IsMade rows es → ((m : Names MailboxEntry) → IsPermutation es (fin.entries m) → ⊥)
    → (mailboxes : Names Mailbox) → AreMailboxes rows mailboxes → ⊥
doubled rows es made not mailboxes are =
    let listed = fin.entries mailboxes in
    let moved = zip_moved (λ e r. IsMade r e) es rows are.0 (zip_back IsMade rows es made) are.1 in
    let same : AllZip AreSame listed moved.0 = zip_joined IsRowOf IsMade AreSame (λ r e f h k. h.name ∙ sym k.stands.name) are.0 listed moved.0 are.2 (zip_back (λ e r. IsMade r e) moved.0 are.0 moved.2) in
    let sorted : is_sorted name_cmp moved.0 ≡ true = sym (sorted_alike listed moved.0 same) ∙ sorted_entries mailboxes listed refl in
    not (map_of moved.0) (subst (IsPermutation es) (sym (entries_of moved.0 sorted)) moved.1)

all_made : (rows : List MailboxRow) (es : List (Name × MailboxEntry)) (m : Names MailboxEntry) → AllZip IsMade rows es → IsPermutation es (fin.entries m) → AreMailboxes rows (plain_all m) × AreKept (plain_all m)
all_made rows es m made is =
    let moved = zip_moved IsMade rows es (fin.entries m) made is in
    let kept : AllByRecursion IsKeptEntry (fin.entries (plain_all m)) = subst (AllByRecursion IsKeptEntry) (sym (entries_plain m)) (made_kept moved.0 (fin.entries m) moved.2) in (
      (moved.0, moved.1, subst (AllZip IsRowOf moved.0) (sym (entries_plain m)) (made_rows moved.0 (fin.entries m) moved.2)),
      record { at = λ q mailbox there. listed_all name_cmp name_total name_antisymmetric is_name_at-same (λ k (x : Mailbox). IsKept x.messages) (fin.entries (plain_all m)) kept q mailbox (sym (get-entries (plain_all m) q) ∙ there) },
    )

pub restores : (rows : List MailboxRow) (es : List (Name × MailboxEntry)) → AreMade rows [] es → (r : Result (name.Rows MailboxEntry) PartsError) → RestoresMap es r → RestoresMailboxes rows r
restores rows es h r is = by r is
  where
    made : AllZip IsMade rows es
    made = subst (λ l. AllZip IsMade l es) (sym (h.whole ∙ append-nil h.done)) h.made

    by : (r : Result (name.Rows MailboxEntry) PartsError) → RestoresMap es r → RestoresMailboxes rows r
    by (Ok m) is = all_made rows es m.map made is
    by (Err Bad) is = λ mailboxes kept lists are. doubled rows es made is mailboxes are
    by (Err Memory) is = absurd is

-- ---- rows stand for the same mailboxes once

-- the row is that of a mailbox whose messages are kept
record IsKeptRow (row : MailboxRow) (e : Name × Mailbox) : Type 0 where
  stands : IsRowOf row e
  kept : IsKept (e.1).messages

kept_rows : (rows : List MailboxRow) (es : List (Name × Mailbox)) → AllZip IsRowOf rows es → AllByRecursion IsKeptEntry es → AllZip IsKeptRow rows es
kept_rows [] [] h all = tt
kept_rows [] (e ∷ es) h all = absurd h
kept_rows (r ∷ rows) [] h all = absurd h
kept_rows (r ∷ rows) (e ∷ es) h all = (record { stands = h.0; kept = all.0 }, kept_rows rows es h.1 all.1)

one_mailbox : (row : MailboxRow) (e f : Name × Mailbox) → IsKeptRow row e → IsKeptRow row f → e ≡ f
one_mailbox row e f h k = λ i. (name i, record { validity = validity i; acl = acl i; messages = messages i })
  where
    name : e.0 ≡ f.0
    name = h.stands.name ∙ sym k.stands.name

    validity : (e.1).validity ≡ (f.1).validity
    validity = h.stands.validity ∙ sym k.stands.validity

    acl : (e.1).acl ≡ (f.1).acl
    acl = same_if_moved (slice_cmp nat_cmp) nat_list_cmp_total (slice_cmp-IsAntisymmetric nat_cmp-IsAntisymmetric) user_itself (e.1).acl (f.1).acl (IsPermutation-trans _ _ _ (IsPermutation-sym _ _ h.stands.acl) k.stands.acl)

    messages : (e.1).messages ≡ (f.1).messages
    messages = stand_for_one row.messages (e.1).messages (f.1).messages h.kept k.kept h.stands.messages k.stands.messages

one_list : {X : Type 0} (es fs : List X) → AllZip (λ e f. e ≡ f) es fs → es ≡ fs
one_list [] [] h = refl
one_list [] (f ∷ fs) h = absurd h
one_list (e ∷ es) [] h = absurd h
one_list (e ∷ es) (f ∷ fs) h = λ i. h.0 i ∷ one_list es fs h.1 i

pub same_mailboxes : (rows : List MailboxRow) (m n : Names Mailbox) → AreKept m → AreKept n → AreMailboxes rows m → AreMailboxes rows n → m ≡ n
same_mailboxes rows m n kept_m kept_n are also =
    let of_m = kept_rows are.0 (fin.entries m) are.2 (listed m kept_m) in
    let of_n = kept_rows also.0 (fin.entries n) also.2 (listed n kept_n) in
    let order : IsPermutation also.0 are.0 = IsPermutation-trans also.0 rows are.0 (IsPermutation-sym rows also.0 also.1) are.1 in
    let moved = zip_moved (λ e r. IsKeptRow r e) (fin.entries n) also.0 are.0 (zip_back IsKeptRow also.0 (fin.entries n) of_n) order in
    let one : fin.entries m ≡ moved.0 = one_list (fin.entries m) moved.0 (zip_joined IsKeptRow IsKeptRow (λ e f. e ≡ f) one_mailbox are.0 (fin.entries m) moved.0 of_m (zip_back (λ e r. IsKeptRow r e) moved.0 are.0 moved.2)) in
    sym (same_if_moved name_cmp name_total name_antisymmetric is_name_at-same n m (subst (IsPermutation (fin.entries n)) (sym one) moved.1))
  where
    listed : (m : Names Mailbox) → AreKept m → AllByRecursion IsKeptEntry (fin.entries m)
    listed m kept = all_entries name_cmp name_total name_antisymmetric is_name_at-same (λ q (x : Mailbox). IsKept x.messages) m kept.at

-- ---- a world

pub sound_of : (world : World) → AreCounted world.epochs → ArePlaced world.mailboxes world.epochs → IsSound world
sound_of world counted placed = record {
  closed = λ q there. by q (fin.get world.mailboxes q) refl there;
  used = λ q m there. (placed q m there).used;
  positive = λ q m there. (placed q m there).positive;
  counted = counted;
}
  where
    by : (q : Name) (o : Option Mailbox) → fin.get world.mailboxes q ≡ o → is_some o ≡ true → superior_is_there world.mailboxes q ≡ true
    by q (Some m) at there = (placed q m at).superior
    by q None at there = absurd (cc there)

placed_of : (world : World) → IsSound world → ArePlaced world.mailboxes world.epochs
placed_of world sound q m there = record {
  positive = sound.positive q m there;
  used = sound.used q m there;
  superior = sound.closed q (ap is_some there);
}

-- maps that are not those of a sound world are those of none for which the parts stand
pub unsound : (parts : WorldParts) (mailboxes : Names Mailbox) (epochs : Names ℕ) → AreMailboxes parts.mailboxes.items mailboxes → AreKept mailboxes
    → IsPermutation parts.epochs.items (fin.entries epochs) → (AreCounted epochs → ArePlaced mailboxes epochs → ⊥) → Restores parts (Err Bad)
unsound parts mailboxes epochs are kept counted not world sound kept_there lists stands =
    let rows = same_mailboxes parts.mailboxes.items world.mailboxes mailboxes kept_there kept stands.mailboxes are in
    let used = same_if_moved name_cmp name_total name_antisymmetric is_name_at-same world.epochs epochs (IsPermutation-trans _ _ _ (IsPermutation-sym _ _ stands.epochs) counted) in
    not (subst AreCounted used sound.counted) (subst (ArePlaced mailboxes) used (subst (λ m. ArePlaced m world.epochs) rows (placed_of world sound)))
