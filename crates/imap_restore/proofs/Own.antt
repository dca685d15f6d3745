-- Mailboxes of which users' own changes are read first.
use Rattle.std.proofs.Common.{◌≡◌, List, [], ◌∷◌, ap, map, refl, subst, sym}
use Rattle.std.specs.List.{AllByRecursion, AllZip}
use Rattle.imap_tables.specs.Contents.{AreNumbersApart}
use Rattle.imap_tables.specs.declared.stored.StoredMailbox.{StoredMailbox}
use Rattle.imap_tables.specs.declared.stored.StoredSeenFlag.{StoredSeenFlag}
use Rattle.imap_tables.specs.declared.tables.StoredTables.{StoredTables}
use Rattle.imap_world.specs.declared.world_parts.MailboxRow.{MailboxRow}
use Rattle.imap_restore.specs.Parts.{AreIdsApart, AreOwnersApart, HasMailbox, HasMailboxOf, HasOwn, HasRows, IsMailboxFor, IsMailboxOf, IsOwn, IsWithOwn}
use Rattle.imap_restore.specs.declared.parts.MailboxWithOwn.{MailboxWithOwn}
use Rattle.imap_restore.specs.declared.parts.RowsBelow.{RowsBelow}
use Rattle.imap_restore.proofs.InOrder.{all_weaker}

zip_through : {A B C : Type 0} (R : A → B → Type 0) (S : B → C → Type 0) (Q : A → C → Type 0) → ((x : A) (y : B) (z : C) → R x y → S y z → Q x z)
    → (xs : List A) (ys : List B) (zs : List C) → AllZip R xs ys → AllZip S ys zs → AllZip Q xs zs
zip_through R S Q both [] [] [] h k = tt
zip_through R S Q both [] [] (z ∷ zs) h k = absurd k
zip_through R S Q both [] (y ∷ ys) zs h k = absurd h
zip_through R S Q both (x ∷ xs) [] zs h k = absurd h
zip_through R S Q both (x ∷ xs) (y ∷ ys) [] h k = absurd k
zip_through R S Q both (x ∷ xs) (y ∷ ys) (z ∷ zs) h k = (both x y z h.0 k.0, zip_through R S Q both xs ys zs h.1 k.1)

all_across : {A B : Type 0} (R : A → B → Type 0) (P : A → Type 0) (Q : B → Type 0) → ((x : A) (y : B) → R x y → P x → Q y)
    → (xs : List A) (ys : List B) → AllZip R xs ys → AllByRecursion P xs → AllByRecursion Q ys
all_across R P Q across [] [] h k = tt
all_across R P Q across [] (y ∷ ys) h k = absurd h
all_across R P Q across (x ∷ xs) [] h k = absurd h
all_across R P Q across (x ∷ xs) (y ∷ ys) h k = (across x y h.0 k.0, all_across R P Q across xs ys h.1 k.1)

abbrev rows_of : StoredTables → RowsBelow
rows_of t = record { entries = t.entries; messages = t.messages; gone = t.gone }

module _ (t : StoredTables) where
  has_rows : (s : StoredMailbox) (it : MailboxWithOwn) → IsWithOwn t.marks.items s it → HasRows t it.stored (rows_of t) it.own.items
  has_rows s it is = record {
    entries = refl;
    messages = refl;
    gone = refl;
    changes = subst (λ m. IsOwn t.marks.items m it.own.items) (sym is.0) is.1;
  }

  pub all_own : (xs : List StoredMailbox) → AllByRecursion (HasMailbox t) xs → AllByRecursion (HasOwn t.marks.items) xs
  all_own xs h = all_weaker (HasMailbox t) (HasOwn t.marks.items) (λ s has. has.messages.own) xs h

  is_mailbox : (s : StoredMailbox) (it : MailboxWithOwn) (row : MailboxRow) → IsWithOwn t.marks.items s it → IsMailboxOf (rows_of t) it row → IsMailboxFor t s row
  is_mailbox s it row is of = subst (λ m. IsMailboxFor t m row) is.0 (of t (has_rows s it is))

  pub all_read : (xs : List StoredMailbox) (ys : List MailboxWithOwn) (zs : List MailboxRow) → AllZip (IsWithOwn t.marks.items) xs ys → AllZip (IsMailboxOf (rows_of t)) ys zs
      → AllZip (IsMailboxFor t) xs zs
  all_read xs ys zs h k = zip_through (IsWithOwn t.marks.items) (IsMailboxOf (rows_of t)) (IsMailboxFor t) is_mailbox xs ys zs h k

  pub all_of : (xs : List StoredMailbox) (ys : List MailboxWithOwn) → AllZip (IsWithOwn t.marks.items) xs ys → AllByRecursion (HasMailbox t) xs → AllByRecursion (HasMailboxOf (rows_of t)) ys
  all_of xs ys h k =
      all_across (IsWithOwn t.marks.items) (HasMailbox t) (HasMailboxOf (rows_of t))
      (λ s it is has. (t, has_rows s it is, subst (HasMailbox t) (sym is.0) has)) xs ys h k

pub owners_apart : (marks : List StoredSeenFlag) (xs : List StoredMailbox) (ys : List MailboxWithOwn) → AllZip (IsWithOwn marks) xs ys → AreIdsApart xs → AreOwnersApart ys
owners_apart marks xs ys h apart = subst AreNumbersApart (ids xs ys h) apart
  where
    ids : (us : List StoredMailbox) (vs : List MailboxWithOwn) → AllZip (IsWithOwn marks) us vs → map (λ (s : StoredMailbox). s.id) us ≡ map (λ (it : MailboxWithOwn). it.stored.id) vs
    ids [] [] k = refl
    ids [] (v ∷ vs) k = absurd k
    ids (u ∷ us) [] k = absurd k
    ids (u ∷ us) (v ∷ vs) k = λ i. sym (ap (λ (s : StoredMailbox). s.id) k.0.0) i ∷ ids us vs k.1 i
