-- Rows that are below mailboxes which are there.
use Rattle.std.proofs.Common.{◌≡◌, ℤ, Bool, true, List, IsTrue, map, sym, subst}
use Rattle.std.specs.Prelude.{◌↔◌, Contains}
use Rattle.sqlite_rules.proofs.ListLemmas.{test_from, test_has}
use Rattle.sqlite_rules.proofs.ProbeLemmas.{has_mapped, mapped_has}
use Rattle.imap_tables.specs.declared.stored.StoredMailbox.{StoredMailbox}
use Rattle.imap_restore.specs.Parts.{AreBelow, AreKnown, IsOneOf}
use Rattle.imap_restore.proofs.Listed.{contains_has, has_contains}

module _ (mailboxes : List StoredMailbox) (test : ℤ → Bool) (tells : (id : ℤ) → IsTrue (test id) ↔ Contains (map (λ (it : StoredMailbox). it.id) mailboxes) id) where
  abbrev ids : List ℤ
  ids = map (λ (it : StoredMailbox). it.id) mailboxes

  one_of : (id : ℤ) → test id ≡ true → IsOneOf mailboxes id
  one_of id passes =
      let x = has_mapped (λ (it : StoredMailbox). it.id) mailboxes id (contains_has ids id ((tells id).0 passes)) in
      (x.0, x.1, sym x.2)

  passes : (id : ℤ) → IsOneOf mailboxes id → test id ≡ true
  passes id one = (tells id).1 (subst (Contains ids) one.2 (has_contains ids one.0.id (mapped_has (λ (it : StoredMailbox). it.id) mailboxes one.0 one.1)))

  pub known_below : {R : Type 0} (mailbox : R → ℤ) (rows : List R) → AreKnown mailbox test rows → AreBelow mailbox mailboxes rows
  known_below mailbox rows known row h = one_of (mailbox row) (test_has (λ r. test (mailbox r)) rows row known h)

  pub below_known : {R : Type 0} (mailbox : R → ℤ) (rows : List R) → AreBelow mailbox mailboxes rows → AreKnown mailbox test rows
  below_known mailbox rows below = test_from (λ r. test (mailbox r)) rows (λ row h. passes (mailbox row) (below row h))
