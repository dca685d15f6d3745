-- What holds of each entry of a list in order.
use Rattle.std.proofs.Common.{◌≡◌, ℕ, Bool, true, false, cond, List, [], ◌∷◌, Some, None, refl, sym, ap, subst, ◌∙◌}
use Rattle.std.specs.Ordering.{eq_by_cmp}
use Rattle.std.specs.FinMap.Entries.{find}
use Rattle.std.specs.Prelude.{Option, option_map}
use Rattle.std.specs.FinMap as fin
use Rattle.std.specs.FinMap.{get-entries}
use Rattle.imap_world.specs.declared.mailbox_entry.MailboxEntry.{MailboxEntry}
use Rattle.imap_world.specs.Mailbox.{Mailbox, plain, plain_all}
use Rattle.imap_world.specs.Restored.{ArePlaced, IsPlaced}
use Rattle.imap_world.proofs.Contents.{get_plain}
use Rattle.imap_names.specs.Name.{Name}
use Rattle.imap_names.specs.Order.{Names, name_cmp}
use Rattle.imap_names.proofs.OrderLaws.{name_antisymmetric, tied}

module _ {X : Type 0} (P : Name → X → Type 0) (all : List (Name × X)) where
  -- it holds of the entries before those that are left
  pub record IsWalked (rest : List (Name × X)) : Type 0 where
    pub before : (q : Name) (v : X) → find name_cmp q all ≡ Some v → find name_cmp q rest ≡ None → P q v

  pub walk_begins : IsWalked all
  walk_begins = record { before = λ q v there gone. absurd (cc (sym there ∙ gone)) }

  some_one : (v w : X) → Some v ≡ Some w → v ≡ w
  some_one v w e = cc e

  pub walk_goes_on : (rest next : List (Name × X)) (name : Name) (value : X) → rest ≡ (name, value) ∷ next → find name_cmp name all ≡ Some value → P name value → IsWalked rest → IsWalked next
  walk_goes_on rest next name value here found holds h = record { before = λ q v there gone. by_test q v there gone (eq_by_cmp name_cmp q name) refl }
    where
      by_test : (q : Name) (v : X) → find name_cmp q all ≡ Some v → find name_cmp q next ≡ None → (b : Bool) → eq_by_cmp name_cmp q name ≡ b → P q v
      by_test q v there gone true e =
          let same : q ≡ name = name_antisymmetric q name (tied _ e) in
          let one : v ≡ value = some_one v value (sym there ∙ ap (λ k. find name_cmp k all) same ∙ found) in
          subst (λ k. P k v) (sym same) (subst (P name) (sym one) holds)
      by_test q v there gone false e =
          h.before q v there (ap (find name_cmp q) here ∙ ap (λ b. cond b (Some value) (find name_cmp q next)) e ∙ gone)

  pub walk_ends : IsWalked [] → (name : Name) (v : X) → find name_cmp name all ≡ Some v → P name v
  walk_ends h name v there = h.before name v there refl

-- ---- what is held without room

plain_of : (o : Option MailboxEntry) (m : Mailbox) → option_map plain o ≡ Some m → (e : MailboxEntry) × (o ≡ Some e) × (plain e ≡ m)
plain_of None m is = absurd (cc is)
plain_of (Some e) m is = (e, refl, some_plain (plain e) m is)
  where
    some_plain : (x y : Mailbox) → Some x ≡ Some y → x ≡ y
    some_plain x y e = cc e

module _ (mailboxes : Names MailboxEntry) (epochs : Names ℕ) (es : List (Name × MailboxEntry)) (are : es ≡ fin.entries mailboxes) where
  listed : (name : Name) → find name_cmp name es ≡ fin.get mailboxes name
  listed name = ap (find name_cmp name) are ∙ sym (get-entries mailboxes name)

  pub placed_all : ((name : Name) (e : MailboxEntry) → find name_cmp name es ≡ Some e → IsPlaced (plain_all mailboxes) epochs name e.validity) → ArePlaced (plain_all mailboxes) epochs
  placed_all h name m there =
      let at = plain_of (fin.get mailboxes name) m (sym (get_plain mailboxes name) ∙ there) in
      subst (λ (n : Mailbox). IsPlaced (plain_all mailboxes) epochs name n.validity) at.2 (h name at.0 (listed name ∙ at.1))

  pub all_placed : ArePlaced (plain_all mailboxes) epochs → (name : Name) (e : MailboxEntry) → find name_cmp name es ≡ Some e → IsPlaced (plain_all mailboxes) epochs name e.validity
  all_placed h name e there = h name (plain e) (get_plain mailboxes name ∙ ap (option_map plain) (sym (listed name) ∙ there))
