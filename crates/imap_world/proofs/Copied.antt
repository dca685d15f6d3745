-- A copy of mailboxes, one further.
use Rattle.std.proofs.Common.{◌≡◌, ℕ, ◌+◌, ◌<◌, ◌≤◌, Bool, true, false, cond, List, ◌∷◌, get_or, drop, drop-cons, add-one, suc, length, Option, Some, None, Equal, refl, sym, ap, subst, ◌∙◌}
use Rattle.std.specs.Prelude.{option_map}
use Rattle.std.specs.Cmp.{tied_itself}
use Rattle.std.specs.Option.{option_or}
use Rattle.std.proofs.Math.ListN.{drop_of_length-le}
use Rattle.std.proofs.lemmas.List.{get_or_default}
use Rattle.std.specs.FinMap as map
use Rattle.std.specs.FinMap.{get-empty, get-entries}
use Rattle.std.specs.FinMap.Entries.{find}
use Rattle.imap_name_map.proofs.Maps.{found, placed, sorted_entries}
use Rattle.imap_names.specs.Name.{Name}
use Rattle.imap_names.specs.Order.{Names, name_cmp}
use Rattle.imap_names.proofs.NameLaws.{equal_names, get_put, is_name_at, same_names}
use Rattle.imap_names.proofs.OrderLaws.{name_total}
use Rattle.imap_world.specs.declared.mailbox_entry.MailboxEntry.{MailboxEntry}
use Rattle.imap_world.specs.Mailbox.{Mailbox, plain, plain_all}
use Rattle.imap_world.proofs.Contents.{get_plain, plain_empty, plain_put}

-- what the copy has, or else what is left, is what the whole has
pub record IsCopiedTo (m copy : Names MailboxEntry) (left : List (Name × MailboxEntry)) : Type 0 where
  pub at : (q : Name) → map.get (plain_all m) q ≡ option_or (map.get (plain_all copy) q) (option_map plain (find name_cmp q left))

pub nothing_copied : (m copy : Names MailboxEntry) (es : List (Name × MailboxEntry)) → es ≡ map.entries m → copy ≡ map.empty → IsCopiedTo m copy es
nothing_copied m copy es are none = record {
  at = λ q. get_plain m q ∙ ap (option_map plain) (get-entries m q ∙ ap (find name_cmp q) (sym are))
      ∙ sym (ap (λ o. option_or o (option_map plain (find name_cmp q es))) (ap (λ (c : Names MailboxEntry). map.get (plain_all c) q) none ∙ ap (λ (c : Names Mailbox). map.get c q) plain_empty ∙ get-empty name_cmp q));
}

-- an entry of the map is found
pub entry_found : (m : Names MailboxEntry) (i : ℕ) (e : Name × MailboxEntry) → i < length (map.entries m) → e ≡ get_or (map.entries m) i e → map.get m e.0 ≡ Some e.1
entry_found m i e lt is =
    get-entries m e.0 ∙ sym (found (map.entries m) e.0 i e (placed (map.entries m) e.0 i (sorted_entries m (map.entries m) refl) (lt, λ d. at d)) is)
  where
    at : (d : Name × MailboxEntry) → name_cmp (get_or (map.entries m) i d).0 e.0 ≡ Equal
    at d =
        ap (λ (x : Name × MailboxEntry). name_cmp x.0 e.0) (get_or_default (map.entries m) i d e lt ∙ sym is) ∙ tied_itself name_total e.0

pub one_copied : (m copy new : Names MailboxEntry) (i : ℕ) (e : Name × MailboxEntry) (entry : MailboxEntry) (es : List (Name × MailboxEntry)) → es ≡ map.entries m
    → i < length es → e ≡ get_or es i e → plain entry ≡ plain e.1 → new ≡ map.insert copy e.0 entry → IsCopiedTo m copy (drop i es) → IsCopiedTo m new (drop (i + 1) es)
one_copied m copy new i e entry es are lt is same put copied = record {
  at = λ q. by q (is_name_at q e.0) refl ∙ ap (λ o. option_or o (option_map plain (find name_cmp q (drop (i + 1) es)))) (sym (after q));
}
  where
    after : (q : Name) → map.get (plain_all new) q ≡ cond (is_name_at q e.0) (Some (plain e.1)) (map.get (plain_all copy) q)
    after q =
        ap (λ (n : Names MailboxEntry). map.get (plain_all n) q) put ∙ ap (λ (n : Names Mailbox). map.get n q) (plain_put copy e.0 entry)
        ∙ get_put (plain_all copy) e.0 (plain entry) q ∙ ap (λ x. cond (is_name_at q e.0) (Some x) (map.get (plain_all copy) q)) same

    cut : drop i es ≡ e ∷ drop (i + 1) es
    cut = rw add-one (drop-cons es i e lt ∙ ap (λ x. x ∷ drop (suc i) es) (sym is))

    there : map.get m e.0 ≡ Some e.1
    there = entry_found m i e (subst (λ l. i < length l) are lt) (subst (λ l. e ≡ get_or l i e) are is)

    by : (q : Name) (b : Bool) → is_name_at q e.0 ≡ b
        → map.get (plain_all m) q ≡ option_or (cond (is_name_at q e.0) (Some (plain e.1)) (map.get (plain_all copy) q)) (option_map plain (find name_cmp q (drop (i + 1) es)))
    by q true here =
        get_plain m q ∙ ap (option_map plain) (ap (map.get m) (equal_names q e.0 here) ∙ there)
        ∙ ap (λ b. option_or (cond b (Some (plain e.1)) (map.get (plain_all copy) q)) (option_map plain (find name_cmp q (drop (i + 1) es)))) (sym here)
    by q false apart =
        copied.at q ∙ ap (λ l. option_or (map.get (plain_all copy) q) (option_map plain (find name_cmp q l))) cut
        ∙ ap (λ b. option_or (map.get (plain_all copy) q) (option_map plain (cond b (Some e.1) (find name_cmp q (drop (i + 1) es))))) apart
        ∙ ap (λ b. option_or (cond b (Some (plain e.1)) (map.get (plain_all copy) q)) (option_map plain (find name_cmp q (drop (i + 1) es)))) (sym apart)

pub all_copied : (m copy : Names MailboxEntry) (i : ℕ) (es : List (Name × MailboxEntry)) → length es ≤ i → IsCopiedTo m copy (drop i es) → plain_all copy ≡ plain_all m
all_copied m copy i es le copied = same_names _ _ (λ q. sym (copied.at q ∙ ap (λ l. option_or (map.get (plain_all copy) q) (option_map plain (find name_cmp q l))) (drop_of_length-le es le) ∙ whole (map.get (plain_all copy) q)))
  where
    whole : (o : Option Mailbox) → option_or o None ≡ o
    whole None = refl
    whole (Some x) = refl
