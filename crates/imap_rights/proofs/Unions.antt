-- The union of the rights of the entries that count, one entry after the other.
use Rattle.std.proofs.Common.{◌≡◌, ℕ, ◌+◌, ◌<◌, ◌≤◌, List, ◌∷◌, Bool, true, false, drop, drop-cons, add-one, get_or, length, sym, ap, ◌∙◌}
use Rattle.std.proofs.lemmas.List.{drop_all}
use Rattle.imap_rights.specs.declared.acl.Entry.{Entry}
use Rattle.imap_rights.specs.Rights.{bits, union}
use Rattle.imap_rights.specs.Entries.{pairs_of}
use Rattle.imap_rights.specs.Groups.{if_counts, union_where}
use Rattle.imap_rights.proofs.Sets.{union_assoc, union_none}

-- these rights, and those of the entries from a place on
pub and_from : (counts : List ℕ → Bool) → ℕ → ℕ → List Entry → ℕ
and_from counts rights i entries = union rights (union_where counts (pairs_of (drop i entries)))

step : (counts : List ℕ → Bool) (rights : ℕ) (item : Entry) (rest : List Entry)
    → union rights (union_where counts (pairs_of (item ∷ rest))) ≡ union (union rights (if_counts (counts item.identifier) (bits item.rights))) (union_where counts (pairs_of rest))
step counts rights item rest = sym (union_assoc rights (if_counts (counts item.identifier) (bits item.rights)) (union_where counts (pairs_of rest)))

front : (entries : List Entry) (i : ℕ) (item : Entry) → i < length entries → item ≡ get_or entries i item → drop i entries ≡ item ∷ drop (i + 1) entries
front entries i item h is = drop-cons entries i item h ∙ (λ j. sym is j ∷ drop (sym (add-one i) j) entries)

-- the next entry counts, or it doesn't
pub and_next : (counts : List ℕ → Bool) (entries : List Entry) (i rights after all : ℕ) (item : Entry) → i < length entries → item ≡ get_or entries i item
    → after ≡ union rights (if_counts (counts item.identifier) (bits item.rights))
    → union rights (union_where counts (pairs_of (drop i entries))) ≡ all
    → union after (union_where counts (pairs_of (drop (i + 1) entries))) ≡ all
and_next counts entries i rights after all item h is now before =
    ap (λ r. union r (union_where counts (pairs_of (drop (i + 1) entries)))) now
    ∙ sym (step counts rights item (drop (i + 1) entries))
    ∙ ap (λ es. union rights (union_where counts (pairs_of es))) (sym (front entries i item h is))
    ∙ before

pub if_counted : (b : Bool) (rights right after : ℕ) → b ≡ true → after ≡ union rights right → after ≡ union rights (if_counts b right)
if_counted true rights right after is now = now
if_counted false rights right after is now = cc

pub if_passed : (b : Bool) (rights right after : ℕ) → b ≡ false → after ≡ rights → after ≡ union rights (if_counts b right)
if_passed true rights right after is now = cc
if_passed false rights right after is now = now ∙ sym (union_none rights)

pub all_done : (counts : List ℕ → Bool) (entries : List Entry) (i rights all : ℕ) → length entries ≤ i
    → union rights (union_where counts (pairs_of (drop i entries))) ≡ all → rights ≡ all
all_done counts entries i rights all h before =
    sym (union_none rights) ∙ ap (λ es. union rights (union_where counts (pairs_of es))) (sym (drop_all i entries h)) ∙ before
