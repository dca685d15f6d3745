-- Which entries a seat has a receipt of when it let go of some.
use Rattle.std.proofs.Common.{◌≡◌, ◌∙◌, inl, inr, sym, ap, refl, subst, ℕ, ◌<◌, ◌≤◌, Bool, true, false, true≢false, List, [], ◌∷◌, ◌++◌, drop, length, map, nat_le, if◌then◌else◌, Option, Some, None, append_assoc, arith}
use Rattle.std.proofs.lemmas.List.{map-append}
use Rattle.imap_serve.specs.Step.{Step}
use Rattle.imap_serve.specs.Receipt.{Receipt}
use Rattle.imap_serve.specs.Hall.{entry_of}
use Rattle.imap_serve.specs.Journal.{JournalEntry}
use Rattle.imap_serve.specs.Receipts.{AreLast, IsNewest}
use Rattle.imap_serve.specs.Made.{Made}
use Rattle.imap_receipts.specs.Keeping.{IsReceipt, LetsGo, Remembers, but_newest, from_base, kept_entry}

more_before : (k : Made) (ks last : List Made) → AreLast false (map kept_entry ks) (map kept_entry last) → AreLast false (map kept_entry (k ∷ ks)) (map kept_entry last)
more_before k ks last h = record { before = kept_entry k ∷ h.before; parts = ap (λ l. kept_entry k ∷ l) h.parts; all = λ is. absurd (true≢false (sym is)) }

pub kept_last : (base : ℕ) (ks : List Made) → AreLast false (map kept_entry ks) (map kept_entry (from_base base ks))
kept_last base [] = record { before = []; parts = refl; all = λ _. refl }
kept_last base (k ∷ ks) = by (kept_last base ks) (nat_le k.receipt.place base)
  where
    by : AreLast false (map kept_entry ks) (map kept_entry (from_base base ks)) → (b : Bool) → AreLast false (map kept_entry (k ∷ ks)) (map kept_entry (if b then from_base base ks else k ∷ ks))
    by h true = more_before k ks (from_base base ks) h
    by h false = record { before = []; parts = refl; all = λ _. refl }

entry_kept : (k : Made) (step : Step) (r : Receipt) → IsReceipt k step r → kept_entry k ≡ entry_of step r
entry_kept k step r is = λ i. record { step = is.step i; own = is.receipt.own i; replies = is.receipt.replies i }

last_and : (whole kept : List JournalEntry) (e : JournalEntry) → AreLast false whole kept → AreLast false (whole ++ e ∷ []) (kept ++ e ∷ [])
last_and whole kept e h = record {
  before = h.before;
  parts = ap (λ l. l ++ e ∷ []) h.parts ∙ append_assoc h.before kept (e ∷ []);
  all = h.all;
}

-- the entry of the receipt is the newest of those that are kept
pub remembered : (base : ℕ) (old : List Made) (step : Step) (r : Receipt) (new : List Made) → Remembers base old step r new
    → AreLast false (map kept_entry old ++ entry_of step r ∷ []) (map kept_entry new)
remembered base old step r new h =
    subst (AreLast false (map kept_entry old ++ entry_of step r ∷ []))
    (ap (λ e. map kept_entry (from_base base old) ++ e ∷ []) (sym (entry_kept h.kept step r h.is))
    ∙ (sym (map-append kept_entry (from_base base old) (h.kept ∷ [])) ∙ ap (map kept_entry) (sym h.receipts)))
    (last_and (map kept_entry old) (map kept_entry (from_base base old)) (entry_of step r) (kept_last base old))

-- ---- all but the newest

kept_but_newest : (base : ℕ) (ks : List Made) → AreLast false (map kept_entry ks) (map kept_entry (but_newest base ks))
kept_but_newest base [] = record { before = []; parts = refl; all = λ _. refl }
kept_but_newest base (k ∷ []) = record { before = []; parts = refl; all = λ _. refl }
kept_but_newest base (k ∷ l ∷ ks) = by (kept_but_newest base (l ∷ ks)) (nat_le k.receipt.place base)
  where
    by : AreLast false (map kept_entry (l ∷ ks)) (map kept_entry (but_newest base (l ∷ ks))) → (b : Bool) → AreLast false (map kept_entry (k ∷ l ∷ ks)) (map kept_entry (if b then but_newest base (l ∷ ks) else k ∷ l ∷ ks))
    by h true = more_before k (l ∷ ks) (but_newest base (l ∷ ks)) h
    by h false = record { before = []; parts = refl; all = λ _. refl }

-- the receipts that are kept end with this one
abbrev EndsWith : Made → List Made → Type 0
EndsWith k ks = (front : List Made) × (ks ≡ front ++ k ∷ [])

newest_stays : (base : ℕ) (xs : List Made) (k : Made) → EndsWith k (but_newest base (xs ++ k ∷ []))
newest_stays base [] k = ([], refl)
newest_stays base (x ∷ []) k = by (nat_le x.receipt.place base)
  where
    by : (b : Bool) → EndsWith k (if b then k ∷ [] else x ∷ k ∷ [])
    by true = ([], refl)
    by false = (x ∷ [], refl)
newest_stays base (x ∷ y ∷ xs) k = by (newest_stays base (y ∷ xs) k) (nat_le x.receipt.place base)
  where
    by : EndsWith k (but_newest base (y ∷ xs ++ k ∷ [])) → (b : Bool) → EndsWith k (if b then but_newest base (y ∷ xs ++ k ∷ []) else x ∷ y ∷ xs ++ k ∷ [])
    by h true = h
    by h false = (x ∷ y ∷ xs, refl)

pub lets_go_same : (old new : List Made) → new ≡ old → LetsGo old new
lets_go_same old new is = inl is

pub lets_go_turned : (base : ℕ) (old new : List Made) → new ≡ but_newest base old → LetsGo old new
lets_go_turned base old new is = inr (base, is)

last_of_last : (whole kept less : List JournalEntry) → AreLast false whole kept → AreLast false kept less → AreLast false whole less
last_of_last whole kept less h k = record {
  before = h.before ++ k.before;
  parts = h.parts ∙ (ap (λ l. h.before ++ l) k.parts ∙ sym (append_assoc h.before k.before less));
  all = λ is. absurd (true≢false (sym is));
}

module _ (base : ℕ) (old : List Made) (step : Step) (r : Receipt) (mid : List Made) (h : Remembers base old step r mid) where
  pub remembered_still : (new : List Made) → LetsGo mid new → AreLast false (map kept_entry old ++ entry_of step r ∷ []) (map kept_entry new)
  remembered_still new (inl is) = subst (λ l. AreLast false (map kept_entry old ++ entry_of step r ∷ []) (map kept_entry l)) (sym is) (remembered base old step r mid h)
  remembered_still new (inr k) = subst (λ l. AreLast false (map kept_entry old ++ entry_of step r ∷ []) (map kept_entry l)) (sym k.1)
      (last_of_last (map kept_entry old ++ entry_of step r ∷ []) (map kept_entry mid) (map kept_entry (but_newest k.0 mid)) (remembered base old step r mid h) (kept_but_newest k.0 mid))

  ends_newest : (ks : List Made) → EndsWith h.kept ks → IsNewest step r (map kept_entry ks)
  ends_newest ks e = record {
    before = map kept_entry e.0;
    parts = ap (map kept_entry) e.1 ∙ map-append kept_entry e.0 (h.kept ∷ [])
        ∙ ap (λ x. map kept_entry e.0 ++ x ∷ []) (entry_kept h.kept step r h.is);
  }

  pub newest_still : (new : List Made) → LetsGo mid new → IsNewest step r (map kept_entry new)
  newest_still new (inl is) = ends_newest new (from_base base old, is ∙ h.receipts)
  newest_still new (inr k) = ends_newest new (subst (EndsWith h.kept) (sym (k.1 ∙ ap (but_newest k.0) h.receipts)) (newest_stays k.0 (from_base base old) h.kept))
