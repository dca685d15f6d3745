-- Items that are told one after another.
use Rattle.std.proofs.Common.{◌≡◌, ◌∙◌, ap, sym, refl, subst, ℕ, ◌+◌, ◌<◌, Bool, true, false, ◌||◌, List, [], ◌∷◌, ◌++◌, append_assoc, append-nil, length, drop, get_or, drop-cons, add-one, suc}
use Rattle.std.specs.Prelude.{codes}
use Rattle.imap_lex.specs.Framing.{crlf}
use Rattle.imap_print.specs.declared.fetch.FetchedSection.{FetchedSection}
use Rattle.imap_print.specs.Words.{GoesOn, further, joined, are_there}
use Rattle.imap_print.proofs.Wording.{goes_on-append}
use Rattle.imap_rev1_frames.specs.declared.asked.Asked.{Asked}
use Rattle.imap_rev1.specs.Labels.{rest_after, asked_words, all_asked_words}

-- These words, and then those that are to come, are all words.
abbrev pub AreAsked : (old : List ℕ) (begun : Bool) (whole left : List (List ℕ)) (new : List ℕ) (now : Bool) → Type 0
AreAsked old begun whole left new now = GoesOn old begun whole (new ++ further now 32 left) (now || are_there left)

pub asked_start : (old : List ℕ) (begun : Bool) (whole : List (List ℕ)) → AreAsked old begun whole whole old begun
asked_start old begun whole = record { printed = refl; any = refl }

-- words that are to come
goes_on_rest : (a : List ℕ) (b : Bool) (words more : List (List ℕ)) (c : List ℕ) (d : Bool) → GoesOn a b words c d → GoesOn a b (words ++ more) (c ++ further d 32 more) (d || are_there more)
goes_on_rest a b words more c d g = goes_on-append g (record { printed = refl; any = refl })

asked_next : (old : List ℕ) (begun : Bool) (whole words more : List (List ℕ)) (out new : List ℕ) (before now : Bool) → AreAsked old begun whole (words ++ more) out before → GoesOn out before words new now → AreAsked old begun whole more new now
asked_next old begun whole words more out new before now h g =
    let next = goes_on_rest out before words more new now g in
    record { printed = next.printed ∙ h.printed; any = next.any ∙ h.any }

pub asked_more : (old : List ℕ) (begun : Bool) (bodies rest later : List FetchedSection) (all : List Asked) (i : ℕ) (a : Asked) (out new : List ℕ) (before now : Bool)
    → drop i all ≡ a ∷ drop (i + 1) all → later ≡ rest_after a rest
    → AreAsked old begun (all_asked_words bodies bodies all) (all_asked_words bodies rest (drop i all)) out before
    → GoesOn out before (asked_words bodies rest a) new now
    → AreAsked old begun (all_asked_words bodies bodies all) (all_asked_words bodies later (drop (i + 1) all)) new now
asked_more old begun bodies rest later all i a out new before now is moved h g =
    let whole = all_asked_words bodies bodies all in
    let more = drop (i + 1) all in
    subst (λ (l : List FetchedSection). AreAsked old begun whole (all_asked_words bodies l more) new now) (sym moved)
    (asked_next old begun whole (asked_words bodies rest a) (all_asked_words bodies (rest_after a rest) more) out new before now
    (subst (λ (l : List Asked). AreAsked old begun whole (all_asked_words bodies rest l) out before) is h) g)

-- the item at a place
pub item_at : (all : List Asked) (i : ℕ) (a : Asked) → i < length all → a ≡ get_or all i a → drop i all ≡ a ∷ drop (i + 1) all
item_at all i a within is = rw add-one (drop-cons all i a within ∙ ap (λ (x : Asked). x ∷ drop (suc i) all) (sym is))

none_further : (now : Bool) → further now 32 [] ≡ []
none_further true = refl
none_further false = refl

any_none : (now : Bool) → now ≡ (now || false)
any_none true = refl
any_none false = refl

pub asked_end : (old : List ℕ) (begun : Bool) (whole : List (List ℕ)) (new : List ℕ) (now : Bool) → AreAsked old begun whole [] new now → GoesOn old begun whole new now
asked_end old begun whole new now h = record {
  printed = sym (append-nil new) ∙ ap (λ (l : List ℕ). new ++ l) (sym (none_further now)) ∙ h.printed;
  any = any_none now ∙ h.any;
}

-- ---- a line

closed : (out d words : List ℕ) → ((out ++ ((codes "* " ++ d) ++ codes " FETCH (")) ++ words) ++ codes ")\r\n" ≡ out ++ ((((codes "* " ++ d) ++ codes " FETCH ") ++ (40 ∷ words ++ 41 ∷ [])) ++ crlf)
closed out d words =
    let front = codes "* " ++ d in
    let end = codes ")\r\n" in
    append_assoc (out ++ (front ++ codes " FETCH (")) words end
    ∙ append_assoc out (front ++ codes " FETCH (") (words ++ end)
    ∙ ap (λ (l : List ℕ). out ++ l)
    (append_assoc front (codes " FETCH (") (words ++ end)
    ∙ ap (λ (l : List ℕ). front ++ (codes " FETCH (" ++ l)) (sym (append_assoc words (41 ∷ []) crlf))
    ∙ sym (append_assoc front (codes " FETCH ") ((40 ∷ words ++ 41 ∷ []) ++ crlf))
    ∙ sym (append_assoc (front ++ codes " FETCH ") (40 ∷ words ++ 41 ∷ []) crlf))

pub line_closed : (out d items sections new : List ℕ) (front more : List (List ℕ)) (begun now : Bool)
    → GoesOn (out ++ ((codes "* " ++ d) ++ codes " FETCH (")) false front items begun → GoesOn items begun more sections now → new ≡ sections ++ codes ")\r\n"
    → new ≡ out ++ ((((codes "* " ++ d) ++ codes " FETCH ") ++ (40 ∷ joined 32 (front ++ more) ++ 41 ∷ [])) ++ crlf)
line_closed out d items sections new front more begun now g h e =
    let whole : GoesOn (out ++ ((codes "* " ++ d) ++ codes " FETCH (")) false (front ++ more) sections now = goes_on-append g h in
    e ∙ ap (λ (l : List ℕ). l ++ codes ")\r\n") whole.printed ∙ closed out d (joined 32 (front ++ more))
