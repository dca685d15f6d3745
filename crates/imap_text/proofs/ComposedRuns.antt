-- A text whose characters pass the quick check is in NFC.
use Rattle.std.proofs.Common.{◌≡◌, ◌∙◌, ap, ap₂, sym, refl, ℕ, zero, suc, ◌<◌, List, [], ◌∷◌, ◌++◌, append_assoc, append-nil, length, arith, Bool, true, false, eqb, chars, encode_utf8_all, IsUtf8, IsAscii, slice_index}
use Rattle.std.specs.List.{list_all}
use Rattle.std.proofs.lemmas.Bool.{and_from, eqb-true}
use Rattle.std.proofs.lemmas.Str.{chars-append, chars-nil, chars-IsAscii, encodes-append, encodes-chars, encode_ascii, chars_past_char, IsUtf8-from_ascii, IsUtf8-append}
use Rattle.unicode_normalization.specs.Forms.{nfc, Nfc}
use Rattle.unicode_normalization.specs.Order.{is_ordered}
use Rattle.unicode_normalization.specs.QuickCheck.{quick_check, quick_check_text, worst, worse, QuickCheck, Yes, No, Maybe}
use Rattle.unicode_normalization.proofs.FormsLemmas.{passes, normalize-passes, normalize-boundary, normalize-nil, class-latin, quick_check-ascii}
use Rattle.unicode_normalization.proofs.OrderLemmas.{is_ordered-starter}
use Rattle.unicode_normalization.proofs.TableFacts.{is_yes}
use Rattle.imap_nfc.specs.Nfc.{composed}
use Rattle.imap_text.specs.Runs.{IsRun}

-- ---- characters that pass

record IsPassing (cs : List ℕ) : Type 0 where
  all : list_all (passes Nfc) cs ≡ true
  ordered : is_ordered cs ≡ true

first_yes : (x y : QuickCheck) → worse x y ≡ Yes → (is_yes x ≡ true) × (y ≡ Yes)
first_yes Yes y h = (refl, h)
first_yes No y h = absurd cc
first_yes Maybe Yes h = absurd cc
first_yes Maybe No h = absurd cc
first_yes Maybe Maybe h = absurd cc

all_yes : (cs : List ℕ) → worst Nfc cs ≡ Yes → list_all (passes Nfc) cs ≡ true
unfolding worst
all_yes [] h = refl
all_yes (c ∷ cs) h =
    let parts = first_yes (quick_check Nfc c) (worst Nfc cs) h in
    and_from _ _ parts.0 (all_yes cs parts.1)

passing : (cs : List ℕ) → quick_check_text Nfc cs ≡ Yes → IsPassing cs
unfolding quick_check_text
passing cs h = by (is_ordered cs) refl
  where
    by : (ordered : Bool) → is_ordered cs ≡ ordered → IsPassing cs
    by true e = let yes_all : worst Nfc cs ≡ Yes = rw e at h in record { all = all_yes cs yes_all; ordered = e }
    by false e = let clash : No ≡ Yes = rw e at h in absurd cc

-- ASCII before them passes, too
passing-ascii : (ascii cs : List ℕ) → IsAscii ascii → IsPassing cs → IsPassing (ascii ++ cs)
passing-ascii [] cs ascii so_far = so_far
passing-ascii (b ∷ bs) cs ascii so_far =
    let first : b < 128 = ascii zero in
    let rest = passing-ascii bs cs (λ i. ascii (suc i)) so_far in
    let starter = class-latin b (omega (arith, first)) in
    record {
      all = and_from _ _ (ap is_yes (quick_check-ascii Nfc b first)) rest.all;
      ordered = is_ordered-starter b (bs ++ cs) (omega (arith, starter)) rest.ordered;
    }

-- ---- runs

nfc-passing : (cs later : List ℕ) → IsPassing cs → nfc (cs ++ []) ≡ cs ++ nfc []
nfc-passing cs later is = ap nfc (append-nil cs) ∙ normalize-passes Nfc cs is.all is.ordered ∙ sym (ap (λ (l : List ℕ). cs ++ l) (normalize-nil Nfc) ∙ append-nil cs)

nfc-before : (cs : List ℕ) (x : ℕ) (later : List ℕ) → x < 128 → IsPassing cs → nfc (cs ++ x ∷ later) ≡ cs ++ nfc (x ∷ later)
nfc-before cs x later ascii is =
    normalize-boundary Nfc cs x later (class-latin x (omega (arith, ascii))) (quick_check-ascii Nfc x ascii)
    ∙ ap (λ (l : List ℕ). l ++ nfc (x ∷ later)) (normalize-passes Nfc cs is.all is.ordered)

nfc-run : (cs later : List ℕ) → IsUtf8 later → (0 < length later → slice_index later 0 < 128) → IsPassing cs → nfc (cs ++ chars later) ≡ cs ++ nfc (chars later)
nfc-run cs [] utf8 seam is = ap (λ (l : List ℕ). nfc (cs ++ l)) chars-nil ∙ nfc-passing cs [] is ∙ ap (λ (l : List ℕ). cs ++ nfc l) (sym chars-nil)
nfc-run cs (b ∷ later) utf8 seam is =
    let ascii : b < 128 = seam (omega arith) in
    let first : chars (b ∷ later) ≡ b ∷ chars later = chars_past_char (b ∷ later) later b utf8 (ap (λ (l : List ℕ). l ++ later) (sym (encode_ascii b ascii))) in
    ap (λ (l : List ℕ). nfc (cs ++ l)) first ∙ nfc-before cs b (chars later) ascii is ∙ ap (λ (l : List ℕ). cs ++ nfc l) (sym first)

pub composed-run : (text ascii other later : List ℕ) → IsRun text ascii other later → quick_check_text Nfc (chars other) ≡ Yes → composed later ≡ later → composed text ≡ text
composed-run text ascii other later run quick so_far =
    let front = ascii ++ other in
    let utf8 : IsUtf8 front = IsUtf8-append ascii other (IsUtf8-from_ascii ascii run.is_ascii) run.other_utf8 in
    let whole : text ≡ front ++ later = run.whole ∙ sym (append_assoc ascii other later) in
    let cs : chars front ≡ ascii ++ chars other = chars-append ascii other (IsUtf8-from_ascii ascii run.is_ascii) ∙ ap (λ (l : List ℕ). l ++ chars other) (chars-IsAscii ascii run.is_ascii) in
    let is : IsPassing (ascii ++ chars other) = passing-ascii ascii (chars other) run.is_ascii (passing (chars other) quick) in
    ap composed whole
    ∙ ap (λ (l : List ℕ). encode_utf8_all (nfc l)) (chars-append front later utf8 ∙ ap (λ (l : List ℕ). l ++ chars later) cs)
    ∙ ap encode_utf8_all (nfc-run (ascii ++ chars other) later run.later_utf8 run.seam is)
    ∙ encodes-append (ascii ++ chars other) (nfc (chars later))
    ∙ ap₂ ◌++◌ (ap encode_utf8_all (sym cs) ∙ encodes-chars front utf8) so_far
    ∙ sym whole

-- nothing is left
pub composed-end : (rest : List ℕ) → eqb (length rest) 0 ≡ true → composed rest ≡ rest
composed-end [] e = ap (λ (l : List ℕ). encode_utf8_all (nfc l)) chars-nil ∙ ap encode_utf8_all (normalize-nil Nfc)
composed-end (b ∷ rest) e = absurd (omega (arith, eqb-true (length (b ∷ rest)) 0 e))
