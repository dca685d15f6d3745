-- Quoted strings stay.
use Rattle.std.proofs.Common.{◌≡◌, ◌∙◌, ap, sym, refl, ℕ, Bool, true, false, cond, ◌&&◌, ◌||◌, List, [], ◌∷◌, ◌++◌, append_assoc, flat_map}
use Rattle.std.specs.Prelude.{◌==◌}
use Rattle.imap_syntax.specs.Lexical.{is_quoted_special}
use Rattle.imap_syntax.specs.Written.{escaped, quoted_text}
use Rattle.imap_rev1_frames.specs.declared.named.Named.{Named}
use Rattle.imap_rev1_frames.specs.declared.named.Named.TheVariants as named
use Rattle.imap_rev1_frames.specs.declared.scan.Quoting.{Quoting}
use Rattle.imap_rev1_frames.specs.declared.scan.Quoting.TheVariants as quoting
use Rattle.imap_rev1_frames.specs.declared.scan.Scan.{Scan}
use Rattle.imap_rev1_frames.specs.Scan.{is_outside, word_for, item_for, fetch_item_for, is_item, written_word, passed, after_inside, after_octet, after_quoting, next_line, written}
use Rattle.imap_rev1.specs.Laws.{StringsStay}
use Rattle.imap_rev1_frames.proofs.Steps.{end_written}

-- ---- no word

no_item : (is_item : Bool) → item_for is_item [] ≡ []
no_item true = refl
no_item false = refl

no_fetch_item : (is_item : Bool) → fetch_item_for is_item [] ≡ []
no_fetch_item true = refl
no_fetch_item false = refl

no_word_for : (command : Named) (is_item : Bool) → word_for command is_item [] ≡ []
no_word_for named.Check is_item = refl
no_word_for named.Lsub is_item = refl
no_word_for named.Search is_item = refl
no_word_for named.Status is_item = no_item is_item
no_word_for named.List is_item = no_item is_item
no_word_for named.Fetch is_item = no_fetch_item is_item
no_word_for named.Select is_item = refl
no_word_for named.Other is_item = refl

no_word_by : (scan : Scan) (b : Bool) → cond b (word_for scan.named (is_item scan) []) [] ≡ []
no_word_by scan true = no_word_for scan.named (is_item scan)
no_word_by scan false = refl

pub no_word : (scan : Scan) → written_word scan [] ≡ []
no_word scan = no_word_by scan (scan.passes == 0)

-- ---- octets in quotes

abbrev with_quoting : Quoting → Scan → Scan
with_quoting q scan = record scan { quoting = q }

-- an octet in quotes is written as it is
inside_step : (scan : Scan) (octet : ℕ) (rest : List ℕ) → written (with_quoting quoting.Inside scan) [] (octet ∷ rest) ≡ octet ∷ written (after_inside (with_quoting quoting.Inside scan) octet) [] rest
inside_step scan octet rest = ap (λ (l : List ℕ). l ++ octet ∷ written (after_inside (with_quoting quoting.Inside scan) octet) [] rest) (no_word (with_quoting quoting.Inside scan))

escaped_step : (scan : Scan) (octet : ℕ) (rest : List ℕ) → written (with_quoting quoting.Escaped scan) [] (octet ∷ rest) ≡ octet ∷ written (with_quoting quoting.Inside scan) [] rest
escaped_step scan octet rest = ap (λ (l : List ℕ). l ++ octet ∷ written (with_quoting quoting.Inside scan) [] rest) (no_word (with_quoting quoting.Escaped scan))

plain_inside : (scan : Scan) (a b : Bool) → (a || b) ≡ false → cond a (with_quoting quoting.Outside (passed scan)) (cond b (with_quoting quoting.Escaped scan) scan) ≡ scan
plain_inside scan true b h = absurd cc
plain_inside scan false true h = absurd cc
plain_inside scan false false h = refl

escaped_stays : (scan : Scan) (octet : ℕ) (rest : List ℕ) (b : Bool) → is_quoted_special octet ≡ b
    → written (with_quoting quoting.Inside scan) [] (cond b (92 ∷ octet ∷ []) (octet ∷ []) ++ rest) ≡ cond b (92 ∷ octet ∷ []) (octet ∷ []) ++ written (with_quoting quoting.Inside scan) [] rest
escaped_stays scan octet rest true h = inside_step scan 92 (octet ∷ rest) ∙ ap (λ (l : List ℕ). 92 ∷ l) (escaped_step scan octet rest)
escaped_stays scan octet rest false h =
    inside_step scan octet rest ∙ ap (λ (s : Scan). octet ∷ written s [] rest) (plain_inside (with_quoting quoting.Inside scan) (octet == 34) (octet == 92) h)

text_stays : (scan : Scan) (octets rest : List ℕ) → written (with_quoting quoting.Inside scan) [] (flat_map escaped octets ++ rest) ≡ flat_map escaped octets ++ written (with_quoting quoting.Inside scan) [] rest
text_stays scan [] rest = refl
text_stays scan (octet ∷ octets) rest =
    let more = flat_map escaped octets in
    ap (written (with_quoting quoting.Inside scan) []) (append_assoc (escaped octet) more rest)
    ∙ escaped_stays scan octet (more ++ rest) (is_quoted_special octet) refl
    ∙ ap (λ (l : List ℕ). escaped octet ++ l) (text_stays scan octets rest)
    ∙ sym (append_assoc (escaped octet) more (written (with_quoting quoting.Inside scan) [] rest))

opens : (q : Quoting) (scan : Scan) → is_outside q ≡ true → after_quoting q scan 34 ≡ with_quoting quoting.Inside scan
opens quoting.Outside scan h = refl
opens quoting.Inside scan h = absurd cc
opens quoting.Escaped scan h = absurd cc

-- a quote is of no word
quote_outside : (b : Bool) → (b && false) ≡ false
quote_outside true = refl
quote_outside false = refl

quote_step : (scan : Scan) (rest : List ℕ) → written scan [] (34 ∷ rest) ≡ written_word scan [] ++ 34 ∷ written (after_octet scan 34) [] rest
quote_step scan rest = end_written scan [] 34 rest (quote_outside (is_outside scan.quoting)) refl

pub strings_stay : StringsStay
strings_stay scan octets rest outside =
    let text = flat_map escaped octets in
    let whole : quoted_text octets ++ rest ≡ 34 ∷ (text ++ (34 ∷ rest)) = ap (λ (l : List ℕ). 34 ∷ l) (append_assoc text (34 ∷ []) rest) in
    let left = written (next_line (passed scan)) [] rest in
    ap (written scan []) whole
    ∙ quote_step scan (text ++ (34 ∷ rest))
    ∙ ap (λ (l : List ℕ). l ++ 34 ∷ written (after_octet scan 34) [] (text ++ (34 ∷ rest))) (no_word scan)
    ∙ ap (λ (s : Scan). 34 ∷ written s [] (text ++ (34 ∷ rest))) (opens scan.quoting scan outside)
    ∙ ap (λ (l : List ℕ). 34 ∷ l) (text_stays scan octets (34 ∷ rest) ∙ ap (λ (l : List ℕ). text ++ l) (inside_step scan 34 rest))
    ∙ ap (λ (l : List ℕ). 34 ∷ l) (sym (append_assoc text (34 ∷ []) left))
