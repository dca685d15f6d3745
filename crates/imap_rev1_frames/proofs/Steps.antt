-- One octet of a line after another.
use Rattle.std.proofs.Common.{◌≡◌, ◌∙◌, ap, sym, refl, ℕ, zero, suc, Bool, true, false, cond, ◌&&◌, List, [], ◌∷◌, ◌++◌, append_assoc, append-nil, length, arith}
use Rattle.imap_rev1_frames.specs.declared.scan.Scan.{Scan}
use Rattle.imap_rev1_frames.specs.Asked.{is_section}
use Rattle.imap_rev1_frames.specs.Part.{fields_length}
use Rattle.imap_rev1_frames.specs.Scan.{has_list, opens_list, takes_lists, is_item, list_length, count_held, is_in_word, written_word, word_asked, option_list, after_word, after_octet, written_from, written, asked_from, asked}
use Rattle.imap_rev1_frames.proofs.Pushes.{held_written, held_asked, ended_written, ended_asked}

-- ---- header lists

first_false : (b c d : Bool) → (false && b && c && d) ≡ false
first_false b c d = refl

second_false : (a c d : Bool) → (a && false && c && d) ≡ false
second_false true c d = refl
second_false false c d = refl

third_false : (a b d : Bool) → (a && b && false && d) ≡ false
third_false true true d = refl
third_false true false d = refl
third_false false b d = refl

fourth_false : (a b c : Bool) → (a && b && c && false) ≡ false
fourth_false true true true = refl
fourth_false true true false = refl
fourth_false true false c = refl
fourth_false false b c = refl

module _ (scan : Scan) (word octets : List ℕ) where
  pub no_section_list : is_section word ≡ false → has_list scan word octets ≡ false
  no_section_list h = ap (λ (b : Bool). b && opens_list octets && takes_lists scan.named && is_item scan) h ∙ first_false (opens_list octets) (takes_lists scan.named) (is_item scan)

  pub no_opened_list : opens_list octets ≡ false → has_list scan word octets ≡ false
  no_opened_list h = ap (λ (b : Bool). is_section word && b && takes_lists scan.named && is_item scan) h ∙ second_false (is_section word) (takes_lists scan.named) (is_item scan)

  pub no_taken_list : takes_lists scan.named ≡ false → has_list scan word octets ≡ false
  no_taken_list h = ap (λ (b : Bool). is_section word && opens_list octets && b && is_item scan) h ∙ third_false (is_section word) (opens_list octets) (is_item scan)

  pub no_item_list : is_item scan ≡ false → has_list scan word octets ≡ false
  no_item_list h = ap (λ (b : Bool). is_section word && opens_list octets && takes_lists scan.named && b) h ∙ fourth_false (is_section word) (opens_list octets) (takes_lists scan.named)

-- ---- octets

module _ (scan : Scan) (word : List ℕ) (octet : ℕ) (later : List ℕ) where
  -- an octet of the word
  module _ (inside : is_in_word scan octet ≡ true) where
    counted_one : count_held 0 scan word octet (octet ∷ later) ≡ 1
    counted_one = ap (λ (b : Bool). cond b 1 (list_length scan word (octet ∷ later))) inside

    pub word_written : written scan word (octet ∷ later) ≡ written scan (word ++ octet ∷ []) later
    word_written = held_written 0 scan word octet later 0 counted_one

    pub word_asks : asked scan word (octet ∷ later) ≡ asked scan (word ++ octet ∷ []) later
    word_asks = held_asked 0 scan word octet later 0 counted_one

  -- an octet after it
  module _ (outside : is_in_word scan octet ≡ false) (none : has_list scan word (octet ∷ later) ≡ false) where
    counted_none : count_held 0 scan word octet (octet ∷ later) ≡ 0
    counted_none =
        ap (λ (b : Bool). cond b 1 (list_length scan word (octet ∷ later))) outside
        ∙ ap (λ (b : Bool). cond b (fields_length word (octet ∷ later)) 0) none

    pub end_written : written scan word (octet ∷ later) ≡ written_word scan word ++ octet ∷ written (after_octet (after_word scan word) octet) [] later
    end_written = ended_written 0 scan word octet later counted_none

    pub end_asks : asked scan word (octet ∷ later) ≡ option_list (word_asked scan word) ++ asked (after_octet (after_word scan word) octet) [] later
    end_asks = ended_asked 0 scan word octet later counted_none

-- ---- octets that belong to the word in any case

pub all_held : (n : ℕ) (scan : Scan) (word octets : List ℕ) → n ≡ length octets → written_from n scan word octets ≡ written_word scan (word ++ octets)
all_held n scan word [] e = ap (written_word scan) (sym (append-nil word))
all_held zero scan word (octet ∷ octets) e = absurd (omega (arith, e))
all_held (suc n) scan word (octet ∷ octets) e = all_held n scan (word ++ octet ∷ []) octets (omega (arith, e)) ∙ ap (written_word scan) (append_assoc word (octet ∷ []) octets)

pub all_asks : (n : ℕ) (scan : Scan) (word octets : List ℕ) → n ≡ length octets → asked_from n scan word octets ≡ option_list (word_asked scan (word ++ octets))
all_asks n scan word [] e = ap (λ (w : List ℕ). option_list (word_asked scan w)) (sym (append-nil word))
all_asks zero scan word (octet ∷ octets) e = absurd (omega (arith, e))
all_asks (suc n) scan word (octet ∷ octets) e = all_asks n scan (word ++ octet ∷ []) octets (omega (arith, e)) ∙ ap (λ (w : List ℕ). option_list (word_asked scan w)) (append_assoc word (octet ∷ []) octets)

-- a word and the header list after it
module _ (scan : Scan) (word list : List ℕ) (outside : is_in_word scan 32 ≡ false) (lists : has_list scan word (32 ∷ 40 ∷ list) ≡ true) (whole : fields_length word (32 ∷ 40 ∷ list) ≡ length (32 ∷ 40 ∷ list)) where
  counted_list : count_held 0 scan word 32 (32 ∷ 40 ∷ list) ≡ length (32 ∷ 40 ∷ list)
  counted_list =
      ap (λ (b : Bool). cond b 1 (list_length scan word (32 ∷ 40 ∷ list))) outside
      ∙ ap (λ (b : Bool). cond b (fields_length word (32 ∷ 40 ∷ list)) 0) lists
      ∙ whole

  pub list_written : written scan word (32 ∷ 40 ∷ list) ≡ written_word scan (word ++ 32 ∷ 40 ∷ list)
  list_written =
      held_written 0 scan word 32 (40 ∷ list) (length (40 ∷ list)) counted_list
      ∙ all_held (length (40 ∷ list)) scan (word ++ 32 ∷ []) (40 ∷ list) refl
      ∙ ap (written_word scan) (append_assoc word (32 ∷ []) (40 ∷ list))

  pub list_asks : asked scan word (32 ∷ 40 ∷ list) ≡ option_list (word_asked scan (word ++ 32 ∷ 40 ∷ list))
  list_asks =
      held_asked 0 scan word 32 (40 ∷ list) (length (40 ∷ list)) counted_list
      ∙ all_asks (length (40 ∷ list)) scan (word ++ 32 ∷ []) (40 ∷ list) refl
      ∙ ap (λ (w : List ℕ). option_list (word_asked scan w)) (append_assoc word (32 ∷ []) (40 ∷ list))
