-- First lines, octet by octet.
use Rattle.std.proofs.Common.{◌≡◌, ◌<◌, ◌≤◌, ℕ, suc, zero, ◌+◌, Bool, true, false, cond, not, List, [], ◌∷◌, ◌++◌, length, take, drop, append_assoc, append-nil, refl, sym, ap, ◌∙◌, arith}
use Rattle.std.proofs.Math.Nat.{add-zero, zero-add}
use Rattle.std.proofs.Math.Numerals.{one-add}
use Rattle.std.proofs.lemmas.Bool.{ltb-true, ltb-false, lt-ltb, le-ltb}
use Rattle.std.proofs.lemmas.List.{length-append}
use Rattle.std.specs.Prelude.{◌==◌, if◌then◌else◌, nat_lt}
use Rattle.imap_lex.specs.Chars.{is_tag_char}
use Rattle.imap_lex.specs.CommandTag.{tag_length}
use Rattle.imap_service.specs.declared.command_words.TheConstants.{LONGEST_WORD}
use Rattle.imap_service.specs.declared.first_line.Opening.{Opening}
use Rattle.imap_service.specs.declared.first_line.Opening.TheVariants as opening
use Rattle.imap_service.specs.declared.first_line.Place.TheVariants as place
use Rattle.imap_service.specs.FirstLine.{LineState, after_octet, after_octets, after_tag, after_word, ends_word, first_state, is_command_word, of_word, opening_at, opening_of, place_after, state, word_length}
use Rattle.imap_service.specs.Laws.{AnyCut, BeginsByWord}

-- where octets are cut makes no difference
after_both : (first : List ℕ) (s : LineState) (second : List ℕ) → after_octets s (first ++ second) ≡ after_octets (after_octets s first) second
after_both [] s second = refl
after_both (b ∷ first) s second = after_both first (after_octet s b) second

pub any_cut : AnyCut
any_cut s first second = after_both first s second

-- ---- what is known stays known

abbrev opening_after : LineState → List ℕ → Opening
opening_after s octets = opening_at (after_octets s octets).place

command_stays : (word octets : List ℕ) → opening_after (state place.Command word) octets ≡ opening.Command
command_stays word [] = refl
command_stays word (b ∷ octets) = command_stays word octets

refused_stays : (word octets : List ℕ) → opening_after (state place.Refused word) octets ≡ opening.Refused
refused_stays word [] = refl
refused_stays word (b ∷ octets) = refused_stays word octets

word_stays : (word octets : List ℕ) (v : Bool) → is_command_word word ≡ v → opening_after (state (place_after word) word) octets ≡ (if is_command_word word then opening.Command else opening.Refused)
word_stays word octets true e = rw e (command_stays word octets)
word_stays word octets false e = rw e (refused_stays word octets)

-- ---- in the word, of which some octets have come

abbrev of_word_after : (word : List ℕ) (count : ℕ) (octets : List ℕ) → Opening
of_word_after word count octets =
    if nat_lt LONGEST_WORD (length word + count)
    then opening.Refused
    else after_word (word ++ take count octets) (drop count octets)

no_more : (word octets : List ℕ) → nat_lt LONGEST_WORD (length word) ≡ false → of_word_after word 0 octets ≡ after_word word octets
no_more word octets short = rw (add-zero (length word), short, append-nil word) refl

after_end : (word : List ℕ) (b : ℕ) → ends_word b ≡ true → after_octet (state place.Word word) b ≡ state (place_after word) word
after_end word b e = rw e refl

after_more : (word : List ℕ) (b : ℕ) → ends_word b ≡ false → nat_lt (length word) LONGEST_WORD ≡ true → after_octet (state place.Word word) b ≡ state place.Word (word ++ b ∷ [])
after_more word b e room = rw (e, room) refl

after_full : (word : List ℕ) (b : ℕ) → ends_word b ≡ false → nat_lt (length word) LONGEST_WORD ≡ false → after_octet (state place.Word word) b ≡ state place.Refused word
after_full word b e full = rw (e, full) refl

counts_none : (b : ℕ) (octets : List ℕ) → ends_word b ≡ true → word_length (b ∷ octets) ≡ 0
counts_none b octets e = rw e refl

counts_one : (b : ℕ) (octets : List ℕ) → ends_word b ≡ false → word_length (b ∷ octets) ≡ 1 + word_length octets
counts_one b octets e = rw e refl

end_step : (word : List ℕ) (b : ℕ) (octets : List ℕ) → nat_lt LONGEST_WORD (length word) ≡ false → ends_word b ≡ true → opening_after (state place.Word word) (b ∷ octets) ≡ of_word_after word (word_length (b ∷ octets)) (b ∷ octets)
end_step word b octets short e =
    ap (λ s. opening_after s octets) (after_end word b e)
    ∙ word_stays word octets (is_command_word word) refl
    ∙ sym (no_more word (b ∷ octets) short)
    ∙ ap (λ n. of_word_after word n (b ∷ octets)) (sym (counts_none b octets e))

too_long : (word : List ℕ) (count : ℕ) (octets : List ℕ) → LONGEST_WORD ≤ length word → of_word_after word (1 + count) octets ≡ opening.Refused
too_long word count octets some =
    let over : nat_lt LONGEST_WORD (length word + (1 + count)) ≡ true = lt-ltb LONGEST_WORD (length word + (1 + count)) (omega (arith, some)) in
    rw over refl

long_step : (word : List ℕ) (b : ℕ) (octets : List ℕ) → nat_lt (length word) LONGEST_WORD ≡ false → ends_word b ≡ false → opening_after (state place.Word word) (b ∷ octets) ≡ of_word_after word (word_length (b ∷ octets)) (b ∷ octets)
long_step word b octets full e =
    ap (λ s. opening_after s octets) (after_full word b e full)
    ∙ refused_stays word octets
    ∙ sym (too_long word (word_length octets) (b ∷ octets) (ltb-false (length word) LONGEST_WORD full))
    ∙ ap (λ n. of_word_after word n (b ∷ octets)) (sym (counts_one b octets e))

one_more : (word : List ℕ) (b : ℕ) (count : ℕ) (octets : List ℕ) → of_word_after (word ++ b ∷ []) count octets ≡ of_word_after word (1 + count) (b ∷ octets)
one_more word b count octets =
    let lengths : length (word ++ b ∷ []) + count ≡ length word + (1 + count) = omega (arith, length-append word (b ∷ [])) in
    rw (lengths, one-add, append_assoc word (b ∷ []) (take count octets)) refl

next_step : (word : List ℕ) (b : ℕ) (octets : List ℕ) → nat_lt (length word) LONGEST_WORD ≡ true → ends_word b ≡ false
    → opening_after (state place.Word (word ++ b ∷ [])) octets ≡ of_word_after (word ++ b ∷ []) (word_length octets) octets
    → opening_after (state place.Word word) (b ∷ octets) ≡ of_word_after word (word_length (b ∷ octets)) (b ∷ octets)
next_step word b octets room e later =
    ap (λ s. opening_after s octets) (after_more word b e room)
    ∙ later
    ∙ one_more word b (word_length octets) octets
    ∙ ap (λ n. of_word_after word n (b ∷ octets)) (sym (counts_one b octets e))

longer : (word : List ℕ) (b : ℕ) → nat_lt (length word) LONGEST_WORD ≡ true → nat_lt LONGEST_WORD (length (word ++ b ∷ [])) ≡ false
longer word b room =
    let some : length word < LONGEST_WORD = ltb-true (length word) LONGEST_WORD room in
    le-ltb LONGEST_WORD (length (word ++ b ∷ [])) (omega (arith, some, length-append word (b ∷ [])))

in_word : (word octets : List ℕ) → nat_lt LONGEST_WORD (length word) ≡ false → opening_after (state place.Word word) octets ≡ of_word_after word (word_length octets) octets
in_word word [] short = sym (no_more word [] short)
in_word word (b ∷ octets) short = by_end (ends_word b) refl (nat_lt (length word) LONGEST_WORD) refl (λ room. in_word (word ++ b ∷ []) octets (longer word b room))
  where
    by_end : (ends : Bool) → ends_word b ≡ ends → (room : Bool) → nat_lt (length word) LONGEST_WORD ≡ room → (nat_lt (length word) LONGEST_WORD ≡ true → opening_after (state place.Word (word ++ b ∷ [])) octets ≡ of_word_after (word ++ b ∷ []) (word_length octets) octets) → opening_after (state place.Word word) (b ∷ octets) ≡ of_word_after word (word_length (b ∷ octets)) (b ∷ octets)
    by_end true e room r later = end_step word b octets short e
    by_end false e true r later = next_step word b octets r e (later r)
    by_end false e false r later = long_step word b octets r e

none_before : (count : ℕ) (octets : List ℕ) → of_word_after [] count octets ≡ of_word count octets
none_before count octets = rw (zero-add count) refl

-- ---- in the tag

tag_on : (b : ℕ) → is_tag_char b ≡ true → after_octet (state place.Tag []) b ≡ state place.Tag []
tag_on b e = rw e refl

tag_done : (b : ℕ) → is_tag_char b ≡ false → (b == 32) ≡ true → after_octet (state place.Tag []) b ≡ state place.Word []
tag_done b e s = rw (e, s) refl

tag_refused : (b : ℕ) → is_tag_char b ≡ false → (b == 32) ≡ false → after_octet (state place.Tag []) b ≡ state place.Refused []
tag_refused b e s = rw (e, s) refl

tag_begun : (b : ℕ) → is_tag_char b ≡ true → after_octet first_state b ≡ state place.Tag []
tag_begun b e = rw e refl

tag_missing : (b : ℕ) → is_tag_char b ≡ false → after_octet first_state b ≡ state place.Refused []
tag_missing b e = rw e refl

in_tag : (octets : List ℕ) → opening_after (state place.Tag []) octets ≡ after_tag (drop (tag_length octets) octets)
in_tag [] = refl
in_tag (b ∷ octets) = by_char (is_tag_char b) refl (b == 32) refl (in_tag octets)
  where
    by_char : (tag : Bool) → is_tag_char b ≡ tag → (space : Bool) → (b == 32) ≡ space → opening_after (state place.Tag []) octets ≡ after_tag (drop (tag_length octets) octets) → opening_after (state place.Tag []) (b ∷ octets) ≡ after_tag (drop (tag_length (b ∷ octets)) (b ∷ octets))
    by_char true e space s later = ap (λ s. opening_after s octets) (tag_on b e) ∙ later ∙ rw (e, one-add) refl
    by_char false e true s later = ap (λ s. opening_after s octets) (tag_done b e s) ∙ in_word [] octets refl ∙ none_before (word_length octets) octets ∙ rw (e, s) refl
    by_char false e false s later = ap (λ s. opening_after s octets) (tag_refused b e s) ∙ refused_stays [] octets ∙ rw (e, s) refl

pub begins_by_word : BeginsByWord
begins_by_word [] = refl
begins_by_word (b ∷ octets) = by_char (is_tag_char b) refl
  where
    by_char : (tag : Bool) → is_tag_char b ≡ tag → opening_after first_state (b ∷ octets) ≡ opening_of (b ∷ octets)
    by_char true e = ap (λ s. opening_after s octets) (tag_begun b e) ∙ in_tag octets ∙ rw e refl
    by_char false e = ap (λ s. opening_after s octets) (tag_missing b e) ∙ refused_stays [] octets ∙ rw e refl
