-- CHECK, LSUB and the keys of SEARCH, as they are written.
use Rattle.std.proofs.Common.{◌≡◌, ◌∙◌, ap, sym, refl, ℕ, zero, suc, ◌-◌, Bool, true, false, cond, not, ◌&&◌, List, [], ◌∷◌, ◌++◌, append_assoc, append-nil, length, length-append, drop, map, arith, Some, None}
use Rattle.std.specs.Prelude.{codes, min, ◌==◌}
use Rattle.std.specs.List.{list_all, AllByRecursion}
use Rattle.std.proofs.lemmas.List.Folds.{list_all-append}
use Rattle.std.proofs.lemmas.Bool.Decides.{nat_tests}
use Rattle.imap_lex.specs.Chars.{is_tag_char}
use Rattle.imap_lex.specs.CommandTag.{IsTag, tag_length}
use Rattle.imap_lex.specs.Framing.{crlf}
use Rattle.imap_lex.specs.Mark.{line_mark, mark_at, text}
use Rattle.imap_lex.specs.Stream.{IsLastLine}
use Rattle.imap_lex.specs.declared.frame.Frame.TheVariants as frame
use Rattle.imap_lex.proofs.Marks.{marks_are_found}
use Rattle.imap_lex.proofs.Tails.{with_octets-append}
use Rattle.imap_print.specs.Lines.{is_plain}
use Rattle.imap_print.specs.Words.{before_each}
use Rattle.imap_syntax.proofs.Writing.{both_true}
use Rattle.imap_rev1_frames.specs.declared.named.Named.{Named}
use Rattle.imap_rev1_frames.specs.declared.named.Named.TheVariants as named
use Rattle.imap_rev1_frames.specs.declared.scan.Scan.{Scan}
use Rattle.imap_rev1_frames.specs.declared.scan.Depth.TheVariants as depth
use Rattle.imap_rev1_frames.specs.declared.scan.Quoting.{Quoting}
use Rattle.imap_rev1_frames.specs.declared.scan.Quoting.TheVariants as quoting
use Rattle.imap_rev1_frames.specs.Named.{after_space, begins, is_fetch, is_word, named_command, named_in, named_until_rev2, is_rewritten}
use Rattle.imap_rev1_frames.specs.Scan.{start, is_word_octet, by_held, count_held, key_for, word_for, is_item, written_word, passed, after_key, after_named, after_word, after_octet, after_quoting, deeper, less_deep, written_from, written}
use Rattle.imap_rev1_frames.specs.Rewritten.{line_text, are_plain, written_line, command_for, rewritten_octets}
use Rattle.imap_rev1.specs.Laws.{ChecksByNoop, lsub_octets, ListsSubscribed, IsKeyWord, search_octets, SearchesByKeys}
use Rattle.imap_rev1.proofs.Commands.{drop_front, take_front, plain_line, last_written}
use Rattle.imap_rev1.proofs.FirstWord.{count, tag_stays}
use Rattle.imap_rev1_frames.proofs.Steps.{no_item_list, no_taken_list, word_written, end_written}

-- ---- a plain last line

pub text_of_line : (octets : List ℕ) → line_text (octets ++ crlf) ≡ octets
text_of_line octets =
    let len : length octets ≡ length (octets ++ crlf) - 2 = omega (arith, length-append octets crlf) in
    take_front octets crlf (length (octets ++ crlf) - 2) len

line_written : (scan : Scan) (octets : List ℕ) → list_all is_plain octets ≡ true → written_line scan (octets ++ crlf) ≡ written scan [] octets ++ crlf
line_written scan octets plain =
    ap (λ (t : List ℕ). cond (are_plain t) (written scan [] t ++ crlf) (octets ++ crlf)) (text_of_line octets)
    ∙ ap (λ b. cond b (written scan [] octets ++ crlf) (octets ++ crlf)) plain

-- ---- after the tag

-- after the tag and a space
abbrev tagged : Named → Scan
tagged command = record { named = command; passes = 0; depth = depth.None; quoting = quoting.Outside }

pub tag_chars : (tag : List ℕ) → IsTag tag → (length tag == 0 ≡ false) × (list_all is_tag_char tag ≡ true)
tag_chars tag is = by (length tag == 0) (list_all is_tag_char tag) is
  where
    by : (b c : Bool) → (not b && c) ≡ true → (b ≡ false) × (c ≡ true)
    by true c h = absurd cc
    by false c h = (refl, h)

pub after_first : (command : Named) (tag : List ℕ) → length tag == 0 ≡ false → after_octet (after_word (start command) tag) 32 ≡ tagged command
after_first command tag some = ap (λ b. after_octet (cond b (start command) (passed (start command))) 32) some

tag_written : (command : Named) (tag octets : List ℕ) → IsTag tag → written (start command) [] (tag ++ 32 ∷ octets) ≡ tag ++ 32 ∷ written (tagged command) [] octets
tag_written command tag octets is =
    let parts = tag_chars tag is in
    tag_stays (start command) [] tag (32 ∷ octets) (refl, refl) parts.1
    ∙ end_written (start command) tag 32 octets refl (no_item_list (start command) tag (32 ∷ octets) refl)
    ∙ ap (λ (s : Scan). tag ++ 32 ∷ written s [] octets) (after_first command tag parts.0)

named_after_tag : (rev2 : Bool) (tag octets : List ℕ) → IsTag tag → named_in rev2 (tag ++ 32 ∷ octets) ≡ named_command rev2 octets
named_after_tag rev2 tag octets is =
    let all = tag ++ 32 ∷ octets in
    let len : tag_length all ≡ length tag = count tag 32 octets (tag_chars tag is).1 refl in
    ap (λ (n : ℕ). named_command rev2 (after_space (drop n all))) len ∙ ap (λ (l : List ℕ). named_command rev2 (after_space l)) (drop_front tag (32 ∷ octets) (length tag) refl)

tag_plain_octet : (b : ℕ) → is_tag_char b ≡ true → is_plain b ≡ true
tag_plain_octet b h = grind (arith, nat_tests)

tag_plain : (tag : List ℕ) → list_all is_tag_char tag ≡ true → list_all is_plain tag ≡ true
tag_plain [] h = refl
tag_plain (b ∷ tag) h = let parts = both_true (is_tag_char b) (list_all is_tag_char tag) h in rw (tag_plain_octet b parts.0, tag_plain tag parts.1) refl

pub plain_after_tag : (tag octets : List ℕ) → IsTag tag → list_all is_plain octets ≡ true → list_all is_plain (tag ++ octets) ≡ true
plain_after_tag tag octets is h = list_all-append is_plain tag octets ∙ rw (tag_plain tag (tag_chars tag is).1, h) refl

-- a command of one plain line
pub one_line : (command : Named) (tag octets : List ℕ) → IsTag tag → list_all is_plain octets ≡ true → IsLastLine ((tag ++ 32 ∷ octets) ++ crlf) → command_for command ((tag ++ 32 ∷ octets) ++ crlf) ≡ (tag ++ 32 ∷ written (tagged command) [] octets) ++ crlf
one_line command tag octets is plain last =
    let whole : list_all is_plain (tag ++ 32 ∷ octets) ≡ true = plain_after_tag tag (32 ∷ octets) is plain in
    last_written (start command) ((tag ++ 32 ∷ octets) ++ crlf) last
    ∙ line_written (start command) (tag ++ 32 ∷ octets) whole
    ∙ ap (λ (l : List ℕ). l ++ crlf) (tag_written command tag octets is)

pub rewritten_as : (rev2 : Bool) (octets new : List ℕ) (command : Named) → named_in rev2 octets ≡ command → is_rewritten command ≡ true → command_for command octets ≡ new → rewritten_octets rev2 octets ≡ new
rewritten_as rev2 octets new command e h f =
    ap (λ (c : Named). cond (is_rewritten c) (command_for c octets) octets) e ∙ ap (λ b. cond b (command_for command octets) octets) h ∙ f

-- ---- CHECK

check_mark : (tag : List ℕ) → line_mark ((tag ++ codes " CHECK") ++ crlf) ≡ None
check_mark tag = ap line_mark (append_assoc tag (codes " CHECK") crlf) ∙ ap mark_at (with_octets-append text tag (codes " CHECK\r\n"))

last_by : (octets : List ℕ) → list_all is_plain octets ≡ true → line_mark (octets ++ crlf) ≡ None → IsLastLine (octets ++ crlf)
last_by octets plain none = record {
  is_line = plain_line octets plain;
  unmarked = λ mark m. let found : Some mark ≡ None = sym (marks_are_found (octets ++ crlf) mark m) ∙ none in cc;
}

pub checks_by_noop : ChecksByNoop
checks_by_noop state tag is =
    let octets = (tag ++ codes " CHECK") ++ crlf in
    let same : tag ++ codes " CHECK\r\n" ≡ octets = sym (append_assoc tag (codes " CHECK") crlf) in
    let last : IsLastLine octets = last_by (tag ++ codes " CHECK") (plain_after_tag tag (codes " CHECK") is refl) (check_mark tag) in
    let found : named_in state.rev2 octets ≡ named.Check = ap (named_in state.rev2) (sym same) ∙ named_after_tag state.rev2 tag (codes "CHECK\r\n") is in
    ap frame.Whole
    (ap (rewritten_octets state.rev2) same
    ∙ rewritten_as state.rev2 octets ((tag ++ codes " NOOP") ++ crlf) named.Check found refl (one_line named.Check tag (codes "CHECK") is refl last)
    ∙ append_assoc tag (codes " NOOP") crlf)

-- ---- LSUB

-- nothing is exchanged once the word is
module _ (word : List ℕ) where
  after_key_other : (command : Named) (scan : Scan) → command ≡ named.Other → scan.named ≡ named.Other → (after_key command scan word).named ≡ named.Other
  after_key_other command scan e is = ap (λ (c : Named). (after_key c scan word).named) e ∙ is

  after_word_other : (scan : Scan) (b c : Bool) → scan.named ≡ named.Other → (cond b scan (cond c (after_named scan word) (passed scan))).named ≡ named.Other
  after_word_other scan true c is = is
  after_word_other scan false true is = after_key_other scan.named scan is is
  after_word_other scan false false is = is

outside_other : (scan : Scan) (a b c : Bool) → scan.named ≡ named.Other → (cond a (record scan { quoting = quoting.Inside }) (cond b (record scan { depth = deeper scan.depth }) (cond c (record scan { depth = less_deep scan.depth }) scan))).named ≡ named.Other
outside_other scan true b c is = is
outside_other scan false true c is = is
outside_other scan false false true is = is
outside_other scan false false false is = is

inside_other : (scan : Scan) (a b : Bool) → scan.named ≡ named.Other → (cond a (record (passed scan) { quoting = quoting.Outside }) (cond b (record scan { quoting = quoting.Escaped }) scan)).named ≡ named.Other
inside_other scan true b is = is
inside_other scan false true is = is
inside_other scan false false is = is

octet_other : (q : Quoting) (scan : Scan) (octet : ℕ) → scan.named ≡ named.Other → (after_quoting q scan octet).named ≡ named.Other
octet_other quoting.Outside scan octet is = outside_other scan (octet == 34) (octet == 40) (octet == 41) is
octet_other quoting.Inside scan octet is = inside_other scan (octet == 34) (octet == 92) is
octet_other quoting.Escaped scan octet is = is

word_other : (scan : Scan) (word : List ℕ) (b : Bool) → scan.named ≡ named.Other → cond b (word_for scan.named (is_item scan) word) word ≡ word
word_other scan word true is = ap (λ (c : Named). word_for c (is_item scan) word) is
word_other scan word false is = refl

other_by : (count : ℕ) (word octets : List ℕ) (more : ℕ → List ℕ) (octet : ℕ) (new next : List ℕ) → ((n : ℕ) → more n ≡ (word ++ octet ∷ []) ++ octets) → new ≡ word → next ≡ octets → by_held count more (new ++ octet ∷ next) ≡ word ++ octet ∷ octets
other_by (suc n) word octets more octet new next f e g = f n ∙ append_assoc word (octet ∷ []) octets
other_by zero word octets more octet new next f e g = ap (λ (l : List ℕ). l ++ octet ∷ next) e ∙ ap (λ (l : List ℕ). word ++ octet ∷ l) g

other_from : (held : ℕ) (scan : Scan) (word octets : List ℕ) → scan.named ≡ named.Other → written_from held scan word octets ≡ word ++ octets
other_from held scan word [] is = word_other scan word (scan.passes == 0) is ∙ sym (append-nil word)
other_from held scan word (octet ∷ octets) is =
    let next = after_octet (after_word scan word) octet in
    let kept : next.named ≡ named.Other = octet_other (after_word scan word).quoting (after_word scan word) octet (after_word_other word scan (length word == 0) (scan.passes == 0) is) in
    other_by (count_held held scan word octet (octet ∷ octets)) word octets (λ n. written_from n scan (word ++ octet ∷ []) octets) octet (written_word scan word) (written_from 0 next [] octets) (λ n. other_from n scan (word ++ octet ∷ []) octets is) (word_other scan word (scan.passes == 0) is) (other_from 0 next [] octets kept)

begins_with : (word rest : List ℕ) → begins word (word ++ rest) ≡ is_word word word
begins_with word rest =
    let len : length word ≡ min (length (word ++ rest)) (length word) = omega (arith, length-append word rest) in
    ap (is_word word) (take_front word rest (min (length (word ++ rest)) (length word)) len)

lsub_named : (rev2 : Bool) (rest : List ℕ) → named_command rev2 (codes "LSUB " ++ rest) ≡ named.Lsub
lsub_named rev2 rest = ap (λ (b : Bool). cond b named.Lsub (cond (is_fetch (codes "LSUB " ++ rest)) named.Fetch (cond rev2 named.Other (named_until_rev2 (codes "LSUB " ++ rest))))) (begins_with (codes "LSUB ") rest)

pub lists_subscribed : ListsSubscribed
lists_subscribed state tag operands is last plain =
    let octets = codes "LSUB " ++ operands in
    let all : list_all is_plain octets ≡ true = plain in
    let found : named_in state.rev2 (lsub_octets tag operands) ≡ named.Lsub = ap (named_in state.rev2) (append_assoc tag (32 ∷ octets) crlf) ∙ named_after_tag state.rev2 tag (octets ++ crlf) is ∙ ap (named_command state.rev2) (append_assoc (codes "LSUB ") operands crlf) ∙ lsub_named state.rev2 (operands ++ crlf) in
    let new : written (tagged named.Lsub) [] octets ≡ codes "LIST (SUBSCRIBED) " ++ operands =
    ap (λ (l : List ℕ). codes "LIST (SUBSCRIBED) " ++ l) (other_from 0 (tagged named.Other) [] operands refl) in
    ap frame.Whole (rewritten_as state.rev2 (lsub_octets tag operands) ((tag ++ 32 ∷ (codes "LIST (SUBSCRIBED) " ++ operands)) ++ crlf) named.Lsub found refl
    (one_line named.Lsub tag octets is all last ∙ ap (λ (l : List ℕ). (tag ++ 32 ∷ l) ++ crlf) new))

-- ---- SEARCH

word_read : (word key octets : List ℕ) → list_all is_word_octet key ≡ true → written (tagged named.Search) word (key ++ octets) ≡ written (tagged named.Search) (word ++ key) octets
word_read word [] octets h = ap (λ (w : List ℕ). written (tagged named.Search) w octets) (sym (append-nil word))
word_read word (b ∷ key) octets h =
    let parts = both_true (is_word_octet b) (list_all is_word_octet key) h in
    word_written (tagged named.Search) word b (key ++ octets) parts.0 ∙ word_read (word ++ b ∷ []) key octets parts.1 ∙ ap (λ (w : List ℕ). written (tagged named.Search) w octets) (append_assoc word (b ∷ []) key)

after_key_word : (key : List ℕ) → IsKeyWord key → after_octet (after_word (tagged named.Search) key) 32 ≡ tagged named.Search
after_key_word key is =
    ap (λ b. after_octet (cond b (tagged named.Search) (after_named (tagged named.Search) key)) 32) is.some
    ∙ ap (λ (n : ℕ). record { named = named.Search; passes = n; depth = depth.None; quoting = quoting.Outside }) is.alone

keys_written : (key : List ℕ) (keys : List (List ℕ)) → IsKeyWord key → AllByRecursion IsKeyWord keys → written (tagged named.Search) key (before_each 32 keys) ≡ key_for key ++ before_each 32 (map key_for keys)
keys_written key [] is h = sym (append-nil (key_for key))
keys_written key (next ∷ keys) is h =
    end_written (tagged named.Search) key 32 (next ++ before_each 32 keys) refl (no_taken_list (tagged named.Search) key (32 ∷ (next ++ before_each 32 keys)) refl)
    ∙ ap (λ (s : Scan). key_for key ++ 32 ∷ written s [] (next ++ before_each 32 keys)) (after_key_word key is)
    ∙ ap (λ (l : List ℕ). key_for key ++ 32 ∷ l) (word_read [] next (before_each 32 keys) h.0.octets ∙ keys_written next keys h.0 h.1)

search_word : IsKeyWord (codes "SEARCH")
search_word = record { octets = refl; some = refl; alone = refl }

pub searches_by_keys : SearchesByKeys
searches_by_keys state tag keys is h last plain found =
    let octets = codes "SEARCH" ++ before_each 32 keys in
    let all : list_all is_plain octets ≡ true = (both_true (list_all is_plain tag) (list_all is_plain (32 ∷ octets)) (sym (list_all-append is_plain tag (32 ∷ octets)) ∙ plain)).1 in
    let new : written (tagged named.Search) [] octets ≡ codes "SEARCH" ++ before_each 32 (map key_for keys) = word_read [] (codes "SEARCH") (before_each 32 keys) refl ∙ keys_written (codes "SEARCH") keys search_word h in
    ap frame.Whole (rewritten_as state.rev2 (search_octets tag keys) (search_octets tag (map key_for keys)) named.Search found refl
    (one_line named.Search tag octets is all last ∙ ap (λ (l : List ℕ). (tag ++ 32 ∷ l) ++ crlf) new))
