-- A first component that spells INBOX, in upper case.
use Rattle.std.proofs.Common.{◌≡◌, ℕ, ◌+◌, Bool, true, false, not, List, [], ◌∷◌, ◌++◌, length, map, refl, sym, ap, ◌∙◌, subst, inl, inr, arith}
use Rattle.std.specs.Prelude.{◌&&◌, chars, codes, nat_lt}
use Rattle.std.specs.Char.{is_control, to_ascii_lowercase}
use Rattle.std.specs.Str.{IsAscii}
use Rattle.std.specs.List.{list_any, list_all, join_with_byte}
use Rattle.std.proofs.lemmas.Bool.{or_parts, or_from, cases_Bool, cond-true, cond-false, and_from, and_parts, ne_eqb}
use Rattle.std.proofs.lemmas.Bool.Decides.{nat_tests}
use Rattle.std.proofs.lemmas.Slice.Eq.{bytes_eq-Decides}
use Rattle.std.proofs.lemmas.List.{length-map, length-append}
use Rattle.std.proofs.lemmas.Str.{chars-IsAscii}
use Rattle.unicode_normalization.specs.Forms.{is_nfc}
use Rattle.imap_names.specs.Name.{is_empty}
use Rattle.imap_names.specs.Text.{is_delimiter, components_of, has_control}
use Rattle.imap_names.specs.Valid.{is_prefix_word, is_reserved, is_inbox_word, with_inbox, held_path}
use Rattle.imap_names.proofs.Parts.{HasFirst, components_of-first, components_of-front, components_of-whole, join-components_of}
use Rattle.imap_names.proofs.Composed.{is_nfc-ascii, is_nfc-front, has_control-front, ascii_by_test}
use Rattle.imap_names.proofs.PathLaws.{KeepsRules}

abbrev inbox_path : List (List ℕ) → List ℕ
inbox_path parts = join_with_byte 47 (with_inbox parts)

pub upper_ascii : IsAscii (codes "INBOX")
upper_ascii = ascii_by_test (codes "INBOX") refl

-- no part of INBOX is a prefix's word
pub is_reserved-inbox : (root : List ℕ) (more : List (List ℕ)) → is_reserved root (codes "INBOX" ∷ more) ≡ false
is_reserved-inbox root more = by (not (is_empty root))
  where
    by : (b : Bool) → (b && is_prefix_word (codes "INBOX")) ≡ false
    by true = refl
    by false = refl

-- ---- a word in any case

lowered : (c : ℕ) → nat_lt (to_ascii_lowercase c) 128 ≡ true → nat_lt c 128 ≡ true
lowered c h = grind (arith, nat_tests)

ascii_test : (word : List ℕ) → list_all (λ c. nat_lt c 128) (map to_ascii_lowercase word) ≡ true → list_all (λ c. nat_lt c 128) word ≡ true
ascii_test [] h = refl
ascii_test (c ∷ cs) h =
    let parts = and_parts (nat_lt (to_ascii_lowercase c) 128) _ h in and_from _ _ (lowered c parts.0) (ascii_test cs parts.1)

delimiter_test : (word : List ℕ) → list_any is_delimiter (map to_ascii_lowercase word) ≡ false → list_any is_delimiter word ≡ false
delimiter_test [] h = refl
delimiter_test (c ∷ cs) h =
    let parts = or_parts (is_delimiter (to_ascii_lowercase c)) _ h in
    or_from _ _ (ne_eqb c 47 (λ e. let clash : is_delimiter 47 ≡ false = ap (λ z. is_delimiter (to_ascii_lowercase z)) (sym e) ∙ parts.0 in cc)) (delimiter_test cs parts.1)

pub record SpellsInbox (word : List ℕ) : Type 0 where
  pub ascii : IsAscii word
  pub whole : list_any is_delimiter word ≡ false
  pub five : length word ≡ 5

pub spells_inbox : (word : List ℕ) → is_inbox_word word ≡ true → SpellsInbox word
spells_inbox word h =
    let low : map to_ascii_lowercase word ≡ codes "inbox" = (bytes_eq-Decides _ (codes "inbox")).0 h in
    record {
      ascii = ascii_by_test word (ascii_test word (ap (list_all (λ c. nat_lt c 128)) low));
      whole = delimiter_test word (ap (list_any is_delimiter) low);
      five = sym (length-map word to_ascii_lowercase) ∙ ap length low;
    }

-- ---- the path with its first component in upper case

pub held_path-front : (path first rest : List ℕ) → path ≡ first ++ 47 ∷ rest → list_any is_delimiter first ≡ false → is_inbox_word first ≡ true → held_path path ≡ codes "INBOX/" ++ rest
held_path-front path first rest e whole word =
    let parts : HasFirst (components_of rest) = components_of-first rest in
    ap (λ z. inbox_path (components_of z)) e
    ∙ ap inbox_path (components_of-front first rest whole)
    ∙ ap (λ z. join_with_byte 47 (z ∷ components_of rest)) (cond-true _ _ _ word)
    ∙ ap (λ z. join_with_byte 47 (codes "INBOX" ∷ z)) parts.are
    ∙ ap (λ z. codes "INBOX/" ++ join_with_byte 47 z) (sym parts.are)
    ∙ ap (λ z. codes "INBOX/" ++ z) (join-components_of rest)

pub held_path-alone : (path : List ℕ) → list_any is_delimiter path ≡ false → is_inbox_word path ≡ true → held_path path ≡ codes "INBOX"
held_path-alone path whole word =
    ap inbox_path (components_of-whole path whole) ∙ ap (λ z. join_with_byte 47 (z ∷ [])) (cond-true _ _ _ word)

pub held_path-other : (path first : List ℕ) (more : List (List ℕ)) → components_of path ≡ first ∷ more → is_inbox_word first ≡ false → held_path path ≡ path
held_path-other path first more parts other =
    ap inbox_path parts ∙ ap (λ z. join_with_byte 47 (z ∷ more)) (cond-false _ _ _ other) ∙ ap (join_with_byte 47) (sym parts) ∙ join-components_of path

-- ---- the path as it is held

pub record HoldsPath (root path held : List ℕ) : Type 0 where
  pub parts : components_of held ≡ with_inbox (components_of path)
  pub rules : KeepsRules root held
  pub nfc : is_nfc (chars held) ≡ true
  pub printable : has_control held ≡ false
  pub inbox : with_inbox (components_of held) ≡ components_of held

module _ (root path : List ℕ) (rules : KeepsRules root path) (nfc : is_nfc (chars path) ≡ true) (printable : has_control path ≡ false) where
  -- another word stays
  held_same : (first : List ℕ) (more : List (List ℕ)) → components_of path ≡ first ∷ more → is_inbox_word first ≡ false → HoldsPath root path (held_path path)
  held_same first more parts other =
      let kept : with_inbox (components_of path) ≡ components_of path =
      ap with_inbox parts ∙ ap (λ z. z ∷ more) (cond-false _ _ _ other) ∙ sym parts in
      let same : held_path path ≡ path = ap (join_with_byte 47) kept ∙ join-components_of path in
      subst (HoldsPath root path) (sym same) (record { parts = sym kept; rules = rules; nfc = nfc; printable = printable; inbox = kept })

  -- the word alone
  held_alone : (first : List ℕ) → components_of path ≡ first ∷ [] → is_inbox_word first ≡ true → HoldsPath root path (held_path path)
  held_alone first parts word =
      let kept : with_inbox (components_of path) ≡ codes "INBOX" ∷ [] =
      ap with_inbox parts ∙ ap (λ z. z ∷ []) (cond-true _ _ _ word) in
      subst (HoldsPath root path) (sym (ap (join_with_byte 47) kept)) (record {
        parts = sym kept;
        rules = record { unreserved = is_reserved-inbox root []; filled = refl; short = omega arith; shallow = omega arith };
        nfc = is_nfc-ascii (codes "INBOX") upper_ascii;
        printable = ap (list_any is_control) (chars-IsAscii (codes "INBOX") upper_ascii);
        inbox = refl;
      })

  -- the word before other components
  held_front : (first next : List ℕ) (more : List (List ℕ)) → components_of path ≡ first ∷ next ∷ more → is_inbox_word first ≡ true → HoldsPath root path (held_path path)
  held_front first next more parts word =
      let spelt = spells_inbox first word in
      let rest : List ℕ = join_with_byte 47 (next ∷ more) in
      let path_is : path ≡ first ++ 47 ∷ rest = sym (join-components_of path) ∙ ap (join_with_byte 47) parts in
      let below : components_of rest ≡ next ∷ more =
      let e : first ∷ components_of rest ≡ first ∷ next ∷ more = sym (components_of-front first rest spelt.whole) ∙ ap components_of (sym path_is) ∙ parts in cc in
      let kept : with_inbox (components_of path) ≡ codes "INBOX" ∷ next ∷ more =
      ap with_inbox parts ∙ ap (λ z. z ∷ next ∷ more) (cond-true _ _ _ word) in
      let held : components_of (codes "INBOX" ++ 47 ∷ rest) ≡ codes "INBOX" ∷ next ∷ more =
      components_of-front (codes "INBOX") rest refl ∙ ap (λ z. codes "INBOX" ∷ z) below in
      subst (HoldsPath root path) (sym (ap (join_with_byte 47) kept)) (record {
        parts = held ∙ sym kept;
        rules = record {
          unreserved = ap (is_reserved root) held ∙ is_reserved-inbox root (next ∷ more);
          filled = ap (list_any is_empty) held ∙ (or_parts (is_empty first) (list_any is_empty (next ∷ more)) (ap (list_any is_empty) (sym parts) ∙ rules.filled)).1;
          short =
              let n : length path ≡ length first + length (47 ∷ rest) = ap length path_is ∙ length-append first (47 ∷ rest) in
              let m : length (codes "INBOX" ++ 47 ∷ rest) ≡ 5 + length (47 ∷ rest) = length-append (codes "INBOX") (47 ∷ rest) in
              omega (arith, n, m, spelt.five, rules.short);
          shallow =
              let n : length (components_of path) ≡ length (first ∷ next ∷ more) = ap length parts in
              let m : length (components_of (codes "INBOX" ++ 47 ∷ rest)) ≡ length (codes "INBOX" ∷ next ∷ more) = ap length held in
              omega (arith, n, m, rules.shallow);
        };
        nfc = is_nfc-front first (codes "INBOX") rest spelt.ascii upper_ascii (ap (λ z. is_nfc (chars z)) (sym path_is) ∙ nfc);
        printable = has_control-front first (codes "INBOX") rest spelt.ascii upper_ascii refl (ap has_control (sym path_is) ∙ printable);
        inbox = ap with_inbox held ∙ sym held;
      })

  by_more : (first : List ℕ) (more : List (List ℕ)) → components_of path ≡ first ∷ more → is_inbox_word first ≡ true → HoldsPath root path (held_path path)
  by_more first [] parts word = held_alone first parts word
  by_more first (next ∷ more) parts word = held_front first next more parts word

  pub holds_path : HoldsPath root path (held_path path)
  holds_path =
      let parts : HasFirst (components_of path) = components_of-first path in
      elim (cases_Bool (is_inbox_word parts.first)) [
        | inl word ↦ by_more parts.first parts.more parts.are word
        | inr other ↦ held_same parts.first parts.more parts.are other
      ]
