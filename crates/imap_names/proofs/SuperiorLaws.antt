-- The superior of a name, by its path.
use Rattle.std.proofs.Common.{◌≡◌, ℕ, true, false, List, [], ◌∷◌, ◌++◌, length, reverse, refl, sym, ap, ◌∙◌, arith, Some, None}
use Rattle.std.specs.Prelude.{chars, codes, IsUtf8, if◌then◌else◌}
use Rattle.std.specs.Char.{is_control}
use Rattle.std.specs.List.{list_any}
use Rattle.std.specs.Str.{is_utf8}
use Rattle.std.proofs.lemmas.Bool.{or_parts}
use Rattle.std.proofs.lemmas.List.{reverse-append, length-append}
use Rattle.std.proofs.lemmas.List.Folds.{list_any-append}
use Rattle.std.proofs.lemmas.Str.{is_utf8-from_IsUtf8, IsUtf8-from_is_utf8}
use Rattle.unicode_normalization.specs.Forms.{is_nfc}
use Rattle.imap_names.specs.Name.{name_of, components, path_of, is_empty, superior}
use Rattle.imap_names.specs.Text.{is_delimiter, components_of, has_control}
use Rattle.imap_names.specs.Valid.{is_reserved, is_inbox_word, with_inbox, is_root, IsName}
use Rattle.imap_names.proofs.NameLaws.{root_of-name_of, components-name_of}
use Rattle.imap_names.proofs.Parts.{HasFirst, components_of-first, components_of-joined, components_of-whole, path_of-text}
use Rattle.imap_names.proofs.AboveLaws.{reverse_first}
use Rattle.imap_names.proofs.FrontLaws.{chars-joined, IsUtf8-front, is_nfc-to_delimiter}
use Rattle.imap_names.proofs.PathLaws.{KeepsRules, IsName-from}

superior-push : (part : List ℕ) (front : List (List ℕ)) (root : List ℕ) → HasFirst front → superior (part ∷ front ++ root ∷ []) ≡ Some (front ++ root ∷ [])
superior-push part front root h =
    ap (λ z. superior (part ∷ z ++ root ∷ [])) h.are ∙ by h.more ∙ ap (λ z. Some (z ++ root ∷ [])) (sym h.are)
  where
    by : (more : List (List ℕ)) → superior (part ∷ (h.first ∷ more) ++ root ∷ []) ≡ Some ((h.first ∷ more) ++ root ∷ [])
    by [] = refl
    by (next ∷ more) = refl

name_of-joined : (root front last : List ℕ) → list_any is_delimiter last ≡ false → name_of root (components_of (front ++ 47 ∷ last)) ≡ last ∷ reverse (components_of front) ++ root ∷ []
name_of-joined root front last whole =
    ap (name_of root) (components_of-joined front last ∙ ap (λ z. components_of front ++ z) (components_of-whole last whole))
    ∙ ap (λ z. z ++ root ∷ []) (reverse-append (components_of front) (last ∷ []))

-- what stands before the last delimiter
pub superior-joined : (root front last : List ℕ) → list_any is_delimiter last ≡ false → superior (name_of root (components_of (front ++ 47 ∷ last))) ≡ Some (name_of root (components_of front))
superior-joined root front last whole =
    ap superior (name_of-joined root front last whole)
    ∙ superior-push last (reverse (components_of front)) root (reverse_first (components_of front) (components_of-first front))

pub superior-whole : (root path : List ℕ) → list_any is_delimiter path ≡ false → superior (name_of root (components_of path)) ≡ None
superior-whole root path whole = ap (λ z. superior (name_of root z)) (components_of-whole path whole)

-- ---- it is a name

abbrev held_first : List ℕ → List ℕ
held_first first = if is_inbox_word first then codes "INBOX" else first

first_same : (c d : List ℕ) (cs ds : List (List ℕ)) → c ∷ cs ≡ d ∷ ds → c ≡ d
first_same c d cs ds e = cc

-- a name whose path goes on after a delimiter
module _ (root front last : List ℕ) (h : IsName (name_of root (components_of (front ++ 47 ∷ last)))) where
  parts : components (name_of root (components_of (front ++ 47 ∷ last))) ≡ components_of front ++ components_of last
  parts = components-name_of root (components_of (front ++ 47 ∷ last)) ∙ components_of-joined front last

  text : path_of (name_of root (components_of (front ++ 47 ∷ last))) ≡ front ++ 47 ∷ last
  text = path_of-text root (front ++ 47 ∷ last)

  tree : is_root root ≡ true
  tree = sym (ap is_root (root_of-name_of root (components_of (front ++ 47 ∷ last)))) ∙ h.tree

  unreserved : is_reserved root (components_of front) ≡ false
  unreserved =
      let f : HasFirst (components_of front) = components_of-first front in
      ap (is_reserved root) f.are ∙ sym (ap (λ z. is_reserved root (z ++ components_of last)) f.are)
      ∙ sym (λ i. is_reserved (root_of-name_of root (components_of (front ++ 47 ∷ last)) i) (parts i)) ∙ h.unreserved

  filled : list_any is_empty (components_of front) ≡ false
  filled =
      (or_parts (list_any is_empty (components_of front)) (list_any is_empty (components_of last))
      (sym (list_any-append is_empty (components_of front) (components_of last)) ∙ sym (ap (list_any is_empty) parts) ∙ h.filled)).0

  rules : KeepsRules root front
  rules = record {
    unreserved = unreserved;
    filled = filled;
    short = omega (arith, h.short, ap length text, length-append front (47 ∷ last));
    shallow = omega (arith, h.shallow, ap length parts, length-append (components_of front) (components_of last));
  }

  inbox : with_inbox (components_of front) ≡ components_of front
  inbox =
      let f : HasFirst (components_of front) = components_of-first front in
      let whole : with_inbox ((f.first ∷ f.more) ++ components_of last) ≡ (f.first ∷ f.more) ++ components_of last =
      sym (ap with_inbox (parts ∙ ap (λ z. z ++ components_of last) f.are)) ∙ h.inbox ∙ parts ∙ ap (λ z. z ++ components_of last) f.are in
      ap with_inbox f.are ∙ ap (λ z. z ∷ f.more) (first_same (held_first f.first) f.first _ _ whole) ∙ sym f.are

  utf8 : IsUtf8 front
  utf8 = IsUtf8-front front last (IsUtf8-from_is_utf8 (front ++ 47 ∷ last) (sym (ap is_utf8 text) ∙ h.utf8))

  printable : has_control front ≡ false
  printable =
      (or_parts (list_any is_control (chars front)) (list_any is_control (47 ∷ chars last))
      (sym (list_any-append is_control (chars front) (47 ∷ chars last)) ∙ sym (ap (list_any is_control) (chars-joined front last utf8)) ∙ sym (ap has_control text) ∙ h.printable)).0

  -- its front is a name's path too
  pub IsName-front : IsName (name_of root (components_of front))
  IsName-front =
      IsName-from root front tree rules
      (record {
        utf8 = is_utf8-from_IsUtf8 front utf8;
        nfc = is_nfc-to_delimiter front last utf8 (sym (ap (λ z. is_nfc (chars z)) text) ∙ h.nfc);
        printable = printable;
      })
      inbox
