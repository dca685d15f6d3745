-- What a name becomes when a name above it moves, by its path, and that this is a name if it fits.
use Rattle.std.proofs.Common.{◌≡◌, ◌≢◌, ℕ, ◌+◌, ◌<◌, ◌≤◌, Bool, true, false, List, [], ◌∷◌, ◌++◌, reverse, length, drop, refl, sym, ap, subst, ◌∙◌, append_assoc, append-nil, arith}
use Rattle.std.specs.Prelude.{◌||◌, not, nat_lt, chars, IsUtf8}
use Rattle.std.specs.Char.{is_control}
use Rattle.std.specs.List.{list_any, join_with_byte}
use Rattle.std.proofs.lemmas.Bool.{and_parts, or_parts, or_from, ltb-false, ltb-true}
use Rattle.std.proofs.lemmas.List.{append_cancel_left, reverse-append, length-append}
use Rattle.std.proofs.lemmas.List.Folds.{list_any-append}
use Rattle.std.proofs.Math.Seq.{drop-append_seam}
use Rattle.std.proofs.lemmas.Str.{IsUtf8-append, is_utf8-from_IsUtf8, IsUtf8-from_is_utf8}
use Rattle.unicode_normalization.specs.Forms.{is_nfc}
use Rattle.imap_names.specs.Name.{Name, name_of, root_of, components, path_of, is_empty}
use Rattle.imap_names.specs.Order.{is_within, moved}
use Rattle.imap_names.specs.Text.{components_of, has_control}
use Rattle.imap_names.specs.Valid.{max_path_octets, max_depth, is_reserved, with_inbox, is_root, fits, IsName}
use Rattle.imap_names.proofs.AboveLaws.{root_of-above, join-two, reverse_first}
use Rattle.imap_names.proofs.FrontLaws.{chars-joined, is_nfc-behind, IsUtf8-back}
use Rattle.imap_names.proofs.MovedLaws.{root_of-moved}
use Rattle.imap_names.proofs.OrderLaws.{below_from_within, moved_below}
use Rattle.imap_names.proofs.Parts.{HasFirst, components_of-first, components_of-joined}
use Rattle.imap_names.proofs.PathLaws.{has_component, name_of-valid}
use Rattle.imap_names.proofs.ShownLaws.{name_some}

-- ---- the parts of a name below another

some_above : (between top : Name) → top ≢ [] → between ++ top ≢ []
some_above [] top some = some
some_above (part ∷ between) top some = λ e. cc

components-deeper : (part : List ℕ) (name : Name) → name ≢ [] → components (part ∷ name) ≡ components name ++ part ∷ []
components-deeper part [] some = absurd (some refl)
components-deeper part (above ∷ more) some = refl

pub components-above : (between top : Name) → top ≢ [] → components (between ++ top) ≡ components top ++ reverse between
components-above [] top some = sym (append-nil (components top))
components-above (part ∷ between) top some =
    components-deeper part (between ++ top) (some_above between top some)
    ∙ ap (λ z. z ++ part ∷ []) (components-above between top some)
    ∙ append_assoc (components top) (reverse between) (part ∷ [])
    ∙ ap (λ z. components top ++ z) (sym (reverse-append (part ∷ []) between))

components-length : (name : Name) → name ≢ [] → length (components name) + 1 ≡ length name
components-length [] some = absurd (some refl)
components-length (root ∷ []) some = omega arith
components-length (part ∷ above ∷ more) some =
    omega (arith, length-append (components (above ∷ more)) (part ∷ []), components-length (above ∷ more) (λ e. cc))

first_component : (name : Name) → IsName name → HasFirst (components name)
first_component name valid = subst HasFirst valid.parted (components_of-first (path_of name))

-- a name has few of them
pub few_parts : (name : Name) → IsName name → length name ≤ max_depth + 1
few_parts name valid = omega (arith, components-length name (name_some name valid), valid.shallow)

-- what follows the path of a name in that of a name below it
abbrev pub rest_of : Name → List ℕ
rest_of [] = []
rest_of (part ∷ between) = 47 ∷ join_with_byte 47 (reverse (part ∷ between))

pub path_of-above : (between top : Name) → IsName top → path_of (between ++ top) ≡ path_of top ++ rest_of between
path_of-above [] top valid = sym (append-nil (path_of top))
path_of-above (part ∷ between) top valid =
    ap (join_with_byte 47) (components-above (part ∷ between) top (name_some top valid))
    ∙ join-two (components top) (reverse (part ∷ between)) (first_component top valid)
    (reverse_first (part ∷ between) (record { first = part; more = between; are = refl }))

-- ---- of a name at or below `old`, which becomes `new`

-- what follows the path of `old` follows that of `new` then
pub record MovesTo (old new name to : Name) : Type 0 where
  pub rest : List ℕ
  pub before : path_of name ≡ path_of old ++ rest
  pub after : path_of to ≡ path_of new ++ rest
  -- there are as many octets and components more or less as of `new` and `old`
  pub octets : length (path_of to) + length (path_of old) ≡ length (path_of new) + length (path_of name)
  pub depth : length (components to) + length old + 1 ≡ length new + length name

moves_between : (old new between name to : Name) → IsName old → IsName new → name ≡ between ++ old → to ≡ between ++ new → MovesTo old new name to
moves_between old new between name to valid_old valid_new before after =
    let path_before : path_of name ≡ path_of old ++ rest_of between = ap path_of before ∙ path_of-above between old valid_old in
    let path_after : path_of to ≡ path_of new ++ rest_of between = ap path_of after ∙ path_of-above between new valid_new in
    let some : to ≢ [] = λ e. some_above between new (name_some new valid_new) (sym after ∙ e) in
    record {
      rest = rest_of between;
      before = path_before;
      after = path_after;
      octets = omega (arith, ap length path_before, ap length path_after, length-append (path_of old) (rest_of between), length-append (path_of new) (rest_of between));
      depth = omega (arith, components-length to some, ap length before, ap length after, length-append between old, length-append between new);
    }

pub moves_to : (old new name : Name) → IsName old → IsName new → is_within old name ≡ true → MovesTo old new name (moved old new name)
moves_to old new name valid_old valid_new within =
    let (between, is) = below_from_within old name within in
    moves_between old new between name (moved old new name) valid_old valid_new is (ap (moved old new) is ∙ moved_below old new between)

-- ---- it is a name if it fits

is_reserved-front : (root : List ℕ) (xs ys : List (List ℕ)) → HasFirst xs → is_reserved root (xs ++ ys) ≡ is_reserved root xs
is_reserved-front root xs ys h = ap (λ z. is_reserved root (z ++ ys)) h.are ∙ ap (is_reserved root) (sym h.are)

with_inbox-front : (xs ys : List (List ℕ)) → HasFirst xs → with_inbox (xs ++ ys) ≡ with_inbox xs ++ ys
with_inbox-front xs ys h = ap (λ z. with_inbox (z ++ ys)) h.are ∙ ap (λ z. with_inbox z ++ ys) (sym h.are)

has_control-joined : (front rest : List ℕ) → IsUtf8 front → has_control (front ++ 47 ∷ rest) ≡ (has_control front || list_any is_control (47 ∷ chars rest))
has_control-joined front rest utf8 =
    ap (list_any is_control) (chars-joined front rest utf8) ∙ list_any-append is_control (chars front) (47 ∷ chars rest)

not_more : (most n : ℕ) → not (nat_lt most n) ≡ true → n ≤ most
not_more most n h = ltb-false most n (by (nat_lt most n) h)
  where
    by : (b : Bool) → not b ≡ true → b ≡ false
    by true e = cc
    by false e = refl

-- the names `part`, and what is between it and one above it, below `old` and below `new`
module _ (part : List ℕ) (between old new : Name) (in_old : IsName old) (in_new : IsName new) (was : IsName ((part ∷ between) ++ old)) where
  abbrev below : List (List ℕ)
  below = reverse (part ∷ between)

  abbrev text : List ℕ
  text = join_with_byte 47 below

  parts_before : components ((part ∷ between) ++ old) ≡ components old ++ below
  parts_before = components-above (part ∷ between) old (name_some old in_old)

  parts_after : components ((part ∷ between) ++ new) ≡ components new ++ below
  parts_after = components-above (part ∷ between) new (name_some new in_new)

  text_before : path_of ((part ∷ between) ++ old) ≡ path_of old ++ 47 ∷ text
  text_before = path_of-above (part ∷ between) old in_old

  text_after : path_of ((part ∷ between) ++ new) ≡ path_of new ++ 47 ∷ text
  text_after = path_of-above (part ∷ between) new in_new

  parted : components_of text ≡ below
  parted =
      append_cancel_left (components old) (components_of text) below (
      ap (λ z. z ++ components_of text) (sym in_old.parted)
      ∙ sym (components_of-joined (path_of old) text)
      ∙ ap components_of (sym text_before)
      ∙ was.parted ∙ parts_before
      )

  filled : list_any is_empty below ≡ false
  filled =
      (or_parts (list_any is_empty (components old)) (list_any is_empty below)
      (sym (list_any-append is_empty (components old) below) ∙ ap (list_any is_empty) (sym parts_before) ∙ was.filled)).1

  utf8_old : IsUtf8 (path_of old)
  utf8_old = IsUtf8-from_is_utf8 (path_of old) in_old.utf8

  utf8_new : IsUtf8 (path_of new)
  utf8_new = IsUtf8-from_is_utf8 (path_of new) in_new.utf8

  utf8_text : IsUtf8 (47 ∷ text)
  utf8_text = IsUtf8-back (path_of old) text (subst IsUtf8 text_before (IsUtf8-from_is_utf8 _ was.utf8))

  printable : list_any is_control (47 ∷ chars text) ≡ false
  printable =
      (or_parts (has_control (path_of old)) (list_any is_control (47 ∷ chars text))
      (sym (has_control-joined (path_of old) text utf8_old) ∙ ap has_control (sym text_before) ∙ was.printable)).1

  IsName-deeper : fits ((part ∷ between) ++ new) ≡ true → IsName ((part ∷ between) ++ new)
  IsName-deeper fit =
      let name : Name = (part ∷ between) ++ new in
      let root : root_of name ≡ root_of new = root_of-above (part ∷ between) new (name_some new in_new) in
      let first : HasFirst (components new) = first_component new in_new in
      let limits = and_parts (not (nat_lt max_path_octets (length (path_of name)))) (not (nat_lt max_depth (length (components name)))) fit in
      record {
        tree = ap is_root root ∙ in_new.tree;
        parted = ap components_of text_after ∙ components_of-joined (path_of new) text ∙ (λ i. in_new.parted i ++ parted i) ∙ sym parts_after;
        filled = ap (list_any is_empty) parts_after ∙ list_any-append is_empty (components new) below ∙ or_from _ _ in_new.filled filled;
        shallow = not_more max_depth (length (components name)) limits.1;
        short = not_more max_path_octets (length (path_of name)) limits.0;
        utf8 = is_utf8-from_IsUtf8 (path_of name) (subst IsUtf8 (sym text_after) (IsUtf8-append (path_of new) (47 ∷ text) utf8_new utf8_text));
        nfc = ap (λ z. is_nfc (chars z)) text_after
            ∙ is_nfc-behind (path_of old) (path_of new) text utf8_old utf8_new in_old.nfc in_new.nfc (ap (λ z. is_nfc (chars z)) (sym text_before) ∙ was.nfc);
        printable = ap has_control text_after ∙ has_control-joined (path_of new) text utf8_new ∙ or_from _ _ in_new.printable printable;
        unreserved = (λ i. is_reserved (root i) (parts_after i)) ∙ is_reserved-front (root_of new) (components new) below first ∙ in_new.unreserved;
        inbox = ap with_inbox parts_after ∙ with_inbox-front (components new) below first ∙ ap (λ z. z ++ below) in_new.inbox ∙ sym parts_after;
      }

pub IsName-moved : (old new name : Name) → IsName old → IsName new → IsName name → is_within old name ≡ true → fits (moved old new name) ≡ true → IsName (moved old new name)
IsName-moved old new name in_old in_new was within fit =
    let (between, is) = below_from_within old name within in
    let becomes : moved old new name ≡ between ++ new = ap (moved old new) is ∙ moved_below old new between in
    subst IsName (sym becomes) (by between (subst IsName is was) (ap fits (sym becomes) ∙ fit))
  where
    by : (between : Name) → IsName (between ++ old) → fits (between ++ new) ≡ true → IsName (between ++ new)
    by [] was fit = in_new
    by (part ∷ between) was fit = IsName-deeper part between old new in_old in_new was fit

-- ---- the code's steps

pub moved_name : (old new name : Name) (root text : List ℕ) → IsName old → IsName new → IsName name → is_within old name ≡ true → fits (moved old new name) ≡ true
    → root ≡ root_of new → text ≡ path_of new ++ drop (length (path_of old)) (path_of name) → name_of root (components_of text) ≡ moved old new name
moved_name old new name root text in_old in_new was within fit r t =
    let m : MovesTo old new name (moved old new name) = moves_to old new name in_old in_new within in
    let long : 1 < length new = ltb-true 1 (length new) (has_component new in_new) in
    let back : drop (length (path_of old)) (path_of name) ≡ m.rest = ap (drop (length (path_of old))) m.before ∙ drop-append_seam (path_of old) m.rest in
    name_of-valid (moved old new name) root text (IsName-moved old new name in_old in_new was within fit)
    (r ∙ sym (root_of-moved old new name (omega (arith, long)) within))
    (t ∙ ap (λ z. path_of new ++ z) back ∙ sym m.after)

pub moved_path : (old new name : Name) → IsName old → IsName new → is_within old name ≡ true → path_of (moved old new name) ≡ path_of new ++ drop (length (path_of old)) (path_of name)
moved_path old new name in_old in_new within =
    let m : MovesTo old new name (moved old new name) = moves_to old new name in_old in_new within in
    m.after ∙ ap (λ z. path_of new ++ z) (sym (ap (drop (length (path_of old))) m.before ∙ drop-append_seam (path_of old) m.rest))

-- there is room for its path
pub moved_short : (old new name : Name) → IsName old → IsName new → is_within old name ≡ true → fits (moved old new name) ≡ true
    → length (path_of new) + length (drop (length (path_of old)) (path_of name)) ≤ max_path_octets
moved_short old new name in_old in_new within fit =
    let short = not_more max_path_octets (length (path_of (moved old new name))) (and_parts (not (nat_lt max_path_octets (length (path_of (moved old new name))))) (not (nat_lt max_depth (length (components (moved old new name))))) fit).0 in
    omega (arith, short, ap length (moved_path old new name in_old in_new within), length-append (path_of new) (drop (length (path_of old)) (path_of name)))
