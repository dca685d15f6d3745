-- The letters of shown names, and what simple patterns match.
use Rattle.std.proofs.Common.{◌≡◌, ◌≢◌, ℕ, ◌-◌, ◌+◌, Bool, true, false, not, List, [], ◌∷◌, ◌++◌, length, map, refl, sym, ap, ◌∙◌, subst, inl, inr}
use Rattle.std.specs.Prelude.{◌↔◌, ◌||◌, ◌&&◌, ◌==◌, codes, bytes_eq}
use Rattle.std.specs.List.{list_any}
use Rattle.std.proofs.lemmas.Bool.{cases_Bool, cond-true, cond-false, eq-eqb, or_parts, false_from_ne_true}
use Rattle.std.proofs.lemmas.List.{append-nil}
use Rattle.std.proofs.lemmas.Slice.Eq.{bytes_eq-Decides}
use Rattle.imap_names.specs.declared.letters.Letter.{Letter}
use Rattle.imap_names.specs.declared.read.Namespace.TheVariants.{OtherUsers}
use Rattle.imap_names.specs.declared.token.Token.{Token}
use Rattle.imap_names.specs.declared.token.Token.TheVariants.{Any, AnyInLevel, Octet}
use Rattle.imap_names.specs.Letters.{inbox_front, path_in, letters_of, lettered}
use Rattle.imap_names.specs.Name.{Name, root_of, path_of, shared_root, is_empty}
use Rattle.imap_names.specs.Pattern.{is_wildcard, token_of, is_letter, ends_level, Cut, Matches, IsMatch, star, percent}
use Rattle.imap_names.specs.Reading.{NameParts, parts_of}
use Rattle.imap_names.specs.Showing.{shown}
use Rattle.imap_names.specs.Text.{is_delimiter}
use Rattle.imap_names.specs.Valid.{is_prefix_word, is_reserved, IsName}
use Rattle.imap_names.proofs.LetterLaws.{letters_are}
use Rattle.imap_names.proofs.Parts.{HasFirst, components_of-first}
use Rattle.imap_names.proofs.PrefixLaws.{parts_of-personal, other_parts-user}
use Rattle.imap_names.proofs.ShownLaws.{shown-shared, shown-own, shown-other, empty_is, owned_root}
use Rattle.imap_names.proofs.UserLaws.{undelimited-user}

abbrev octets_in : List Letter → List ℕ
octets_in letters = map (λ (letter : Letter). letter.octet) letters

octets_lettered : (b e : ℕ) (xs : List ℕ) → octets_in (lettered b e xs) ≡ xs
octets_lettered b e [] = refl
octets_lettered b e (x ∷ xs) = ap (λ z. x ∷ z) (octets_lettered (b - 1) (e - 1) xs)

pub octets_of_letters : (text : List ℕ) → octets_in (letters_of text) ≡ text
octets_of_letters text =
    ap octets_in (letters_are text)
    ∙ octets_lettered (length text - length (path_in text)) (length text - length (path_in text) + length (inbox_front (path_in text))) text

-- ---- simple patterns

pub any_matches : (text : List ℕ) → IsMatch (Any ∷ []) text
any_matches text = record { piece = letters_of text; rest = []; are = sym (append-nil (letters_of text)); fits = tt; after = refl }

levels_in : (letters : List Letter) → list_any ends_level letters ≡ list_any is_delimiter (octets_in letters)
levels_in [] = refl
levels_in (x ∷ xs) = ap (λ b. ends_level x || b) (levels_in xs)

levels_of_text : (text : List ℕ) → list_any ends_level (letters_of text) ≡ list_any is_delimiter text
levels_of_text text = levels_in (letters_of text) ∙ ap (list_any is_delimiter) (octets_of_letters text)

pub in_level_matches : (text : List ℕ) → IsMatch (AnyInLevel ∷ []) text ↔ (list_any is_delimiter text ≡ false)
in_level_matches text = (
  λ m.
      let whole : letters_of text ≡ m.piece = m.are ∙ ap (λ z. m.piece ++ z) m.after ∙ append-nil m.piece in
      sym (levels_of_text text) ∙ ap (list_any ends_level) whole ∙ m.fits,
  λ h. record { piece = letters_of text; rest = []; are = sym (append-nil (letters_of text)); fits = levels_of_text text ∙ h; after = refl },
)

own_letter : (x : Letter) → is_letter x.octet x ≡ true
own_letter x = by x.any_case refl
  where
    by : (b : Bool) → x.any_case ≡ b → is_letter x.octet x ≡ true
    by true e = cond-true _ _ _ e ∙ eq-eqb _ _ refl
    by false e = cond-false _ _ _ e ∙ eq-eqb _ _ refl

token_is : (o : ℕ) → is_wildcard o ≡ false → token_of o ≡ Octet o
token_is o h =
    let parts : ((o == star) ≡ false) × ((o == percent) ≡ false) = or_parts (o == star) (o == percent) h in
    cond-false _ _ _ parts.0 ∙ cond-false _ _ _ parts.1

own_match : (letters : List Letter) → list_any is_wildcard (octets_in letters) ≡ false → Matches (map token_of (octets_in letters)) letters
own_match [] h = refl
own_match (x ∷ xs) h =
    let parts : (is_wildcard x.octet ≡ false) × (list_any is_wildcard (octets_in xs) ≡ false) = or_parts (is_wildcard x.octet) (list_any is_wildcard (octets_in xs)) h in
    let cut : Cut (Octet x.octet) (Matches (map token_of (octets_in xs))) (x ∷ xs) =
    record { piece = x ∷ []; rest = xs; are = refl; fits = (x, refl, own_letter x); after = own_match xs parts.1 } in
    subst (λ (t : Token). Cut t (Matches (map token_of (octets_in xs))) (x ∷ xs)) (sym (token_is x.octet parts.0)) cut

pub matches_itself : (text : List ℕ) → list_any is_wildcard text ≡ false → IsMatch (map token_of text) text
matches_itself text h =
    let same : octets_in (letters_of text) ≡ text = octets_of_letters text in
    subst (λ (z : List ℕ). Matches (map token_of z) (letters_of text)) same (own_match (letters_of text) (ap (list_any is_wildcard) same ∙ h))

-- ---- the path in the text of a name

path_of_parts : (text : List ℕ) (parts : NameParts) → parts_of text ≡ parts → path_in text ≡ parts.path
path_of_parts text parts e = ap (λ (p : NameParts). p.path) e

path_own : (name : Name) → IsName name → is_empty (root_of name) ≡ false → path_in (path_of name) ≡ path_of name
path_own name valid owned =
    let parts : HasFirst _ = components_of-first (path_of name) in
    let free : is_prefix_word parts.first ≡ false =
    sym (ap (λ b. not b && is_prefix_word parts.first) owned)
    ∙ ap (is_reserved (root_of name)) (sym parts.are ∙ valid.parted) ∙ valid.unreserved in
    path_of_parts (path_of name) _ (parts_of-personal (path_of name) parts.first parts.more parts.are free)

pub shown_path : (user : List ℕ) (name : List (List ℕ)) → IsName name → path_in (shown user name) ≡ path_of name
shown_path user name valid =
    elim (cases_Bool (is_empty (root_of name))) [
      | inl shared ↦ ap path_in (shown-shared user name (root_of name) (path_of name) refl refl shared)
      | inr owned ↦ elim (cases_Bool (bytes_eq (root_of name) user)) [
        | inl own ↦ ap path_in (shown-own user name (root_of name) (path_of name) refl refl owned own) ∙ path_own name valid owned
        | inr other ↦
            ap path_in (shown-other user name (root_of name) (path_of name) refl refl owned other)
            ∙ path_of_parts (codes "Other Users/" ++ (root_of name ++ 47 ∷ path_of name)) (record { namespace = OtherUsers; owner = root_of name; path = path_of name }) (other_parts-user (root_of name) (path_of name) (undelimited-user (root_of name) (owned_root (root_of name) valid.tree owned)))
      ]
    ]

-- ---- prefixes

none_empty : (root : List ℕ) → root ≢ shared_root → is_empty root ≡ false
none_empty root h = false_from_ne_true (is_empty root) (λ e. h (empty_is root e))

pub prefix_shared : (user : List ℕ) (name : List (List ℕ)) → root_of name ≡ shared_root → shown user name ≡ codes "Shared/" ++ path_of name
prefix_shared user name e = shown-shared user name (root_of name) (path_of name) refl refl (ap is_empty e)

pub prefix_personal : (user : List ℕ) (name : List (List ℕ)) → root_of name ≢ shared_root → root_of name ≡ user → shown user name ≡ path_of name
prefix_personal user name h e =
    shown-own user name (root_of name) (path_of name) refl refl (none_empty (root_of name) h) ((bytes_eq-Decides (root_of name) user).1 e)

pub prefix_other : (user : List ℕ) (name : List (List ℕ)) → root_of name ≢ shared_root → root_of name ≢ user → shown user name ≡ codes "Other Users/" ++ (root_of name ++ 47 ∷ path_of name)
prefix_other user name h d =
    shown-other user name (root_of name) (path_of name) refl refl (none_empty (root_of name) h)
    (false_from_ne_true (bytes_eq (root_of name) user) (λ t. d ((bytes_eq-Decides (root_of name) user).0 t)))
