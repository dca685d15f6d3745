-- The mailbox of a folder.
use Rattle.std.proofs.Common.{◌≡◌, ◌∙◌, ap, sym, refl, subst, ℕ, true, false, cond, not, List, [], ◌∷◌, ◌++◌, append_assoc, append-nil, flat_map, lit<, inl, inr, Some, None, Ok, Err}
use Rattle.std.specs.Prelude.{◌||◌, codes, chars, encode_utf8_all}
use Rattle.std.specs.List.{join_with_byte}
use Rattle.std.specs.Str.{IsUtf8}
use Rattle.std.proofs.lemmas.Bool.{cases_Bool, cond-false, cond-true, or_from}
use Rattle.std.proofs.lemmas.Str.{chars-encodes, encode_ascii, encodes-append, encodes-IsAscii, IsUtf8-from_is_utf8, IsUtf8-past_char}
use Rattle.std.proofs.Math.Utf8.{scalars}
use Rattle.imap_names.specs.Name.{Name, components, is_empty, path_of, root_of}
use Rattle.imap_names.specs.declared.error.NameError.TheVariants.{Reserved}
use Rattle.imap_names.specs.Reading.{full_name_read, in_tree, name_at, name_in}
use Rattle.imap_names.specs.Text.{components_of}
use Rattle.imap_names.proofs.Parts.{HasFirst, components_of-first}
use Rattle.imap_nfc.specs.Nfc.{composed}
use Rattle.imap_names.specs.Valid.{IsName}
use Rattle.imap_names.proofs.Composed.{composed-empty, has_control-empty, is_utf8-front, is_utf8-append, ascii_by_test}
use Rattle.imap_names.proofs.FrontLaws.{IsUtf8-front, IsUtf8-back}
use Rattle.imap_names.proofs.PrefixLaws.{other_parts-user}
use Rattle.imap_names.proofs.ReadLaws.{read_by-text}
use Rattle.imap_names.proofs.ShownLaws.{empty_is, name_in-valid, owned_root}
use Rattle.imap_names.proofs.UserLaws.{UserNameFacts, user_name_facts, has_control-user, undelimited-user}
use Rattle.imap_nfc.proofs.Nfc.{composed-nfc}
use Rattle.imap_names.specs.UserName.{is_user_name}
use Rattle.imap_maildir_names.specs.Folders as folders
use Rattle.imap_maildir_names.specs.Folders.{folder_path, if_read, tree_path}
use Rattle.imap_maildir_names.specs.Levels.{level_path}
use Rattle.imap_maildir_names.specs.Unmarking.{unmarked}
use Rattle.imap_maildir_names.proofs.RoundTrip.{AreTexts, scalars_append, level_chars, slashed, levels-encoded, levels_scalars, read_levels, chars-encoded}

-- ---- the levels of a path are text

texts_joined : (levels : List (List ℕ)) → IsUtf8 (join_with_byte 47 levels) → AreTexts levels
texts_joined [] is = tt
texts_joined (level ∷ []) is = (is, tt)
texts_joined (level ∷ next ∷ more) is =
    (IsUtf8-front level (join_with_byte 47 (next ∷ more)) is, texts_joined (next ∷ more) (IsUtf8-past_char (47 ∷ join_with_byte 47 (next ∷ more)) (join_with_byte 47 (next ∷ more)) 47 (IsUtf8-back level (join_with_byte 47 (next ∷ more)) is) (sym (ap (λ l. l ++ join_with_byte 47 (next ∷ more)) (encode_ascii 47 (lit< tt))))))

joined_levels : (level : List ℕ) (more : List (List ℕ)) → flat_map slashed (level ∷ more) ≡ 47 ∷ join_with_byte 47 (level ∷ more)
joined_levels level [] = ap (λ l. 47 ∷ l) (append-nil level)
joined_levels level (next ∷ more) = ap (λ l. 47 ∷ (level ++ l)) (joined_levels next more)

-- ---- a path is read

-- below the prefix of a namespace
read_path : (head : List ℕ) (levels : List (List ℕ)) → AreTexts levels → scalars head ≡ true → encode_utf8_all head ≡ head
    → ((text : List ℕ) → unmarked (head ++ text) ≡ head ++ unmarked text)
    → encode_utf8_all (unmarked (chars (head ++ flat_map level_path levels))) ≡ head ++ flat_map slashed levels
read_path head levels are is ascii plain =
    let below = flat_map level_chars levels in
    let whole : head ++ flat_map level_path levels ≡ encode_utf8_all (head ++ below) =
    ap (λ l. head ++ l) (levels-encoded levels) ∙ ap (λ l. l ++ encode_utf8_all below) (sym ascii) ∙ sym (encodes-append head below) in
    ap (λ l. encode_utf8_all (unmarked (chars l))) whole
    ∙ ap (λ l. encode_utf8_all (unmarked l)) (chars-encodes (head ++ below) (scalars_append head below is (levels_scalars levels are)))
    ∙ ap encode_utf8_all (plain below)
    ∙ encodes-append head (unmarked below)
    ∙ ap (λ l. l ++ encode_utf8_all (unmarked below)) ascii
    ∙ ap (λ l. head ++ encode_utf8_all l) (read_levels levels)
    ∙ ap (λ l. head ++ l) (chars-encoded levels are)

-- ---- a name in full is read

read_shared : (name : Name) → IsName name → root_of name ≡ [] → full_name_read (codes "Shared/" ++ path_of name) ≡ Ok name
read_shared name valid shared =
    let text = codes "Shared/" ++ path_of name in
    read_by-text None text [] (path_of name)
    (IsUtf8-from_is_utf8 text (is_utf8-front (codes "Shared/") (path_of name) (ascii_by_test (codes "Shared/") refl) valid.utf8))
    (sym composed-empty) (sym (composed-nfc (path_of name) valid.utf8 valid.nfc))
    ∙ cond-false _ _ _ (or_from _ _ has_control-empty valid.printable)
    ∙ ap (λ r. name_in r (path_of name)) (sym shared)
    ∙ name_in-valid name valid

read_other : (name : Name) → IsName name → is_user_name (root_of name) ≡ true
    → full_name_read (codes "Other Users/" ++ (root_of name ++ 47 ∷ path_of name)) ≡ Ok name
read_other name valid owned =
    let facts : UserNameFacts (root_of name) = user_name_facts (root_of name) owned in
    let text = codes "Other Users/" ++ (root_of name ++ 47 ∷ path_of name) in
    let at = other_parts-user (root_of name) (path_of name) (undelimited-user (root_of name) owned) in
    read_by-text None text (root_of name) (path_of name)
    (IsUtf8-from_is_utf8 text (is_utf8-front (codes "Other Users/") _ (ascii_by_test (codes "Other Users/") refl)
    (is_utf8-append (root_of name) (47 ∷ path_of name) facts.utf8
    (is_utf8-front (47 ∷ []) (path_of name) (ascii_by_test (47 ∷ []) refl) valid.utf8))))
    (sym (composed-nfc (root_of name) facts.utf8 facts.nfc) ∙ ap (λ p. composed p.owner) (sym at))
    (sym (composed-nfc (path_of name) valid.utf8 valid.nfc) ∙ ap (λ p. composed p.path) (sym at))
    ∙ ap (λ p. name_at None p.namespace (root_of name) (path_of name)) at
    ∙ cond-false _ _ _ (or_from _ _ (has_control-user (root_of name) owned) valid.printable)
    ∙ ap (λ b. in_tree (cond (false || not b) (Err Reserved) (Ok (root_of name))) (path_of name)) owned
    ∙ name_in-valid name valid

-- ---- the law

components_some : (name : Name) → IsName name → (level : List ℕ) × (more : List (List ℕ)) × (components name ≡ level ∷ more)
components_some name valid =
    let first : HasFirst (components_of (path_of name)) = components_of-first (path_of name) in
    (first.first, first.more, sym valid.parted ∙ first.are)

slashed_path : (name : Name) → IsName name → flat_map slashed (components name) ≡ 47 ∷ path_of name
slashed_path name valid =
    let some = components_some name valid in
    ap (λ l. flat_map slashed l) some.2 ∙ joined_levels some.0 some.1 ∙ ap (λ l. 47 ∷ join_with_byte 47 l) (sym some.2)

texts_of : (name : Name) → IsName name → AreTexts (components name)
texts_of name valid = texts_joined (components name) (IsUtf8-from_is_utf8 (path_of name) valid.utf8)

found_shared : (name : Name) → IsName name → is_empty (root_of name) ≡ true → folders.name_at (folder_path name) ≡ Some name
found_shared name valid shared =
    let root : root_of name ≡ [] = empty_is (root_of name) shared in
    ap (λ b. folders.name_at (cond b (codes "Shared") (codes "Other Users" ++ level_path (root_of name)) ++ flat_map level_path (components name))) shared
    ∙ ap (λ l. if_read (full_name_read l)) (read_path (codes "Shared") (components name) (texts_of name valid) refl (encodes-IsAscii (codes "Shared") (ascii_by_test (codes "Shared") refl)) (λ text. refl))
    ∙ ap (λ l. if_read (full_name_read (codes "Shared" ++ l))) (slashed_path name valid)
    ∙ ap if_read (read_shared name valid root)

found_owned : (name : Name) → IsName name → is_empty (root_of name) ≡ false → folders.name_at (folder_path name) ≡ Some name
found_owned name valid owned =
    let user : is_user_name (root_of name) ≡ true = owned_root (root_of name) valid.tree owned in
    let facts : UserNameFacts (root_of name) = user_name_facts (root_of name) user in
    let root_text : IsUtf8 (root_of name) = IsUtf8-from_is_utf8 (root_of name) facts.utf8 in
    ap (λ b. folders.name_at (cond b (codes "Shared") (codes "Other Users" ++ level_path (root_of name)) ++ flat_map level_path (components name))) owned
    ∙ ap folders.name_at (append_assoc (codes "Other Users") (level_path (root_of name)) (flat_map level_path (components name)))
    ∙ ap (λ l. if_read (full_name_read l)) (read_path (codes "Other Users") (root_of name ∷ components name) (root_text, texts_of name valid) refl (encodes-IsAscii (codes "Other Users") (ascii_by_test (codes "Other Users") refl)) (λ text. refl))
    ∙ ap (λ l. if_read (full_name_read (codes "Other Users" ++ ((47 ∷ root_of name) ++ l)))) (slashed_path name valid)
    ∙ ap if_read (read_other name valid user)

pub found_again : (name : Name) → IsName name → folders.name_at (folder_path name) ≡ Some name
found_again name valid = elim (cases_Bool (is_empty (root_of name))) [
  | inl shared ↦ found_shared name valid shared
  | inr owned ↦ found_owned name valid owned
]
