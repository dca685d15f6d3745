-- A mailbox is known by its tree and path.
use Rattle.std.proofs.Common.{◌≡◌, ℕ, ℤ, Bool, true, false, cond, List, [], ◌∷◌, ◌++◌, drop, length, Some, refl, sym, ap, ◌∙◌, arith}
use Rattle.std.specs.Prelude.{codes}
use Rattle.std.specs.FinMap as map
use Rattle.sqlite.specs.declared.types.Value.{Value}
use Rattle.sqlite.specs.declared.types.Value.TheVariants.{Int, Text as Words, Null, Real, Blob}
use Rattle.sqlite.specs.Order.{Row, column}
use Rattle.sqlite.specs.Tree.{Trees}
use Rattle.imap_names.specs.Name.{Name, is_empty, path_of, root_of}
use Rattle.imap_names.specs.Valid.{IsName}
use Rattle.imap_names.proofs.PathLaws.{name_of-valid}
use Rattle.imap_world.specs.Mailbox.{Mailbox}
use Rattle.imap_world.specs.World.{World}
use Rattle.imap_tables.specs.Edits.{IsIdOf, IsNamed}
use Rattle.imap_records.specs.Columns.{tree_at, tree_text}
use Rattle.imap_records.specs.Standing.{IsMailbox, StandFor}
use Rattle.imap_records.proofs.Beside.{same_id}
use Rattle.std.proofs.lemmas.Bool.Decides.{Decides-eqb}

-- the octets of a text
abbrev text_in : Value → List ℕ
text_in (Words t) = t
text_in Null = []
text_in (Int n) = []
text_in (Real x) = []
text_in (Blob b) = []

pub same_text : (a b : List ℕ) → Words a ≡ Words b → a ≡ b
same_text a b e = ap text_in e

empty_is : (root : List ℕ) → is_empty root ≡ true → root ≡ []
empty_is [] e = refl
empty_is (x ∷ xs) e = absurd (omega (arith, (Decides-eqb (length (x ∷ xs)) 0).0 e))

one_or_more : (r : List ℕ) → codes "s" ≡ codes "u/" ++ r → ⊥
one_or_more r e = omega (arith, ap length e)

by_tests : (r q : List ℕ) (b c : Bool) → is_empty r ≡ b → is_empty q ≡ c → cond b (codes "s") (codes "u/" ++ r) ≡ cond c (codes "s") (codes "u/" ++ q) → r ≡ q
by_tests r q true true hb hc e = empty_is r hb ∙ sym (empty_is q hc)
by_tests r q true false hb hc e = absurd (one_or_more q e)
by_tests r q false true hb hc e = absurd (one_or_more r (sym e))
by_tests r q false false hb hc e = ap (drop 2) e

same_root : (r q : List ℕ) → tree_at r ≡ tree_at q → r ≡ q
same_root r q e = by_tests r q (is_empty r) (is_empty q) refl refl e

pub same_key : (a b : Name) → IsName a → IsName b → tree_text a ≡ tree_text b → path_of a ≡ path_of b → a ≡ b
same_key a b va vb tree path =
    sym (name_of-valid a (root_of a) (path_of a) va refl refl)
    ∙ name_of-valid b (root_of a) (path_of a) vb (same_root (root_of a) (root_of b) tree) path

-- the mailbox of this name, with its id
pub record IsFound (world : World) (id : Name → ℤ) (name : Name) (i : ℤ) : Type 0 where
  pub mailbox : Mailbox
  pub there : map.get world.mailboxes name ≡ Some mailbox
  pub same : i ≡ id name

module _ (db : Trees) (world : World) (stand : StandFor db world) (name : Name) (valid : IsName name) where
  -- a row with the name is that of the mailbox
  pub named_is : (row : Row) (u : IsMailbox world stand.id row) → IsNamed (tree_text name) (path_of name) row → u.name ≡ name
  named_is row u named =
      same_key u.name name (stand.named.mailboxes u.name u.mailbox u.there) valid
      (same_text (tree_text u.name) (tree_text name) (sym (ap (λ (r : Row). column r 2) u.shown) ∙ named.0))
      (same_text (path_of u.name) (path_of name) (sym (ap (λ (r : Row). column r 3) u.shown) ∙ named.1))

  pub found : (i : ℤ) → IsIdOf db (tree_text name) (path_of name) i → IsFound world stand.id name i
  found i (row, has, named, at) =
      let u : IsMailbox world stand.id row = (stand.mailboxes row).0 has in
      let same : u.name ≡ name = named_is row u named in
      record {
        mailbox = u.mailbox;
        there = ap (map.get world.mailboxes) (sym same) ∙ u.there;
        same = sym (same_id (stand.id u.name) i (sym (ap (λ (r : Row). column r 0) u.shown) ∙ at)) ∙ ap stand.id same;
      }
