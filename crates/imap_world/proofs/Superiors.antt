-- What a name inherits and what is made with it, by its superior.
use Rattle.std.proofs.Common.{◌≡◌, ℕ, ◌<◌, ◌++◌, true, false, cond, List, [], ◌∷◌, length, Option, Some, None, Result, Ok, Err, refl, ap, ◌∙◌, arith}
use Rattle.std.specs.Prelude.{unwrap_or}
use Rattle.std.specs.FinMap as map
use Rattle.imap_names.specs.Name.{Name, superior, IsAbove}
use Rattle.imap_names.specs.Order.{Names}
use Rattle.imap_names.specs.Valid.{IsName}
use Rattle.imap_rights.specs.Acl.{AclMap, owner_acl}
use Rattle.imap_world.specs.declared.change.Write.TheVariants as write
use Rattle.imap_world.specs.declared.error.WorldError.{WorldError}
use Rattle.imap_world.specs.Mailbox.{Mailbox}
use Rattle.imap_world.specs.Effects.{put_of, puts, puts_of, writes_then}
use Rattle.imap_world.specs.NewMailbox.{NewMailbox}
use Rattle.imap_world.specs.Tree.{acl_or, inherited, new_row, rows_for, with_last}
use Rattle.imap_world.specs.World.{World}

pub superior_is_shorter : (q above : Name) → superior q ≡ Some above → length above < length q
superior_is_shorter [] above is = absurd (cc is)
superior_is_shorter (root ∷ []) above is = absurd (cc is)
superior_is_shorter (outermost ∷ root ∷ []) above is = absurd (cc is)
superior_is_shorter (deepest ∷ first ∷ next ∷ more) above is = omega (arith, ap (λ (o : Option Name). length (unwrap_or o above)) is)

pub superior_is_above : (q above : Name) → superior q ≡ Some above → IsAbove above q
superior_is_above [] above is = absurd (cc is)
superior_is_above (root ∷ []) above is = absurd (cc is)
superior_is_above (outermost ∷ root ∷ []) above is = absurd (cc is)
superior_is_above (deepest ∷ first ∷ next ∷ more) above is = (deepest, [], ap (λ (o : Option Name). deepest ∷ unwrap_or o above) is)

-- ---- the list that is inherited

module _ (mailboxes : Names Mailbox) (owner : List ℕ) where
  pub inherited-root : (q : Name) → superior q ≡ None → inherited mailboxes owner q ≡ owner_acl owner
  inherited-root [] is = refl
  inherited-root (root ∷ []) is = refl
  inherited-root (outermost ∷ root ∷ []) is = refl
  inherited-root (deepest ∷ first ∷ next ∷ more) is = absurd (cc is)

  pub inherited-below : (q above : Name) → superior q ≡ Some above → inherited mailboxes owner q ≡ acl_or (map.get mailboxes above) (inherited mailboxes owner above)
  inherited-below [] above is = absurd (cc is)
  inherited-below (root ∷ []) above is = absurd (cc is)
  inherited-below (outermost ∷ root ∷ []) above is = absurd (cc is)
  inherited-below (deepest ∷ first ∷ next ∷ more) above is = ap (λ (o : Option Name). at (unwrap_or o above)) is
    where
      at : Name → AclMap
      at name = acl_or (map.get mailboxes name) (inherited mailboxes owner name)

-- ---- what is made

pub puts-last : (rows : List NewMailbox) (row : NewMailbox) → puts (rows ++ row ∷ []) ≡ puts rows ++ write.Put row ∷ []
puts-last [] row = refl
puts-last (r ∷ rows) row = ap (λ ws. write.Put r ∷ ws) (puts-last rows row)

pub puts_of-last : (rows : Result (List NewMailbox) WorldError) (row : Result NewMailbox WorldError) → puts_of (with_last rows row) ≡ writes_then (puts_of rows) (put_of row)
puts_of-last (Err error) row = refl
puts_of-last (Ok rows) (Err error) = refl
puts_of-last (Ok rows) (Ok row) = ap Ok (puts-last rows row)

module _ (world : World) (acl : AclMap) where
  -- nothing, if it is there
  pub rows_for-there : (q : Name) → map.contains_key world.mailboxes q ≡ true → puts_of (rows_for world acl q) ≡ Ok []
  rows_for-there [] there = refl
  rows_for-there (root ∷ []) there = refl
  rows_for-there (deepest ∷ above ∷ more) there =
      ap (λ b. puts_of (cond b (Ok []) (with_last (rows_for world acl (above ∷ more)) (new_row world.epochs (deepest ∷ above ∷ more) acl)))) there

  missing : (deepest above : List ℕ) (more : Name) → map.contains_key world.mailboxes (deepest ∷ above ∷ more) ≡ false
      → puts_of (rows_for world acl (deepest ∷ above ∷ more)) ≡ writes_then (puts_of (rows_for world acl (above ∷ more))) (put_of (new_row world.epochs (deepest ∷ above ∷ more) acl))
  missing deepest above more absent =
      ap (λ b. puts_of (cond b (Ok []) (with_last (rows_for world acl (above ∷ more)) (new_row world.epochs (deepest ∷ above ∷ more) acl)))) absent
      ∙ puts_of-last (rows_for world acl (above ∷ more)) (new_row world.epochs (deepest ∷ above ∷ more) acl)

  pub rows_for-root : (q : Name) → IsName q → map.contains_key world.mailboxes q ≡ false → superior q ≡ None → puts_of (rows_for world acl q) ≡ writes_then (Ok []) (put_of (new_row world.epochs q acl))
  rows_for-root [] valid absent is = let clash : [] ∷ [] ≡ [] = valid.parted in cc
  rows_for-root (root ∷ []) valid absent is = let clash : [] ∷ [] ≡ [] = valid.parted in cc
  rows_for-root (outermost ∷ root ∷ []) valid absent is = missing outermost root [] absent
  rows_for-root (deepest ∷ first ∷ next ∷ more) valid absent is = absurd (cc is)

  pub rows_for-below : (q above : Name) → map.contains_key world.mailboxes q ≡ false → superior q ≡ Some above
      → puts_of (rows_for world acl q) ≡ writes_then (puts_of (rows_for world acl above)) (put_of (new_row world.epochs q acl))
  rows_for-below [] above absent is = absurd (cc is)
  rows_for-below (root ∷ []) above absent is = absurd (cc is)
  rows_for-below (outermost ∷ root ∷ []) above absent is = absurd (cc is)
  rows_for-below (deepest ∷ first ∷ next ∷ more) above absent is =
      missing deepest first (next ∷ more) absent
      ∙ ap (λ (o : Option Name). writes_then (puts_of (rows_for world acl (unwrap_or o above))) (put_of (new_row world.epochs (deepest ∷ first ∷ next ∷ more) acl))) is
