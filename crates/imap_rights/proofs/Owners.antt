-- The rights of an owner, and of another user.
use Rattle.std.proofs.Common.{◌≡◌, ℕ, List, true, false, cond, sym, ap, ◌∙◌}
use Rattle.std.specs.Prelude.{bytes_eq}
use Rattle.imap_rights.specs.Acl.{AclMap}
use Rattle.imap_rights.specs.Effective.{effective, granted, owner_rights}
use Rattle.imap_rights.specs.Groups.{Members}
use Rattle.imap_rights.specs.Rights.{union}

module _ (user owner : List ℕ) (groups : Members) (acl : AclMap) (held : ℕ) (is : held ≡ granted user groups acl) where
  pub of_owner : bytes_eq user owner ≡ true → union held owner_rights ≡ effective user owner groups acl
  of_owner same = ap (λ g. union g owner_rights) is ∙ sym (ap (λ b. cond b (union (granted user groups acl) owner_rights) (granted user groups acl)) same)

  pub of_another : bytes_eq user owner ≡ false → held ≡ effective user owner groups acl
  of_another other = is ∙ sym (ap (λ b. cond b (union (granted user groups acl) owner_rights) (granted user groups acl)) other)
