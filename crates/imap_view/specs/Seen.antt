-- What a user sees of a mailbox (RFC 4314, sections 4 and 6).
use Rattle.std.specs.Prelude.{ℕ, Bool, true, false, ◌||◌, List, [], ◌∷◌, Option, Some, None, refl}
use Rattle.std.specs.Prelude.{if◌then◌else◌}
use Rattle.std.specs.Coded.{Coded, coded_ℕ, coded_list, coded_option, coded×, code_by}
use Rattle.imap_world.specs.Lent.{row_code}
use Rattle.imap_world.specs.Rows.{Row}
use Rattle.imap_world.specs.Shown.{Content, Rights, Shown, shown_to}
use Rattle.imap_names.specs.Name.{Name, root_of}
use Rattle.imap_world.specs.Rights.{bits, has_any, visible_rights, administer, insert, read}
use Rattle.imap_world.specs.Acl.{AclMap, acl_code}
use Rattle.imap_world.specs.Effective.{effective}
use Rattle.imap_world.specs.declared.site.Site.{Site}
use Rattle.imap_world.specs.Mailbox.{Mailbox, plain}
use Rattle.imap_view.specs.declared.seen.Seen.{Seen as SeenMailbox}

-- the tree that all share is the administrator's, every other one its user's
abbrev pub owner_by_root : Site → List ℕ → List ℕ
owner_by_root site [] = site.administrator
owner_by_root site (octet ∷ octets) = octet ∷ octets

abbrev pub owner_of : Site → Name → List ℕ
owner_of site name = owner_by_root site (root_of name)

-- ---- one mailbox

-- the user's rights; with `a` who else has which; with `r` or `a` UIDVALIDITY and the messages, and with `r`,
-- `i` or `a` the room for more of them; not the flag \Seen
pub record Seen : Type 0 where
  pub rights : ℕ
  pub acl : Option AclMap
  pub validity : Option ℕ
  pub messages : Shown

abbrev pub content_code : Coded Content
content_code =
    code_by (ℕ × (ℕ × (ℕ × (List Row × List (ℕ × ℕ)))))
    (coded× coded_ℕ (coded× coded_ℕ
    (coded× coded_ℕ (coded× (coded_list row_code) (coded_list (coded× coded_ℕ coded_ℕ))))))
    (λ c. (c.next, (c.shared, (c.own, (c.rows, c.gone)))))
    (λ p. record { next = p.0; shared = p.1.0; own = p.1.1.0; rows = p.1.1.1.0; gone = p.1.1.1.1 })
    (λ _. refl)

abbrev pub shown_code : Coded Shown
shown_code =
    code_by (Option Content × Option ℕ) (coded× (coded_option content_code) (coded_option coded_ℕ))
    (λ s. (s.content, s.room)) (λ p. record { content = p.0; room = p.1 }) (λ _. refl)

abbrev pub seen_code : Coded Seen
seen_code =
    code_by (ℕ × (Option AclMap × (Option ℕ × Shown)))
    (coded× coded_ℕ (coded× (coded_option acl_code) (coded× (coded_option coded_ℕ) shown_code)))
    (λ s. (s.rights, (s.acl, (s.validity, s.messages))))
    (λ p. record { rights = p.0; acl = p.1.0; validity = p.1.1.0; messages = p.1.1.1 }) (λ _. refl)

-- the rights that decide what is shown of messages
abbrev pub rights_shown : ℕ → Rights
rights_shown rights = record {
  read = has_any rights read;
  insert = has_any rights insert;
  admin = has_any rights administer;
}

abbrev pub shows_messages : ℕ → Bool
shows_messages rights = has_any rights read || has_any rights administer

abbrev pub shows_room : ℕ → Bool
shows_room rights = has_any rights read || (has_any rights insert || has_any rights administer)

abbrev pub seen_by_rights : Site → (user : List ℕ) → (rights : ℕ) → Mailbox → Seen
seen_by_rights site user rights mailbox = record {
  rights = rights;
  acl = if has_any rights administer then Some mailbox.acl else None;
  validity = if shows_messages rights then Some mailbox.validity else None;
  messages = shown_to site.limits.max_messages user (rights_shown rights) mailbox.messages;
}

abbrev pub seen_with : Site → (user : List ℕ) → (rights : ℕ) → Mailbox → Option Seen
seen_with site user rights mailbox =
    if has_any rights visible_rights then Some (seen_by_rights site user rights mailbox) else None

-- the root of a tree is no mailbox
abbrev pub is_root : Name → Bool
is_root [] = true
is_root (root ∷ []) = true
is_root (deepest ∷ above ∷ more) = false

-- the mailbox of this name, for a user who holds a right by which it is visible
abbrev pub seen_at : Site → (user : List ℕ) → Name → Mailbox → Option Seen
seen_at site user name mailbox =
    if is_root name then None
    else seen_with site user (effective user (owner_of site name) site.groups mailbox.acl) mailbox

-- what the code's own stands for
abbrev pub shown : SeenMailbox → Seen
shown s = seen_by_rights s.site.now s.user.now (bits s.rights) (plain s.mailbox.now)
