-- The rights that a command needs on a mailbox (RFC 4314, section 4).
use Rattle.std.specs.Prelude.{ℕ, if◌then◌else◌}
use Rattle.imap_print.specs.declared.response.Refusal.{Refusal}
use Rattle.imap_print.specs.declared.response.Refusal.TheVariants.{NonExistent, NoPerm}
use Rattle.imap_view.specs.Rights.{has_any, lookup}

-- why a command is refused whose user holds these rights and lacks another. Without `l` it is as if
-- there were no mailbox (section 6)
abbrev pub missing_right_refusal : (rights : ℕ) → Refusal
missing_right_refusal rights = if has_any rights lookup then NoPerm else NonExistent
