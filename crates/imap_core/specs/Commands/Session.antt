-- Commands of any state (RFC 9051, section 6.1), and those that have no place in a session that is
-- authenticated when it begins (section 6.2).
use Rattle.std.specs.Prelude.{ℕ, Bool, not, ◌&&◌, ◌||◌, List, [], ◌∷◌, codes}
use Rattle.std.specs.List.{list_any}
use Rattle.std.specs.Str.{str_eq_ignore_ascii_case}
use Rattle.imap_answer.specs.Answer.{Answer, done, done_after, enabling, refusal}
use Rattle.imap_print.specs.declared.enabled.EnabledCapabilities.{EnabledCapabilities}
use Rattle.imap_print.specs.declared.response.Response.TheVariants as response
use Rattle.imap_print.specs.declared.response.Farewell.TheVariants.{LoggingOut}
use Rattle.imap_print.specs.declared.response.Refusal.TheVariants.{WrongState}

-- CAPABILITY
abbrev pub capability_answer : (tag : List ℕ) → Answer
capability_answer tag = done_after (response.Capability ∷ []) tag

-- NOOP
abbrev pub noop_answer : (tag : List ℕ) → Answer
noop_answer tag = done tag

-- LOGOUT
abbrev pub logout_answer : (tag : List ℕ) → Answer
logout_answer tag = done_after (response.Bye LoggingOut ∷ []) tag

-- LOGIN, AUTHENTICATE and STARTTLS
abbrev pub authenticate_answer : (tag : List ℕ) → Answer
authenticate_answer tag = refusal tag WrongState

-- ---- ENABLE (RFC 9051, section 6.3.1)

abbrev pub has_word : (name : List ℕ) → (words : List (List ℕ)) → Bool
has_word name words = list_any (λ word. str_eq_ignore_ascii_case word name) words

-- the capabilities that are named, in any case. Other words are passed over
abbrev pub named_by : (words : List (List ℕ)) → EnabledCapabilities
named_by words = record {
  condstore = has_word (codes "CONDSTORE") words;
  imap4rev2 = has_word (codes "IMAP4rev2") words;
  qresync = has_word (codes "QRESYNC") words;
}

-- QRESYNC enables CONDSTORE, too (RFC 7162, section 3.2.3)
abbrev pub enabled_by_names : (named : EnabledCapabilities) → EnabledCapabilities
enabled_by_names named = record {
  condstore = named.condstore || named.qresync;
  imap4rev2 = named.imap4rev2;
  qresync = named.qresync;
}

-- those that were not enabled before
abbrev pub newly_enabled : (named enabled : EnabledCapabilities) → EnabledCapabilities
newly_enabled named enabled = record {
  condstore = named.condstore && not enabled.condstore;
  imap4rev2 = named.imap4rev2 && not enabled.imap4rev2;
  qresync = named.qresync && not enabled.qresync;
}

abbrev pub enable_by_names : (enabled : EnabledCapabilities) → (tag : List ℕ) →
    (named : EnabledCapabilities) → Answer
enable_by_names enabled tag named =
    enabling (enabled_by_names named) (done_after (response.Enabled (newly_enabled named enabled) ∷ []) tag)

-- ENABLE of words in a session with these capabilities enabled
abbrev pub enable_answer : (enabled : EnabledCapabilities) → (tag : List ℕ) → (words : List (List ℕ)) → Answer
enable_answer enabled tag words = enable_by_names enabled tag (named_by words)
