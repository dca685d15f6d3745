-- The dialect of IMAP4rev1 with names in modified UTF-7 (RFC 3501, section 5.1.3).
use Rattle.std.specs.Prelude.{ℕ, Bool, false, ◌||◌, List, ◌++◌, codes, Option, Some, None, if◌then◌else◌}
use Rattle.imap_lex.specs.Framing.{crlf}
use Rattle.std.specs.List.{list_any}
use Rattle.imap_print.specs.declared.enabled.EnabledCapabilities.{EnabledCapabilities}
use Rattle.imap_print.specs.Printed.{line_text}
use Rattle.imap_print.specs.declared.response.Response.{Response}
use Rattle.imap_print.specs.declared.response.Response.TheVariants as response
use Rattle.imap_rev1_frames.specs.Enable.{asks_utf8}
use Rattle.imap_rev1_frames.specs.Names.{renamed_frame}
use Rattle.imap_dialect.specs.Telling.{Telling}
use Rattle.imap_rev1.specs.declared.rev1.Rules.{Rules}
use Rattle.imap_rev1.specs.declared.utf7_rev1.Utf7Rev1.{Utf7Rev1}
use Rattle.imap_rev1.specs.Rev1.{rev1, rules_for, told_by}
use Rattle.imap_rev1.specs.Shown.{shown_reply}

-- ---- ENABLE

-- the line that says that the capabilities are enabled, and UTF8=ACCEPT (RFC 5161, section 3.2)
abbrev pub accepted_text : EnabledCapabilities → List ℕ
accepted_text enabled = line_text (response.Enabled enabled) ++ codes " UTF8=ACCEPT"

-- After the reply names are in UTF-8. `asks` says whether the client's frame names UTF8=ACCEPT.
abbrev pub ends_names : (asks : Bool) → Response → Bool
ends_names asks (response.Enabled enabled) = asks || enabled.imap4rev2
ends_names asks _ = false

-- ---- replies

-- what the reply says is enabled, if UTF8=ACCEPT is to be told beside it
abbrev pub accepted_by : (echoes : Bool) → Response → Option EnabledCapabilities
accepted_by echoes (response.Enabled enabled) = if echoes then Some enabled else None
accepted_by echoes _ = None

abbrev pub told_accepted : Rules → Response → Option EnabledCapabilities → List ℕ
told_accepted rules reply (Some enabled) = accepted_text enabled ++ crlf
told_accepted rules reply None = told_by rules reply

-- the octets of a reply whose name is as it is to be shown
abbrev pub told_echoed : Rules → (echoes : Bool) → Response → List ℕ
told_echoed rules echoes reply = told_accepted rules reply (accepted_by echoes reply)

abbrev pub named_told : Rules → (utf8 echoes : Bool) → Response → List ℕ
named_told rules utf8 echoes reply = told_echoed rules echoes (if utf8 then reply else shown_reply reply)

-- ---- the dialect

abbrev pub utf7_rev1 : Telling Utf7Rev1
utf7_rev1 = record {
  next = λ state frame replies. record {
    rev1 = rev1.next state.rev1 frame replies;
    utf8 = state.utf8 || list_any (ends_names (asks_utf8 (Some frame))) replies;
  };
  rewritten = λ state frame.
      if state.utf8 then rev1.rewritten state.rev1 frame else renamed_frame (rev1.rewritten state.rev1 frame);
  told = λ state by reply. named_told (rules_for state.rev1 by) state.utf8 (asks_utf8 by) reply;
}
