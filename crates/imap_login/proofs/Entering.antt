-- A client enters by the right login.
use Rattle.std.proofs.Common.{◌≡◌, ◌↔◌, ◌⊎◌, inl, inr, ℕ, ◌-◌, Bool, true, false, nat_lt, List, [], ◌++◌, Option, Some, None, refl, sym, ◌∙◌}
use Rattle.std.specs.Prelude.{if◌then◌else◌}
use Rattle.std.proofs.lemmas.Bool.{and_from, and_parts, or_cases, or_left, or_right}
use Rattle.imap_lex.specs.declared.frame.Frame.TheVariants as frame
use Rattle.imap_lex.specs.CommandTag.{tag_of}
use Rattle.imap_login.specs.declared.asked.Asked.{Asked}
use Rattle.imap_login.specs.declared.asked.Asked.TheVariants as asked
use Rattle.imap_login.specs.declared.progress.Progress.{Progress}
use Rattle.imap_login.specs.declared.progress.Stage.TheVariants as stage
use Rattle.imap_login.specs.Asked.{asked_of}
use Rattle.imap_login.specs.Credentials.{Known, are_right, is_right_message, plain_message}
use Rattle.imap_login.specs.Differences.{are_same}
use Rattle.imap_login.specs.Laws.{EntersByLogin, IsRightCommand, IsRightLine, IsRightMessage, IsRightRequest}
use Rattle.imap_login.specs.declared.outcome.Outcome.TheVariants as outcome
use Rattle.imap_login.specs.Replies.{limit_reached, tagged}
use Rattle.imap_login.specs.Login.{Answer, answer, asked_answer, at_stage, awaiting, command_answer, frame_answer, initial_message, judged, line_message, message_answer, plain_answer, whole_answer}
use Rattle.imap_login.proofs.Differ.{same_is_equal}

-- the client enters by this answer just where this holds
abbrev EntersIf : Answer → Type 0 → Type 0
EntersIf given P = (given.next.stage ≡ stage.Entered) ↔ P

never : {P : Type 0} (given : Answer) → (given.next.stage ≡ stage.Entered → ⊥) → (P → ⊥) → EntersIf given P
never given h none = (λ e. absurd (h e), λ p. absurd (none p))

waits_still : stage.Waiting ≡ stage.Entered → ⊥
waits_still e = absurd cc

closed_still : stage.Closed ≡ stage.Entered → ⊥
closed_still e = absurd cc

abbrev failed_by : (tag : List ℕ) (p : Progress) → Bool → Answer
failed_by tag p more =
    if more
    then answer (tagged tag outcome.AuthenticationFailed) (record p { tries = p.tries - 1 })
    else answer (tagged tag outcome.AuthenticationFailed ++ limit_reached) (at_stage stage.Closed p)

stays_out : (tag : List ℕ) (p : Progress) (more : Bool) → p.stage ≡ stage.Waiting → (failed_by tag p more).next.stage ≡ stage.Entered → ⊥
stays_out tag p true w h = waits_still (sym w ∙ h)
stays_out tag p false w h = closed_still h

judged_enters : (right : Bool) (tag : List ℕ) (p : Progress) → p.stage ≡ stage.Waiting → EntersIf (judged right tag p) (right ≡ true)
judged_enters true tag p w = (λ e. refl, λ e. refl)
judged_enters false tag p w = (λ e. absurd (stays_out tag p (nat_lt 1 p.tries) w e), λ e. absurd cc)

message_is_right : (known : Known) (message : List ℕ) → (is_right_message known message ≡ true) ↔ IsRightMessage known (Some message)
message_is_right known message =
    let once = same_is_equal (plain_message [] known) message in
    let twice = same_is_equal (plain_message known.name known) message in (
      λ e. either (or_cases (are_same (plain_message [] known) message) _ e),
      λ h. unite h,
    )
  where
    either : (are_same (plain_message [] known) message ≡ true) ⊎ (are_same (plain_message known.name known) message ≡ true) → IsRightMessage known (Some message)
    either (inl e) = inl (sym ((same_is_equal (plain_message [] known) message).0 e))
    either (inr e) = inr (sym ((same_is_equal (plain_message known.name known) message).0 e))

    unite : IsRightMessage known (Some message) → is_right_message known message ≡ true
    unite (inl e) = or_left _ _ ((same_is_equal (plain_message [] known) message).1 (sym e))
    unite (inr e) = or_right _ _ ((same_is_equal (plain_message known.name known) message).1 (sym e))

through : {A B C : Type 0} → A ↔ B → B ↔ C → A ↔ C
through f g = (λ a. g.0 (f.0 a), λ c. f.1 (g.1 c))

message_enters : (known : Known) (tag : List ℕ) (message : Option (List ℕ)) (p : Progress) → p.stage ≡ stage.Waiting → EntersIf (message_answer known tag message p) (IsRightMessage known message)
message_enters known tag (Some message) p w =
    through (judged_enters (is_right_message known message) tag (awaiting None p) w) (message_is_right known message)
message_enters known tag None p w = never (message_answer known tag None p) (λ e. waits_still (sym w ∙ e)) (λ h. h)

login_is_right : (known : Known) (name password : List ℕ) → (are_right known name password ≡ true) ↔ ((name ≡ known.name) × (password ≡ known.password))
login_is_right known name password =
    let named = same_is_equal known.name name in
    let secret = same_is_equal known.password password in (
      λ e. let parts = and_parts (are_same known.name name) (are_same known.password password) e in
          (sym (named.0 parts.0), sym (secret.0 parts.1)),
      λ h. and_from _ _ (named.1 (sym h.0)) (secret.1 (sym h.1)),
    )

plain_enters : (known : Known) (tag : List ℕ) (response : Option (List ℕ)) (p : Progress) → p.stage ≡ stage.Waiting → EntersIf (plain_answer known tag response p) (IsRightRequest known (asked.Plain response))
plain_enters known tag (Some response) p w = message_enters known tag (initial_message response) p w
plain_enters known tag None p w = never (plain_answer known tag None p) (λ e. waits_still (sym w ∙ e)) (λ h. h)

request_enters : (known : Known) (tag : List ℕ) (request : Asked) (p : Progress) → p.stage ≡ stage.Waiting → EntersIf (asked_answer known tag request p) (IsRightRequest known request)
request_enters known tag asked.Capability p w = never (asked_answer known tag asked.Capability p) (λ e. waits_still (sym w ∙ e)) (λ h. h)
request_enters known tag asked.Noop p w = never (asked_answer known tag asked.Noop p) (λ e. waits_still (sym w ∙ e)) (λ h. h)
request_enters known tag asked.Logout p w = never (asked_answer known tag asked.Logout p) (λ e. closed_still e) (λ h. h)
request_enters known tag (asked.Login name password) p w =
    through (judged_enters (are_right known name password) tag p w) (login_is_right known name password)
request_enters known tag (asked.Plain response) p w = plain_enters known tag response p w
request_enters known tag asked.OtherMechanism p w = never (asked_answer known tag asked.OtherMechanism p) (λ e. waits_still (sym w ∙ e)) (λ h. h)
request_enters known tag asked.Other p w = never (asked_answer known tag asked.Other p) (λ e. waits_still (sym w ∙ e)) (λ h. h)

command_enters : (known : Known) (tag : Option (List ℕ)) (octets : List ℕ) (p : Progress) → p.stage ≡ stage.Waiting → EntersIf (command_answer known tag octets p) (IsRightCommand known tag octets)
command_enters known (Some tag) octets p w = request_enters known tag (asked_of tag octets) p w
command_enters known None octets p w = never (command_answer known None octets p) (λ e. waits_still (sym w ∙ e)) (λ h. h)

line_enters : (known : Known) (pending : Option (List ℕ)) (octets : List ℕ) (p : Progress) → p.stage ≡ stage.Waiting → EntersIf (whole_answer known pending octets p) (IsRightLine known pending octets)
line_enters known (Some tag) octets p w = message_enters known tag (line_message octets) p w
line_enters known None octets p w = command_enters known (tag_of octets) octets p w

pub enters_by_login : EntersByLogin
enters_by_login known (frame.Whole octets) p w = line_enters known p.pending octets p w
enters_by_login known frame.Continue p w = never (frame_answer known frame.Continue p) (λ e. waits_still (sym w ∙ e)) (λ h. h)
enters_by_login known (frame.Reject tag) p w = never (frame_answer known (frame.Reject tag) p) (λ e. closed_still e) (λ h. h)
enters_by_login known frame.Hangup p w = never (frame_answer known frame.Hangup p) (λ e. closed_still e) (λ h. h)
