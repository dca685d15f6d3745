-- Three logins fail at most.
use Rattle.std.proofs.Common.{◌≡◌, ◌≤◌, ℕ, ◌+◌, ◌-◌, Bool, true, false, not, cond, nat_lt, List, [], ◌∷◌, Option, Some, None, refl, arith}
use Rattle.std.proofs.lemmas.Bool.{ltb-true}
use Rattle.imap_lex.specs.declared.frame.Frame.{Frame}
use Rattle.imap_lex.specs.declared.frame.Frame.TheVariants as frame
use Rattle.imap_lex.specs.CommandTag.{tag_of}
use Rattle.imap_login.specs.declared.asked.Asked.{Asked}
use Rattle.imap_login.specs.declared.asked.Asked.TheVariants as asked
use Rattle.imap_login.specs.declared.progress.Progress.{Progress}
use Rattle.imap_login.specs.Asked.{asked_of}
use Rattle.imap_login.specs.Credentials.{Known, are_right, is_right_message}
use Rattle.imap_login.specs.Laws.{FailsThreeTimes, failures, is_wrong, is_wrong_command, is_wrong_line, is_wrong_message, is_wrong_request}
use Rattle.imap_login.specs.Login.{Answer, asked_answer, awaiting, command_answer, failed, first_progress, frame_answer, initial_message, is_waiting, judged, line_message, message_answer, plain_answer, whole_answer}

-- how many logins may still fail
abbrev left : Progress → ℕ
left p = cond (is_waiting p.stage) p.tries 0

-- a client that waits may try again
abbrev IsGoing : Progress → Type 0
IsGoing p = is_waiting p.stage ≡ true → 1 ≤ p.tries

-- an answer to a wrong login takes one of those that are left, and any other one none
abbrev Takes : (wrong : Bool) → Progress → Answer → Type 0
Takes wrong p given = (cond wrong 1 0 + left given.next ≤ p.tries) × IsGoing given.next

stays : (p q : Progress) → 1 ≤ p.tries → q.tries ≡ p.tries → (0 + left q ≤ p.tries) × IsGoing q
stays p q some e = (bounded (is_waiting q.stage), λ w. omega (arith, some, e))
  where
    bounded : (v : Bool) → 0 + cond v q.tries 0 ≤ p.tries
    bounded true = omega (arith, e)
    bounded false = omega arith

fails : (tag : List ℕ) (p : Progress) (more : Bool) → nat_lt 1 p.tries ≡ more → 1 ≤ p.tries → Takes true p (failed tag p)
fails tag p true e some = rw e (spent (is_waiting p.stage), λ w. omega (arith, ltb-true _ _ e))
  where
    spent : (v : Bool) → 1 + cond v (p.tries - 1) 0 ≤ p.tries
    spent true = omega (arith, some)
    spent false = omega (arith, some)
fails tag p false e some = rw e (omega (arith, some), λ w. absurd cc)

judged_takes : (right : Bool) (tag : List ℕ) (p : Progress) → 1 ≤ p.tries → Takes (not right) p (judged right tag p)
judged_takes true tag p some = (omega arith, λ w. absurd cc)
judged_takes false tag p some = fails tag p (nat_lt 1 p.tries) refl some

message_takes : (known : Known) (tag : List ℕ) (message : Option (List ℕ)) (p : Progress) → 1 ≤ p.tries → Takes (is_wrong_message known message) p (message_answer known tag message p)
message_takes known tag (Some message) p some = judged_takes (is_right_message known message) tag (awaiting None p) some
message_takes known tag None p some = stays p (awaiting None p) some refl

plain_takes : (known : Known) (tag : List ℕ) (response : Option (List ℕ)) (p : Progress) → 1 ≤ p.tries → Takes (is_wrong_request known (asked.Plain response)) p (plain_answer known tag response p)
plain_takes known tag (Some response) p some = message_takes known tag (initial_message response) p some
plain_takes known tag None p some = stays p (awaiting (Some tag) p) some refl

request_takes : (known : Known) (tag : List ℕ) (request : Asked) (p : Progress) → 1 ≤ p.tries → Takes (is_wrong_request known request) p (asked_answer known tag request p)
request_takes known tag asked.Capability p some = stays p p some refl
request_takes known tag asked.Noop p some = stays p p some refl
request_takes known tag asked.Logout p some = (omega arith, λ w. absurd cc)
request_takes known tag (asked.Login name password) p some = judged_takes (are_right known name password) tag p some
request_takes known tag (asked.Plain response) p some = plain_takes known tag response p some
request_takes known tag asked.OtherMechanism p some = stays p p some refl
request_takes known tag asked.Other p some = stays p p some refl

command_takes : (known : Known) (tag : Option (List ℕ)) (octets : List ℕ) (p : Progress) → 1 ≤ p.tries → Takes (is_wrong_command known tag octets) p (command_answer known tag octets p)
command_takes known (Some tag) octets p some = request_takes known tag (asked_of tag octets) p some
command_takes known None octets p some = stays p p some refl

line_takes : (known : Known) (pending : Option (List ℕ)) (octets : List ℕ) (p : Progress) → 1 ≤ p.tries → Takes (is_wrong_line known pending octets) p (whole_answer known pending octets p)
line_takes known (Some tag) octets p some = message_takes known tag (line_message octets) p some
line_takes known None octets p some = command_takes known (tag_of octets) octets p some

frame_takes : (known : Known) (f : Frame) (p : Progress) → 1 ≤ p.tries → Takes (is_wrong known p.pending f) p (frame_answer known f p)
frame_takes known (frame.Whole octets) p some = line_takes known p.pending octets p some
frame_takes known frame.Continue p some = stays p p some refl
frame_takes known (frame.Reject tag) p some = (omega arith, λ w. absurd cc)
frame_takes known frame.Hangup p some = (omega arith, λ w. absurd cc)

first_fails : (known : Known) (f : Frame) (fs : List Frame) (p : Progress) (v : Bool) → is_waiting p.stage ≡ v → IsGoing p → ((q : Progress) → IsGoing q → failures known fs q ≤ left q) → failures known (f ∷ fs) p ≤ left p
first_fails known f fs p true e going others =
    let taken : Takes (is_wrong known p.pending f) p (frame_answer known f p) = frame_takes known f p (going e) in
    let later = others (frame_answer known f p).next taken.1 in
    rw e (omega (arith, taken.0, later))
first_fails known f fs p false e going others = rw e (omega arith)

few_fail : (known : Known) (fs : List Frame) (p : Progress) → IsGoing p → failures known fs p ≤ left p
few_fail known [] p going = omega arith
few_fail known (f ∷ fs) p going = first_fails known f fs p (is_waiting p.stage) refl going (few_fail known fs)

pub fails_three_times : FailsThreeTimes
fails_three_times known capabilities fs = few_fail known fs (first_progress capabilities) (λ e. omega arith)
