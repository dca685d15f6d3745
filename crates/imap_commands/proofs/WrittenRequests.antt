-- What is written spells the request, and what isn't written is spelt by no frame.
use Rattle.std.proofs.Common.{◌≡◌, ℕ, Bool, true, false, cond, ◌&&◌, List, [], ◌∷◌, ◌++◌, Option, Some, None, refl, sym, subst, ◌∙◌}
use Rattle.std.specs.Prelude.{option_map}
use Rattle.std.specs.Option.{IfSome, IfNone}
use Rattle.std.specs.Global.{Vec}
use Rattle.std.proofs.lemmas.List.{append-nil}
use Rattle.std.proofs.lemmas.Option.{none-some, same_Some}
use Rattle.imap_lex.specs.CommandTag.{is_tag}
use Rattle.imap_lex.specs.Framing as framing
use Rattle.imap_commands.specs.declared.command.Command.{Command}
use Rattle.imap_commands.specs.declared.request.Request.{Request}
use Rattle.imap_commands.specs.declared.request.Request.TheVariants as request
use Rattle.imap_commands.specs.declared.request.Request.TheVariants.{Malformed, TooBig}
use Rattle.imap_commands.specs.declared.verb.TheConstants.{VERBS}
use Rattle.imap_syntax.specs.Rule as rule
use Rattle.imap_syntax.specs.Rule.{give, ◌>>=◌}
use Rattle.imap_syntax.specs.Lexical.{is_astring_char, is_tag_char, crlf}
use Rattle.imap_commands.specs.Verb.{verb_name}
use Rattle.imap_commands.specs.Reading.{after_tag, command}
use Rattle.imap_commands.specs.Spells.{Spells, request_read}
use Rattle.imap_commands.specs.Writing.{arguments_fit, arguments_text, command_text, request_fits, request_text, written}
use Rattle.imap_commands.specs.Verb.{verb_of}
use Rattle.imap_syntax.proofs.RuleLaws.{some_of_lawful}
use Rattle.imap_commands.proofs.Requests.{no_command, spelt_is_read}
use Rattle.imap_commands.proofs.Tags.{tag_of_word, tag_of_is_tag}
use Rattle.imap_syntax.proofs.Writing.{both_true, some_of_writes, word_writes}
use Rattle.imap_commands.proofs.WrittenCommands.{arguments_made, spelt_arguments_fit}

crlf_made : crlf.spells tt framing.crlf
crlf_made = (tt, 13 ∷ [], 10 ∷ [], refl, refl, refl)

tag_made : (tag : List ℕ) → is_tag tag ≡ true → (rule.some_of is_tag_char).spells tag tag
tag_made tag h = (some_of_writes is_tag_char).made tag h

-- ---- commands

command_made : (tag : List ℕ) (c : Command) → is_tag tag ≡ true → arguments_fit c ≡ true → command.spells (tag, c) (command_text tag c)
command_made tag c h k =
    let args = arguments_text c in
    let name = verb_name (verb_of c) in
    let rest = 32 ∷ (name ++ (args ++ framing.crlf)) in
    let end : (crlf >>= λ u. give c).spells c framing.crlf = (tt, framing.crlf, [], crlf_made, (refl, refl), refl) in
    let named : after_tag.spells c rest =
    (tt, 32 ∷ [], name ++ (args ++ framing.crlf), refl, (verb_of c, name, args ++ framing.crlf, (word_writes is_astring_char verb_name VERBS).made (verb_of c) refl, (c, args, framing.crlf, arguments_made c k, end, refl), refl), refl) in
    (tag, tag, rest, tag_made tag h, (c, rest, [], named, (refl, refl), sym (append-nil rest)), refl)

after_tag_fits : (c : Command) (text : List ℕ) → after_tag.spells c text → arguments_fit c ≡ true
after_tag_fits c text h =
    let named = h.4 in
    let given = named.4 in
    rw (given.4.4.0) (spelt_arguments_fit named.0 given.0 given.1 given.3)

command_fits : (tag : List ℕ) (c : Command) (frame : List ℕ) → command.spells (tag, c) frame → (is_tag tag && arguments_fit c) ≡ true
command_fits tag c frame h =
    let given = h.4 in
    let same : (tag, c) ≡ (h.0, given.0) = given.4.0 in
    let tag_fits : is_tag h.0 ≡ true = (some_of_writes is_tag_char).fits h.0 h.1 h.3 in
    let fits : arguments_fit given.0 ≡ true = after_tag_fits given.0 given.1 given.3 in
    subst (λ (x : List ℕ × Command). (is_tag x.0 && arguments_fit x.1) ≡ true) (sym same) (rw (tag_fits, fits) refl)

-- ---- lines that are no command

no_command_after : (tag : List ℕ) → is_tag tag ≡ true → command.read (tag ++ framing.crlf) ≡ None
no_command_after tag h = rw ((some_of_lawful is_tag_char).complete tag tag framing.crlf (tag_made tag h) refl) refl

tag_alone : (tag : List ℕ) → is_tag tag ≡ true → Spells (tag ++ framing.crlf) (Malformed (Some tag))
tag_alone tag h =
    let spelt = tag_made tag h in
    (no_command _ (λ c e. none-some (c, []) (sym (no_command_after tag h) ∙ e)), tag_of_word tag framing.crlf spelt.1 spelt.2 refl refl)

no_tag_alone : Spells framing.crlf (Malformed None)
no_tag_alone = (no_command framing.crlf (λ c e. none-some (c, []) e), refl)

-- ---- requests

request_made : (r : Request) → request_fits r ≡ true → Spells (request_text r) r
request_made (request.Command tag b) h = let q = both_true (is_tag tag) (arguments_fit b) h in command_made tag b q.0 q.1
request_made (Malformed (Some tag)) h = tag_alone tag h
request_made (Malformed None) h = no_tag_alone
request_made (TooBig tag) h = absurd cc

request_fits_all : (r : Request) (frame : List ℕ) → Spells frame r → request_fits r ≡ true
request_fits_all (request.Command tag b) frame h = command_fits tag b frame h
request_fits_all (Malformed (Some tag)) frame h = (some_of_writes is_tag_char).fits tag tag (tag_of_is_tag frame tag h.1)
request_fits_all (Malformed None) frame h = refl
request_fits_all (TooBig tag) frame h = absurd h

written_some : (b : Bool) (text t : List ℕ) → cond b (Some text) None ≡ Some t → (b ≡ true) × (text ≡ t)
written_some true text t e = (refl, same_Some _ _ e)
written_some false text t e = absurd cc

pub written_is : (r : Request) (t : List ℕ) → written r ≡ Some t → (request_fits r ≡ true) × (request_text r ≡ t)
unfolding written
written_is r t e = written_some (request_fits r) (request_text r) t e

pub written_spelt : (r : Request) (t : List ℕ) → written r ≡ Some t → Spells t r
written_spelt r t e = let q = written_is r t e in subst (λ (f : List ℕ). Spells f r) q.1 (request_made r q.0)

pub none_spelt : (r : Request) → written r ≡ None → (frame : List ℕ) → Spells frame r → ⊥
unfolding written
none_spelt r e frame h = let k : written r ≡ Some (request_text r) = rw (request_fits_all r frame h) refl in none-some (request_text r) (sym e ∙ k)

-- ---- what the code returns

pub each_written : (r : Request) (o : Option (Vec ℕ)) → option_map (λ v. v.items) o ≡ written r → IfSome o (λ v. Spells v.items r)
each_written r None e = tt
each_written r (Some v) e = written_spelt r v.items (sym e)

pub none_written : (r : Request) (o : Option (Vec ℕ)) → option_map (λ v. v.items) o ≡ written r → IfNone o ((frame : List ℕ) → Spells frame r → ⊥)
none_written r None e = none_spelt r (sym e)
none_written r (Some v) e = tt

-- what is written is read as the same request
pub written_is_read : (r : Request) (t : List ℕ) → written r ≡ Some t → request_read t ≡ r
written_is_read r t e = spelt_is_read t r (written_spelt r t e)

pub each_read : (r : Request) (o : Option (Vec ℕ)) → option_map (λ v. v.items) o ≡ written r → IfSome o (λ v. request_read v.items ≡ r)
each_read r None e = tt
each_read r (Some v) e = written_is_read r v.items (sym e)
