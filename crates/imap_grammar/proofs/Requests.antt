-- What the code returns for a frame, by its tag and what follows it.
use Rattle.std.proofs.Common.{◌≡◌, ℕ, ◌<◌, ◌≤◌, true, false, eqb, List, [], ◌∷◌, ◌++◌, length, drop, Option, Some, None, refl, sym, ap, subst, ◌∙◌, arith}
use Rattle.std.specs.Prelude.{option_map}
use Rattle.std.proofs.lemmas.Bool.{eqb-true}
use Rattle.std.proofs.lemmas.Option.{none-some}
use Rattle.imap_lex.specs.CommandTag.{tag_of}
use Rattle.imap_syntax.specs.Rule.{some_of}
use Rattle.imap_syntax.specs.Lexical.{is_tag_char}
use Rattle.imap_commands.specs.declared.command.Command as commands
use Rattle.imap_commands.specs.declared.request.Request.TheVariants.{Command, Malformed}
use Rattle.imap_commands.specs.Reading.{after_tag, command}
use Rattle.imap_commands.specs.Spells.{request_by, request_read}
use Rattle.imap_commands.proofs.Requests.{command_is_spelt}
use Rattle.imap_commands.proofs.Tags.{spaced_tag, tag_is_read, tag_within as within}

pub tag_within : (frame tag : List ℕ) → tag_of frame ≡ Some tag → length tag ≤ length frame
tag_within = within

command_by : (frame tag : List ℕ) (r : Option (commands.Command × List ℕ)) → tag_of frame ≡ Some tag → after_tag.read (drop (length tag) frame) ≡ r
    → command.read frame ≡ option_map (λ x. ((tag, x.0), x.1)) r
command_by frame tag None e f = rw (tag_is_read frame tag e, f) refl
command_by frame tag (Some x) e f = rw (tag_is_read frame tag e, f) refl

pub whole_read : (frame tag : List ℕ) (c : commands.Command) → tag_of frame ≡ Some tag → after_tag.read (drop (length tag) frame) ≡ Some (c, []) → Command tag c ≡ request_read frame
whole_read frame tag c e f = rw (command_by frame tag (Some (c, [])) e f) refl

pub more_read : (frame tag rest : List ℕ) (c : commands.Command) → tag_of frame ≡ Some tag → after_tag.read (drop (length tag) frame) ≡ Some (c, rest) → 0 < length rest → Malformed (Some tag) ≡ request_read frame
more_read frame tag [] c e f some = absurd (omega (arith, some))
more_read frame tag (b ∷ rest) c e f some = rw (command_by frame tag (Some (c, b ∷ rest)) e f, e) refl

pub none_read : (frame tag : List ℕ) → tag_of frame ≡ Some tag → after_tag.read (drop (length tag) frame) ≡ None → Malformed (Some tag) ≡ request_read frame
none_read frame tag e f = rw (command_by frame tag None e f, e) refl

-- a command begins with its tag
has_tag : (frame : List ℕ) (c : List ℕ × commands.Command) → command.spells c frame → tag_of frame ≡ Some c.0
has_tag frame c h =
    let given = h.4 in
    let named = given.3 in
    let same : c ≡ (h.0, given.0) = given.4.0 in
    let tag : h.1 ≡ h.0 = h.3.0 in
    let space : named.1 ≡ 32 ∷ [] = named.3 in
    let spelt : (some_of is_tag_char).spells h.0 h.0 = subst (λ (t : List ℕ). (some_of is_tag_char).spells h.0 t) tag h.3 in
    let regrouped : frame ≡ h.0 ++ (32 ∷ (named.2 ++ given.2)) = h.5 ∙ rw (tag, given.5, named.5, space) refl in
    spaced_tag frame h.0 (named.2 ++ given.2) spelt regrouped ∙ ap (λ (x : List ℕ × commands.Command). Some x.0) (sym same)

untagged_by : (frame : List ℕ) (r : Option ((List ℕ × commands.Command) × List ℕ)) → command.read frame ≡ r → tag_of frame ≡ None → Malformed None ≡ request_by r (tag_of frame)
untagged_by frame None e f = ap Malformed (sym f)
untagged_by frame (Some (c, [])) e f = absurd (none-some c.0 (sym f ∙ has_tag frame c (command_is_spelt frame c e)))
untagged_by frame (Some (c, b ∷ rest)) e f = ap Malformed (sym f)

pub untagged : (frame : List ℕ) → tag_of frame ≡ None → Malformed None ≡ request_read frame
untagged frame e = untagged_by frame (command.read frame) refl e

pub nothing_left : (shown rest : List ℕ) → shown ≡ rest → true ≡ eqb (length shown) 0 → rest ≡ []
nothing_left [] rest e h = sym e
nothing_left (b ∷ shown) rest e h = absurd (omega (arith, eqb-true _ _ (sym h)))

pub something_left : (shown rest : List ℕ) → shown ≡ rest → false ≡ eqb (length shown) 0 → 0 < length rest
something_left [] rest e h = absurd cc
something_left (b ∷ shown) rest e h = rw (← e) (omega arith)
