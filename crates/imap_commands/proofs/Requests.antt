-- A frame spells one request, the one that is read.
use Rattle.std.proofs.Common.{◌≡◌, ℕ, ◌<◌, true, false, eqb, List, [], ◌∷◌, ◌++◌, length, drop, Option, Some, None, refl, sym, ap, subst, ◌∙◌, arith}
use Rattle.std.proofs.lemmas.List.{append-nil}
use Rattle.std.proofs.lemmas.Option.{some_pair_parts, none-some}
use Rattle.imap_commands.specs.declared.command.Command as commands
use Rattle.imap_commands.specs.declared.request.Request.{Request}
use Rattle.imap_commands.specs.declared.request.Request.TheVariants.{Command, Malformed, TooBig}
use Rattle.imap_commands.specs.Reading.{after_tag, command}
use Rattle.imap_lex.specs.CommandTag.{tag_of}
use Rattle.imap_commands.specs.Spells.{IsNoCommand, Spells, EachSpells, SpellsOnce, SpellsNoOther, request_by, request_read}
use Rattle.imap_syntax.specs.Rule.{some_of}
use Rattle.imap_syntax.specs.Lexical.{is_tag_char}
use Rattle.imap_syntax.proofs.RuleLaws.{Anything}
use Rattle.imap_commands.proofs.Grammar.{command_lawful}

-- ---- a whole frame

command_is_read : (frame : List ℕ) (c : List ℕ × commands.Command) → command.spells c frame → command.read frame ≡ Some (c, [])
command_is_read frame c spelt = ap command.read (sym (append-nil frame)) ∙ (command_lawful {After = Anything}).complete c frame [] spelt tt

pub command_is_spelt : (frame : List ℕ) (c : List ℕ × commands.Command) → command.read frame ≡ Some (c, []) → command.spells c frame
command_is_spelt frame c e =
    let t = (command_lawful {After = Anything}).sound frame c [] e in
    subst (command.spells c) (sym (t.2 ∙ append-nil t.0)) t.1

pub no_command : (frame : List ℕ) → ((c : List ℕ × commands.Command) → command.read frame ≡ Some (c, []) → ⊥) → IsNoCommand frame
no_command frame h tag c spelt = h (tag, c) (command_is_read frame (tag, c) spelt)

-- ---- what is read is spelt

spelt_by : (frame : List ℕ) (r : Option ((List ℕ × commands.Command) × List ℕ)) → command.read frame ≡ r → Spells frame (request_by r (tag_of frame))
spelt_by frame None e = (no_command frame (λ c h. none-some (c, []) (sym e ∙ h)), refl)
spelt_by frame (Some (c, [])) e = command_is_spelt frame c e
spelt_by frame (Some (c, b ∷ rest)) e =
    (no_command frame (λ d h. let p = some_pair_parts c d (b ∷ rest) [] (sym e ∙ h) in let q = p.1 in cc), refl)

pub read_is_spelt : (frame : List ℕ) → Spells frame (request_read frame)
read_is_spelt frame = spelt_by frame (command.read frame) refl

pub spells_of : (frame : List ℕ) (r : Request) → r ≡ request_read frame → Spells frame r
spells_of frame r e = subst (Spells frame) (sym e) (read_is_spelt frame)

-- ---- what is spelt is read

malformed_by : (frame : List ℕ) (tag : Option (List ℕ)) (r : Option ((List ℕ × commands.Command) × List ℕ)) → command.read frame ≡ r → IsNoCommand frame → request_by r tag ≡ Malformed tag
malformed_by frame tag None e none = refl
malformed_by frame tag (Some (c, [])) e none = absurd (none c.0 c.1 (command_is_spelt frame c e))
malformed_by frame tag (Some (c, b ∷ rest)) e none = refl

pub spelt_is_read : (frame : List ℕ) (r : Request) → Spells frame r → request_read frame ≡ r
spelt_is_read frame (Command tag c) h = ap (λ (r : Option ((List ℕ × commands.Command) × List ℕ)). request_by r (tag_of frame)) (command_is_read frame (tag, c) h)
spelt_is_read frame (Malformed tag) h = malformed_by frame (tag_of frame) (command.read frame) refl h.0 ∙ ap Malformed h.1
spelt_is_read frame (TooBig tag) h = absurd h

pub spells_no_other : (frame : List ℕ) (r : Request) → r ≡ request_read frame → SpellsNoOther frame r
spells_no_other frame r e other h = sym (spelt_is_read frame other h) ∙ sym e

pub each_spells : EachSpells
each_spells frame = (request_read frame, read_is_spelt frame)

pub spells_once : SpellsOnce
spells_once frame r s hr hs = sym (spelt_is_read frame r hr) ∙ spelt_is_read frame s hs
