-- Commands with names in modified UTF-7, and those that the server sees in their place.
use Rattle.std.proofs.Common.{◌≡◌, ◌∙◌, ap, sym, refl, ℕ, Bool, true, false, cond, List, ◌∷◌, ◌++◌, Option, Some, None}
use Rattle.imap_commands.specs.declared.command.Command.{Command}
use Rattle.imap_commands.specs.declared.request.Request.{Request}
use Rattle.imap_commands.specs.declared.request.Request.TheVariants as request
use Rattle.imap_commands.specs.Spells.{Spells, request_read}
use Rattle.imap_commands.specs.Writing.{written}
use Rattle.imap_commands.proofs.Framed.{each_is_told}
use Rattle.imap_commands.proofs.Requests.{read_is_spelt}
use Rattle.imap_commands.proofs.Tags.{spaced_tag}
use Rattle.imap_commands.proofs.WrittenRequests.{written_is_read, written_spelt}
use Rattle.imap_lex.specs.CommandTag.{tag_of}
use Rattle.imap_lex.specs.Stream.{Section}
use Rattle.imap_lex.specs.declared.frame.Frame.TheVariants.{Whole}
use Rattle.imap_rev1_frames.specs.Names.{other_command, renamed, renamed_frame, request_has_names, request_renamed}
use Rattle.imap_rev1_frames.specs.Rewritten.{instead_octets, rewritten_octets}
use Rattle.imap_rev1.specs.Laws.{IsCommand}
use Rattle.imap_rev1.specs.NameLaws.{NamesStay, SeesOne, SeesTexts, StaysOne}
use Rattle.imap_rev1.proofs.Rev1Rules.{keeps_tags, stays_command}

-- ---- the command that is written

none_other : (r : Request) → request_has_names r ≡ false → other_command r ≡ None
none_other r h = rw h refl

pub names_stay : NamesStay
names_stay octets h = ap (λ o. instead_octets o octets) (none_other (request_read octets) h)

some_other : (r : Request) (other : List ℕ) (t : Bool) → request_has_names r ≡ t → other_command r ≡ Some other
    → (request_has_names r ≡ true) × (written (request_renamed r) ≡ Some other)
some_other r other true is e = (is, rw is at e)
some_other r other false is e =
    let none : None ≡ Some other = rw is at e in
    cc none

pub sees_texts : SeesTexts
sees_texts octets other e =
    let r = request_read octets in
    (ap (λ o. instead_octets o octets) e, written_is_read (request_renamed r) other (some_other r other (request_has_names r) refl e).1)

-- ---- tags

spelt_tag : (frame tag : List ℕ) (c : Command) → Spells frame (request.Command tag c) → tag_of frame ≡ Some tag
spelt_tag frame tag c h =
    let given = h.4 in
    let spaced = given.3 in
    let same : (tag, c) ≡ (h.0, given.0) = given.4.0 in
    let after : given.1 ≡ 32 ∷ spaced.2 = spaced.5 ∙ ap (λ l. l ++ spaced.2) spaced.3 in
    let whole : frame ≡ h.1 ++ (32 ∷ (spaced.2 ++ given.2)) = h.5 ∙ ap (λ l. h.1 ++ l) (given.5 ∙ ap (λ l. l ++ given.2) after) in
    spaced_tag frame h.1 (spaced.2 ++ given.2) (refl, h.3.1, h.3.2) whole
    ∙ ap Some (h.3.0 ∙ sym (ap (λ (x : List ℕ × Command). x.0) same))

tag_kept : (octets other : List ℕ) (r : Request) → Spells octets r → request_has_names r ≡ true → Spells other (request_renamed r)
    → tag_of other ≡ tag_of octets
tag_kept octets other (request.Command tag c) before has after = spelt_tag other tag (renamed c) after ∙ sym (spelt_tag octets tag c before)
tag_kept octets other (request.Malformed tag) before has after = absurd cc
tag_kept octets other (request.TooBig tag) before has after = absurd cc

-- ---- one command

renamed_by : (octets : List ℕ) (sections : List Section) (last : List ℕ) (o : Option (List ℕ)) → other_command (request_read octets) ≡ o
    → IsCommand octets sections last → SeesOne octets (Whole (instead_octets o octets))
renamed_by octets sections last None e is = record { seen = octets; whole = refl; sections = sections; last = last; command = is; tag = refl }
renamed_by octets sections last (Some other) e is =
    let r = request_read octets in
    let both = some_other r other (request_has_names r) refl e in
    let f = (each_is_told (request_renamed r) other both.1).0 in
    record {
      seen = other;
      whole = refl;
      sections = f.sections;
      last = f.last;
      command = record { spelt = f.whole; each = f.each; ends = f.ends };
      tag = tag_kept octets other r (read_is_spelt octets) both.0 (written_spelt (request_renamed r) other both.1);
    }

seen_by : (octets one : List ℕ) (sections : List Section) (last : List ℕ) (utf8 : Bool) → IsCommand one sections last → tag_of one ≡ tag_of octets
    → SeesOne octets (cond utf8 (Whole one) (renamed_frame (Whole one)))
seen_by octets one sections last true is tag = record { seen = one; whole = refl; sections = sections; last = last; command = is; tag = tag }
seen_by octets one sections last false is tag =
    let s = renamed_by one sections last (other_command (request_read one)) refl is in
    record { seen = s.seen; whole = s.whole; sections = s.sections; last = s.last; command = s.command; tag = s.tag ∙ tag }

pub stays_one : StaysOne
stays_one state octets sections last is =
    let b = stays_command state.rev1 octets sections last is in
    seen_by octets (rewritten_octets state.rev1.rev2 octets) b.others b.end state.utf8 b.command (keeps_tags state.rev1 (Whole octets))
