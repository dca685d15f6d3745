use Rattle.std.proofs.Common.{rules, ◌≡◌, ◌∙◌, ap, sym, ℕ, List, Bor, map, Some, None}
use Rattle.std.specs.Prelude.{option_map}
use Rattle.imap_text.specs.Sections.{text}
use Rattle.imap_structure.specs.Media.{boundary_of}
use Rattle.imap_structure.specs.Numbered.{nth, part_in}
use Rattle.imap_structure.specs.Parts.{parts_of}
use Rattle.imap_structure.proofs.Counted.{nth_map}
use Rattle.imap_structure.proofs.numbered.Place.nth_in.Goals as goal

pub returns-in-Some : goal.returns-in-Some
returns-in-Some c =
    let m = c.args.media.now in
    let e = c.args.self.now in
    let now = λ (part : Bor (List ℕ)). part.now in
    let all : map now c.as_slice-2.result.now ≡ parts_of (boundary_of m.params) (text e.octets) = search rules in
    let found : Some c.in-Some.octets.now ≡ nth (map now c.as_slice-2.result.now) c.args.number = search rules in
    let made : c.part_in.result ≡ part_in m e c.in-Some.octets.now = search rules in
    ap Some made
    ∙ ap (option_map (part_in m e)) (found ∙ ap (λ (l : List (List ℕ)). nth l c.args.number) all)
    ∙ sym (nth_map (part_in m e) (parts_of (boundary_of m.params) (text e.octets)) c.args.number)

pub returns : goal.returns
returns c =
    let m = c.args.media.now in
    let e = c.args.self.now in
    let now = λ (part : Bor (List ℕ)). part.now in
    let all : map now c.as_slice-2.result.now ≡ parts_of (boundary_of m.params) (text e.octets) = search rules in
    let found : None ≡ nth (map now c.as_slice-2.result.now) c.args.number = search rules in
    ap (option_map (part_in m e)) (found ∙ ap (λ (l : List (List ℕ)). nth l c.args.number) all)
    ∙ sym (nth_map (part_in m e) (parts_of (boundary_of m.params) (text e.octets)) c.args.number)
