use Rattle.std.proofs.Common.{subst, sym, ap, ◌∙◌, string_bytes}
use Rattle.std.proofs.lemmas.Str.{IsUtf8-string_bytes}
use Rattle.std.specs.Arc.{arc_str_bytes}
use Rattle.std.specs.Prelude.{IsUtf8}
use Rattle.imap_names.specs.Reading.{path_fault}
use Rattle.imap_names.specs.Tree.{root_of_tree}
use Rattle.imap_names.proofs.PathLaws.{path_fault-none}
use Rattle.imap_names.proofs.ReadLaws.{IsName-held, name_in-held}
use Rattle.imap_names.proofs.read.name_in.Goals as goal

pub invariant_of-result : goal.invariant_of-result
invariant_of-result c =
    let root = root_of_tree c.args.tree in
    let none = ap (path_fault root) (sym c.as_str.ensures.value) ∙ sym c.in_default.ensures in
    IsName-held root (string_bytes c.args.path) (arc_str_bytes c.in_ok-path.path) c.requires.tree (path_fault-none root (string_bytes c.args.path) none)
    c.requires.nfc c.requires.printable (subst IsUtf8 (sym c.in_ok-path.ensures.ok) (IsUtf8-string_bytes c.in_ok-held.held)) (c.in_ok-path.ensures.ok ∙ c.in_ok-held.ensures)

pub returns-clause-read : goal.returns-clause-read
returns-clause-read c =
    let root = root_of_tree c.args.tree in
    let none = ap (path_fault root) (sym c.as_str.ensures.value) ∙ sym c.in_default.ensures in
    name_in-held root (string_bytes c.args.path) (arc_str_bytes c.in_ok-path.path) c.requires.nfc c.requires.printable (c.in_ok-path.ensures.ok ∙ c.in_ok-held.ensures) none

pub returns-clause-valid : goal.returns-clause-valid
returns-clause-valid c = invariant_of-result c
