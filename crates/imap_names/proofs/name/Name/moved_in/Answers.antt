use Rattle.std.proofs.Common.{◌≡◌, ◌++◌, sym, ap, subst, ◌∙◌, Some, drop, length, true, arith}
use Rattle.std.proofs.lemmas.Bool.{cond-true}
use Rattle.imap_names.specs.Name.{path_of}
use Rattle.imap_names.specs.Order.{moved}
use Rattle.imap_names.specs.Valid.{IsName, fits}
use Rattle.imap_names.proofs.MovedPaths.{MovesTo, moves_to, IsName-moved, moved_name, moved_short}
use Rattle.imap_names.proofs.name.Name.moved_in.Goals as goal

pub rest_after-rest-requires : goal.rest_after-rest-requires
rest_after-rest-requires c =
    let moves : MovesTo c.args.old.now c.args.new.now c.args.self.now (moved c.args.old.now c.args.new.now c.args.self.now) =
    moves_to c.args.old.now c.args.new.now c.args.self.now c.path-2.ensures.valid c.path-front.ensures.valid c.requires.within in
    (moves.rest, c.path.ensures.path ∙ moves.before ∙ ap (λ z. z ++ moves.rest) (sym c.path-2.ensures.path))

pub joined_in-path-requires : goal.joined_in-path-requires
joined_in-path-requires c =
    let fit : fits (moved c.args.old.now c.args.new.now c.args.self.now) ≡ true = sym c.fits_moved.ensures ∙ c.if-not-fits_moved.false in
    let rest : c.rest_after-rest.result.now ≡ drop (length (path_of c.args.old.now)) (path_of c.args.self.now) =
    c.rest_after-rest.ensures ∙ (λ i. drop (length (c.path-2.ensures.path i)) (c.path.ensures.path i)) in
    omega (
      arith,
      c.requires.room,
      ap length c.path-front.ensures.path,
      ap length rest,
      moved_short c.args.old.now c.args.new.now c.args.self.now c.path-2.ensures.valid c.path-front.ensures.valid c.requires.within fit,
    )

pub new-requires : goal.new-requires
new-requires c =
    let fit : fits (moved c.args.old.now c.args.new.now c.args.self.now) ≡ true = sym c.fits_moved.ensures ∙ c.if-not-fits_moved.false in
    let rest : c.rest_after-rest.result.now ≡ drop (length (path_of c.args.old.now)) (path_of c.args.self.now) =
    c.rest_after-rest.ensures ∙ (λ i. drop (length (c.path-2.ensures.path i)) (c.path.ensures.path i)) in
    subst IsName (sym (moved_name c.args.old.now c.args.new.now c.args.self.now c.root.result.now c.joined_in-path.result.now
    c.path-2.ensures.valid c.path-front.ensures.valid c.path.ensures.valid c.requires.within fit
    (c.root.ensures ∙ c.tree.ensures.root) (c.joined_in-path.ensures ∙ (λ i. c.path-front.ensures.path i ++ rest i))))
    (IsName-moved c.args.old.now c.args.new.now c.args.self.now c.path-2.ensures.valid c.path-front.ensures.valid c.path.ensures.valid c.requires.within fit)

pub returns : goal.returns
returns c =
    let fit : fits (moved c.args.old.now c.args.new.now c.args.self.now) ≡ true = sym c.fits_moved.ensures ∙ c.if-not-fits_moved.false in
    let rest : c.rest_after-rest.result.now ≡ drop (length (path_of c.args.old.now)) (path_of c.args.self.now) =
    c.rest_after-rest.ensures ∙ (λ i. drop (length (c.path-2.ensures.path i)) (c.path.ensures.path i)) in
    ap Some (c.new.ensures ∙ moved_name c.args.old.now c.args.new.now c.args.self.now c.root.result.now c.joined_in-path.result.now
    c.path-2.ensures.valid c.path-front.ensures.valid c.path.ensures.valid c.requires.within fit
    (c.root.ensures ∙ c.tree.ensures.root) (c.joined_in-path.ensures ∙ (λ i. c.path-front.ensures.path i ++ rest i)))
    ∙ sym (cond-true _ _ _ fit)
