use Rattle.std.proofs.Common.{ap, refl, ◌∙◌, ◌++◌, ◌∷◌, []}
use Rattle.imap_rev1_frames.specs.Scan.{after_octet}
use Rattle.imap_rev1_frames.proofs.Pushes.{pushed_word, pushed_between}
use Rattle.imap_rev1_frames.proofs.writing.Writing.push.Goals as goal

pub returns-then-held-gt0 : goal.returns-then-held-gt0
returns-then-held-gt0 c =
    pushed_word c.args.octet c.in_ok-held.held c.args.octets.now c.args.self.now _ c.requires c.in_ok-held.ensures c.if-held-gt0.true refl refl c.in_ok-push.ensures.items refl refl

pub returns : goal.returns
returns c =
    let ended = c.in_ok-end_word.ensures in
    pushed_between c.args.octet c.in_ok-held.held c.args.octets.now c.args.self.now _ c.requires c.in_ok-held.ensures c.if-held-gt0.false refl
    (c.after_octet-self.ensures ∙ ap (λ s. after_octet s c.args.octet) ended.scan)
    ended.word
    (c.in_ok-push-2.ensures.items ∙ ap (λ l. l ++ c.args.octet ∷ []) ended.out)
    ended.asked
