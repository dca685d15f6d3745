use Rattle.std.proofs.Common.{◌∷◌, ◌++◌, [], Some, None, IsUtf8, subst, ap, ◌∙◌}
use Rattle.imap_names.proofs.FrontLaws.{split_last, IsUtf8-front}
use Rattle.imap_answer.specs.Lines.{IsPlain}
use Rattle.imap_listing.proofs.Hierarchy.{above_more, above_all}
use Rattle.imap_listing.proofs.Plain.{plain_front}
use Rattle.imap_listing.proofs.levels.push_levels.Goals as goal

pub new-requires : goal.new-requires
new-requires c =
    let parts = split_last c.loop-above.rest.now (Some (c.in-Some.above, c.in-Some.field-0-1)) c.in-Some.ensures.cases in
    plain_front c.in-Some.above.now c.in-Some.field-0-1.now (subst IsPlain parts.0 c.loop-above.invariant.plain)

pub loop-above-preserved : goal.loop-above-preserved
loop-above-preserved c =
    let parts = split_last c.loop-above.rest.now (Some (c.in-Some.above, c.in-Some.field-0-1)) c.in-Some.ensures.cases in
    record {
      plain = plain_front c.in-Some.above.now c.in-Some.field-0-1.now (subst IsPlain parts.0 c.loop-above.invariant.plain);
      utf8 = IsUtf8-front c.in-Some.above.now c.in-Some.field-0-1.now (subst IsUtf8 parts.0 c.loop-above.invariant.utf8);
      above = above_more c.loop-above.levels.items c.push.new.self.items c.args.levels.now.items c.loop-above.rest.now c.in-Some.above.now c.in-Some.field-0-1.now c.args.name.now
          c.loop-above.invariant.above parts.0 parts.1 (c.in_ok-push.ensures.items ∙ ap (λ z. c.loop-above.levels.items ++ z ∷ []) c.new.ensures);
    }

pub returns : goal.returns
returns c =
    above_all c.loop-above.levels.items c.args.levels.now.items c.loop-above.rest.now c.args.name.now c.loop-above.invariant.above
    (split_last c.loop-above.rest.now None c.in_default.ensures.cases)
