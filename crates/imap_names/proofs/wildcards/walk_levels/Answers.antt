use Rattle.std.proofs.Common.{◌+◌, ◌≤◌, length, ap, sym, ◌∙◌, arith, subst, drop}
use Rattle.imap_names.specs.declared.token.Token.TheVariants.{Any, AnyInLevel}
use Rattle.imap_names.specs.declared.wildcards.Stop.TheVariants.{Differs, AtAny, AtAnyInLevel}
use Rattle.imap_names.specs.Pattern.{Matches, ends_level}
use Rattle.imap_names.specs.Walk.{Stops, Runs}
use Rattle.imap_names.proofs.Walks.{on_rests, further_text, kept_first, kept_further, kept_star, kept_percent, Kept, fails_level, kept_ends, kept_fails}
use Rattle.imap_names.proofs.wildcards.walk_levels.Goals as goal
use Rattle.imap_names.proofs.wildcards.walk_levels.Goals.{then-letter-len-via-then-letter-len, then-letter-len-via-else-letter-len+then-ends_level}

pub loop-letter-init : goal.loop-letter-init
loop-letter-init c = kept_first c.args.pattern.now c.args.text.now c.args.n c.requires

pub loop-letter-preserved-in-Differs : goal.loop-letter-preserved-in-Differs
loop-letter-preserved-in-Differs c =
    let k : Kept c.args.pattern.now c.args.text.now c.loop-letter.token c.loop-letter.letter = c.loop-letter.invariant in
    kept_further c.args.pattern.now c.args.text.now c.loop-letter.token c.loop-letter.letter k
    (omega (arith, k.in_text)) (ap ends_level (sym c.at.ensures) ∙ (sym c.ends_level.ensures ∙ c.if-ends_level.false))
    (on_rests (λ ps xs. Stops ps xs Differs) c.args.pattern.now c.args.text.now c.rest.result c.loop-letter.token c.loop-letter.letter c.rest.ensures c.in-Differs.ensures)

pub returns-in-AtAny : goal.returns-in-AtAny
returns-in-AtAny c = kept_star c.args.pattern.now c.args.text.now c.loop-letter.token c.loop-letter.letter c.in-AtAny.more c.loop-letter.invariant
    (on_rests (λ ps xs. Stops ps xs (AtAny c.in-AtAny.more)) c.args.pattern.now c.args.text.now c.rest.result c.loop-letter.token c.loop-letter.letter c.rest.ensures c.in-AtAny.ensures)

pub loop-letter-preserved : goal.loop-letter-preserved
loop-letter-preserved c = subst (λ z. Kept c.args.pattern.now c.args.text.now z (c.loop-letter.letter + c.in-AtAnyInLevel.more)) (omega arith)
    (kept_percent c.args.pattern.now c.args.text.now c.loop-letter.token c.loop-letter.letter c.in-AtAnyInLevel.more c.loop-letter.invariant
    (on_rests (λ ps xs. Stops ps xs (AtAnyInLevel c.in-AtAnyInLevel.more)) c.args.pattern.now c.args.text.now c.rest.result c.loop-letter.token c.loop-letter.letter c.rest.ensures c.in-AtAnyInLevel.ensures))

pub returns-then-letter-len : goal.returns-then-letter-len
returns-then-letter-len c =
    let k : Kept c.args.pattern.now c.args.text.now c.loop-letter.token c.loop-letter.letter = c.loop-letter.invariant in
    let off : ¬ (Matches (drop c.loop-letter.token c.args.pattern.now) (drop c.loop-letter.letter c.args.text.now)) =
    on_rests (λ ps xs. Stops ps xs Differs) c.args.pattern.now c.args.text.now c.rest.result c.loop-letter.token c.loop-letter.letter c.rest.ensures c.in-Differs.ensures in
    let le : c.loop-letter.letter ≤ length c.args.text.now = k.in_text in
    let never : ¬ (Matches c.args.pattern.now c.args.text.now) = elim c.then-letter-len.branch [
      | then-letter-len-via-then-letter-len w ↦ kept_ends c.args.pattern.now c.args.text.now c.loop-letter.token c.loop-letter.letter k (omega arith) off
      | then-letter-len-via-else-letter-len+then-ends_level w ↦
          kept_fails c.args.pattern.now c.args.text.now c.loop-letter.token c.loop-letter.letter k (omega arith) (ap ends_level (sym w.at.ensures) ∙ (sym w.ends_level.ensures ∙ w.if-ends_level.true)) off
    ] in
    fails_level c.args.pattern.now c.args.text.now c.args.n c.level_end.result c.requires c.level_end.ensures.after c.level_end.ensures.plain never

pub overflow_add-result-in-AtAny-2 : goal.overflow_add-result-in-AtAny-2
overflow_add-result-in-AtAny-2 c =
    let k : Kept c.args.pattern.now c.args.text.now c.loop-letter.token c.loop-letter.letter = c.loop-letter.invariant in
    let r : Runs Any (drop c.loop-letter.token c.args.pattern.now) (drop c.loop-letter.letter c.args.text.now) c.in-AtAny.more =
    on_rests (λ ps xs. Stops ps xs (AtAny c.in-AtAny.more)) c.args.pattern.now c.args.text.now c.rest.result c.loop-letter.token c.loop-letter.letter c.rest.ensures c.in-AtAny.ensures in
    let le : c.loop-letter.letter + c.in-AtAny.more ≤ length c.args.text.now = further_text c.loop-letter.letter c.in-AtAny.more c.args.text.now k.in_text r.in_text in
    omega (arith, le)

pub overflow_add-letter-in-AtAnyInLevel : goal.overflow_add-letter-in-AtAnyInLevel
overflow_add-letter-in-AtAnyInLevel c =
    let k : Kept c.args.pattern.now c.args.text.now c.loop-letter.token c.loop-letter.letter = c.loop-letter.invariant in
    let r : Runs AnyInLevel (drop c.loop-letter.token c.args.pattern.now) (drop c.loop-letter.letter c.args.text.now) c.in-AtAnyInLevel.more =
    on_rests (λ ps xs. Stops ps xs (AtAnyInLevel c.in-AtAnyInLevel.more)) c.args.pattern.now c.args.text.now c.rest.result c.loop-letter.token c.loop-letter.letter c.rest.ensures c.in-AtAnyInLevel.ensures in
    let le : c.loop-letter.letter + c.in-AtAnyInLevel.more ≤ length c.args.text.now = further_text c.loop-letter.letter c.in-AtAnyInLevel.more c.args.text.now k.in_text r.in_text in
    omega (arith, le)
