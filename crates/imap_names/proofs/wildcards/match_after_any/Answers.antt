use Rattle.std.proofs.Common.{◌≡◌, ◌+◌, ◌≤◌, ◌∷◌, length, drop, true, false, arith}
use Rattle.imap_names.specs.declared.token.Token.TheVariants.{Any}
use Rattle.imap_names.specs.declared.wildcards.Segment.TheVariants.{Failed, Reached}
use Rattle.imap_names.specs.Pattern.{Matches}
use Rattle.imap_names.specs.Walk.{Segments, Reaches}
use Rattle.imap_names.proofs.Walks.{on_rests, further_text, star_fails, star_ends, star_reached, StarKept}
use Rattle.imap_names.proofs.wildcards.match_after_any.Goals as goal

pub loop-letters-preserved : goal.loop-letters-preserved
loop-letters-preserved c =
    star_reached c.args.pattern.now c.args.text.now c.loop-letters.token c.loop-letters.letter c.in-Reached.tokens c.in-Reached.letters c.loop-letters.invariant
    (on_rests (λ ps xs. Segments ps xs (Reached c.in-Reached.tokens c.in-Reached.letters)) c.args.pattern.now c.args.text.now c.rest.result c.loop-letters.token c.loop-letters.letter c.rest.ensures c.in-Reached.ensures)

pub loop-letters-preserved-in-Failed : goal.loop-letters-preserved-in-Failed
loop-letters-preserved-in-Failed c =
    let k : StarKept c.args.pattern.now c.args.text.now c.loop-letters.token c.loop-letters.letter = c.loop-letters.invariant in
    star_fails c.args.pattern.now c.args.text.now c.loop-letters.token c.loop-letters.letter c.in-Failed.letters k (omega (arith, k.in_text))
    (on_rests (λ ps xs. Segments ps xs (Failed c.in-Failed.letters)) c.args.pattern.now c.args.text.now c.rest.result c.loop-letters.token c.loop-letters.letter c.rest.ensures c.in-Failed.ensures)

pub returns-then-len-letter : goal.returns-then-len-letter
returns-then-len-letter c =
    let k : StarKept c.args.pattern.now c.args.text.now c.loop-letters.token c.loop-letters.letter = c.loop-letters.invariant in
    let le : c.loop-letters.letter ≤ length c.args.text.now = k.in_text in
    let never : ¬ (Matches (Any ∷ c.args.pattern.now) c.args.text.now) =
    star_ends c.args.pattern.now c.args.text.now c.loop-letters.token c.loop-letters.letter c.in-Failed.letters k (omega arith)
    (on_rests (λ ps xs. Segments ps xs (Failed c.in-Failed.letters)) c.args.pattern.now c.args.text.now c.rest.result c.loop-letters.token c.loop-letters.letter c.rest.ensures c.in-Failed.ensures) in
    (λ t. let no_way : false ≡ true = t in cc, λ m. absurd (never m))

pub overflow_add-letter-in-Reached : goal.overflow_add-letter-in-Reached
overflow_add-letter-in-Reached c =
    let k : StarKept c.args.pattern.now c.args.text.now c.loop-letters.token c.loop-letters.letter = c.loop-letters.invariant in
    let r : Reaches (drop c.loop-letters.token c.args.pattern.now) (drop c.loop-letters.letter c.args.text.now) c.in-Reached.tokens c.in-Reached.letters =
    on_rests (λ ps xs. Segments ps xs (Reached c.in-Reached.tokens c.in-Reached.letters)) c.args.pattern.now c.args.text.now c.rest.result c.loop-letters.token c.loop-letters.letter c.rest.ensures c.in-Reached.ensures in
    let le : c.loop-letters.letter + c.in-Reached.letters ≤ length c.args.text.now = further_text c.loop-letters.letter c.in-Reached.letters c.args.text.now k.in_text r.in_text in
    omega (arith, le)
