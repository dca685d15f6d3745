-- What a piece leaves a framer with, and what it tells.
use Rattle.std.proofs.Common.{◌≡◌, ◌∙◌, ap, sym, ℕ, ◌+◌, ◌-◌, ◌≤◌, List, [], ◌∷◌, ◌++◌, append_assoc, length, length-append, take, arith}
use Rattle.std.proofs.Math.Seq.{drop-append-add}
use Rattle.std.proofs.lemmas.List.{take-append-drop}
use Rattle.imap_lex.specs.declared.frame.Frame.{Frame}
use Rattle.imap_lex.specs.declared.place.Place.{Place}
use Rattle.imap_lex.specs.Framing.{Framing, awaiting, Outcome, goes_on, after, run}
use Rattle.imap_lex.specs.Places.{begun}
use Rattle.imap_lex.specs.Found.{last_octets}

last_octets-behind : (count : ℕ) (front back : List ℕ) → count ≤ length back → last_octets count (front ++ back) ≡ last_octets count back
last_octets-behind count front back short =
    let at : length (front ++ back) - count ≡ length front + (length back - count) = omega (arith, length-append front back) in
    rw at (drop-append-add front back (length back - count))

last_octets-more : (count line : ℕ) (held piece : List ℕ) → count ≤ length (last_octets line held) + length piece → last_octets count (last_octets line held ++ piece) ≡ last_octets count (held ++ piece)
last_octets-more count line held piece short =
    let so_far = last_octets line held in
    let front = take (length held - line) held in
    let whole : front ++ (so_far ++ piece) ≡ held ++ piece = sym (append_assoc front so_far piece) ∙ ap (λ (l : List ℕ). l ++ piece) (take-append-drop (length held - line) held) in
    sym (last_octets-behind count front (so_far ++ piece) (omega (arith, length-append so_far piece))) ∙ ap (last_octets count) whole

-- a command that goes on
pub next-unended : (limit line count : ℕ) (held so_far piece : List ℕ) (state : Framing) (place next : Place) (before frames : List Frame) →
    so_far ≡ last_octets line held → state ≡ awaiting limit (begun held (last_octets line held) place) → count ≤ length so_far + length piece →
    after before (run (awaiting limit (begun held so_far place)) piece) ≡ after frames (goes_on limit [] (begun (held ++ piece) (last_octets count (so_far ++ piece)) next)) →
    awaiting limit (begun (held ++ piece) (last_octets count (held ++ piece)) next) ≡ (run state piece).next
next-unended limit line count held so_far piece state place next before frames e is short outcome =
    let short' : count ≤ length (last_octets line held) + length piece = rw e at short in
    let outcome' = rw e at outcome in
    sym (rw is (ap (λ (o : Outcome). o.next) outcome'
    ∙ ap (λ (l : List ℕ). awaiting limit (begun (held ++ piece) l next)) (last_octets-more count line held piece short')))

-- a command that ends, and those behind it
pub frames-ended : (state anew : Framing) (piece behind : List ℕ) (frame : Frame) (before frames later : List Frame) → before ≡ [] →
    after before (run state piece) ≡ after frames (after (frame ∷ []) (run anew behind)) → later ≡ (run anew behind).frames →
    (frames ++ frame ∷ []) ++ later ≡ (run state piece).frames
frames-ended state anew piece behind frame before frames later none outcome e =
    let outcome' : after [] (run state piece) ≡ after frames (after (frame ∷ []) (run anew behind)) = rw none at outcome in
    sym (ap (λ (o : Outcome). o.frames) outcome' ∙ sym (rw e (append_assoc frames (frame ∷ []) (run anew behind).frames)))
