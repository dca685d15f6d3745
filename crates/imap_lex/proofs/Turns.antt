-- A piece read from turn to turn.
use Rattle.std.proofs.Common.{◌≡◌, ◌∙◌, ap, sym, refl, ℕ, ◌+◌, ◌-◌, ◌≤◌, List, [], ◌∷◌, ◌++◌, append_assoc, append-nil, length, length-append, length-drop, take, drop, arith}
use Rattle.std.proofs.Math.Seq.{drop-append_seam, take-add}
use Rattle.std.proofs.lemmas.List.{length-take-le, take-append-drop, drop-drop}
use Rattle.std.proofs.lemmas.Slice.{between_to_end}
use Rattle.imap_lex.specs.declared.frame.Frame.{Frame}
use Rattle.imap_lex.specs.declared.place.Place.{Place}
use Rattle.imap_lex.specs.declared.place.Turn.{Turn}
use Rattle.imap_lex.specs.declared.frame.Frame.TheVariants.{Hangup}
use Rattle.imap_lex.specs.Framing.{Framing, awaiting, hung_up, Outcome, goes_on, after, run}
use Rattle.imap_lex.specs.Places.{begun, turn_outcome}
use Rattle.imap_lex.specs.Found.{last_octets}
use Rattle.imap_lex.proofs.Runs.{after-after, run-hung_up}

-- `part` stands at the end of `whole`
pub record IsTail (part whole : List ℕ) : Type 0 where
  pub front : List ℕ
  pub split : whole ≡ front ++ part

pub IsTail-nil : (whole : List ℕ) → IsTail [] whole
IsTail-nil whole = record { front = whole; split = sym (append-nil whole) }

pub IsTail-start : (whole piece : List ℕ) → IsTail whole (whole ++ take 0 piece)
IsTail-start whole piece = record { front = []; split = append-nil whole }

pub last_octets-append : (front back : List ℕ) → last_octets (length back) (front ++ back) ≡ back
last_octets-append front back =
    let at : length (front ++ back) - length back ≡ length front = omega (arith, length-append front back) in
    rw at (drop-append_seam front back)

pub last_octets-tail : (part whole : List ℕ) → IsTail part whole → last_octets (length part) whole ≡ part
last_octets-tail part whole is = ap (last_octets (length part)) is.split ∙ last_octets-append is.front part

IsTail-more : (part whole more : List ℕ) → IsTail part whole → IsTail (part ++ more) (whole ++ more)
IsTail-more part whole more is = record { front = is.front; split = ap (λ (l : List ℕ). l ++ more) is.split ∙ append_assoc is.front part more }

-- what is left of the piece
abbrev pub rest_at : List ℕ → ℕ → List ℕ
rest_at piece at = take (length piece - at) (drop at piece)

rest_at-is : (piece : List ℕ) (at : ℕ) → rest_at piece at ≡ drop at piece
rest_at-is piece at = between_to_end piece at (length piece) (omega arith)

pub tail_within : (line so_far piece : List ℕ) (at : ℕ) → IsTail line (so_far ++ take at piece) → at ≤ length piece → length line ≤ length so_far + at
tail_within line so_far piece at is within =
    omega (arith, ap length is.split, length-append is.front line, length-append so_far (take at piece), length-take-le at piece within)

pub more_within : (line so_far piece : List ℕ) (at : ℕ) → IsTail line (so_far ++ take at piece) → at ≤ length piece → length line + length (rest_at piece at) ≤ length so_far + length piece
more_within line so_far piece at is within =
    let short = tail_within line so_far piece at is within in
    rw (rest_at-is piece at) (omega (arith, length-drop at piece))

pub turn_within : (piece : List ℕ) (at len : ℕ) → at ≤ length piece → len ≤ length (rest_at piece at) → at + len ≤ length piece
turn_within piece at len within fits =
    let fits' : len ≤ length (drop at piece) = rw (rest_at-is piece at) at fits in
    omega (arith, length-drop at piece)

joined : (octets piece : List ℕ) (at : ℕ) → (octets ++ take at piece) ++ drop at piece ≡ octets ++ piece
joined octets piece at = append_assoc octets (take at piece) (drop at piece) ∙ ap (λ (l : List ℕ). octets ++ l) (take-append-drop at piece)

module _ (limit : ℕ) (octets so_far piece line : List ℕ) (at : ℕ) (place : Place) (frames : List Frame) (x : Outcome) (so_read : x ≡ after frames (run (awaiting limit (begun (octets ++ take at piece) line place)) (drop at piece))) where
  pub unended_here : (next : Place) → IsTail line (so_far ++ take at piece) →
      run (awaiting limit (begun (octets ++ take at piece) line place)) (rest_at piece at) ≡ goes_on limit [] (begun ((octets ++ take at piece) ++ rest_at piece at) (line ++ rest_at piece at) next) →
      x ≡ after frames (goes_on limit [] (begun (octets ++ piece) (last_octets (length line + length (rest_at piece at)) (so_far ++ piece)) next))
  unended_here next tail step =
      let whole = joined octets piece at in
      let line_whole = joined so_far piece at in
      let last : last_octets (length line + length (drop at piece)) (so_far ++ piece) ≡ line ++ drop at piece =
      ap (λ (n : ℕ). last_octets n (so_far ++ piece)) (sym (length-append line (drop at piece)))
      ∙ ap (last_octets (length (line ++ drop at piece))) (sym line_whole)
      ∙ last_octets-tail (line ++ drop at piece) _ (IsTail-more line (so_far ++ take at piece) (drop at piece) tail) in
      let step' = rw (rest_at-is piece at) at step in
      so_read ∙ ap (after frames) step' ∙ rw (rest_at-is piece at, last, whole) refl

  pub turn_here : (len : ℕ) (turn : Turn) →
      run (awaiting limit (begun (octets ++ take at piece) line place)) (rest_at piece at) ≡ (let o : Outcome = turn_outcome limit ((octets ++ take at piece) ++ take len (rest_at piece at)) turn in after o.frames (run o.next (drop len (rest_at piece at)))) →
      x ≡ after frames (let o : Outcome = turn_outcome limit (octets ++ take (at + len) piece) turn in after o.frames (run o.next (drop (at + len) piece)))
  turn_here len turn step =
      let octets_here : (octets ++ take at piece) ++ take len (drop at piece) ≡ octets ++ take (at + len) piece = append_assoc octets (take at piece) (take len (drop at piece)) ∙ ap (λ (l : List ℕ). octets ++ l) (sym (take-add at len piece)) in
      let step' = rw (rest_at-is piece at) at step in
      so_read ∙ ap (after frames) (step' ∙ rw (drop-drop len at piece, octets_here) refl)

  -- a frame is told, and the command goes on
  pub frame_here : (frame : Frame) (state : Framing) (rest : List ℕ) (frames' : List Frame) → frames' ≡ frames ++ frame ∷ [] → x ≡ after frames (after (frame ∷ []) (run state rest)) → x ≡ after frames' (run state rest)
  frame_here frame state rest frames' e so = so ∙ after-after frames (frame ∷ []) (run state rest) ∙ ap (λ (fs : List Frame). after fs (run state rest)) (sym e)

  -- the last frame is told
  pub hung_up_here : (rest : List ℕ) (frames' : List Frame) → frames' ≡ frames ++ Hangup ∷ [] → x ≡ after frames (after (Hangup ∷ []) (run hung_up rest)) → x ≡ after frames' (record { frames = []; next = hung_up })
  hung_up_here rest frames' e so = frame_here Hangup hung_up rest frames' e so ∙ ap (after frames') (run-hung_up rest)
