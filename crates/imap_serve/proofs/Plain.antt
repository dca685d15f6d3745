-- A session in the server's own dialect is one that prints its replies.
use Rattle.std.proofs.Common.{◌≡◌, ◌∙◌, sym, ap, refl, ℕ, Bool, false, List, [], ◌∷◌, ◌++◌, map, Option, Some, None, inl, inr, subst}
use Rattle.std.proofs.lemmas.List.{map-append}
use Rattle.imap_lex.specs.declared.frame.Frame.{Frame}
use Rattle.imap_lex.specs.Framing.{run, beginning}
use Rattle.imap_print.specs.Printed.{printed}
use Rattle.imap_dialect.specs.Telling.{standard}
use Rattle.imap_hall.specs.SessionId.{SessionId}
use Rattle.imap_hall.specs.Act.TheVariants as act
use Rattle.imap_hall.specs.Step.{Step}
use Rattle.imap_hall.specs.declared.error.HallError.{HallError}
use Rattle.imap_hall.specs.Journal.{JournalEntry}
use Rattle.imap_serve.specs.declared.error.End.{End}
use Rattle.imap_serve.specs.declared.error.ServeError.{ServeError}
use Rattle.imap_serve.specs.declared.error.ServeError.TheVariants as error
use Rattle.imap_serve.specs.Asked.{Asked, step, ask_of}
use Rattle.imap_serve.specs.Events as plain_events
use Rattle.imap_serve.specs.Events.{ask_in, replies_of}
use Rattle.imap_serve.specs.Served as plain
use Rattle.imap_serve.specs.Turns.{Turn, Cue, cues_by, cues, events, Fits, AllFit, text}
use Rattle.imap_serve.specs.Told.{Scene, scene, Site, site, Answers, GoesOn, GoesOnSomehow, Closes, Idles, Breaks, Ended, BrokeOff, Serves, GivesUp, to_open, requests}

-- what a cue asks for, where no frame is rewritten
abbrev pub asked_of : Cue → Asked
asked_of Cue.opening = step act.Open
asked_of (Cue.frame f) = ask_of f

frames_same : (fs : List Frame) → map asked_of (map Cue.frame fs) ≡ map ask_of fs
frames_same [] = refl
frames_same (f ∷ fs) = ap (λ l. ask_of f ∷ l) (frames_same fs)

wanted_same : (limit : ℕ) (octets : List ℕ) → map asked_of (to_open ++ requests limit octets) ≡ plain.opening ++ plain.requests limit octets
wanted_same limit octets = ap (λ l. step act.Open ∷ l) (frames_same (run (beginning limit) octets).frames)

module _ {S : Type 0} where
  text_same : (state : S) (ts : List Turn) → text standard state ts ≡ plain_events.text (events ts)
  text_same state [] = refl
  text_same state (t ∷ ts) = by t.by (text_same state ts)
    where
      by : (o : Option Frame) → text standard state ts ≡ plain_events.text (events ts) → text standard state (record { by = o; event = t.event } ∷ ts) ≡ plain_events.text (events (t ∷ ts))
      by None more = ap (λ l. printed (replies_of t.event) ++ l) more
      by (Some f) more = ap (λ l. printed (replies_of t.event) ++ l) more

  cue_same : (state : S) (by : Option Frame) (asks : List Asked) → Fits standard state by asks → map asked_of (cues_by by asks) ≡ asks
  cue_same state (Some f) asks h = sym h
  cue_same state None asks (inl h) = ap (λ l. map asked_of (cues_by None l)) h ∙ sym h
  cue_same state None asks (inr h) = ap (λ l. map asked_of (cues_by None l)) h ∙ sym h

  asks_same : (state : S) (ts : List Turn) → AllFit standard state ts → map asked_of (cues ts) ≡ plain_events.asks (events ts)
  asks_same state [] h = refl
  asks_same state (t ∷ ts) h = by t.by h (asks_same state ts)
    where
      by : (o : Option Frame) → AllFit standard state (record { by = o; event = t.event } ∷ ts) → (AllFit standard state ts → map asked_of (cues ts) ≡ plain_events.asks (events ts)) → map asked_of (cues (record { by = o; event = t.event } ∷ ts)) ≡ plain_events.asks (events (t ∷ ts))
      by None k more = map-append asked_of (cues_by None (ask_in t.event)) (cues ts) ∙ (ap (λ l. l ++ map asked_of (cues ts)) (cue_same state None (ask_in t.event) k.0) ∙ ap (λ l. ask_in t.event ++ l) (more k.1))
      by (Some f) k more = map-append asked_of (cues_by (Some f) (ask_in t.event)) (cues ts) ∙ (ap (λ l. l ++ map asked_of (cues ts)) (cue_same state (Some f) (ask_in t.event) k.0) ∙ ap (λ l. ask_in t.event ++ l) (more k.1))

  module _ (who : SessionId) (keeps_all : Bool) where
    abbrev there : Site S
    there = site who keeps_all standard

    abbrev seen_at : Scene S → plain.Scene
    seen_at a = plain.scene a.made a.written

    answers_same : (i : Bool) (a b : Scene S) (ws : List Cue) (ts : List Turn) (missing : List Cue) (seen unseen : List ℕ) → Answers there i a b ws ts missing seen unseen
        → plain.Answers (plain.site who keeps_all) i (seen_at a) (seen_at b) (map asked_of ws) (events ts) (map asked_of missing) seen unseen
    answers_same i a b ws ts missing seen unseen h = record {
      made = h.made;
      shown = h.shown;
      words = sym (text_same a.state ts) ∙ h.words;
      asks = ap (map asked_of) h.asks ∙ (map-append asked_of (cues ts) missing ∙ ap (λ l. l ++ map asked_of missing) (asks_same a.state ts h.fits));
      own = h.own;
      polls = h.polls;
    }

    whole_same : (i : Bool) (a b : Scene S) (ws : List Cue) (ts : List Turn) (missing : List Cue) → Answers there i a b ws ts missing (text standard a.state ts) []
        → plain.Answers (plain.site who keeps_all) i (seen_at a) (seen_at b) (map asked_of ws) (events ts) (map asked_of missing) (plain_events.text (events ts)) []
    whole_same i a b ws ts missing h = subst (λ t. plain.Answers (plain.site who keeps_all) i (seen_at a) (seen_at b) (map asked_of ws) (events ts) (map asked_of missing) t []) (text_same a.state ts) (answers_same i a b ws ts missing (text standard a.state ts) [] h)

    goes_same : (i : Bool) (a b : Scene S) (ws : List Cue) → GoesOnSomehow there i a b ws → plain.GoesOnSomehow (plain.site who keeps_all) i (seen_at a) (seen_at b) (map asked_of ws)
    goes_same i a b ws h = (h.0, goes h.0 h.1)
      where
        goes : (j : Bool) → GoesOn there i j a b ws → plain.GoesOn (plain.site who keeps_all) i j (seen_at a) (seen_at b) (map asked_of ws)
        goes j g = record { events = events g.turns; answers = whole_same i a b ws g.turns [] g.answers; still = g.still; idles = g.idles }

    closes_same : (i : Bool) (a b : Scene S) (ws : List Cue) → Closes there i a b ws → plain.Closes (plain.site who keeps_all) i (seen_at a) (seen_at b) (map asked_of ws)
    closes_same i a b ws h = record { events = events h.turns; missing = map asked_of h.missing; answers = whole_same i a b ws h.turns h.missing h.answers; ends = h.ends }

    idles_same : (i : Bool) (a b : Scene S) (ws : List Cue) → Idles there i a b ws → plain.Idles (plain.site who keeps_all) i (seen_at a) (seen_at b) (map asked_of ws)
    idles_same i a b ws h = record { events = events h.turns; answers = whole_same i a b ws h.turns [] h.answers; ends = h.ends }

    breaks_same : (i : Bool) (a b : Scene S) (ws : List Cue) → Breaks there i a b ws → plain.Breaks (plain.site who keeps_all) i (seen_at a) (seen_at b) (map asked_of ws)
    breaks_same i a b ws h = record { events = events h.turns; missing = map asked_of h.missing; seen = h.seen; unseen = h.unseen; answers = answers_same i a b ws h.turns h.missing h.seen h.unseen h.answers }

    ended_same : (end : End) (i : Bool) (a b : Scene S) (ws : List Cue) → Ended end there i a b ws → plain.Ended end (plain.site who keeps_all) i (seen_at a) (seen_at b) (map asked_of ws)
    ended_same End.Closed i a b ws h = closes_same i a b ws h
    ended_same End.InputEnded i a b ws h = goes_same i a b ws h
    ended_same End.Idle i a b ws h = idles_same i a b ws h

    broke_same : (e : ServeError) (i : Bool) (a b : Scene S) (ws : List Cue) → BrokeOff e there i a b ws → plain.BrokeOff e (plain.site who keeps_all) i (seen_at a) (seen_at b) (map asked_of ws)
    broke_same error.Read i a b ws h = goes_same i a b ws h
    broke_same error.Memory i a b ws h = breaks_same i a b ws h
    broke_same error.Write i a b ws h = breaks_same i a b ws h
    broke_same error.Exhausted i a b ws h = breaks_same i a b ws h

    module _ {R : Type 0} (entries_of : R → List JournalEntry) (Refuses : R → Step → HallError → R → Type 0) (limit : ℕ) (i j : Option (List ℕ)) (old new : R) (empty written : Option (List ℕ)) (first last : S) where
      pub serves_same : (end : End) → Serves entries_of Refuses limit end there i j old new empty written first last → plain.Serves entries_of Refuses limit end (plain.site who keeps_all) i j old new empty written
      serves_same end h = record {
        room = h.room;
        ended = record {
          octets = h.ended.octets;
          read = h.ended.read;
          answered = subst (plain.Ended end (plain.site who keeps_all) false (plain.scene (entries_of old) empty) (plain.scene (entries_of h.room) written)) (wanted_same limit h.ended.octets) (ended_same end false (scene (entries_of old) empty first) (scene (entries_of h.room) written last) (to_open ++ requests limit h.ended.octets) h.ended.answered);
        };
        leaves = h.leaves;
      }

      pub gives_up_same : (e : ServeError) → GivesUp entries_of Refuses limit e there i j old new empty written first last → plain.GivesUp entries_of Refuses limit e (plain.site who keeps_all) i j old new empty written
      gives_up_same e h = record {
        room = h.room;
        broke = record {
          octets = h.broke.octets;
          read = h.broke.read;
          answered = subst (plain.BrokeOff e (plain.site who keeps_all) false (plain.scene (entries_of old) empty) (plain.scene (entries_of h.room) written)) (wanted_same limit h.broke.octets) (broke_same e false (scene (entries_of old) empty first) (scene (entries_of h.room) written last) (to_open ++ requests limit h.broke.octets) h.broke.answered);
        };
        refused = h.refused;
        leaves = h.leaves;
      }
