-- Parts of a session, one after another.
use Rattle.std.proofs.Common.{◌≡◌, ◌∙◌, ◌&&◌, ◌||◌, true≢false, ◌<◌, ◌+◌, suc, length, get_or, sym, ap, refl, ℕ, Bool, true, false, List, [], ◌∷◌, ◌++◌, map, take, drop, Option, Some, None, if◌then◌else◌, inl, inr, append_assoc, append-nil, subst}
use Rattle.std.proofs.lemmas.List.{map-append, take-append-drop}
use Rattle.std.proofs.Math.Seq.{drop-cons, take-add}
use Rattle.std.specs.Io.KnownBytes.{Appends, Consumes}
use Rattle.imap_lex.specs.Framing.{beginning, hung_up, run, Framing}
use Rattle.imap_lex.specs.declared.frame.Frame.{Frame}
use Rattle.imap_lex.specs.declared.frame.Frame.TheVariants as frame
use Rattle.imap_lex.proofs.Runs.{run-append, run-hung_up}
use Rattle.imap_print.specs.declared.response.Farewell.TheVariants.{LimitReached, IdleTooLong}
use Rattle.imap_print.specs.declared.response.Response.TheVariants as response
use Rattle.imap_dialect.specs.Telling.{Telling, after, retold}
use Rattle.imap_hall.specs.Act.{Act}
use Rattle.imap_hall.specs.Act.TheVariants as act
use Rattle.imap_hall.specs.Frames.{act_of_command, is_done, rejected}
use Rattle.imap_commands.specs.Spells.{request_read}
use Rattle.imap_hall.specs.Step.{Step}
use Rattle.imap_hall.specs.declared.error.HallError.{HallError}
use Rattle.imap_hall.specs.declared.journal.Receipt.{Receipt}
use Rattle.imap_hall.specs.Hall.{entry_of}
use Rattle.imap_hall.specs.Journal.{JournalEntry}
use Rattle.imap_hall.specs.Receipts.{AreLast, IsAdded}
use Rattle.imap_serve.specs.declared.error.End.{End}
use Rattle.imap_serve.specs.declared.error.ServeError.{ServeError}
use Rattle.imap_serve.specs.declared.error.ServeError.TheVariants as error
use Rattle.imap_serve.specs.Asked.{step, ask_of}
use Rattle.imap_serve.specs.declared.watched.Log.{Log}
use Rattle.imap_serve.specs.declared.watched.Answer.TheVariants as answer
use Rattle.imap_serve.specs.Reading.{AppendsPart, HasFailed, unasked}
use Rattle.imap_serve.specs.Events.{Event, asks_of_act, begin_idle, close, entries, entry_in, ask_in, replies_of, IsOf, IsOpen, end_of}
use Rattle.imap_serve.specs.Events.{idles_after, idles_after_all, is_poll, is_polled}
use Rattle.imap_serve.specs.Served as plain
use Rattle.imap_serve.specs.Served.{IsCaused, IsCausedWriting, IsRefused, Leaves}
use Rattle.imap_serve.specs.Turns.{Turn, turn, Cue, cues_by, cue_in, cues, events, AllFit, Fits, text, after_turns}
use Rattle.imap_serve.specs.Told.{Scene, scene, Site, site, Answers, GoesOn, GoesOnSomehow, Closes, Idles, Breaks, GoesOrCloses, Heard, EndedAfter, BrokeOffAfter, Ended, BrokeOff, Serves, GivesUp, to_open, requests}
use Rattle.imap_serve.proofs.Bytes.{appends_more, consumes_more, appends_nothing, consumes_nothing}
use Rattle.imap_serve.proofs.Turns.{flat_map_more, entries_more, all_events_more, polls_more, idles_more, ends_more, text_more, after_more, fits_more}

-- ---- the entries that a room has

both_empty : (keeps_all : Bool) (xs ys : List JournalEntry) → (keeps_all ≡ true → xs ≡ []) → (keeps_all ≡ true → ys ≡ []) → keeps_all ≡ true → xs ++ ys ≡ []
both_empty keeps_all xs ys h k is = ap (λ l. l ++ ys) (h is) ∙ k is

-- more entries, of which it has the last again
pub last_more : (keeps_all : Bool) (a es b fs c : List JournalEntry) → AreLast keeps_all (a ++ es) b → AreLast keeps_all (b ++ fs) c → AreLast keeps_all (a ++ (es ++ fs)) c
last_more keeps_all a es b fs c h k = record {
  before = h.before ++ k.before;
  parts = sym (append_assoc a es fs) ∙ (ap (λ l. l ++ fs) h.parts ∙ (append_assoc h.before b fs ∙ (ap (λ l. h.before ++ l) k.parts ∙ sym (append_assoc h.before k.before c))));
  all = both_empty keeps_all h.before k.before h.all k.all;
}

pub last_same : (keeps_all : Bool) (a : List JournalEntry) → AreLast keeps_all (a ++ []) a
last_same keeps_all a = record { before = []; parts = append-nil a; all = λ _. refl }

-- ---- answers

module _ {S : Type 0} where
  -- all that vs ask for was answered, and then what ws ask for but for what is missing
  pub answers_more : (s : Site S) (i j : Bool) (a b c : Scene S) (vs ws : List Cue) (es fs : List Turn) (missing : List Cue) (seen unseen : List ℕ)
      → Answers s i a b vs es [] (text s.telling a.state es) [] → j ≡ idles_after_all i (events es) → b.state ≡ after_turns s.telling a.state es → Answers s j b c ws fs missing seen unseen
      → Answers s i a c (vs ++ ws) (es ++ fs) missing (text s.telling a.state es ++ seen) unseen
  answers_more s i j a b c vs ws es fs missing seen unseen h is moved k = let t = s.telling in record {
    made = subst (λ l. AreLast s.keeps_all (a.made ++ l) c.made) (sym (entries_more es fs)) (last_more s.keeps_all a.made (entries (events es)) b.made (entries (events fs)) c.made h.made k.made);
    shown = appends_more a.written b.written c.written (text t a.state es) seen h.shown k.shown;
    words = text_more t a.state es fs ∙ (ap (λ l. text t a.state es ++ l) (ap (λ p. text t p fs) (sym moved) ∙ k.words) ∙ sym (append_assoc (text t a.state es) seen unseen));
    asks = ap (λ l. l ++ ws) (h.asks ∙ append-nil (cues es)) ∙ (ap (λ l. cues es ++ l) k.asks ∙ (sym (append_assoc (cues es) (cues fs) missing) ∙ ap (λ l. l ++ missing) (sym (flat_map_more cue_in es fs))));
    fits = fits_more t a.state es fs h.fits (subst (λ p. AllFit t p fs) moved k.fits);
    own = all_events_more es fs (IsOf s.who) h.own k.own;
    polls = polls_more es fs i j is h.polls k.polls;
  }

  -- nothing was made of ws
  pub answers_less : (s : Site S) (i : Bool) (a b : Scene S) (vs ws : List Cue) (es : List Turn) (missing : List Cue) (seen unseen : List ℕ)
      → Answers s i a b vs es missing seen unseen → Answers s i a b (vs ++ ws) es (missing ++ ws) seen unseen
  answers_less s i a b vs ws es missing seen unseen h = record {
    made = h.made;
    shown = h.shown;
    words = h.words;
    asks = ap (λ l. l ++ ws) h.asks ∙ append_assoc (cues es) missing ws;
    fits = h.fits;
    own = h.own;
    polls = h.polls;
  }

  -- the same, with the text of both
  answers_text : (s : Site S) (i : Bool) (a b c : Scene S) (vs : List Cue) (es fs : List Turn) (missing : List Cue) → b.state ≡ after_turns s.telling a.state es
      → Answers s i a c vs (es ++ fs) missing (text s.telling a.state es ++ text s.telling b.state fs) [] → Answers s i a c vs (es ++ fs) missing (text s.telling a.state (es ++ fs)) []
  answers_text s i a b c vs es fs missing moved h = subst (λ t. Answers s i a c vs (es ++ fs) missing t []) (ap (λ p. text s.telling a.state es ++ text s.telling p fs) moved ∙ sym (text_more s.telling a.state es fs)) h

  module _ (s : Site S) (i j : Bool) (a b c : Scene S) (vs ws : List Cue) (h : GoesOn s i j a b vs) where
    pub goes_more : (k : Bool) → GoesOn s j k b c ws → GoesOn s i k a c (vs ++ ws)
    goes_more k g = record {
      turns = h.turns ++ g.turns;
      answers = answers_text s i a b c (vs ++ ws) h.turns g.turns [] h.moved (answers_more s i j a b c vs ws h.turns g.turns [] (text s.telling b.state g.turns) [] h.answers h.idles h.moved g.answers);
      still = all_events_more h.turns g.turns IsOpen h.still g.still;
      idles = idles_more h.turns g.turns i j k h.idles g.idles;
      moved = g.moved ∙ (ap (λ p. after_turns s.telling p g.turns) h.moved ∙ sym (after_more s.telling a.state h.turns g.turns));
    }

    pub goes_more_somehow : GoesOnSomehow s j b c ws → GoesOnSomehow s i a c (vs ++ ws)
    goes_more_somehow g = (g.0, goes_more g.0 g.1)

    pub closes_more : Closes s j b c ws → Closes s i a c (vs ++ ws)
    closes_more g = record {
      turns = h.turns ++ g.turns;
      missing = g.missing;
      answers = answers_text s i a b c (vs ++ ws) h.turns g.turns g.missing h.moved (answers_more s i j a b c vs ws h.turns g.turns g.missing (text s.telling b.state g.turns) [] h.answers h.idles h.moved g.answers);
      ends = ends_more h.turns g.turns End.Closed h.still g.ends;
    }

    pub ends_idle_more : Idles s j b c ws → Idles s i a c (vs ++ ws)
    ends_idle_more g = record {
      turns = h.turns ++ g.turns;
      answers = answers_text s i a b c (vs ++ ws) h.turns g.turns [] h.moved (answers_more s i j a b c vs ws h.turns g.turns [] (text s.telling b.state g.turns) [] h.answers h.idles h.moved g.answers);
      ends = ends_more h.turns g.turns End.Idle h.still g.ends;
    }

    pub breaks_more : Breaks s j b c ws → Breaks s i a c (vs ++ ws)
    breaks_more g = record {
      turns = h.turns ++ g.turns;
      missing = g.missing;
      seen = text s.telling a.state h.turns ++ g.seen;
      unseen = g.unseen;
      answers = answers_more s i j a b c vs ws h.turns g.turns g.missing g.seen g.unseen h.answers h.idles h.moved g.answers;
    }

  pub closes_less : (s : Site S) (i : Bool) (a b : Scene S) (vs ws : List Cue) → Closes s i a b vs → Closes s i a b (vs ++ ws)
  closes_less s i a b vs ws h = record { turns = h.turns; missing = h.missing ++ ws; answers = answers_less s i a b vs ws h.turns h.missing (text s.telling a.state h.turns) [] h.answers; ends = h.ends }

  pub breaks_less : (s : Site S) (i : Bool) (a b : Scene S) (vs ws : List Cue) → Breaks s i a b vs → Breaks s i a b (vs ++ ws)
  breaks_less s i a b vs ws h = record { turns = h.turns; missing = h.missing ++ ws; seen = h.seen; unseen = h.unseen; answers = answers_less s i a b vs ws h.turns h.missing h.seen h.unseen h.answers }

  pub goes_nowhere : (s : Site S) (i : Bool) (a : Scene S) → GoesOn s i i a a []
  goes_nowhere s i a = record { turns = []; answers = record { made = last_same s.keeps_all a.made; shown = appends_nothing a.written; words = refl; asks = refl; fits = tt; own = tt; polls = tt }; still = tt; idles = refl; moved = refl }

  -- nothing was done
  pub breaks_off : (s : Site S) (i : Bool) (a : Scene S) (ws : List Cue) → Breaks s i a a ws
  breaks_off s i a ws = record { turns = []; missing = ws; seen = []; unseen = []; answers = record { made = last_same s.keeps_all a.made; shown = appends_nothing a.written; words = refl; asks = refl; fits = tt; own = tt; polls = tt } }

  -- ---- one turn

  module _ (s : Site S) (i : Bool) (a b : Scene S) (ws : List Cue) (by : Option Frame) (e : Event) (made : AreLast s.keeps_all (a.made ++ entry_in e) b.made) (asks : ws ≡ cues_by by (ask_in e)) (fits : Fits s.telling a.state by (ask_in e)) (own : IsOf s.who e) (polled : is_polled e ≡ true → i ≡ true) where
    abbrev one : List Turn
    one = turn by e ∷ []

    abbrev told : List ℕ
    told = retold s.telling a.state by (replies_of e)

    one_made : AreLast s.keeps_all (a.made ++ entries (events one)) b.made
    one_made = subst (λ l. AreLast s.keeps_all (a.made ++ l) b.made) (sym (append-nil (entry_in e))) made

    one_asks : ws ≡ cues one ++ []
    one_asks = asks ∙ (sym (append-nil (cues_by by (ask_in e))) ∙ sym (append-nil (cues_by by (ask_in e) ++ [])))

    -- all of its text was written
    one_answer : Appends a.written b.written told → Answers s i a b ws one [] (text s.telling a.state one) []
    one_answer shown = record {
      made = one_made;
      shown = subst (Appends a.written b.written) (sym (append-nil told)) shown;
      words = sym (append-nil (text s.telling a.state one));
      asks = one_asks;
      fits = (fits, tt);
      own = (own, tt);
      polls = (polled, tt);
    }

    -- a beginning of its text was written
    one_breaks : AppendsPart a.written b.written told → Breaks s i a b ws
    one_breaks part = record {
      turns = one;
      missing = [];
      seen = take part.0 told;
      unseen = drop part.0 told;
      answers = record {
        made = one_made;
        shown = part.1;
        words = append-nil told ∙ sym (take-append-drop part.0 told);
        asks = one_asks;
        fits = (fits, tt);
        own = (own, tt);
        polls = (polled, tt);
      };
    }

    one_goes : (j : Bool) → j ≡ idles_after i e → b.state ≡ after s.telling a.state by (replies_of e) → Appends a.written b.written told → end_of e ≡ None → GoesOn s i j a b ws
    one_goes j is moved shown still = record { turns = one; answers = one_answer shown; still = (still, tt); idles = is; moved = moved }

    one_closes : Appends a.written b.written told → end_of e ≡ Some End.Closed → Closes s i a b ws
    one_closes shown end = record { turns = one; missing = []; answers = one_answer shown; ends = ([], e, refl, tt, end) }

    one_idles : Appends a.written b.written told → end_of e ≡ Some End.Idle → Idles s i a b ws
    one_idles shown end = record { turns = one; answers = one_answer shown; ends = ([], e, refl, tt, end) }

not_polled : (i : Bool) → false ≡ true → i ≡ true
not_polled i is = absurd (true≢false (sym is))

-- ---- a step

module _ {S : Type 0} (keeps_all : Bool) (telling : Telling S) (i : Bool) (t : Step) (r : Receipt) (state : S) (by : Option Frame) (old new : List JournalEntry) (before next : Option (List ℕ)) (q : S) (added : AreLast keeps_all (old ++ entry_of t r ∷ []) new) (fits : Fits telling state by (asks_of_act t.act)) (polled : is_poll t.act ≡ true → i ≡ true) where
  abbrev there : Site S
  there = site t.who keeps_all telling

  pub made_all : (closed j : Bool) → q ≡ after telling state by r.replies → Appends before next (retold telling state by r.replies) → closed ≡ close r.replies → j ≡ (is_poll t.act && i) || begin_idle r.replies
      → GoesOrCloses closed there i j (scene old before state) (scene new next q) (cues_by by (asks_of_act t.act))
  made_all true j moved shown is idles = one_closes there i (scene old before state) (scene new next q) (cues_by by (asks_of_act t.act)) by (Event.made (entry_of t r)) added refl fits refl polled shown (ap (λ b. if b then Some End.Closed else None) (sym is))
  made_all false j moved shown is idles = one_goes there i (scene old before state) (scene new next q) (cues_by by (asks_of_act t.act)) by (Event.made (entry_of t r)) added refl fits refl polled j idles moved shown (ap (λ b. if b then Some End.Closed else None) (sym is))

  pub made_part : AppendsPart before next (retold telling state by r.replies) → Breaks there i (scene old before state) (scene new next q) (cues_by by (asks_of_act t.act))
  made_part part = one_breaks there i (scene old before state) (scene new next q) (cues_by by (asks_of_act t.act)) by (Event.made (entry_of t r)) added refl fits refl polled part

pub not_made : {S : Type 0} (s : Site S) (i : Bool) (old new : List JournalEntry) (written : Option (List ℕ)) (state : S) (ws : List Cue) → new ≡ old → Breaks s i (scene old written state) (scene new written state) ws
not_made s i old new written state ws is = subst (λ l. Breaks s i (scene old written state) (scene l written state) ws) (sym is) (breaks_off s i (scene old written state) ws)

-- ---- what is no step

module _ {S : Type 0} (s : Site S) (i : Bool) (made : List JournalEntry) (before next : Option (List ℕ)) (state q : S) where
  module _ (f : Frame) where
    pub ready_all : frame.Continue ≡ s.telling.rewritten state f → q ≡ s.telling.next state f (response.Ready ∷ []) → Appends before next (retold s.telling state (Some f) (response.Ready ∷ [])) → GoesOn s i i (scene made before state) (scene made next q) (Cue.frame f ∷ [])
    ready_all is moved shown = one_goes s i (scene made before state) (scene made next q) (Cue.frame f ∷ []) (Some f) Event.ready (last_same s.keeps_all made) refl (ap (λ g. ask_of g ∷ []) is) tt (not_polled i) i refl moved shown refl

    pub ready_part : frame.Continue ≡ s.telling.rewritten state f → AppendsPart before next (retold s.telling state (Some f) (response.Ready ∷ [])) → Breaks s i (scene made before state) (scene made next q) (Cue.frame f ∷ [])
    ready_part is part = one_breaks s i (scene made before state) (scene made next q) (Cue.frame f ∷ []) (Some f) Event.ready (last_same s.keeps_all made) refl (ap (λ g. ask_of g ∷ []) is) tt (not_polled i) part

    pub hangup_all : frame.Hangup ≡ s.telling.rewritten state f → Appends before next (retold s.telling state (Some f) (response.Bye LimitReached ∷ [])) → Closes s i (scene made before state) (scene made next q) (Cue.frame f ∷ [])
    hangup_all is shown = one_closes s i (scene made before state) (scene made next q) (Cue.frame f ∷ []) (Some f) Event.hangup (last_same s.keeps_all made) refl (ap (λ g. ask_of g ∷ []) is) tt (not_polled i) shown refl

    pub hangup_part : frame.Hangup ≡ s.telling.rewritten state f → AppendsPart before next (retold s.telling state (Some f) (response.Bye LimitReached ∷ [])) → Breaks s i (scene made before state) (scene made next q) (Cue.frame f ∷ [])
    hangup_part is part = one_breaks s i (scene made before state) (scene made next q) (Cue.frame f ∷ []) (Some f) Event.hangup (last_same s.keeps_all made) refl (ap (λ g. ask_of g ∷ []) is) tt (not_polled i) part

  pub idle_all : Appends before next (retold s.telling state None (response.Bye IdleTooLong ∷ [])) → Idles s i (scene made before state) (scene made next q) []
  idle_all shown = one_idles s i (scene made before state) (scene made next q) [] None Event.idle (last_same s.keeps_all made) refl (inl refl) tt (not_polled i) shown refl

  pub idle_part : AppendsPart before next (retold s.telling state None (response.Bye IdleTooLong ∷ [])) → Breaks s i (scene made before state) (scene made next q) []
  idle_part part = one_breaks s i (scene made before state) (scene made next q) [] None Event.idle (last_same s.keeps_all made) refl (inl refl) tt (not_polled i) part

-- ---- frames

pub command_act : (a : Act) (octets : List ℕ) → a ≡ act_of_command octets → asks_of_act a ≡ ask_of (frame.Whole octets) ∷ []
command_act a octets is = ap asks_of_act is ∙ by (is_done octets)
  where
    by : (b : Bool) → asks_of_act (if b then act.Done else act.Do (request_read octets)) ≡ step (if b then act.Done else act.Do (request_read octets)) ∷ []
    by true = refl
    by false = refl

pub command_is_no_poll : (a : Act) (octets : List ℕ) → a ≡ act_of_command octets → is_poll a ≡ false
command_is_no_poll a octets is = ap is_poll is ∙ by (is_done octets)
  where
    by : (b : Bool) → is_poll (if b then act.Done else act.Do (request_read octets)) ≡ false
    by true = refl
    by false = refl

pub no_poll : (a : Act) (idles : Bool) → is_poll a ≡ false → is_poll a ≡ true → idles ≡ true
no_poll a idles is was = absurd (true≢false (sym was ∙ is))

module _ {S : Type 0} (t : Telling S) (state : S) (f : Frame) (a : Act) where
  pub frame_asked : (octets : List ℕ) → frame.Whole octets ≡ t.rewritten state f → asks_of_act a ≡ ask_of (frame.Whole octets) ∷ [] → Fits t state (Some f) (asks_of_act a)
  frame_asked octets is acts = acts ∙ ap (λ g. ask_of g ∷ []) is

  pub rejected_asked : (tag : Option (List ℕ)) → frame.Reject tag ≡ t.rewritten state f → a ≡ act.Do (rejected tag) → Fits t state (Some f) (asks_of_act a)
  rejected_asked tag is acts = ap asks_of_act acts ∙ ap (λ g. ask_of g ∷ []) is

module _ {S : Type 0} (s : Site S) (idles now : Bool) (a b c : Scene S) (xs : List Frame) (i : ℕ) (d : Frame) (in' : i < length xs) where
  -- what the frames so far ask for, one more, and the rest
  asked_parts : map Cue.frame xs ≡ (map Cue.frame (take i xs) ++ (Cue.frame (get_or xs i d) ∷ [])) ++ map Cue.frame (drop (suc i) xs)
  asked_parts = ap (map Cue.frame) (sym (take-append-drop i xs) ∙ ap (λ l. take i xs ++ l) (drop-cons xs i d in')) ∙ (map-append Cue.frame (take i xs) (get_or xs i d ∷ drop (suc i) xs) ∙ sym (append_assoc (map Cue.frame (take i xs)) (Cue.frame (get_or xs i d) ∷ []) (map Cue.frame (drop (suc i) xs))))

  pub frames_more : (then' : Bool) → GoesOn s idles now a b (map Cue.frame (take i xs)) → GoesOn s now then' b c (Cue.frame (get_or xs i d) ∷ []) → GoesOn s idles then' a c (map Cue.frame (take (i + 1) xs))
  frames_more then' h k = subst (GoesOn s idles then' a c) (sym (ap (map Cue.frame) (take-add i 1 xs ∙ ap (λ l. take i xs ++ take 1 l) (drop-cons xs i d in')) ∙ map-append Cue.frame (take i xs) (get_or xs i d ∷ []))) (goes_more s idles now a b c (map Cue.frame (take i xs)) (Cue.frame (get_or xs i d) ∷ []) h then' k)

  pub frames_close : GoesOn s idles now a b (map Cue.frame (take i xs)) → Closes s now b c (Cue.frame (get_or xs i d) ∷ []) → Closes s idles a c (map Cue.frame xs)
  frames_close h k = subst (Closes s idles a c) (sym asked_parts) (closes_less s idles a c (map Cue.frame (take i xs) ++ (Cue.frame (get_or xs i d) ∷ [])) (map Cue.frame (drop (suc i) xs)) (closes_more s idles now a b c (map Cue.frame (take i xs)) (Cue.frame (get_or xs i d) ∷ []) h k))

  pub frames_break : GoesOn s idles now a b (map Cue.frame (take i xs)) → Breaks s now b c (Cue.frame (get_or xs i d) ∷ []) → Breaks s idles a c (map Cue.frame xs)
  frames_break h k = subst (Breaks s idles a c) (sym asked_parts) (breaks_less s idles a c (map Cue.frame (take i xs) ++ (Cue.frame (get_or xs i d) ∷ [])) (map Cue.frame (drop (suc i) xs)) (breaks_more s idles now a b c (map Cue.frame (take i xs)) (Cue.frame (get_or xs i d) ∷ []) h k))

-- a framer that was hung up has no frames
pub nothing_framed : {S : Type 0} (s : Site S) (i : Bool) (a : Scene S) (state : Framing) (octets : List ℕ) → state ≡ hung_up → GoesOn s i i a a (map Cue.frame (run state octets).frames)
nothing_framed s i a state octets is = subst (λ f. GoesOn s i i a a (map Cue.frame (run f octets).frames)) (sym is) (subst (λ o. GoesOn s i i a a (map Cue.frame o.frames)) (sym (run-hung_up octets)) (goes_nowhere s i a))

pub stays_hung_up : (state : Framing) (octets : List ℕ) → state ≡ hung_up → state ≡ (run state octets).next
stays_hung_up state octets is = is ∙ (sym (ap (λ o. o.next) (run-hung_up octets)) ∙ ap (λ f. (run f octets).next) (sym is))

-- ---- octets, cut anywhere

pub asked_more : (state : Framing) (xs ys : List ℕ) → map Cue.frame (run state (xs ++ ys)).frames ≡ map Cue.frame (run state xs).frames ++ map Cue.frame (run (run state xs).next ys).frames
asked_more state xs ys = ap (λ o. map Cue.frame o.frames) (run-append state xs ys) ∙ map-append Cue.frame (run state xs).frames (run (run state xs).next ys).frames

pub next_more : (state : Framing) (xs ys : List ℕ) → (run state (xs ++ ys)).next ≡ (run (run state xs).next ys).next
next_more state xs ys = ap (λ o. o.next) (run-append state xs ys)

none_failed : HasFailed unasked → ⊥
none_failed (inl h) = by h
  where
    by : None ≡ Some answer.Fault → ⊥
    by h = cc
none_failed (inr h) = by h.0
  where
    by : None ≡ Some answer.Interrupted → ⊥
    by h = cc

pub breaks_broke : {S : Type 0} (s : Site S) (i : Bool) (a b : Scene S) (ws : List Cue) (e : ServeError) (w : Log) → IsCaused e unasked w → Breaks s i a b ws → BrokeOff e s i a b ws
breaks_broke s i a b ws error.Read w cause h = absurd (none_failed cause)
breaks_broke s i a b ws error.Memory w cause h = h
breaks_broke s i a b ws error.Write w cause h = h
breaks_broke s i a b ws error.Exhausted w cause h = h

-- what has no reader was not caused by one
pub caused_writer : (e : ServeError) (r w : Log) → IsCaused e unasked w → IsCaused e r w
caused_writer error.Read r w cause = absurd (none_failed cause)
caused_writer error.Memory r w cause = tt
caused_writer error.Write r w cause = cause
caused_writer error.Exhausted r w cause = tt

-- what only writes was not refused by the room
pub caused_writing : (e : ServeError) (r w : Log) → IsCausedWriting e w → IsCaused e r w
caused_writing error.Write r w cause = cause
caused_writing error.Memory r w cause = tt
caused_writing error.Read r w cause = absurd cause
caused_writing error.Exhausted r w cause = tt

module _ {S : Type 0} (limit : ℕ) (s : Site S) (p q : Bool) (i j k : Option (List ℕ)) (a b d : Scene S) (f : Framing) (ys : List ℕ) (h : Heard limit s p q i j a b f) (read : Consumes j k ys) where
  all_read : Consumes i k (h.octets ++ ys)
  all_read = consumes_more i j k h.octets ys h.read read

  all_asked : requests limit h.octets ++ map Cue.frame (run f ys).frames ≡ requests limit (h.octets ++ ys)
  all_asked = ap (λ g. requests limit h.octets ++ map Cue.frame (run g ys).frames) h.left ∙ sym (asked_more (beginning limit) h.octets ys)

  pub heard_more : (g : Framing) (t : Bool) → GoesOn s q t b d (map Cue.frame (run f ys).frames) → g ≡ (run f ys).next → Heard limit s p t i k a d g
  heard_more g t go is = record {
    octets = h.octets ++ ys;
    read = all_read;
    left = is ∙ (ap (λ g. (run g ys).next) h.left ∙ sym (next_more (beginning limit) h.octets ys));
    answered = subst (GoesOn s p t a d) all_asked (goes_more s p q a b d (requests limit h.octets) (map Cue.frame (run f ys).frames) h.answered t go);
  }

  pub heard_closes : Closes s q b d (map Cue.frame (run f ys).frames) → EndedAfter limit End.Closed s p i k a d []
  heard_closes go = record { octets = h.octets ++ ys; read = all_read; answered = subst (Closes s p a d) all_asked (closes_more s p q a b d (requests limit h.octets) (map Cue.frame (run f ys).frames) h.answered go) }

  pub heard_breaks : (e : ServeError) (w : Log) → IsCaused e unasked w → Breaks s q b d (map Cue.frame (run f ys).frames) → BrokeOffAfter limit e s p i k a d []
  heard_breaks e w cause go = record { octets = h.octets ++ ys; read = all_read; answered = breaks_broke s p a d (requests limit (h.octets ++ ys)) e w cause (subst (Breaks s p a d) all_asked (breaks_more s p q a b d (requests limit h.octets) (map Cue.frame (run f ys).frames) h.answered go)) }

module _ {S : Type 0} (limit : ℕ) (s : Site S) (p q : Bool) (i j k : Option (List ℕ)) (a b : Scene S) (f : Framing) (h : Heard limit s p q i j a b f) (read : Consumes j k []) where
  pub heard_all : EndedAfter limit End.InputEnded s p i k a b []
  heard_all = let m = heard_more limit s p q i j k a b b f [] h read f q (goes_nowhere s q b) refl in record { octets = m.octets; read = m.read; answered = (q, m.answered) }

  pub heard_unread : BrokeOffAfter limit error.Read s p i k a b []
  heard_unread = let m = heard_more limit s p q i j k a b b f [] h read f q (goes_nowhere s q b) refl in record { octets = m.octets; read = m.read; answered = (q, m.answered) }

  pub heard_poll : (d : Scene S) (t : Bool) → GoesOn s q t b d [] → Heard limit s p t i k a d f
  heard_poll d t go = heard_more limit s p q i j k a b d f [] h read f t go refl

  pub heard_still : Heard limit s p q i k a b f
  heard_still = heard_more limit s p q i j k a b b f [] h read f q (goes_nowhere s q b) refl

  pub heard_poll_closes : (d : Scene S) → Closes s q b d [] → EndedAfter limit End.Closed s p i k a d []
  heard_poll_closes d go = heard_closes limit s p q i j k a b d f [] h read go

  pub heard_poll_breaks : (d : Scene S) (e : ServeError) (w : Log) → IsCaused e unasked w → Breaks s q b d [] → BrokeOffAfter limit e s p i k a d []
  heard_poll_breaks d e w cause go = heard_breaks limit s p q i j k a b d f [] h read e w cause go

  pub heard_idles : (d : Scene S) → Idles s q b d [] → EndedAfter limit End.Idle s p i k a d []
  heard_idles d go = record { octets = h.octets ++ []; read = consumes_more i j k h.octets [] h.read read; answered = subst (Idles s p a d) (all_asked limit s p q i j k a b d f [] h read) (ends_idle_more s p q a b d (requests limit h.octets) [] h.answered go) }

pub heard_nothing : {S : Type 0} (limit : ℕ) (s : Site S) (p : Bool) (i : Option (List ℕ)) (a : Scene S) → Heard limit s p p i i a a (beginning limit)
heard_nothing limit s p i a = record { octets = []; read = consumes_nothing i; left = refl; answered = goes_nowhere s p a }

-- ---- from Open to Leave

pub opened_closes : {S : Type 0} (limit : ℕ) (s : Site S) (p q : Bool) (i : Option (List ℕ)) (a b : Scene S) (closed : Bool) → closed ≡ true → GoesOrCloses closed s p q a b to_open → EndedAfter limit End.Closed s p i i a b to_open
opened_closes limit s p q i a b true is h = record { octets = []; read = consumes_nothing i; answered = h }
opened_closes limit s p q i a b false is h = absurd (true≢false (sym is))

pub opened_breaks : {S : Type 0} (limit : ℕ) (s : Site S) (p : Bool) (i : Option (List ℕ)) (a b : Scene S) (e : ServeError) (w : Log) → IsCaused e unasked w → Breaks s p a b to_open → BrokeOffAfter limit e s p i i a b to_open
opened_breaks limit s p i a b e w cause h = record { octets = []; read = consumes_nothing i; answered = breaks_broke s p a b to_open e w cause h }

module _ {S : Type 0} (s : Site S) (p q : Bool) (a b c : Scene S) (vs ws : List Cue) (h : GoesOn s p q a b vs) where
  ended_more : (end : End) → Ended end s q b c ws → Ended end s p a c (vs ++ ws)
  ended_more End.Closed k = closes_more s p q a b c vs ws h k
  ended_more End.InputEnded k = goes_more_somehow s p q a b c vs ws h k
  ended_more End.Idle k = ends_idle_more s p q a b c vs ws h k

  broke_more : (e : ServeError) → BrokeOff e s q b c ws → BrokeOff e s p a c (vs ++ ws)
  broke_more error.Read k = goes_more_somehow s p q a b c vs ws h k
  broke_more error.Memory k = breaks_more s p q a b c vs ws h k
  broke_more error.Write k = breaks_more s p q a b c vs ws h k
  broke_more error.Exhausted k = breaks_more s p q a b c vs ws h k

pub opened_ended : {S : Type 0} (limit : ℕ) (end : End) (s : Site S) (p q : Bool) (i j : Option (List ℕ)) (a b c : Scene S) (closed : Bool) → closed ≡ false → GoesOrCloses closed s p q a b to_open → EndedAfter limit end s q i j b c [] → EndedAfter limit end s p i j a c to_open
opened_ended limit end s p q i j a b c true is h k = absurd (true≢false is)
opened_ended limit end s p q i j a b c false is h k = record { octets = k.octets; read = k.read; answered = ended_more s p q a b c to_open (requests limit k.octets) h end k.answered }

pub opened_broke : {S : Type 0} (limit : ℕ) (e : ServeError) (s : Site S) (p q : Bool) (i j : Option (List ℕ)) (a b c : Scene S) (closed : Bool) → closed ≡ false → GoesOrCloses closed s p q a b to_open → BrokeOffAfter limit e s q i j b c [] → BrokeOffAfter limit e s p i j a c to_open
opened_broke limit e s p q i j a b c true is h k = absurd (true≢false is)
opened_broke limit e s p q i j a b c false is h k = record { octets = k.octets; read = k.read; answered = broke_more s p q a b c to_open (requests limit k.octets) h e k.answered }

module _ {R : Type 0} (entries_of : R → List JournalEntry) (Refuses : R → Step → HallError → R → Type 0) where
  pub left : (s : plain.Site) (old new : R) (t : Step) (r : Receipt) → t.who ≡ s.who → t.act ≡ act.Leave → IsAdded s.keeps_all (entries_of old) t r (entries_of new) → Leaves entries_of Refuses s old new
  left s old new t r who is added = record { step = t; who = who; act = is; asked = inl (r, added) }

  pub stayed : (s : plain.Site) (old new : R) (t : Step) (e : HallError) → t.who ≡ s.who → t.act ≡ act.Leave → Refuses old t e new → Leaves entries_of Refuses s old new
  stayed s old new t e who is refused = record { step = t; who = who; act = is; asked = inr (e, refused) }

  module _ {S : Type 0} (limit : ℕ) (s : Site S) (i : Option (List ℕ)) (old : R) (empty : Option (List ℕ)) (first : S) where
    pub serves : (end : End) (j : Option (List ℕ)) (room new : R) (written : Option (List ℕ)) (last : S) → EndedAfter limit end s false i j (scene (entries_of old) empty first) (scene (entries_of room) written last) to_open
        → Leaves entries_of Refuses (plain.site s.who s.keeps_all) room new → Serves entries_of Refuses limit end s i j old new empty written first last
    serves end j room new written last h k = record { room = room; ended = h; leaves = k }

    pub gives_up : (e : ServeError) (j : Option (List ℕ)) (room new : R) (written : Option (List ℕ)) (last : S) → BrokeOffAfter limit e s false i j (scene (entries_of old) empty first) (scene (entries_of room) written last) to_open
        → IsRefused Refuses e room → Leaves entries_of Refuses (plain.site s.who s.keeps_all) room new → GivesUp entries_of Refuses limit e s i j old new empty written first last
    gives_up e j room new written last h refused k = record { room = room; broke = h; refused = refused; leaves = inl k }

    pub never_began : GivesUp entries_of Refuses limit error.Memory s i i old old empty empty first first
    never_began = record {
      room = old;
      broke = record { octets = []; read = consumes_nothing i; answered = breaks_off s false (scene (entries_of old) empty first) to_open };
      refused = tt;
      leaves = inr (refl, refl, refl);
    }
