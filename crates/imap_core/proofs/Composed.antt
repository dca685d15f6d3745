-- All runs, by the laws of one step alone: no command is named, nor what a view is.
use Rattle.std.proofs.Common.{◌≡◌, ℕ, Bool, true, false, cond, List, [], ◌∷◌, ◌++◌, Option, Some, None, refl, sym, ap, subst, ◌∙◌}
use Rattle.std.specs.Str.{bytes_eq}
use Rattle.std.proofs.lemmas.Slice.Eq.{bytes_eq-Decides}
use Rattle.imap_print.specs.declared.response.Response.{Response}
use Rattle.imap_view.specs.View.{View}
use Rattle.imap_world.specs.Kept.{AreKept}
use Rattle.imap_sessions.proofs.Alike.{alike_stay, equal_alike}
use Rattle.imap_sessions.specs.Alike.{AreBoth, AreOwnAlike}
use Rattle.imap_sessions.specs.Sessions.{Own}
use Rattle.imap_core.specs.declared.step.Step.{Step}
use Rattle.imap_core.specs.Histories.{RunsGrowMessages}
use Rattle.imap_core.specs.Laws.{OtherUsersStay, QuietPollsChangeNothing, StepsAreAlike}
use Rattle.imap_core.specs.Machine.{State, after_steps, answer, answers, next, own_in, view_in}
use Rattle.imap_core.specs.OwnSteps.{GivenBackTellsNothing, IsolationAtOwnSteps, UnseenStepsAreSilent, are_others, moments, own_moments, since}
use Rattle.imap_core.specs.Trace.{Acts, Alike, AreIsolated, EqualViewsAreSame, Event, Isolation, IsolationOfReplies, Sees, is_quiet, octets_of, replies_among, replies_to, same_view, trace, with_replies}
use Rattle.imap_core.proofs.Quiet.{quiet_act}

abbrev Sent : Type 0
Sent = List (ℕ × List Response)

-- what a step of the user, or of another, sends to the user before what is sent later
abbrev sends : Bool → Step → List Response → Sent → Sent
sends b step replies later = cond b (with_replies step.who.number replies later) later

itself : (user : List ℕ) (s : State) → AreKept s.world.mailboxes → Alike user s s
itself user s kept = record { views = refl; sessions = equal_alike s.world user (own_in s user) (own_in s user) refl; kept = kept; kept_other = kept }

-- a state that differs for the user in nothing but the view, and in which sessions are alike that were so
record Passes (user : List ℕ) (s t : State) : Type 0 where
  sessions : own_in s user ≡ own_in t user
  alike : (own other : Option Own) → AreBoth (AreOwnAlike s.world user) own other → AreBoth (AreOwnAlike t.world user) own other
  kept : AreKept t.world.mailboxes

stays_here : (user : List ℕ) (s : State) → AreKept s.world.mailboxes → Passes user s s
stays_here user s kept = record { sessions = refl; alike = λ own other h. h; kept = kept }

passes_on : (user : List ℕ) (s t r : State) → Passes user s t → Passes user t r → Passes user s r
passes_on user s t r first p = record {
  sessions = first.sessions ∙ p.sessions;
  alike = λ own other h. p.alike own other (first.alike own other h);
  kept = p.kept;
}

-- sessions that were alike, after each of two runs has gone on
passed : (user : List ℕ) (s t p q : State) → AreBoth (AreOwnAlike s.world user) (own_in s user) (own_in t user) → Passes user s p → Passes user t q → AreBoth (AreOwnAlike p.world user) (own_in p user) (own_in q user)
passed user s t p q alike left right =
    subst (λ (own : Option Own). AreBoth (AreOwnAlike p.world user) own (own_in q user)) left.sessions
    (subst (λ (other : Option Own). AreBoth (AreOwnAlike p.world user) (own_in s user) other) right.sessions (left.alike (own_in s user) (own_in t user) alike))

-- ---- a run, up to the first event of its trace

record UpToActs (user : List ℕ) (s : State) (steps : List Step) (step : Step) (events : List Event) : Type 0 where
  reached : State
  left : List Step
  own : step.who.user ≡ user
  view : view_in s user ≡ view_in reached user
  passes : Passes user s reached
  later : trace user (next reached step) left ≡ events
  sent : replies_to user s steps ≡ with_replies step.who.number (answer reached step) (replies_to user (next reached step) left)

record UpToSees (user : List ℕ) (s : State) (steps : List Step) (seen : View) (events : List Event) : Type 0 where
  reached : State
  left : List Step
  view : view_in reached user ≡ seen
  passes : Passes user s reached
  later : trace user reached left ≡ events
  sent : replies_to user s steps ≡ replies_to user reached left

record UpToOwn (user : List ℕ) (last : View) (s : State) (steps : List Step) (m : Option View × Step) (moments : List (Option View × Step)) : Type 0 where
  reached : State
  left : List Step
  own : m.1.who.user ≡ user
  passes : Passes user s reached
  seen : m.0 ≡ since last (view_in reached user)
  later : own_moments user (view_in (next reached m.1) user) (next reached m.1) left ≡ moments
  sent : replies_to user s steps ≡ with_replies m.1.who.number (answer reached m.1) (replies_to user (next reached m.1) left)

abbrev Comes : List ℕ → View → State → List Step → List (Option View × Step) → Type 0
Comes user last s steps [] = replies_to user s steps ≡ []
Comes user last s steps (m ∷ moments) = UpToOwn user last s steps m moments

abbrev Peels : List ℕ → State → List Step → List Event → Type 0
Peels user s steps [] = replies_to user s steps ≡ []
Peels user s steps (Acts step ∷ events) = UpToActs user s steps step events
Peels user s steps (Sees seen ∷ events) = UpToSees user s steps seen events

skip : (user : List ℕ) (s t : State) (steps rest : List Step) (events : List Event) → view_in s user ≡ view_in t user → Passes user s t → replies_to user s steps ≡ replies_to user t rest → Peels user t rest events → Peels user s steps events
skip user s t steps rest [] same passes e p = e ∙ p
skip user s t steps rest (Acts step ∷ events) same passes e p = record {
  reached = p.reached;
  left = p.left;
  own = p.own;
  view = same ∙ p.view;
  passes = passes_on user s t p.reached passes p.passes;
  later = p.later;
  sent = e ∙ p.sent;
}
skip user s t steps rest (Sees seen ∷ events) same passes e p = record {
  reached = p.reached;
  left = p.left;
  view = p.view;
  passes = passes_on user s t p.reached passes p.passes;
  later = p.later;
  sent = e ∙ p.sent;
}

module _ (of_steps : StepsAreAlike) (of_others : OtherUsersStay) (of_polls : QuietPollsChangeNothing) (of_views : EqualViewsAreSame) (of_messages : RunsGrowMessages) where
  -- what the type of a mailbox keeps goes along, since a state is alike to itself
  kept_next : (s : State) (step : Step) → AreKept s.world.mailboxes → AreKept (next s step).world.mailboxes
  kept_next s step kept = (of_steps s s step (itself step.who.user s kept)).1.kept

  -- the user's sessions after a step of another
  stays : (user : List ℕ) (s : State) (step : Step) → bytes_eq step.who.user user ≡ false → own_in (next s step) user ≡ own_in s user
  stays user s step apart = of_others s step user apart

  own_step : (user : List ℕ) (s t : State) (step : Step) → step.who.user ≡ user → Alike user s t → (answer s step ≡ answer t step) × Alike user (next s step) (next t step)
  own_step user s t step is = subst (λ user. Alike user s t → (answer s step ≡ answer t step) × Alike user (next s step) (next t step)) is (λ alike. of_steps s t step alike)

  -- a poll to which nothing is answered
  polled : (user : List ℕ) (s : State) (step : Step) → AreKept s.world.mailboxes → is_quiet step.act (answer s step) ≡ true → Passes user s (next s step)
  polled user s step kept quiet = subst (λ (t : State). Passes user s t) (sym (of_polls s step quiet)) (stays_here user s kept)

  same_polled : (user : List ℕ) (s : State) (step : Step) → is_quiet step.act (answer s step) ≡ true → view_in s user ≡ view_in (next s step) user
  same_polled user s step quiet = ap (λ (t : State). view_in t user) (sym (of_polls s step quiet))

  -- a step of another
  passed_by : (user : List ℕ) (s : State) (step : Step) → AreKept s.world.mailboxes → bytes_eq step.who.user user ≡ false → Passes user s (next s step)
  passed_by user s step kept apart = record {
    sessions = sym (stays user s step apart);
    alike = alike_stay s.world (next s step).world kept (of_messages s (step ∷ []) kept) user;
    kept = kept_next s step kept;
  }

  -- one that leaves what the user sees
  unseen : (user : List ℕ) (s : State) (step : Step) → AreKept s.world.mailboxes → bytes_eq step.who.user user ≡ false → view_in (next s step) user ≡ view_in s user → Alike user s (next s step)
  unseen user s step kept apart same = record {
    views = sym same;
    sessions = equal_alike s.world user (own_in s user) (own_in (next s step) user) (sym (stays user s step apart));
    kept = kept;
    kept_other = kept_next s step kept;
  }

  peel : (user : List ℕ) (s : State) (steps : List Step) → AreKept s.world.mailboxes → Peels user s steps (trace user s steps)
  peel user s [] kept = refl
  peel user s (step ∷ steps) kept =
      by (bytes_eq step.who.user user) refl (is_quiet step.act (answer s step)) refl (same_view (view_in s user) (view_in (next s step) user)) refl (peel user (next s step) steps (kept_next s step kept))
    where
      Later : Sent
      Later = replies_to user (next s step) steps

      sent_by : (b : Bool) → bytes_eq step.who.user user ≡ b → replies_to user s (step ∷ steps) ≡ sends b step (answer s step) Later
      sent_by b is = ap (λ b. sends b step (answer s step) Later) is

      by : (b : Bool) → bytes_eq step.who.user user ≡ b → (q : Bool) → is_quiet step.act (answer s step) ≡ q → (v : Bool) → same_view (view_in s user) (view_in (next s step) user) ≡ v → Peels user (next s step) steps (trace user (next s step) steps)
          → Peels user s (step ∷ steps) (cond b (cond q (trace user (next s step) steps) (Acts step ∷ trace user (next s step) steps))
          (cond v (trace user (next s step) steps) (Sees (view_in (next s step) user) ∷ trace user (next s step) steps)))
      by true is true q v w rest = skip user s (next s step) (step ∷ steps) steps (trace user (next s step) steps) (same_polled user s step q) (polled user s step kept q)
          (sent_by true is ∙ ap (λ replies. with_replies step.who.number replies Later) (quiet_act step.act (answer s step) q).1) rest
      by true is false q v w rest = record {
        reached = s;
        left = steps;
        own = (bytes_eq-Decides step.who.user user).0 is;
        view = refl;
        passes = stays_here user s kept;
        later = refl;
        sent = sent_by true is;
      }
      by false is q p true w rest = skip user s (next s step) (step ∷ steps) steps (trace user (next s step) steps) ((of_views (view_in s user) (view_in (next s step) user)).0 w) (passed_by user s step kept is) (sent_by false is) rest
      by false is q p false w rest = record {
        reached = next s step;
        left = steps;
        view = refl;
        passes = passed_by user s step kept is;
        later = refl;
        sent = sent_by false is;
      }

  -- two runs go on together, from one event of their trace to the next
  agree : (user : List ℕ) (events : List Event) (s t : State) (steps others : List Step) → Alike user s t → Peels user s steps events → Peels user t others events → replies_to user s steps ≡ replies_to user t others
  agree user [] s t steps others alike p q = p ∙ sym q
  agree user (Acts step ∷ events) s t steps others alike p q =
      let here : Alike user p.reached q.reached = record {
        views = sym p.view ∙ alike.views ∙ q.view;
        sessions = passed user s t p.reached q.reached alike.sessions p.passes q.passes;
        kept = p.passes.kept;
        kept_other = q.passes.kept;
      } in
      let later = own_step user p.reached q.reached step p.own here in
      p.sent ∙ ap (λ replies. with_replies step.who.number replies (replies_to user (next p.reached step) p.left)) later.0
      ∙ ap (with_replies step.who.number (answer q.reached step))
      (agree user events (next p.reached step) (next q.reached step) p.left q.left later.1
      (subst (Peels user (next p.reached step) p.left) p.later (peel user (next p.reached step) p.left later.1.kept))
      (subst (Peels user (next q.reached step) q.left) q.later (peel user (next q.reached step) q.left later.1.kept_other)))
      ∙ sym q.sent
  agree user (Sees seen ∷ events) s t steps others alike p q =
      let here : Alike user p.reached q.reached = record {
        views = p.view ∙ sym q.view;
        sessions = passed user s t p.reached q.reached alike.sessions p.passes q.passes;
        kept = p.passes.kept;
        kept_other = q.passes.kept;
      } in
      p.sent ∙ agree user events p.reached q.reached p.left q.left here
      (subst (Peels user p.reached p.left) p.later (peel user p.reached p.left here.kept))
      (subst (Peels user q.reached q.left) q.later (peel user q.reached q.left here.kept_other))
      ∙ sym q.sent

  pub replies_isolated : IsolationOfReplies
  replies_isolated user s t steps others alike same =
      agree user (trace user t others) s t steps others alike (subst (Peels user s steps) same (peel user s steps alike.kept)) (peel user t others alike.kept_other)

  pub isolated : Isolation
  isolated user s t steps others alike same = ap octets_of (replies_isolated user s t steps others alike same)

  -- ---- others' steps that leave what the user sees

  others_leave : (user : List ℕ) (s : State) (between : List Step) → AreKept s.world.mailboxes → are_others user between ≡ true → Passes user s (after_steps s between)
  others_leave user s [] kept apart = stays_here user s kept
  others_leave user s (step ∷ steps) kept apart = by (bytes_eq step.who.user user) refl apart (others_leave user (next s step) steps (kept_next s step kept))
    where
      by : (b : Bool) → bytes_eq step.who.user user ≡ b → cond b false (are_others user steps) ≡ true → (are_others user steps ≡ true → Passes user (next s step) (after_steps (next s step) steps)) → Passes user s (after_steps (next s step) steps)
      by true is apart rest = absurd (cc apart)
      by false is apart rest = passes_on user s (next s step) (after_steps (next s step) steps) (passed_by user s step kept is) (rest apart)

  others_unsent : (user : List ℕ) (s : State) (between later : List Step) → are_others user between ≡ true → replies_to user s (between ++ later) ≡ replies_to user (after_steps s between) later
  others_unsent user s [] later apart = refl
  others_unsent user s (step ∷ steps) later apart = by (bytes_eq step.who.user user) refl apart (others_unsent user (next s step) steps later)
    where
      Later : Sent
      Later = replies_to user (next s step) (steps ++ later)

      by : (b : Bool) → bytes_eq step.who.user user ≡ b → cond b false (are_others user steps) ≡ true → (are_others user steps ≡ true → Later ≡ replies_to user (after_steps (next s step) steps) later)
          → sends b step (answer s step) Later ≡ replies_to user (after_steps (next s step) steps) later
      by true is apart rest = absurd (cc apart)
      by false is apart rest = rest apart

  pub given_back : GivenBackTellsNothing
  given_back user s between later others kept apart same traces =
      let left = others_leave user s between kept apart in
      let alike : Alike user (after_steps s between) s = record {
        views = same;
        sessions = equal_alike (after_steps s between).world user (own_in (after_steps s between) user) (own_in s user) (sym left.sessions);
        kept = left.kept;
        kept_other = kept;
      } in
      others_unsent user s between later apart ∙ replies_isolated user (after_steps s between) s later others alike traces

  pub silent : UnseenStepsAreSilent
  silent user s step steps kept apart same =
      (by (bytes_eq step.who.user user) apart (same_view (view_in s user) (view_in (next s step) user)) ((of_views (view_in s user) (view_in (next s step) user)).1 (sym same)), unseen user s step kept apart same)
    where
      Later : List Event
      Later = trace user (next s step) steps

      by : (b : Bool) → b ≡ false → (v : Bool) → v ≡ true
          → cond b (cond (is_quiet step.act (answer s step)) Later (Acts step ∷ Later)) (cond v Later (Sees (view_in (next s step) user) ∷ Later)) ≡ Later
      by true e v w = absurd (cc e)
      by false e true w = refl
      by false e false w = absurd (cc w)

  -- ---- a run, up to the user's next own step

  passing : (user : List ℕ) (last : View) (s t : State) (steps rest : List Step) (later : List (Option View × Step)) → Passes user s t → replies_to user s steps ≡ replies_to user t rest → Comes user last t rest later → Comes user last s steps later
  passing user last s t steps rest [] passes e p = e ∙ p
  passing user last s t steps rest (m ∷ later) passes e p = record {
    reached = p.reached;
    left = p.left;
    own = p.own;
    passes = passes_on user s t p.reached passes p.passes;
    seen = p.seen;
    later = p.later;
    sent = e ∙ p.sent;
  }

  comes : (user : List ℕ) (last : View) (s : State) (steps : List Step) → AreKept s.world.mailboxes → Comes user last s steps (own_moments user last s steps)
  comes user last s [] kept = refl
  comes user last s (step ∷ steps) kept = by (bytes_eq step.who.user user) refl (is_quiet step.act (answer s step)) refl (comes user last (next s step) steps (kept_next s step kept))
    where
      Later : Sent
      Later = replies_to user (next s step) steps

      sent_by : (b : Bool) → bytes_eq step.who.user user ≡ b → replies_to user s (step ∷ steps) ≡ sends b step (answer s step) Later
      sent_by b is = ap (λ b. sends b step (answer s step) Later) is

      by : (b : Bool) → bytes_eq step.who.user user ≡ b → (q : Bool) → is_quiet step.act (answer s step) ≡ q → Comes user last (next s step) steps (own_moments user last (next s step) steps)
          → Comes user last s (step ∷ steps) (cond b (cond q (own_moments user last (next s step) steps) ((since last (view_in s user), step) ∷ own_moments user (view_in (next s step) user) (next s step) steps))
          (own_moments user last (next s step) steps))
      by true is true q rest =
          passing user last s (next s step) (step ∷ steps) steps (own_moments user last (next s step) steps) (polled user s step kept q)
          (sent_by true is ∙ ap (λ replies. with_replies step.who.number replies Later) (quiet_act step.act (answer s step) q).1) rest
      by true is false q rest = record {
        reached = s;
        left = steps;
        own = (bytes_eq-Decides step.who.user user).0 is;
        passes = stays_here user s kept;
        seen = refl;
        later = refl;
        sent = sent_by true is;
      }
      by false is q p rest = passing user last s (next s step) (step ∷ steps) steps (own_moments user last (next s step) steps) (passed_by user s step kept is) (sent_by false is) rest

  -- a view is known by what is seen since the last one
  seen_since : (last v w : View) → since last v ≡ since last w → v ≡ w
  seen_since last v w e = by (same_view last v) refl (same_view last w) refl e
    where
      by : (b : Bool) → same_view last v ≡ b → (c : Bool) → same_view last w ≡ c → cond b None (Some v) ≡ cond c None (Some w) → v ≡ w
      by true p true q e = sym ((of_views last v).0 p) ∙ (of_views last w).0 q
      by true p false q e = absurd (cc e)
      by false p true q e = absurd (cc e)
      by false p false q e = cc e

  agree_at : (user : List ℕ) (last : View) (moments : List (Option View × Step)) (s t : State) (steps others : List Step) → AreBoth (AreOwnAlike s.world user) (own_in s user) (own_in t user)
      → Comes user last s steps moments → Comes user last t others moments → replies_to user s steps ≡ replies_to user t others
  agree_at user last [] s t steps others sessions p q = p ∙ sym q
  agree_at user last (m ∷ later) s t steps others sessions p q =
      let here : Alike user p.reached q.reached = record {
        views = seen_since last (view_in p.reached user) (view_in q.reached user) (sym p.seen ∙ q.seen);
        sessions = passed user s t p.reached q.reached sessions p.passes q.passes;
        kept = p.passes.kept;
        kept_other = q.passes.kept;
      } in
      let after = own_step user p.reached q.reached m.1 p.own here in
      let seen = view_in (next p.reached m.1) user in
      let other_seen = view_in (next q.reached m.1) user in
      p.sent ∙ ap (λ replies. with_replies m.1.who.number replies (replies_to user (next p.reached m.1) p.left)) after.0
      ∙ ap (with_replies m.1.who.number (answer q.reached m.1))
      (agree_at user seen later (next p.reached m.1) (next q.reached m.1) p.left q.left after.1.sessions
      (subst (Comes user seen (next p.reached m.1) p.left) p.later (comes user seen (next p.reached m.1) p.left after.1.kept))
      (subst (λ (v : View). Comes user v (next q.reached m.1) q.left later) (sym after.1.views)
      (subst (Comes user other_seen (next q.reached m.1) q.left) q.later (comes user other_seen (next q.reached m.1) q.left after.1.kept_other))))
      ∙ sym q.sent

  pub isolated_at_own : IsolationAtOwnSteps
  isolated_at_own user s t steps others alike same =
      let start = view_in s user in
      agree_at user start (moments user t others) s t steps others alike.sessions (subst (Comes user start s steps) same (comes user start s steps alike.kept))
      (subst (λ (v : View). Comes user v t others (moments user t others)) (sym alike.views) (comes user (view_in t user) t others alike.kept_other))

-- of the answers to a run
pub answers_isolated : IsolationOfReplies → (state : State) (steps : List Step) (said : List (List Response)) → said ≡ answers state steps → AreIsolated state steps said
answers_isolated isolated state steps said is user other others alike same = ap (replies_among user steps) is ∙ isolated user state other steps others alike same
