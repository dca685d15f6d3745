-- Turns, one after another.
use Rattle.std.proofs.Common.{◌≡◌, ◌∙◌, sym, ap, refl, Bool, List, [], ◌∷◌, ◌++◌, flat_map, append_assoc, subst}
use Rattle.std.proofs.lemmas.List.{map-append}
use Rattle.std.specs.List.{AllByRecursion}
use Rattle.imap_dialect.specs.Telling.{Telling, retold}
use Rattle.imap_serve.specs.declared.error.End.{End}
use Rattle.imap_serve.specs.Events.{Event, entries, entry_in, replies_of, idles_after, idles_after_all, IsOpen, IsPolledIdling}
use Rattle.imap_serve.specs.Served.{EndsBy}
use Rattle.imap_serve.specs.Turns.{Turn, event_at, events, text, after_turn, after_turns, AllFit}

pub flat_map_more : {X Y : Type 0} (f : X → List Y) (xs ys : List X) → flat_map f (xs ++ ys) ≡ flat_map f xs ++ flat_map f ys
flat_map_more f [] ys = refl
flat_map_more f (x ∷ xs) ys = ap (λ l. f x ++ l) (flat_map_more f xs ys) ∙ sym (append_assoc (f x) (flat_map f xs) (flat_map f ys))

all_more : {X : Type 0} (P : X → Type 0) (xs ys : List X) → AllByRecursion P xs → AllByRecursion P ys → AllByRecursion P (xs ++ ys)
all_more P [] ys h k = k
all_more P (x ∷ xs) ys h k = (h.0, all_more P xs ys h.1 k)

-- ---- events

polls_on : (idles : Bool) (es fs : List Event) → IsPolledIdling idles es → IsPolledIdling (idles_after_all idles es) fs → IsPolledIdling idles (es ++ fs)
polls_on idles [] fs h k = k
polls_on idles (e ∷ es) fs h k = (h.0, polls_on (idles_after idles e) es fs h.1 k)

idles_on : (idles : Bool) (es fs : List Event) → idles_after_all idles (es ++ fs) ≡ idles_after_all (idles_after_all idles es) fs
idles_on idles [] fs = refl
idles_on idles (e ∷ es) fs = idles_on (idles_after idles e) es fs

ends_on : (end : End) (es fs : List Event) → AllByRecursion IsOpen es → EndsBy end fs → EndsBy end (es ++ fs)
ends_on end es fs h k = (es ++ k.0, k.1, ap (λ l. es ++ l) k.2 ∙ sym (append_assoc es k.0 (k.1 ∷ [])), all_more IsOpen es k.0 h k.3, k.4)

-- ---- the events of turns

module _ (ts us : List Turn) where
  events_more : events ts ++ events us ≡ events (ts ++ us)
  events_more = sym (map-append event_at ts us)

  pub entries_more : entries (events (ts ++ us)) ≡ entries (events ts) ++ entries (events us)
  entries_more = ap entries (sym events_more) ∙ flat_map_more entry_in (events ts) (events us)

  pub all_events_more : (P : Event → Type 0) → AllByRecursion P (events ts) → AllByRecursion P (events us) → AllByRecursion P (events (ts ++ us))
  all_events_more P h k = subst (AllByRecursion P) events_more (all_more P (events ts) (events us) h k)

  pub polls_more : (i j : Bool) → j ≡ idles_after_all i (events ts) → IsPolledIdling i (events ts) → IsPolledIdling j (events us) → IsPolledIdling i (events (ts ++ us))
  polls_more i j is h k = subst (IsPolledIdling i) events_more (polls_on i (events ts) (events us) h (subst (λ idles. IsPolledIdling idles (events us)) is k))

  pub idles_more : (i j k : Bool) → j ≡ idles_after_all i (events ts) → k ≡ idles_after_all j (events us) → k ≡ idles_after_all i (events (ts ++ us))
  idles_more i j k is next = next ∙ (ap (λ idles. idles_after_all idles (events us)) is ∙ (sym (idles_on i (events ts) (events us)) ∙ ap (idles_after_all i) events_more))

  pub ends_more : (end : End) → AllByRecursion IsOpen (events ts) → EndsBy end (events us) → EndsBy end (events (ts ++ us))
  ends_more end h k = subst (EndsBy end) events_more (ends_on end (events ts) (events us) h k)

-- ---- the states between

module _ {S : Type 0} (t : Telling S) where
  pub text_more : (state : S) (ts us : List Turn) → text t state (ts ++ us) ≡ text t state ts ++ text t (after_turns t state ts) us
  text_more state [] us = refl
  text_more state (e ∷ ts) us = let own = retold t state e.by (replies_of e.event) in let next = after_turn t state e in ap (λ l. own ++ l) (text_more next ts us) ∙ sym (append_assoc own (text t next ts) (text t (after_turns t next ts) us))

  pub after_more : (state : S) (ts us : List Turn) → after_turns t state (ts ++ us) ≡ after_turns t (after_turns t state ts) us
  after_more state [] us = refl
  after_more state (e ∷ ts) us = after_more (after_turn t state e) ts us

  pub fits_more : (state : S) (ts us : List Turn) → AllFit t state ts → AllFit t (after_turns t state ts) us → AllFit t state (ts ++ us)
  fits_more state [] us h k = k
  fits_more state (e ∷ ts) us h k = (h.0, fits_more (after_turn t state e) ts us h.1 k)
