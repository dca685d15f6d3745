-- Equal frames and equal replies are told in equal octets.
use Rattle.std.proofs.Common.{◌≡◌, ap, refl, sym, ◌∙◌, List, [], ◌∷◌, map, Option}
use Rattle.imap_lex.specs.declared.frame.Frame.{Frame}
use Rattle.imap_print.specs.declared.response.Response.{Response}
use Rattle.imap_dialect.specs.Telling.{Telling, Exchange, all_told}
use Rattle.imap_serve.specs.Turns.{Turn, exchange_of}
use Rattle.imap_serve.specs.Laws.{by_of, replies_at, FollowsFromExchanges, FollowsFromReplies}

zipped : List (Option Frame) → List (List Response) → List Exchange
zipped [] replies = []
zipped (by ∷ bys) [] = []
zipped (by ∷ bys) (r ∷ replies) = record { by = by; replies = r } ∷ zipped bys replies

zipped_are : (ts : List Turn) → zipped (map by_of ts) (map replies_at ts) ≡ map exchange_of ts
unfolding zipped
zipped_are [] = refl
zipped_are (t ∷ ts) = ap (λ l. exchange_of t ∷ l) (zipped_are ts)

module _ {S : Type 0} (telling : Telling S) where
  pub from_exchanges : FollowsFromExchanges telling
  from_exchanges state xs ys same = ap (all_told telling state) same

  pub from_replies : FollowsFromReplies telling
  from_replies state xs ys frames replies = ap (all_told telling state) (sym (zipped_are xs) ∙ (ap (λ l. zipped l (map replies_at xs)) frames ∙ (ap (zipped (map by_of ys)) replies ∙ zipped_are ys)))
