use Rattle.std.proofs.Common.{map, reverse, string_bytes, refl, sym, subst, ◌∙◌}
use Rattle.imap_message_tables.specs.Joining.{AreWordsOf}
use Rattle.imap_message_tables.proofs.Ends.{same_key, turned, wrong_body, wrong_words}
use Rattle.imap_message_tables.proofs.join.take_message.Goals as goal

pub returns-then-not-is_body_of : goal.returns-then-not-is_body_of
returns-then-not-is_body_of c = λ hs up.
    wrong_body c.args.head hs c.in-Some.body c.args.bodies.now.items c.take_last.new.rows.items (reverse c.args.words.now.items) c.in-Some.ensures.items (sym c.is_body_of.ensures ∙ c.if-not-is_body_of.true) up c.requires.bodies_up

pub returns-in-None : goal.returns-in-None
returns-in-None c = λ hs up.
    wrong_words c.args.head hs (reverse c.args.bodies.now.items) (reverse c.args.words.now.items) (map string_bytes c.in_ok-own.own.items) c.in_ok-own.ensures.own c.in-None.ensures up c.requires.bodies_up c.requires.words_up

pub returns-in-Some-in_order : goal.returns-in-Some-in_order
returns-in-Some-in_order c = record {
  body = c.in-Some.body;
  bodies_are = turned c.args.bodies.now.items c.take_last.new.rows.items c.in-Some.body c.in-Some.ensures.items;
  words_are = c.in_ok-own.ensures.rest;
  made = record {
    at = same_key c.in-Some.body c.args.head (sym c.is_body_of.ensures ∙ c.if-not-is_body_of.false);
    head = refl;
    octets = refl;
    words = subst (λ l. AreWordsOf l (map string_bytes c.in-Some-in_order.words.items)) c.in_ok-own.ensures.own c.in-Some-in_order.ensures;
  };
}
