-- What keys ask for, found along their tree.
use Rattle.std.specs.Prelude.{ℕ, Bool, true, false, ◌||◌}
use Rattle.imap_query.specs.Keys.{Plain, Key, plain, negated, either, group, Keys, end, more}
use Rattle.imap_query.specs.Keys.{numbers}
use Rattle.imap_syntax.specs.declared.set.MessageSet.{MessageSet}
use Rattle.imap_search.specs.declared.key_facts.KeyFacts.{KeyFacts}
use Rattle.imap_search.specs.Search.{is_mod_seq, is_unserved, names_unknown}

abbrev pub no_facts : KeyFacts
no_facts = record { unknown = false; unserved = false; mod_seq = false }

abbrev pub both : KeyFacts → KeyFacts → KeyFacts
both f g = record {
  unknown = f.unknown || g.unknown;
  unserved = f.unserved || g.unserved;
  mod_seq = f.mod_seq || g.mod_seq;
}

abbrev pub of_plain : (count : ℕ) → Plain → KeyFacts
of_plain count key = record {
  unknown = names_unknown count key;
  unserved = is_unserved key;
  mod_seq = is_mod_seq key;
}

abbrev pub of_numbers : (count : ℕ) → MessageSet → KeyFacts
of_numbers count messages = of_plain count (numbers messages)

abbrev pub unserved_if : Bool → KeyFacts
unserved_if is = record { unknown = false; unserved = is; mod_seq = false }

abbrev pub of_mod_seq : KeyFacts
of_mod_seq = record { unknown = false; unserved = false; mod_seq = true }

abbrev mutual
  pub facts_of_key : (count : ℕ) → Key → KeyFacts
  facts_of_key count (plain key) = of_plain count key
  facts_of_key count (negated key) = facts_of_key count key
  facts_of_key count (either left right) = both (facts_of_key count left) (facts_of_key count right)
  facts_of_key count (group keys) = facts_of_each count keys

  pub facts_of_each : (count : ℕ) → Keys → KeyFacts
  facts_of_each count end = no_facts
  facts_of_each count (more key others) = both (facts_of_key count key) (facts_of_each count others)
