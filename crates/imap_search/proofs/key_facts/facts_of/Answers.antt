use Rattle.std.proofs.Common.{ap, sym, map, ◌∙◌}
use Rattle.imap_query.specs.Keys.{key_of}
use Rattle.imap_search.specs.Search.{is_mod_seq, is_unserved, names_unknown}
use Rattle.imap_search.specs.Tokens.{has_plain}
use Rattle.imap_search.proofs.Noted.{mod_seq_of, unknown_of, unserved_of}
use Rattle.imap_search.proofs.key_facts.facts_of.Goals as goal

pub returns-clause-unknown : goal.returns-clause-unknown
returns-clause-unknown c = ap (λ f. f.unknown) c.facts_of_each.ensures ∙ sym (unknown_of c.args.count (map key_of c.as_slice.result.now)) ∙ ap (has_plain (names_unknown c.args.count)) c.as_slice.ensures

pub returns-clause-unserved : goal.returns-clause-unserved
returns-clause-unserved c = ap (λ f. f.unserved) c.facts_of_each.ensures ∙ sym (unserved_of c.args.count (map key_of c.as_slice.result.now)) ∙ ap (has_plain is_unserved) c.as_slice.ensures

pub returns-clause-mod_seq : goal.returns-clause-mod_seq
returns-clause-mod_seq c = ap (λ f. f.mod_seq) c.facts_of_each.ensures ∙ sym (mod_seq_of c.args.count (map key_of c.as_slice.result.now)) ∙ ap (has_plain is_mod_seq) c.as_slice.ensures
