use Rattle.imap_rev1.proofs.Spelt.{checks_by_noop, lists_subscribed, searches_by_keys}
use Rattle.imap_rev1.proofs.Strings.{strings_stay}
use Rattle.imap_rev1.proofs.laws.exchanges_words.Goals as goal

pub returns : goal.returns
returns c = record { check = checks_by_noop; lsub = lists_subscribed; search = searches_by_keys; strings = strings_stay }
