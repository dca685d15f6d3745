use Rattle.std.proofs.Common.{codes, ◌++◌}
use Rattle.imap_print.specs.Words.{given, before_each}
use Rattle.imap_syntax.specs.Written.{quoted_text}
use Rattle.imap_print.specs.Printed.{results_words}
use Rattle.imap_print.proofs.Wording.{appended}
use Rattle.imap_print.proofs.printing.searched.push_search.Goals as goal

pub returns : goal.returns
returns c =
    let out = c.args.out.now.items in
    let front = codes "* ESEARCH (TAG " in
    let tag = quoted_text c.args.tag.now in
    let quoted = rw c.as_slice.ensures.octets at c.in_ok-push_quoted.ensures in
    appended out (front ++ tag ++ codes ")") (before_each 32 (given c.args.uid (codes "UID") ++ results_words c.args.results.now))
    (appended out (front ++ tag) (codes ")") (appended out front tag c.in_ok-extend_from_slice.ensures.items quoted) c.in_ok-push.ensures.items)
    c.in_ok-push_words_found.ensures.printed
