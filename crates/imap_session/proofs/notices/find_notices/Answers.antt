use Rattle.std.proofs.Common.{◌≡◌, ◌-◌, ◌+◌, ◌++◌, length, sym, ap, subst, ◌∙◌, arith}
use Rattle.std.proofs.lemmas.List.{length-map}
use Rattle.std.specs.List.{AllByRecursion}
use Rattle.imap_mailbox.specs.Lent.{row_uids}
use Rattle.imap_mailbox.specs.Rows.{Row}
use Rattle.imap_session.proofs.ByUid.{agree_of, uids_of}
use Rattle.imap_print.specs.Lines.{IsPrintable}
use Rattle.imap_session.specs.ByUid.{AgreeByUid}
use Rattle.imap_session.specs.Notices.{exists_line}
use Rattle.imap_session.specs.Walked.{Findings}
use Rattle.imap_session.proofs.Telling.{it_is_told, length_fits, exists_is, delta_brings, lines_joined}
use Rattle.imap_session.proofs.notices.find_notices.Goals as goal

pub compare-requires-clause-agree : goal.compare-requires-clause-agree
compare-requires-clause-agree g c =
    let can = c.requires.step.1.1 in
    let known = c.args.known.now.list in
    subst (AgreeByUid c.args.up_to known) can.shows (agree_of c.args.up_to known c.requires.step.1.0 can.brought)

pub compare-requires-clause-few : goal.compare-requires-clause-few
compare-requires-clause-few g c =
    let can = c.requires.step.1.1 in
    let content = c.requires.step.1.0 in
    let fits = length_fits c.args.known.now.list content.next (uids_of c.args.up_to c.args.known.now.list content can.brought) in
    omega (arith, fits, can.few)

pub expunge_lines-requires : goal.expunge_lines-requires
expunge_lines-requires g c =
    (it_is_told c.args.told.now c.args.options.now c.args.up_to c.requires.step.0 c.args.known.now.list (g.C.RowCursor.rest c.args.rows.now) c.requires.step.1.0 c.in_ok-walk.walk
    (g.C.RowCursor.rest c.compare.new.rows) c.requires.step.1.1 c.in_ok-walk.ensures).rising

pub with_exists-requires : goal.with_exists-requires
with_exists-requires g c =
    let new = g.C.RowCursor.rest c.compare.new.rows in
    let told = it_is_told c.args.told.now c.args.options.now c.args.up_to c.requires.step.0 c.args.known.now.list (g.C.RowCursor.rest c.args.rows.now) c.requires.step.1.0 c.in_ok-walk.walk
    new c.requires.step.1.1 c.in_ok-walk.ensures in
    let news = ap length c.in_ok-added.ensures in
    let len = length-map new (λ (r : Row). r.uid) in
    omega (arith, told.count, news, len, c.len.ensures, c.in_ok-added.added.ok)

pub returns-clause-lines : goal.returns-clause-lines
returns-clause-lines g c =
    let new = g.C.RowCursor.rest c.compare.new.rows in
    let w = c.in_ok-walk.walk in
    let told = it_is_told c.args.told.now c.args.options.now c.args.up_to c.requires.step.0 c.args.known.now.list (g.C.RowCursor.rest c.args.rows.now) c.requires.step.1.0 w
    new c.requires.step.1.1 c.in_ok-walk.ensures in
    let news = ap length c.in_ok-added.ensures in
    let len = length-map new (λ (r : Row). r.uid) in
    let same : c.len.result ≡ length new = omega (arith, news, len, c.len.ensures, c.in_ok-added.added.ok) in
    c.in_ok-lines-3.ensures
    ∙ ap (λ l. c.in_ok-lines-2.lines.items ++ l) c.into_vec.ensures.items
    ∙ ap (λ l. l ++ w.fetches) c.in_ok-lines-2.ensures
    ∙ lines_joined w.fetches c.in_ok-lines.ensures
    (exists_is ((w.number - 1) + c.len.result) c.len.result new same ∙ ap (λ n. exists_line ((w.number - 1) + n) new) same)
    ∙ told.lines

pub returns-clause-printable : goal.returns-clause-printable
returns-clause-printable g c =
    let told = it_is_told c.args.told.now c.args.options.now c.args.up_to c.requires.step.0 c.args.known.now.list (g.C.RowCursor.rest c.args.rows.now) c.requires.step.1.0 c.in_ok-walk.walk
    (g.C.RowCursor.rest c.compare.new.rows) c.requires.step.1.1 c.in_ok-walk.ensures in
    subst (AllByRecursion IsPrintable) (told.lines ∙ sym (returns-clause-lines g c))
    (told.printable (subst (AllByRecursion IsPrintable) c.into_vec.ensures.items c.into_vec.ensures.printable))

pub returns-clause-brings : goal.returns-clause-brings
returns-clause-brings g c =
    delta_brings c.args.options.now c.args.up_to c.requires.step.0 c.args.known.now.list (g.C.RowCursor.rest c.args.rows.now) c.requires.step.1.0
    (record { changed = c.in_ok-walk.walk.changed; gone = c.in_ok-walk.walk.gone; added = c.in_ok-added.added }) c.requires.step.1.1
    (record {
      changed = ap (λ (f : Findings). f.changed) c.in_ok-walk.ensures;
      gone = ap (λ (f : Findings). f.gone) c.in_ok-walk.ensures;
      added = c.in_ok-added.ensures ∙ ap (λ (f : Findings). row_uids f.new) c.in_ok-walk.ensures;
    })
