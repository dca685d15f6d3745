use Rattle.std.proofs.Common.{◌≡◌, ℕ, ◌+◌, ◌++◌, List, append-nil, drop, get_or, refl, sym, subst, Option, Some, None}
use Rattle.std.specs.Prelude.{IfNone, IfSome}
use Rattle.std.proofs.lemmas.Result.{on_ok_weaker}
use Rattle.imap_mailbox.specs.Lent.{row_shown}
use Rattle.imap_mailbox.specs.Rows.{Row}
use Rattle.imap_search.specs.Search.{found_from, found_if_there}
use Rattle.imap_search.specs.declared.results.FoundMessage.{FoundMessage}
use Rattle.imap_search.proofs.Looked.{looked}
use Rattle.imap_search.proofs.search.look_at.Goals as goal
use Rattle.imap_targets.specs.MessageNumbers.{row_with}

pub returns-in-Some : goal.returns-in-Some
returns-in-Some c =
    let rows = c.args.rows.now in
    let known = c.args.known.now.list in
    let place = c.args.place in
    let uid = c.uid.result in
    let row : Option Row = Some (row_shown c.row_at-row.result) in
    let there : (r : Row) → r ≡ get_or rows c.in-Some.index r → row_with uid rows ≡ Some r =
    subst (λ (o : Option ℕ). IfSome o (λ index. (r : Row) → r ≡ get_or rows index r → row_with uid rows ≡ Some r)) c.in-Some.is c.index_of.ensures.there in
    let arguments = c.args.criteria.now.arguments.now in
    let last = c.args.criteria.now.last in
    let last_uid = c.args.criteria.now.last_uid in
    let old : List FoundMessage = c.args.found.now.items in
    let new : List FoundMessage = c.add.new.found.items in
    let step : new ≡ old ++ found_if_there arguments last last_uid c.number_at-number.result row
    → new ++ found_from arguments last last_uid rows (place + 1 + 1) (drop (place + 1) known) ≡ old ++ found_from arguments last last_uid rows (place + 1) (drop place known) =
    looked arguments last last_uid rows known place c.uid.result old new c.number_at-number.result row c.requires.within c.uid.ensures c.number_at-number.ensures (sym (there (row_shown c.row_at-row.result) c.row_at-row.ensures)) in
    on_ok_weaker c.add.result step c.add.ensures

pub returns-in-None : goal.returns-in-None
returns-in-None c =
    let rows = c.args.rows.now in
    let uid = c.uid.result in
    let gone : row_with uid rows ≡ None = subst (λ (o : Option ℕ). IfNone o (row_with uid rows ≡ None)) c.in-None.is c.index_of.ensures.gone in
    looked c.args.criteria.now.arguments.now c.args.criteria.now.last c.args.criteria.now.last_uid rows c.args.known.now.list c.args.place c.uid.result _ _ (c.args.place + 1) None
    c.requires.within c.uid.ensures refl (sym gone) (sym (append-nil c.args.found.now.items))
