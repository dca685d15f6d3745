-- By the own changes that are kept a user is shown what all events tell.
use Rattle.std.proofs.Common.{◌≡◌, length, map, sym, ap, ◌∙◌}
use Rattle.imap_modseq.specs.Numbers.{highest_after}
use Rattle.imap_mailbox.specs.History.{changes_at}
use Rattle.imap_mailbox.specs.KeptLaws.{KeptIsEnough}
use Rattle.imap_mailbox.specs.KeptRows.{shortened}
use Rattle.imap_mailbox.specs.Own.{Own, own_at, found_in, numbered}
use Rattle.imap_mailbox.specs.Summary.{summary_of, row_in, gone_in}
use Rattle.imap_mailbox.proofs.Bridge.{own_is_found, rows_are_those_of_events, gone_are_those_of_events, counts_are_those_of_events}
use Rattle.imap_mailbox.proofs.Found.{found_all}

pub kept_is_enough : KeptIsEnough
kept_is_enough history user lawful few =
    let s = summary_of history in
    let same : found_in (shortened (numbered 0 (changes_at history.own user))) ≡ own_at s.own user =
    found_all (changes_at history.own user) (length history.shared) lawful.order few ∙ sym (own_is_found history user) in (
      ap (λ own. map (row_in own) s.messages) same ∙ rows_are_those_of_events history user lawful,
      ap (λ own. map (gone_in own) s.gone) same ∙ gone_are_those_of_events history user lawful,
      ap (λ (own : Own). highest_after s.shared (length own.befores)) same ∙ (counts_are_those_of_events history user 0).2,
    )
