use Rattle.std.proofs.Common.{ℕ, List, None, ap, ◌∙◌, string_bytes}
use Rattle.std.specs.FinMap as fin
use Rattle.imap_user_map.specs.Rows.{Users}
use Rattle.imap_identifier_index.specs.Sets.{has_number, is_in}
use Rattle.imap_identifier_index.proofs.Entered.{none_of, put_same}
use Rattle.imap_identifier_index.proofs.sets.add_text.Goals as goal

pub returns : goal.returns
returns c =
    let old : Users (List ℕ) = c.args.sets.now.map in
    let made : List ℕ = c.new.result in
    put_same old c.insert_reserved.new.self.map c.args.text.now made
    (c.insert_reserved.ensures.map ∙ ap (λ (m : Users (List ℕ)). fin.insert m (string_bytes c.in_ok-key.key) made) c.reserve.ensures.map ∙ ap (λ k. fin.insert old k made) c.in_ok-key.ensures.ok)
    None (none_of _ c.requires) (λ k. ap (has_number k) c.new.ensures)

pub returns-in_err-reserve : goal.returns-in_err-reserve
returns-in_err-reserve c = λ id k. ap (λ (m : Users (List ℕ)). is_in m id k) c.reserve.ensures.map
