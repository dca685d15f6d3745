use Rattle.std.proofs.Common.{◌≡◌, sym, subst}
use Rattle.std.specs.Prelude.{◌↔◌, IsTrue, option_and_then, option_copied}
use Rattle.imap_name_map.specs.Kept.{if_filled}
use Rattle.imap_name_map.proofs.Kept.{sets_same, set_is_empty}
use Rattle.imap_name_map.proofs.sameness.NameMapUnitPart.is_same_part.Goals as goal

pub returns-in-Some : goal.returns-in-Some
returns-in-Some c =
    subst (λ o. IsTrue c.is_same.result ↔ (if_filled c.args.self.now.map ≡ option_and_then (λ rows. if_filled rows.map) (option_copied o))) (sym c.in-Some.is)
    (sets_same c.args.self.now.map c.in-Some.other.now.map c.is_same.result c.is_same.ensures)

pub returns-in-None : goal.returns-in-None
returns-in-None c =
    subst (λ o. IsTrue c.is_empty.result ↔ (if_filled c.args.self.now.map ≡ option_and_then (λ rows. if_filled rows.map) (option_copied o))) (sym c.in-None.is)
    (set_is_empty c.args.self.now.map c.is_empty.result c.is_empty.ensures)
